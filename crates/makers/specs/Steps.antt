-- What the steps of a check tell: cited by contracts of private functions. Definitions only.
use Rattle.std.specs.Prelude.{◌≡◌, Bool, true, ◌&&◌, List, [], ◌∷◌, ℕ, suc, ◌≤◌, ◌<◌, ◌*◌, ◌^◌, leb, ltb, get_or, length}
use Rattle.rows.specs.Rows.{entries_between}
use Rattle.checks.specs.declared.Table.{Table}
use Rattle.makers.specs.Check.{starts_good}

-- the floats hold the segments that are counted, which are at most 2^24
pub record HasSegments (t : Table) : Type 0 where
  pub stored : 8 * t.segment_count ≤ length t.segments.now
  pub few : t.segment_count ≤ 2 ^ 24

-- the numbers are at least `least`, ascend, and each names a segment below S that passes the test
unfoldable pub rising : (ℕ → Bool) → ℕ → ℕ → List ℕ → Bool
rising here S least [] = true
rising here S least (i ∷ is) = leb least i && (ltb i S && (here i && rising here S (suc i) is))

module _ (has : ℕ → ℕ → Bool) (S : ℕ) (starts entries : List ℕ) (n : ℕ) where
  -- row y lists no segment that it should not, each once, ascending: some may be missing
  unfoldable pub row_fits : ℕ → Bool
  row_fits y = starts_good starts n y && rising (λ i. has i y) S 0 (entries_between starts entries y)

  -- the first row starts at 0, and so fit all rows below `bad`
  pub record Fitting (bad : ℕ) : Type 0 where
    pub begins : get_or starts 0 0 ≡ 0
    pub stored : n ≤ length entries
    pub fits : (y : ℕ) → y < bad → row_fits y ≡ true
