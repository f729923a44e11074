-- Laws of the bands one after another: their rows, their cells, and the checks before them.
use mathlib.Core.Path.{◌≡◌, refl, sym, ap, subst, ◌∙◌}
use mathlib.Core.Bool.{Bool, true, false, ◌&&◌}
use mathlib.Core.Logic.{⊎_elim}
use mathlib.Core.List.{List}
use Prim.Native.Nat.{ℕ, zero, suc, ◌+◌, ◌-◌, ◌*◌, ◌^◌, ◌<◌, ◌≤◌, min}
use native.Mathlib.Omega.{arith}
use lib.Dec.{leb, ltb}
use lib.ListN.{length, replicate, length-replicate}
use lib.Seq.{sets, length-sets}
use borrow.Author.Tests.{leb-true, ltb-true, lt-ltb, le-ltb}
use Rattle.codes.specs.declared.Code.{Code}
use Rattle.shade.proofs.Edits.{lt_or_ge}
use Rattle.desks.specs.Desks.{Sight, desk_good, bytes_good}
use Rattle.checks.specs.Tables.{Table}
use Rattle.checks.specs.Checks.{counts_good_for, row_good_for, or_fault}
use Rattle.checks.specs.Verdict.{Verdict, Fine, Fault}
use Rattle.checks.proofs.Checks.{passed_check, counts_facts_for}
use Rattle.band_sums.specs.declared.BandNumbers.{BandNumbers}
use Rattle.band_sums.specs.Summed.{Good, Bad}
use Rattle.band_sums.specs.Steps.{good_or}
use Rattle.band_sums.proofs.Sums.{was_good, was_bad}
use Rattle.bands.specs.BandsAnswer.{BandsAnswer, Done, Refused}
use Rattle.bands.specs.Bands.{bands_in, row_of_band, rows_in, rows_good_from, band_good, band_numbers, band_cells, put_band, put_bands}
use Rattle.bands.specs.Calls.{before_rows, judge_bands, judge_band, by_verdict, told_of, leaves, fresh_cells, bands_of, band_of}
use Rattle.bands.specs.Refusals.{SummaryFits}

-- ---- the rows from a band on

module _ (t : Table) (s : Sight) where
  rows_split : (y m n : ℕ) → rows_good_from t s y (m + n) ≡ (rows_good_from t s y m && rows_good_from t s (y + m) n)
  unfolding rows_good_from
  rows_split y zero n =
      let e : y ≡ y + 0 = omega arith in
      let f : 0 + n ≡ n = omega arith in
      ap (rows_good_from t s y) f ∙ ap (λ (k : ℕ). rows_good_from t s k n) e
  rows_split y (suc m) n =
      let e : suc y + m ≡ y + suc m = omega arith in
      let f : suc m + n ≡ suc (m + n) = omega arith in
      ap (rows_good_from t s y) f
      ∙ ap (λ (b : Bool). row_good_for t s y && b) (rows_split (suc y) m n ∙ ap (λ (k : ℕ). rows_good_from t s (suc y) m && rows_good_from t s k n) e)
      ∙ and_three (row_good_for t s y) (rows_good_from t s (suc y) m) (rows_good_from t s (y + suc m) n)
    where
      and_three : (a b c : Bool) → (a && (b && c)) ≡ ((a && b) && c)
      and_three true b c = refl
      and_three false b c = refl

  -- what is good from band b on
  abbrev pub good_on : ℕ → Bool
  good_on b = rows_good_from t s (64 * b) (t.height - 64 * b)

  goods_split : (b : ℕ) → good_on b ≡ (band_good t s b && good_on (b + 1))
  unfolding row_of_band rows_in rows_good_from
  goods_split b = ⊎_elim (λ h. whole h) (λ h. short h) (lt_or_ge (64 * b + 64) t.height)
    where
      whole : 64 * b + 64 < t.height → good_on b ≡ (band_good t s b && good_on (b + 1))
      whole h =
          let e : t.height - 64 * b ≡ min 64 (t.height - 64 * b) + (t.height - 64 * (b + 1)) = omega arith in
          let f : 64 * b + min 64 (t.height - 64 * b) ≡ 64 * (b + 1) = omega arith in
          ap (rows_good_from t s (64 * b)) e
          ∙ rows_split (64 * b) (min 64 (t.height - 64 * b)) (t.height - 64 * (b + 1))
          ∙ ap (λ (k : ℕ). band_good t s b && rows_good_from t s k (t.height - 64 * (b + 1))) f

      and_true : (a : Bool) → a ≡ (a && true)
      and_true true = refl
      and_true false = refl

      short : t.height ≤ 64 * b + 64 → good_on b ≡ (band_good t s b && good_on (b + 1))
      short h =
          let e : t.height - 64 * b ≡ min 64 (t.height - 64 * b) = omega arith in
          let f : 0 ≡ t.height - 64 * (b + 1) = omega arith in
          ap (rows_good_from t s (64 * b)) e
          ∙ and_true (band_good t s b)
          ∙ ap (λ (k : ℕ). band_good t s b && rows_good_from t s (64 * (b + 1)) k) f

  pub goods_on : (b : ℕ) → band_good t s b ≡ true → good_on b ≡ good_on (b + 1)
  goods_on b g = goods_split b ∙ ap (λ (k : Bool). k && good_on (b + 1)) g

  pub goods_off : (b : ℕ) → band_good t s b ≡ false → good_on b ≡ false
  goods_off b g = goods_split b ∙ ap (λ (k : Bool). k && good_on (b + 1)) g

  pub goods_begin : rows_good_from t s 0 t.height ≡ good_on 0
  goods_begin = let e : t.height ≡ t.height - 64 * 0 = omega arith in ap (rows_good_from t s 0) e

  -- behind the last band there is no row
  pub goods_end : (b : ℕ) → bands_in t.height ≤ b → good_on b ≡ true
  unfolding bands_in rows_good_from
  goods_end b h = let e : t.height - 64 * b ≡ 0 = omega arith in ap (rows_good_from t s (64 * b)) e

abbrev is_false : Bool → Type 0
is_false true = ⊥
is_false false = Unit

pub not_so : false ≡ true → ⊥
not_so e = subst is_false e tt

-- ---- the cells of the bands

module _ (cells : List ℕ) (of : ℕ → BandNumbers) where
  pub put_none : cells ≡ put_bands cells of 0
  unfolding put_bands
  put_none = refl

  pub put_next : (now next : List ℕ) (b k : ℕ) (m : BandNumbers) → now ≡ put_bands cells of b → k ≡ 5 * b → m ≡ of b → next ≡ sets now k (band_cells m) → next ≡ put_bands cells of (b + 1)
  unfolding put_bands put_band
  put_next now next b k m p q u v =
      let e : suc b ≡ b + 1 = omega arith in
      v
      ∙ ap (λ (l : List ℕ). sets l k (band_cells m)) p
      ∙ ap (λ (j : ℕ). sets (put_bands cells of b) j (band_cells m)) q
      ∙ ap (λ (n : BandNumbers). sets (put_bands cells of b) (5 * b) (band_cells n)) u
      ∙ ap (put_bands cells of) e

pub put_one : (cells next : List ℕ) (b k : ℕ) (m : BandNumbers) {n : BandNumbers} → k ≡ 5 * b → m ≡ n → next ≡ sets cells k (band_cells m) → next ≡ put_band cells b n
unfolding put_band
put_one cells next b k m q u v = v ∙ ap (λ (j : ℕ). sets cells j (band_cells m)) q ∙ ap (λ (x : BandNumbers). sets cells (5 * b) (band_cells x)) u

pub put_length : (cells next : List ℕ) (k : ℕ) (m : BandNumbers) → next ≡ sets cells k (band_cells m) → length next ≡ length cells
put_length cells next k m v = ap length v ∙ length-sets cells k (band_cells m)

-- the five cells of a band of the image are lent
pub cells_fit : (H b room : ℕ) → b < bands_in H → 5 * bands_in H ≤ room → 5 * b + 5 ≤ room
cells_fit H b room h k = omega arith

-- cells that were cleared
pub zeros_room : {z : List ℕ} {n : ℕ} → z ≡ replicate n 0 → length z ≡ n
zeros_room {z} {n} p = ap length p ∙ length-replicate {A = ℕ} n 0

pub zeros_again : {z : List ℕ} {n : ℕ} (m : ℕ) → z ≡ replicate m 0 → length z ≡ n → z ≡ replicate n 0
zeros_again {z} {n} m p q =
    let e : m ≡ n = sym (zeros_room p) ∙ q in
    p ∙ ap (λ (k : ℕ). replicate k 0) e

-- ---- the checks before the rows

module _ (t : Table) (s : Sight) (W room : ℕ) where
  pub before_fits : before_rows t s W room Fine ≡ Fine → SummaryFits t s W room
  unfolding before_rows
  before_fits h =
      let s1 = passed_check (leb W (2 ^ 23)) Code.Size _ h in
      let s2 = passed_check (counts_good_for t s) Code.Table _ s1.1 in
      let s3 = passed_check (desk_good s) Code.Desk _ s2.1 in
      let s4 = passed_check (bytes_good s) Code.Trace _ s3.1 in
      let s5 = passed_check (leb (5 * bands_in t.height) room) Code.Room _ s4.1 in
      record {
        narrow = leb-true W (2 ^ 23) s1.0;
        lent = record { desk = ltb-true s.desk 2 s3.0; counts = counts_facts_for t s s2.0; bytes = leb-true s.splines (length s.bits) s4.0 };
        roomy = leb-true (5 * bands_in t.height) room s5.0;
      }

  pub before_same : {r : ℕ} {v : Verdict} → r ≡ room → v ≡ before_rows t s W r Fine → before_rows t s W room Fine ≡ v
  before_same e p = sym (p ∙ ap (λ (k : ℕ). before_rows t s W k Fine) e)

  -- what passed is followed by what comes after
  pub before_on : (v : Verdict) → before_rows t s W room Fine ≡ Fine → before_rows t s W room v ≡ v
  unfolding before_rows
  before_on v h =
      let s1 = passed_check (leb W (2 ^ 23)) Code.Size _ h in
      let s2 = passed_check (counts_good_for t s) Code.Table _ s1.1 in
      let s3 = passed_check (desk_good s) Code.Desk _ s2.1 in
      let s4 = passed_check (bytes_good s) Code.Trace _ s3.1 in
      let s5 = passed_check (leb (5 * bands_in t.height) room) Code.Room _ s4.1 in
      rw (s1.0, s2.0, s3.0, s4.0, s5.0)

  -- what did not is the answer, whatever would come after
  pub before_off : (v : Verdict) {c : Code} → before_rows t s W room Fine ≡ Fault c → before_rows t s W room v ≡ Fault c
  unfolding before_rows
  before_off v h =
      stops (leb W (2 ^ 23)) Code.Size (stops (counts_good_for t s) Code.Table (stops (desk_good s) Code.Desk (stops (bytes_good s) Code.Trace (stops (leb (5 * bands_in t.height) room) Code.Room (λ e. absurd (never e)))))) h
    where
      is_fine : Verdict → Type 0
      is_fine Fine = Unit
      is_fine (Fault k) = ⊥

      never : {c : Code} → Fine ≡ Fault c → ⊥
      never e = subst is_fine e tt

      stops : (b : Bool) (k : Code) {c : Code} {v w : Verdict} → (v ≡ Fault c → w ≡ Fault c) → or_fault b k v ≡ Fault c → or_fault b k w ≡ Fault c
      stops true k f e = f e
      stops false k f e = e

-- an answer that tells of bands is done
told_done : (r : BandsAnswer) (n : ℕ) → 0 < n → (told_of r).bands ≡ n → r ≡ Done n
told_done (Done m) n h e = ap Done e
told_done (Refused c p) n h e = absurd (omega (arith, h, e))

-- ---- refreshing

module _ (t : Table) (s : Sight) (W b : ℕ) (cells : List ℕ) where
  by_band : {v : Verdict} → judge_band t s W (length cells) b ≡ v → by_verdict v (bands_in t.height) (put_band cells b (band_numbers t s W b)) cells ≡ band_of t s W b cells
  unfolding band_of
  by_band e = sym (ap (λ (v : Verdict). by_verdict v (bands_in t.height) (put_band cells b (band_numbers t s W b)) cells) e)

  pub refresh_fault : {c : Code} → before_rows t s W (length cells) Fine ≡ Fault c → leaves (Refused c 0) cells ≡ band_of t s W b cells
  unfolding judge_band
  refresh_fault h = by_band (before_off t s W (length cells) (or_fault (ltb b (bands_in t.height)) Code.Band (or_fault (band_good t s b) Code.Table Fine)) h)

  module _ (h : before_rows t s W (length cells) Fine ≡ Fine) where
    pub refresh_past : bands_in t.height ≤ b → leaves (Refused Code.Band 0) cells ≡ band_of t s W b cells
    unfolding judge_band
    refresh_past k =
        by_band
        (before_on t s W (length cells) (or_fault (ltb b (bands_in t.height)) Code.Band (or_fault (band_good t s b) Code.Table Fine)) h
        ∙ ap (λ (q : Bool). or_fault q Code.Band (or_fault (band_good t s b) Code.Table Fine)) (le-ltb b (bands_in t.height) k))

    looked_at : b < bands_in t.height → judge_band t s W (length cells) b ≡ or_fault (band_good t s b) Code.Table Fine
    unfolding judge_band
    looked_at k =
        before_on t s W (length cells) (or_fault (ltb b (bands_in t.height)) Code.Band (or_fault (band_good t s b) Code.Table Fine)) h
        ∙ ap (λ (q : Bool). or_fault q Code.Band (or_fault (band_good t s b) Code.Table Fine)) (lt-ltb b (bands_in t.height) k)

    pub refresh_bad : b < bands_in t.height → good_or (band_good t s b) (band_numbers t s W b) ≡ Bad → leaves (Refused Code.Table 0) cells ≡ band_of t s W b cells
    refresh_bad k g = by_band (looked_at k ∙ ap (λ (q : Bool). or_fault q Code.Table Fine) (was_bad (band_good t s b) (band_numbers t s W b) g))

    pub refresh_done : {r : BandsAnswer} {m : BandNumbers} (next : List ℕ) (k : ℕ) → b < bands_in t.height → good_or (band_good t s b) (band_numbers t s W b) ≡ Good m → (told_of r).bands ≡ bands_in t.height → k ≡ 5 * b → next ≡ sets cells k (band_cells m) → leaves r next ≡ band_of t s W b cells
    refresh_done {r} {m} next k j g e q v =
        let w = was_good (band_good t s b) (band_numbers t s W b) g in
        let n : 0 < bands_in t.height = omega arith in
        ap (λ (l : List ℕ). leaves r l) (put_one cells next b k m q w.1 v)
        ∙ ap (λ (x : BandsAnswer). leaves x (put_band cells b (band_numbers t s W b))) (told_done r (bands_in t.height) n e)
        ∙ by_band (looked_at j ∙ ap (λ (x : Bool). or_fault x Code.Table Fine) w.0)

-- ---- making

module _ (t : Table) (s : Sight) (W room : ℕ) where
  by_bands : {v : Verdict} → judge_bands t s W room ≡ v → by_verdict v (bands_in t.height) (fresh_cells t s W room) (replicate room 0) ≡ bands_of t s W room
  unfolding bands_of
  by_bands e = sym (ap (λ (v : Verdict). by_verdict v (bands_in t.height) (fresh_cells t s W room) (replicate room 0)) e)

  pub make_fault : {c : Code} (cells : List ℕ) → before_rows t s W room Fine ≡ Fault c → cells ≡ replicate room 0 → leaves (Refused c 0) cells ≡ bands_of t s W room
  unfolding judge_bands
  make_fault {c} cells h z = ap (λ (l : List ℕ). leaves (Refused c 0) l) z ∙ by_bands (before_off t s W room (or_fault (rows_good_from t s 0 t.height) Code.Table Fine) h)

  module _ (h : before_rows t s W room Fine ≡ Fine) where
    all_looked_at : judge_bands t s W room ≡ or_fault (rows_good_from t s 0 t.height) Code.Table Fine
    unfolding judge_bands
    all_looked_at = before_on t s W room (or_fault (rows_good_from t s 0 t.height) Code.Table Fine) h

    pub make_bad : (cells : List ℕ) → rows_good_from t s 0 t.height ≡ false → cells ≡ replicate room 0 → leaves (Refused Code.Table 0) cells ≡ bands_of t s W room
    make_bad cells g z = ap (λ (l : List ℕ). leaves (Refused Code.Table 0) l) z ∙ by_bands (all_looked_at ∙ ap (λ (x : Bool). or_fault x Code.Table Fine) g)

    pub make_done : (before cells : List ℕ) (n : ℕ) → rows_good_from t s 0 t.height ≡ true → before ≡ replicate room 0 → cells ≡ put_bands before (band_numbers t s W) (bands_in t.height) → n ≡ bands_in t.height → leaves (Done n) cells ≡ bands_of t s W room
    make_done before cells n g z v e =
        ap (λ (l : List ℕ). leaves (Done n) l) (v ∙ ap (λ (l : List ℕ). put_bands l (band_numbers t s W) (bands_in t.height)) z)
        ∙ ap (λ (x : ℕ). leaves (Done x) (fresh_cells t s W room)) e
        ∙ by_bands (all_looked_at ∙ ap (λ (x : Bool). or_fault x Code.Table Fine) g)

-- Assumes nothing.
