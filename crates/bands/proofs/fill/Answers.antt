use mathlib.Core.Path.{◌≡◌, refl, sym, ap, ◌∙◌}
use Prim.Native.Nat.{◌+◌, ◌*◌, ◌≤◌, ◌<◌}
use native.Mathlib.Omega.{arith}
use lib.ListN.{length}
use Rattle.desks.specs.Desks.{sight_in}
use Rattle.checks.specs.Tables.{table_in}
use Rattle.band_sums.proofs.Sums.{was_good, was_bad}
use Rattle.bands.specs.Bands.{bands_in, band_numbers, put_bands}
use Rattle.bands.proofs.Whole.{goods_on, goods_off, goods_begin, goods_end, put_none, put_next, put_length, cells_fit, not_so}
use Rattle.bands.proofs.fill.Goals as goal

pub bands_in-bands-requires : goal.bands_in-bands-requires
bands_in-bands-requires c = c.requires.lent.counts.table.low

pub loop-b-init : goal.loop-b-init
loop-b-init c =
    let A = c.args in
    (refl, put_none _ _, goods_begin (table_in A.table.now) (sight_in A.sight.now))

pub sum_band-requires : goal.sum_band-requires
sum_band-requires c = record { lent = c.requires.lent; b_bound = (omega (arith, c.bands_in-bands.ensures), c.requires.height_in_bounds.1) }

pub returns-in_default : goal.returns-in_default
returns-in_default c =
    let A = c.args in
    let l = c.loop-b in
    let g = sym c.sum_band.ensures ∙ c.in_default.is in
    record { value = sym (l.invariant.2 ∙ goods_off (table_in A.table.now) (sight_in A.sight.now) l.b (was_bad _ _ g)); cells_after = λ e. absurd (not_so e) }

pub put-requires : goal.put-requires
put-requires c =
    let A = c.args in
    let l = c.loop-b in
    let h : l.b < bands_in A.table.now.height = omega (arith, c.bands_in-bands.ensures, c.loop-b-test.true) in
    let k = cells_fit A.table.now.height l.b (length A.cells.now) h c.requires.height_in_bounds.0 in
    let g : 5 * l.b + 5 ≤ length l.cells = omega (arith, k, l.invariant.0) in
    g

pub loop-b-preserved : goal.loop-b-preserved
loop-b-preserved c =
    let A = c.args in
    let l = c.loop-b in
    let v = c.put.ensures in
    let g = sym c.sum_band.ensures ∙ c.in-Some.is in
    let w = was_good _ _ g in (
      put_length l.cells _ (5 * l.b) _ v ∙ l.invariant.0,
      put_next A.cells.now (band_numbers (table_in A.table.now) (sight_in A.sight.now) A.width) l.cells _ l.b (5 * l.b) _ l.invariant.1 refl w.1 v,
      l.invariant.2 ∙ goods_on (table_in A.table.now) (sight_in A.sight.now) l.b w.0,
    )

pub returns : goal.returns
returns c =
    let A = c.args in
    let l = c.loop-b in
    let h : bands_in A.table.now.height ≤ l.b = omega (arith, c.bands_in-bands.ensures, c.loop-b-test.false) in
    let e : l.b ≡ bands_in A.table.now.height = omega (arith, c.bands_in-bands.ensures, c.loop-b-test.false) in
    record { value = sym (l.invariant.2 ∙ goods_end (table_in A.table.now) (sight_in A.sight.now) l.b h); cells_after = λ k. l.invariant.1 ∙ ap (put_bands A.cells.now (band_numbers (table_in A.table.now) (sight_in A.sight.now) A.width)) e }
