-- Laws of putting the text of points: a pair, and a turn of the loop.
use mathlib.Core.Path.{◌≡◌, refl, sym, ap, ◌∙◌}
use mathlib.Core.List.{List, [], ◌∷◌}
use Prim.Native.Nat.{ℕ, ◌+◌, ◌*◌, ◌/◌, ◌<◌, ◌≤◌}
use native.Mathlib.Numerals.{add-one}
use native.Mathlib.Omega.{arith}
use lib.IntN.{ℤ}
use lib.ListN.{length, set, drop, length-append, length-drop}
use lib.Seq.{sets, length-sets}
use Rattle.control_points.specs.ControlPoints.{moved_of, stand_at, pair_at, later_points, control_points}
use Rattle.control_points.specs.Asked.{Passable}
use Rattle.control_points.specs.declared.Pair.{Pair}
use Rattle.control_points.specs.declared.Stand.{Stand}
use Rattle.control_points.proofs.Walks.{points_more, points_done, walk_more}
use Rattle.write_steps.proofs.Stores.{sets_append}
use Rattle.polyline.specs.Write.{number_text, pair_text, later_text, points_text}
use Rattle.polyline_spline.specs.Put.{Ends, Full}
use Rattle.polyline_spline.specs.Steps.{PutLeaves}

pub pair_put : (p : Pair) (l l1 l2 l3 : List ℕ) (at comma end : ℕ) → (l1 ≡ sets l at (number_text p.x)) × (comma ≡ at + length (number_text p.x)) × (comma ≤ at + 8)
    → l2 ≡ set l1 comma 44 → (l3 ≡ sets l2 (comma + 1) (number_text p.y)) × (end ≡ comma + 1 + length (number_text p.y)) × (end ≤ comma + 1 + 8)
    → (l3 ≡ sets l at (pair_text p)) × (end ≡ at + length (pair_text p)) × (end ≤ at + 17)
unfolding pair_text
pair_put p l l1 l2 l3 at comma end a b c = (
  c.0 ∙ rw (b, a.0, add-one comma, a.1) (sym (sets_append l at (number_text p.x) (44 ∷ number_text p.y))),
  omega (arith, a.1, c.1, length-append (number_text p.x) (44 ∷ number_text p.y)),
  omega (arith, a.2, c.2),
)

pub later_put : (p : Pair) (l l1 l2 : List ℕ) (at end : ℕ) → l1 ≡ set l at 32 → (l2 ≡ sets l1 (at + 1) (pair_text p)) × (end ≡ at + 1 + length (pair_text p)) × (end ≤ at + 1 + 17)
    → (l2 ≡ sets l at (32 ∷ pair_text p)) × (end ≡ at + length (32 ∷ pair_text p)) × (end ≤ at + 18)
later_put p l l1 l2 at end a b = (b.0 ∙ rw (a, add-one at), omega (arith, b.1), omega (arith, b.2))

-- ---- a turn of the loop

pub record Rest (from : Stand) (ds : List ℤ) (text₀ : List ℕ) (begin : ℕ) (text : List ℕ) (place : Stand) (at k : ℕ) : Type 0 where
  pub turns : k ≤ length ds / 2
  pub pass : Passable place (drop (2 * k) ds)
  pub kept : length text ≡ length text₀
  pub few : at ≤ length text₀ + 18
  pub many : at + length (later_text (later_points place (drop (2 * k) ds))) ≡ begin + length (later_text (later_points from ds))
  pub so : sets text at (later_text (later_points place (drop (2 * k) ds))) ≡ sets text₀ begin (later_text (later_points from ds))

pub rest_begin : (from : Stand) (ds : List ℤ) (text : List ℕ) (begin : ℕ) → Passable from ds → begin ≤ 17 → Rest from ds text begin text from begin 0
rest_begin from ds text begin p h = record { turns = omega arith; pass = p; kept = refl; few = omega arith; many = refl; so = refl }

module _ (from : Stand) (ds : List ℤ) (text₀ : List ℕ) (begin : ℕ) (text : List ℕ) (place : Stand) (at k : ℕ) (r : Rest from ds text₀ begin text place at k) where
  pub rest_more : k < length ds / 2 → at ≤ length text → (q : Stand) → q ≡ moved_of place (pair_at ds k) → (text' : List ℕ) (at' : ℕ)
      → (text' ≡ sets text at (32 ∷ pair_text q.point)) × (at' ≡ at + length (32 ∷ pair_text q.point)) × (at' ≤ at + 18) → Rest from ds text₀ begin text' q at' (k + 1)
  unfolding later_text
  rest_more h room q is text' at' s =
      let two : 2 * k + 2 ≤ length ds = omega arith in
      let ps = later_points q (drop (2 * (k + 1)) ds) in
      let m : later_points place (drop (2 * k) ds) ≡ q.point ∷ ps = points_more place ds k two ∙ rw is in
      let many = rw m at r.many in
      let so = rw m at r.so in
      record {
        turns = omega arith;
        pass = rw is (walk_more place ds k two r.pass);
        kept = ap length s.0 ∙ length-sets text at (32 ∷ pair_text q.point) ∙ r.kept;
        few = omega (arith, s.2, r.kept);
        many = omega (arith, many, s.1, length-append (32 ∷ pair_text q.point) (later_text ps));
        so = rw (s.0, s.1) (sym (sets_append text at (32 ∷ pair_text q.point) (later_text ps))) ∙ so;
      }

  pub rest_full : length text < at → (text' : List ℕ) → PutLeaves begin (later_text (later_points from ds)) Full text₀ text'
  rest_full h text' = record { leaves = omega (arith, r.many, r.kept) }

  pub rest_ends : length ds / 2 ≤ k → at ≤ length text → PutLeaves begin (later_text (later_points from ds)) (Ends at) text₀ text
  unfolding later_text
  rest_ends h room =
      let none : later_points place (drop (2 * k) ds) ≡ [] = points_done place (drop (2 * k) ds) (omega (arith, length-drop (2 * k) ds)) in
      let many = rw none at r.many in
      let so = rw none at r.so in
      record { leaves = (omega (arith, many), omega (arith, r.kept), so) }

-- ---- the start before the rest

module _ (start : Pair) (ds : List ℤ) (l l1 l2 : List ℕ) (at : ℕ) (p : (l1 ≡ sets l 0 (pair_text start)) × (at ≡ 0 + length (pair_text start)) × (at ≤ 0 + 17)) (q : Stand) (is : q ≡ stand_at start) where
  pub points_put : (r : _) → PutLeaves at (later_text (later_points q ds)) r l1 l2 → PutLeaves 0 (points_text (control_points start ds)) r l l2
  unfolding points_text control_points
  points_put (Ends n) s =
      let t = later_text (later_points (stand_at start) ds) in
      let e = rw is at s.leaves in
      let len = ap length p.0 ∙ length-sets l 0 (pair_text start) in
      record { leaves = (omega (arith, e.0, p.1, length-append (pair_text start) t), omega (arith, e.1, len), e.2 ∙ rw (p.0, p.1) (sym (sets_append l 0 (pair_text start) t))) }
  points_put Full s =
      let t = later_text (later_points (stand_at start) ds) in
      let e = rw is at s.leaves in
      let len = ap length p.0 ∙ length-sets l 0 (pair_text start) in
      record { leaves = omega (arith, e, p.1, len, length-append (pair_text start) t) }

-- Assumes nothing.
