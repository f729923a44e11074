-- Export undoes import, and import export: the text of what was read is that text, and what is read of a text that was written is the rounded start and the double deltas.
use mathlib.Core.Path.{◌≡◌, refl, sym, ap, subst, ◌∙◌}
use mathlib.Core.Bool.{true, false}
use mathlib.Core.List.{List, [], ◌∷◌, ◌++◌}
use Prim.Native.Nat.{ℕ, zero, suc, ◌+◌, ◌-◌, ◌*◌, ◌≤◌, ◌<◌}
use native.Mathlib.Omega.{arith}
use lib.Dec.{ltb}
use lib.ListN.{length, get_or, take, drop, replicate, length-drop}
use lib.Seq.{take_at, take_all, length-take-le}
use lib.IntN.{ℤ, pos}
use lib.Ieee.{Float, nan}
use Rattle.codes.proofs.Decides.{less_than}
use Rattle.shape.specs.Shape.{points_of}
use Rattle.list.specs.Steps.{f32_of}
use Rattle.writer.specs.Write as writing
use Rattle.writer.specs.Write.{WriteOutcome}
use Rattle.write_judge.specs.Verdict.{Fine}
use Rattle.control_points.specs.ControlPoints.{starting_point, control_points}
use Rattle.dequantize.specs.Judge.{Description, description_of, start_x, start_y, deltas_at, deltas_of}
use Rattle.control_points.specs.declared.Pair.{Pair}
use Rattle.control_points.specs.Answers as S
use Rattle.control_points.proofs.Starts.{start_valid}
use Rattle.polyline.specs.Gone.{Gone, On, Stop}
use Rattle.polyline.specs.Read.{PointsOutcome, leaves, read_points_of}
use Rattle.polyline.specs.Write.{points_text, gone_of, settled, spline_verdict, spline_text, write_points_of}
use Rattle.polyline_laws.specs.Refusals.{Legal, There, PointsAccepted, PointsWritten}
use Rattle.polyline_laws.proofs.Legal.{gone_legal, legal_gone}
use Rattle.polyline_laws.proofs.Accepted.{start_left, deltas_left, read_says, accepted_leaves, accepted_exactly}
use Rattle.polyline_laws.proofs.WriteWhen.{there_verdict, begins, goes_fine, text_by, written_leaves, written_exactly}
use Rattle.writer.specs.WriteAnswer.{Done}

-- ---- a spline with legal points is written

module _ (ns : List ℕ) (ss : List Float) (ds cs : List ℤ) (k room : ℕ) where
  abbrev all : Description
  all = description_of ns ss ds cs

  legal_fine : (first : Pair) → starting_point (start_x all k) (start_y all k) ≡ S.At first → Legal first (deltas_of all k) → spline_verdict all k ≡ Fine
  unfolding spline_verdict
  legal_fine first e l = rw (e, legal_gone first (deltas_of all k) l)

  legal_written : There ns ss ds cs k → (first : Pair) → starting_point (start_x all k) (start_y all k) ≡ S.At first → Legal first (deltas_of all k)
      → (text : List ℕ) → text ≡ points_text (control_points first (deltas_of all k)) → length text ≤ room
      → write_points_of ns ss ds cs k room ≡ writing.leaves (Done (length text)) (text ++ replicate (room - length text) 0)
  unfolding write_points_of
  legal_written t first e l text is h =
      let w : spline_text all k ≡ text = text_by all k first e ∙ sym is in
      let q : ltb room (length text) ≡ false = (less_than room (length text)).fails h in
      rw (there_verdict ns ss ds cs k room t, legal_fine first e l, w, q)

-- the double deltas of a spline are two for each
points_before : (ns : List ℕ) (k : ℕ) → k < length ns → points_of (take k ns) + get_or ns k 0 ≤ points_of ns
points_before [] k h = absurd (omega arith)
points_before (n ∷ ns) zero h = omega arith
points_before (n ∷ ns) (suc k) h = omega (arith, points_before ns k (omega arith))

own_length : (ns : List ℕ) (ss : List Float) (ds cs : List ℤ) (k : ℕ) → There ns ss ds cs k → length (deltas_of (description_of ns ss ds cs) k) ≡ 2 * get_or ns k 0
unfolding deltas_of deltas_at
own_length ns ss ds cs k t =
    length-take-le (2 * get_or ns k 0) (drop (2 * points_of (take k ns)) ds)
    (omega (arith, length-drop (2 * points_of (take k ns)) ds, t.shaped.deltas, points_before ns k t.inside))

-- ---- import, then export

module _ (text : List ℕ) (start deltas n : ℕ) (done : (read_points_of start deltas text).answer ≡ Done n) where
  abbrev o : PointsOutcome
  o = read_points_of start deltas text

  taken : PointsAccepted text start deltas n
  taken = (accepted_exactly text start deltas n).0 done

  left : o ≡ leaves (Done n) (start_left start taken.first) (deltas_left deltas n taken.ds)
  left = accepted_leaves text start deltas n taken

  start_x_lem : get_or o.start 0 nan ≡ f32_of taken.first.x
  start_x_lem = ap (λ (u : PointsOutcome). get_or u.start 0 nan) left

  start_y_lem : get_or o.start 1 nan ≡ f32_of taken.first.y
  start_y_lem = ap (λ (u : PointsOutcome). get_or u.start 1 nan) left

  read_deltas : take (2 * n) o.deltas ≡ taken.ds
  read_deltas = ap (λ (u : PointsOutcome). take (2 * n) u.deltas) left ∙ take_at taken.ds (replicate (deltas - 2 * n) (pos 0)) (2 * n) taken.pairs

  pub written_back : (ns : List ℕ) (ss : List Float) (ds cs : List ℤ) (k : ℕ) → There ns ss ds cs k
      → start_x (description_of ns ss ds cs) k ≡ get_or o.start 0 nan → start_y (description_of ns ss ds cs) k ≡ get_or o.start 1 nan
      → deltas_of (description_of ns ss ds cs) k ≡ take (2 * n) o.deltas
      → (room : ℕ) → length text ≤ room → write_points_of ns ss ds cs k room ≡ writing.leaves (Done (length text)) (text ++ replicate (room - length text) 0)
  written_back ns ss ds cs k t x y d room h =
      let e : deltas_of (description_of ns ss ds cs) k ≡ taken.ds = d ∙ read_deltas in
      legal_written ns ss ds cs k room t taken.first (rw (x, y, start_x_lem, start_y_lem) taken.legal.begins) (subst (Legal taken.first) (sym e) taken.legal) text
      (taken.says ∙ ap (λ (l : List ℤ). points_text (control_points taken.first l)) (sym e)) h

  two_left : take 2 o.start ≡ f32_of taken.first.x ∷ f32_of taken.first.y ∷ []
  two_left = ap (λ (u : PointsOutcome). take 2 u.start) left

  alone_there : (cs : List ℤ) → length cs ≡ 128 → There (n ∷ []) (take 2 o.start) (take (2 * n) o.deltas) cs 0
  alone_there cs c = record {
    shaped = record { starts = ap length two_left; deltas = ap length read_deltas ∙ omega (arith, taken.pairs); coefficients = c };
    inside = omega arith;
  }

  pub alone_back : (cs : List ℤ) → length cs ≡ 128 → (room : ℕ) → length text ≤ room
      → write_points_of (n ∷ []) (take 2 o.start) (take (2 * n) o.deltas) cs 0 room ≡ writing.leaves (Done (length text)) (text ++ replicate (room - length text) 0)
  unfolding start_x start_y deltas_of deltas_at
  alone_back cs c room h =
      written_back (n ∷ []) (take 2 o.start) (take (2 * n) o.deltas) cs 0 (alone_there cs c)
      (ap (λ (l : List Float). get_or l 0 nan) two_left ∙ sym start_x_lem) (ap (λ (l : List Float). get_or l 1 nan) two_left ∙ sym start_y_lem)
      (take_all (2 * n) (take (2 * n) o.deltas) (omega (arith, ap length read_deltas, taken.pairs))) room h

-- ---- export, then import

module _ (ns : List ℕ) (ss : List Float) (ds cs : List ℤ) (k room n : ℕ) (done : (write_points_of ns ss ds cs k room).answer ≡ Done n) where
  abbrev d : Description
  d = description_of ns ss ds cs

  put : PointsWritten ns ss ds cs k room n
  put = (written_exactly ns ss ds cs k room n).0 done

  -- the rounded start
  pub origin : Pair
  origin = put.goes.start

  pub origin_is : starting_point (start_x d k) (start_y d k) ≡ S.At origin
  unfolding origin
  origin_is = begins d k put.goes

  text : List ℕ
  text = points_text (control_points origin (deltas_of d k))

  kept : write_points_of ns ss ds cs k room ≡ writing.leaves (Done (length text)) (text ++ replicate (room - length text) 0)
  unfolding origin text
  kept = written_leaves ns ss ds cs k room put.there put.goes put.apart text refl put.held

  all_text : n ≡ length text
  unfolding origin text
  all_text = put.all

  text_kept : take n (write_points_of ns ss ds cs k room).list ≡ text
  text_kept = ap (λ (o : WriteOutcome). take n o.list) kept ∙ take_at text (replicate (room - length text) 0) n (sym all_text)

  fine : spline_verdict d k ≡ Fine
  fine = goes_fine d k put.goes put.apart

  legal : Legal origin (deltas_of d k)
  unfolding spline_verdict
  legal = go (gone_of origin (deltas_of d k)) refl (rw origin_is at fine)
    where
      go : (g : Gone) → gone_of origin (deltas_of d k) ≡ g → settled k g ≡ Fine → Legal origin (deltas_of d k)
      go (On q false) e f = gone_legal origin (deltas_of d k) q (start_valid (start_x d k) (start_y d k) origin origin_is) e
      go (On q true) e f = cc
      go (Stop c) e f = cc

  pub read_back : (start deltas : ℕ) → 2 ≤ start → 2 * get_or ns k 0 ≤ deltas
      → read_points_of start deltas (take n (write_points_of ns ss ds cs k room).list) ≡ leaves (Done (get_or ns k 0)) (start_left start origin) (deltas_left deltas (get_or ns k 0) (deltas_of d k))
  unfolding text
  read_back start deltas h g = read_says (take n (write_points_of ns ss ds cs k room).list) start deltas (get_or ns k 0) origin (deltas_of d k) text_kept (own_length ns ss ds cs k put.there) legal h g

-- Assumes nothing.
