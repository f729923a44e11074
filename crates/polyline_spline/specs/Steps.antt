-- What writing one spline speaks of: a spline that is judged, and what putting its text leaves.
use Rattle.std.specs.Prelude.{◌≡◌, true, cond, List, ℕ, ◌+◌, ◌≤◌, ◌<◌, ltb, length, ℤ}
use Rattle.std.proofs.lemmas.List.Edits.{sets}
use Rattle.codes.specs.declared.Code.TheVariants.{Position, Coincide, Room}
use Rattle.writer.specs.WriteAnswer.{WriteAnswer, Done, Refused}
use Rattle.write_judge.specs.Verdict.{Verdict}
use Rattle.write_judge.specs.Verdict.{Fine, Fault}
use Rattle.control_points.specs.ControlPoints.{valid_point_pos}
use Rattle.control_points.specs.declared.Pair.{Pair}
use Rattle.control_points.specs.declared.Stand.{Stand}
use Rattle.control_points.specs.Answers.{Start}
use Rattle.control_points.specs.Answers as S
use Rattle.polyline.specs.Gone.{Gone, On, Stop}
use Rattle.polyline.specs.Read.{and_then}
use Rattle.polyline.specs.Write.{gone_of, begun, text_at}
use Rattle.polyline_spline.specs.Begun.{Begun}
use Rattle.polyline_spline.specs.Begun as begun'
use Rattle.polyline_spline.specs.Put.{Put, Ends, Full}

-- a delta and a point that passed POSITION
pub record Placed (p : Stand) : Type 0 where
  pub delta : valid_point_pos p.delta ≡ true
  pub point : valid_point_pos p.point ≡ true

abbrev pub settled_at : Pair → Gone → Begun
settled_at start (On p met) = cond met (begun'.Stop Coincide) (begun'.At start)
settled_at start (Stop code) = begun'.Stop code

abbrev pub begun_at : List ℤ → Start → Begun
begun_at ds S.Out = begun'.Stop Position
begun_at ds (S.At start) = settled_at start (gone_of start ds)

-- a text put from a byte on, where there is room for all of it
abbrev pub put_leaves : ℕ → List ℕ → Put → List ℕ → List ℕ → Type 0
put_leaves at text (Ends n) l l' = (n ≡ at + length text) × (n ≤ length l) × (l' ≡ sets l at text)
put_leaves at text Full l l' = length l < at + length text

pub record PutLeaves (at : ℕ) (text : List ℕ) (r : Put) (l l' : List ℕ) : Type 0 where
  pub leaves : put_leaves at text r l l'

-- the verdict on one spline, with so many bytes lent
abbrev pub one_verdict : ℕ → List ℤ → Start → ℕ → Verdict
one_verdict k ds s room = and_then (begun k ds s) (cond (ltb room (length (text_at ds s))) (Fault Room k) Fine)

-- what writing one spline answers and leaves; of a refusal nothing is said of the bytes
abbrev pub one_leaves : List ℕ → Verdict → WriteAnswer → List ℕ → List ℕ → Type 0
one_leaves text Fine r l l' = (r ≡ Done (length text)) × (l' ≡ sets l 0 text)
one_leaves text (Fault code place) r l l' = r ≡ Refused code place

pub record OneLeaves (text : List ℕ) (v : Verdict) (r : WriteAnswer) (l l' : List ℕ) : Type 0 where
  pub leaves : one_leaves text v r l l'
