-- What reading a points text answers and leaves, as the steps below `points_read` say it.
use Rattle.std.specs.Prelude.{◌≡◌, List, ℤ, Float}
use Rattle.std.proofs.lemmas.List.Edits.{sets}
use Rattle.writer.specs.WriteAnswer.{WriteAnswer, Done, Refused}
use Rattle.write_judge.specs.Verdict.{Verdict}
use Rattle.write_judge.specs.Verdict.{Fine, Fault}
use Rattle.polyline.specs.declared.Spot.{Spot}
use Rattle.polyline.specs.Tracked.{Empty}
use Rattle.polyline.specs.Read.{deltas_from, start_of, later_of}

-- what reading a text answers, by its verdict, and leaves: of a refusal nothing is said but that the start is as it was
abbrev pub text_leaves : List Spot → Verdict → WriteAnswer → List Float → List Float → List ℤ → List ℤ → Type 0
text_leaves ss Fine r s s' d d' = (r ≡ Done (later_of ss)) × (s' ≡ sets s 0 (start_of ss)) × (d' ≡ sets d 0 (deltas_from Empty ss))
text_leaves ss (Fault code place) r s s' d d' = (r ≡ Refused code place) × (s' ≡ s)

pub record TextLeaves (ss : List Spot) (v : Verdict) (r : WriteAnswer) (s s' : List Float) (d d' : List ℤ) : Type 0 where
  pub leaves : text_leaves ss v r s s' d d'
