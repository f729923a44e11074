-- What an answer to a points text says: TEXT exactly at the first bad byte, so exactly where the text has not the form, and zeros after every refusal.
use mathlib.Core.Path.{◌≡◌, refl, ap, subst, ◌∙◌}
use mathlib.Core.Bool.{Bool, true, false, cond, ◌||◌}
use mathlib.Core.List.{List, [], ◌∷◌, ◌++◌, append_assoc}
use mathlib.Core.Logic.{◌↔◌}
use Prim.Native.Nat.{ℕ, suc, ◌+◌, ◌-◌, ◌*◌, ◌<◌}
use native.Mathlib.Omega.{arith}
use lib.Dec.{ltb}
use lib.ListN.{take, drop, replicate}
use lib.Seq.{take-add}
use lib.IntN.{ℤ, pos}
use lib.Ieee.{Float}
use borrow.Author.Tests.{ltb-true, ltb-false}
use Rattle.codes.proofs.Refusals.{same_refusal}
use Rattle.codes.specs.declared.Code.{Code}
use Rattle.codes.specs.declared.Code.TheVariants.{Text, Position, Coincide, Room}
use Rattle.list.specs.Steps.{zero_f32}
use Rattle.writer.specs.Write as writing
use Rattle.write_judge.specs.Verdict.{Verdict}
use Rattle.write_judge.specs.Verdict.{Fine, Fault}
use Rattle.dequantize.specs.Judge.{description_of}
use Rattle.polyline.specs.declared.Spot.{Spot}
use Rattle.polyline.specs.declared.Stage.{Stage}
use Rattle.polyline.specs.declared.Stage.TheVariants as S
use Rattle.polyline.specs.Step.{Step, To, Stranger}
use Rattle.polyline.specs.declared.Track.{Track}
use Rattle.std.specs.Prelude.{Option, Some}
use Rattle.polyline.specs.Tracked.{Empty}
use Rattle.polyline.specs.Judged.{On, Stop}
use Rattle.polyline.specs.Form.{PointsForm}
use Rattle.polyline.specs.Stages.{next_of, may_end, follow, text_from, text_of}
use Rattle.polyline.specs.Spots.{spots_of}
use Rattle.polyline.specs.Read.{placeable, meets, track_to, judged_of, after_pair, track_from, track_verdict, later_of, and_then, room_for, pairs_verdict, points_verdict, leaves, outcome, read_points_of}
use Rattle.polyline.specs.Write.{spline_text, write_verdict, write_points_of}
use Rattle.polyline_laws.specs.Begins.{Begins, FirstBad}
use Rattle.polyline_laws.proofs.Places.{form_judged, first_bad_byte}
use Rattle.writer.specs.WriteAnswer.{Refused}

-- ---- TEXT is the form's alone

-- the pairs give POSITION or COINCIDE
walk_says : (ss : List Spot) (t : Option Track) (p : ℕ) → track_verdict (track_from t ss) ≡ Fault Text p → ⊥
unfolding track_from judged_of
walk_says [] t p e = let z : ◌≡◌ {A = ℕ} 0 1 = cc in omega arith
walk_says (s ∷ ss) t p e = go (placeable t s.point) (meets t s.point) e (λ f. walk_says ss (Some (track_to t s.point)) p f)
  where
    go : (a b : Bool) → track_verdict (after_pair (cond a (cond b (Stop Coincide) (On (track_to t s.point))) (Stop Position)) s.begin (λ u. track_from u ss)) ≡ Fault Text p
        → (track_verdict (track_from (Some (track_to t s.point)) ss) ≡ Fault Text p → ⊥) → ⊥
    go true true e f = let z = (same_refusal e).0 in cc
    go true false e f = f e
    go false b e f = let z = (same_refusal e).0 in cc

room_says : (short : Bool) (p : ℕ) → cond short (Fault Room 0) Fine ≡ Fault Text p → ⊥
room_says true p e = let z = (same_refusal e).0 in cc
room_says false p e = cc

pairs-say : (start deltas : ℕ) (ss : List Spot) (p : ℕ) → pairs_verdict start deltas ss ≡ Fault Text p → ⊥
unfolding pairs_verdict
pairs-say start deltas ss p e = go (track_verdict (track_from Empty ss)) refl e
  where
    go : (v : Verdict) → track_verdict (track_from Empty ss) ≡ v → and_then v (room_for start deltas (later_of ss)) ≡ Fault Text p → ⊥
    go Fine x e = room_says (ltb start 2 || ltb deltas (2 * later_of ss)) p e
    go (Fault c q) x e = walk_says ss Empty p (x ∙ e)

text-by-form : (start deltas : ℕ) (text : List ℕ) (p : ℕ) → points_verdict start deltas text ≡ Fault Text p → text_of text ≡ Fault Text p
unfolding points_verdict
text-by-form start deltas text p e = go (text_of text) refl e
  where
    go : (v : Verdict) → text_of text ≡ v → and_then v (pairs_verdict start deltas (spots_of text)) ≡ Fault Text p → text_of text ≡ Fault Text p
    go Fine x e = absurd (pairs-say start deltas (spots_of text) p e)
    go (Fault c q) x e = x ∙ e

-- and the form gives no other code
form_says : (text : List ℕ) (s : Stage) (at : ℕ) (c : Code) (p : ℕ) → text_from s at text ≡ Fault c p → text_from s at text ≡ Fault Text p
unfolding text_from
form_says [] s at c p e = go (may_end s) e
  where
    go : (b : Bool) → cond b Fine (Fault Text at) ≡ Fault c p → cond b Fine (Fault Text at) ≡ Fault Text p
    go true e = cc
    go false e = let z : at ≡ p = (same_refusal e).1 in ap (λ (j : ℕ). Fault Text j) z
form_says (b ∷ bs) s at c p e = go (next_of s b) e (λ t f. form_says bs t (suc at) c p f)
  where
    go : (n : Step) → follow at n (λ t. text_from t (suc at) bs) ≡ Fault c p → ((t : Stage) → text_from t (suc at) bs ≡ Fault c p → text_from t (suc at) bs ≡ Fault Text p)
        → follow at n (λ t. text_from t (suc at) bs) ≡ Fault Text p
    go (To t) e f = f t e
    go Stranger e f = let z : at ≡ p = (same_refusal e).1 in ap (λ (j : ℕ). Fault Text j) z

-- ---- there is one first bad byte

-- what begins a text of the form may be shortened
shorter : (text : List ℕ) (n m : ℕ) → Begins (take (n + m) text) → Begins (take n text)
shorter text n m b = record {
  rest = take m (drop n text) ++ b.rest;
  form = subst PointsForm (ap (λ (l : List ℕ). l ++ b.rest) (take-add n m text) ∙ append_assoc (take n text) (take m (drop n text)) b.rest) b.form;
}

not-before : (text : List ℕ) (p q : ℕ) → FirstBad text p → FirstBad text q → p < q → ⊥
not-before text p q f g h =
    let m : q ≡ suc p + (q - suc p) = omega arith in
    f.with (omega (arith, g.inside)) (shorter text (suc p) (q - suc p) (subst (λ (k : ℕ). Begins (take k text)) m g.before))

one_place : (text : List ℕ) (p q : ℕ) → FirstBad text p → FirstBad text q → p ≡ q
one_place text p q f g = go (ltb p q) (ltb q p) refl refl
  where
    go : (a b : Bool) → ltb p q ≡ a → ltb q p ≡ b → p ≡ q
    go true b x y = absurd (not-before text p q f g (ltb-true p q x))
    go false true x y = absurd (not-before text q p g f (ltb-true q p y))
    go false false x y = omega (arith, ltb-false p q x, ltb-false q p y)

-- ---- the answer

pub said : (start deltas : ℕ) (ss : List Spot) (v : Verdict) (c : Code) (p : ℕ) → (outcome start deltas ss v).answer ≡ Refused c p → v ≡ Fault c p
said start deltas ss Fine c p e = cc
said start deltas ss (Fault d q) c p e = cc

pub bad-said : (text : List ℕ) (p : ℕ) → FirstBad text p → text_of text ≡ Fault Text p
unfolding text_of
bad-said text p f = go (text_from (S.Fresh false) 0 text) refl
  where
    go : (v : Verdict) → text_from (S.Fresh false) 0 text ≡ v → text_from (S.Fresh false) 0 text ≡ Fault Text p
    go Fine x = absurd (f.whole ((form_judged text).1 x))
    go (Fault c q) x =
        let t = form_says text (S.Fresh false) 0 c q x in
        t ∙ ap (λ (j : ℕ). Fault Text j) (one_place text q p (first_bad_byte text q t) f)

bad-told : (start deltas : ℕ) (text : List ℕ) (p : ℕ) → FirstBad text p → (read_points_of start deltas text).answer ≡ Refused Text p
unfolding read_points_of points_verdict
bad-told start deltas text p f = rw (bad-said text p f)

pub text-exactly : (start deltas : ℕ) (text : List ℕ) (p : ℕ) → ((read_points_of start deltas text).answer ≡ Refused Text p) ↔ FirstBad text p
unfolding read_points_of
text-exactly start deltas text p =
    (λ e. first_bad_byte text p (text-by-form start deltas text p (said start deltas (spots_of text) (points_verdict start deltas text) Text p e)), bad-told start deltas text p)

-- a text that is not judged fine has a first bad byte
pub bad-there : (text : List ℕ) (c : Code) (p : ℕ) → text_of text ≡ Fault c p → FirstBad text p
unfolding text_of
bad-there text c p e = first_bad_byte text p (form_says text (S.Fresh false) 0 c p e)

pub form-exactly : (start deltas : ℕ) (text : List ℕ) → PointsForm text ↔ ((p : ℕ) → (read_points_of start deltas text).answer ≡ Refused Text p → ⊥)
form-exactly start deltas text =
    (λ f p e. ((text-exactly start deltas text p).0 e).whole f, λ none. go none (text_of text) refl)
  where
    go : ((p : ℕ) → (read_points_of start deltas text).answer ≡ Refused Text p → ⊥) → (v : Verdict) → text_of text ≡ v → PointsForm text
    go none Fine x = (form_judged text).1 x
    go none (Fault c q) x = absurd (none q (bad-told start deltas text q (bad-there text c q x)))

-- a refusal leaves nothing but zeros
pub read_refused : (start deltas : ℕ) (text : List ℕ) (c : Code) (p : ℕ) → (read_points_of start deltas text).answer ≡ Refused c p
    → read_points_of start deltas text ≡ leaves (Refused c p) (replicate start zero_f32) (replicate deltas (pos 0))
unfolding read_points_of
read_refused start deltas text c p e = ap (outcome start deltas (spots_of text)) (said start deltas (spots_of text) (points_verdict start deltas text) c p e)

pub wrote : (room : ℕ) (values : List ℕ) (v : Verdict) (c : Code) (p : ℕ) → (writing.outcome room values v).answer ≡ Refused c p → v ≡ Fault c p
wrote room values Fine c p e = cc
wrote room values (Fault d q) c p e = cc

pub write_refused : (ns : List ℕ) (ss : List Float) (ds cs : List ℤ) (k room : ℕ) (c : Code) (p : ℕ) → (write_points_of ns ss ds cs k room).answer ≡ Refused c p
    → write_points_of ns ss ds cs k room ≡ writing.leaves (Refused c p) (replicate room 0)
unfolding write_points_of
write_refused ns ss ds cs k room c p e =
    let values = spline_text (description_of ns ss ds cs) k in
    ap (writing.outcome room values) (wrote room values (write_verdict ns ss ds cs k room) c p e)

-- Assumes nothing.
