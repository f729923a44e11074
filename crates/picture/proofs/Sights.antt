-- What is not hidden of a description's segments: it is told by the desk's own bits, and it is all of them where none is set.
use mathlib.Core.Path.{◌≡◌, refl, ap, ◌∙◌}
use mathlib.Core.Bool.{Bool, false, cond}
use mathlib.Core.List.{List, [], ◌∷◌}
use Prim.Native.Nat.{ℕ, suc, ◌<◌}
use native.Mathlib.Omega.{arith}
use lib.ListN.{length, get_or}
use Rattle.dequantize.specs.Judge.{Description}
use Rattle.segments.specs.declared.Segment.{Segment}
use Rattle.table.specs.Table.{Setting, given_of}
use Rattle.painting.proofs.Segments.{makes_owned}
use Rattle.desks.specs.Desks.{Sight, bit_of}
use Rattle.desks.specs.Agree.{Agree, NothingHidden}
use Rattle.picture.specs.Sights.{hides, not_hidden, KeptSight}
use Rattle.picture.proofs.Owners.{makes_ascend}

-- two sights that hide the same owners leave the same segments
not_hidden_same : (s r : Sight) (us : List ℕ) (xs : List Segment) → ((j : ℕ) → j < length us → hides s (get_or us j 0) ≡ hides r (get_or us j 0)) → not_hidden s us xs ≡ not_hidden r us xs
not_hidden_same s r [] xs h = refl
not_hidden_same s r (u ∷ us) [] h = refl
not_hidden_same s r (u ∷ us) (x ∷ xs) h =
    ap (λ (b : Bool). cond b (not_hidden s us xs) (x ∷ not_hidden s us xs)) (h 0 (omega arith))
    ∙ ap (λ (l : List Segment). cond (hides r u) l (x ∷ l)) (not_hidden_same s r us xs (λ j k. h (suc j) (omega arith)))

-- where no owner's bit is set, none is left out
not_hidden_all : (s : Sight) (us : List ℕ) (xs : List Segment) → length us ≡ length xs → ((j : ℕ) → j < length us → hides s (get_or us j 0) ≡ false) → not_hidden s us xs ≡ xs
not_hidden_all s [] [] h k = refl
not_hidden_all s [] (x ∷ xs) h k = absurd (omega arith)
not_hidden_all s (u ∷ us) [] h k = absurd (omega arith)
not_hidden_all s (u ∷ us) (x ∷ xs) h k = rw (k 0 (omega arith)) (ap (λ (l : List Segment). x ∷ l) (not_hidden_all s us xs (omega arith) (λ j l. k (suc j) (omega arith))))

module _ {d : Description} {i : Setting} {segments : List Segment} {owners : List ℕ} {s : Sight} (w : KeptSight d i segments owners s) where
  owner_spline : (j : ℕ) → j < length owners → get_or owners j 0 < s.splines
  owner_spline j h = let below = (makes_ascend d (given_of i) i.high w.makes).below j h in omega (arith, below, w.splines)

  pub kept_not_hidden : {r : Sight} → KeptSight d i segments owners r → Agree s r → not_hidden s owners segments ≡ not_hidden r owners segments
  kept_not_hidden {r} v a =
      not_hidden_same s r owners segments
      (λ j h. a.own_bits.own_bits (get_or owners j 0) (owner_spline j h) ∙ ap (λ (n : ℕ). bit_of n (get_or r.bits (get_or owners j 0) 0)) a.desk)

  pub none_hidden : NothingHidden s → not_hidden s owners segments ≡ segments
  none_hidden c = not_hidden_all s owners segments (makes_owned d (given_of i) i.high w.makes) (λ j h. c.clear (get_or owners j 0) (owner_spline j h))

-- Assumes nothing.
