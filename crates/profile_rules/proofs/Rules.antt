-- Laws of coefficients that are all 0: of a lent part of them, and of what a test of each says.
use mathlib.Core.Path.{◌≡◌, refl, sym, ap, ◌∙◌}
use mathlib.Core.Bool.{Bool, true, false, ◌&&◌, cond}
use mathlib.Core.List.{List, [], ◌∷◌}
use Prim.Native.Nat.{ℕ, zero, suc, ◌+◌, ◌-◌, ◌*◌, ◌≤◌, ◌<◌}
use native.Mathlib.Omega.{arith}
use lib.Dec.{leb}
use borrow.Author.Tests.{le-leb, lt-leb}
use lib.IntN.{ℤ, pos, negsuc}
use lib.ListN.{length, get_or, take, drop, length-take, length-drop}
use Rattle.std.proofs.lemmas.List.{get_or-drop, get_or-take}
use Rattle.std.specs.List.{list_all}
use Rattle.std.specs.Ordering.{int_eq}
use Rattle.std.proofs.lemmas.Bool.Decides.{Decides-int_eq}
use Rattle.editions.specs.declared.Limits.{Limits}
use Rattle.profile_rules.specs.declared.Rule.TheVariants.{SigmaTail, FirstSigma}
use Rattle.profile_rules.specs.Checked.{Checked, Kept, Broken}
use Rattle.profile_rules.specs.Rules.{within, zero_from, kept, first_broken, check_sigma}

-- two lists that agree from an index on
zero_alike : (cs ds : List ℤ) (a b n : ℕ) → ((i : ℕ) → i < n → get_or cs (a + i) (pos 0) ≡ get_or ds (b + i) (pos 0)) → zero_from cs a n ≡ zero_from ds b n
unfolding zero_from
zero_alike cs ds a b zero f = refl
zero_alike cs ds a b (suc n) f =
    let p : a + 0 ≡ a = omega arith in
    let q : b + 0 ≡ b = omega arith in
    let e : get_or cs a (pos 0) ≡ get_or ds b (pos 0) = rw (p, q) at (f 0 (omega arith)) in
    rw (
      e,
      zero_alike cs ds (suc a) (suc b) n (λ i h.
          let s : suc a + i ≡ a + suc i = omega arith in
          let t : suc b + i ≡ b + suc i = omega arith in
          rw (s, t) (f (suc i) (omega arith))),
    )

-- n coefficients that are lent, from an index on
pub zeros_lent : (cs : List ℤ) (from n : ℕ) → zero_from (take n (drop from cs)) 0 n ≡ zero_from cs from n
zeros_lent cs from n = zero_alike (take n (drop from cs)) cs 0 from n (λ i h.
    let e : 0 + i ≡ i = omega arith in
    rw e (get_or-take n (drop from cs) i (pos 0) h ∙ get_or-drop from cs i (pos 0)))

-- ---- all of a list

no : (b : Bool) → (b ≡ true → ⊥) → b ≡ false
no true f = absurd (f refl)
no false f = refl

zero_is : (z : ℤ) → int_eq z (pos 0) ≡ within (pos 0) (pos 0) z
zero_is (pos zero) = refl
zero_is (pos (suc n)) =
    let unequal : int_eq (pos (suc n)) (pos 0) ≡ false = no _ (λ e. let z : suc n ≡ 0 = (let same = (Decides-int_eq (pos (suc n)) (pos 0)).0 e in cc) in omega arith) in
    let outside : cond (leb 0 (suc n)) (leb (suc n) 0) false ≡ false = rw (le-leb 0 (suc n) (omega arith), lt-leb (suc n) 0 (omega arith)) refl in
    unequal ∙ sym outside
zero_is (negsuc n) = refl

and_is : (a b : Bool) → (a && b) ≡ cond a b false
and_is true b = refl
and_is false b = refl

pub all_zero : (cs : List ℤ) → list_all (λ z. int_eq z (pos 0)) cs ≡ zero_from cs 0 (length cs)
unfolding zero_from
all_zero [] = refl
all_zero (z ∷ cs) = rw (zero_is z, all_zero cs, zero_alike (z ∷ cs) cs 1 0 (length cs) (λ i h. let p : 1 + i ≡ suc i = omega arith in let q : 0 + i ≡ i = omega arith in rw (p, q) refl)) (and_is (within (pos 0) (pos 0) z) (zero_from cs 0 (length cs)))

-- ---- the sigma coefficients

first_kept : (a b : Checked) → a ≡ Kept → first_broken a b ≡ b
first_kept Kept b e = refl
first_kept (Broken rule spline) b e = cc

zeros_part : (cs : List ℤ) (from n : ℕ) → from + n ≤ length cs → zero_from (take n (drop from cs)) 0 (length (take n (drop from cs))) ≡ zero_from cs from n
zeros_part cs from n h =
    let all : length (take n (drop from cs)) ≡ n = omega (arith, length-take n (drop from cs), length-drop from cs) in
    rw all (zeros_lent cs from n)

-- where the others are 0, the first decides
pub first_decides : (l : Limits) (cs : List ℤ) (k m : ℕ) → 128 * k + 128 ≤ length cs → m ≡ 31 → (t : Bool)
    → t ≡ zero_from (take m (drop (128 * k + 97) cs)) 0 (length (take m (drop (128 * k + 97) cs))) → kept t SigmaTail k ≡ Kept
    → kept (within (pos 1) l.sigma (get_or cs (128 * k + 96) (pos 0))) FirstSigma k ≡ check_sigma l cs k
unfolding check_sigma
first_decides l cs k m h e t is keeps =
    let zeros : t ≡ zero_from cs (128 * k + 97) 31 = rw e at is ∙ zeros_part cs (128 * k + 97) 31 (omega arith) in
    sym (first_kept _ _ (ap (λ (b : Bool). kept b SigmaTail k) (sym zeros) ∙ keeps))

-- Assumes nothing.
