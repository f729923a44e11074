-- What each comparison has found, in the terms of the definitions.
use mathlib.Core.Path.{◌≡◌, sym, subst, ap, ◌∙◌}
use mathlib.Core.List.{List}
use Prim.Native.Nat.{ℕ, ◌+◌, ◌*◌, ◌≤◌}
use native.Mathlib.Omega.{arith}
use lib.IntN.{ℤ}
use lib.ListN.{length, get_or, take}
use lib.Seq.{length-take-le}
use lib.Ieee.{Float}
use Rattle.dequantize.specs.Coefficients.{table}
use Rattle.shape.specs.Description.{Description, description_of}
use Rattle.dequantize.proofs.Tables.{length_table}
use Rattle.build_answer.specs.BuildAnswer.{BuildAnswer}
use Rattle.table.specs.Table.{BuildRooms, Setting, setting_of, BuildOutcome, build_of}
use Rattle.stored.specs.Stored.{float_in, signed_in}
use Rattle.replay_build.specs.Built.{part, AnswerAgrees, BuildAgrees, lent, image_in, floats_in, signeds_in, description_in}

pub answer_agrees : (height : ℕ) (segments : List Float) (owners starts entries output : List ℕ) {a b : BuildAnswer} → a ≡ b → AnswerAgrees b height segments owners starts entries output → AnswerAgrees a height segments owners starts entries output
answer_agrees height segments owners starts entries output p m = subst (λ (v : BuildAnswer). AnswerAgrees v height segments owners starts entries output) (sym p) m

-- the first n of N numbers are n
pub taken : {A : Type 0} (g : ℕ → A) (N n : ℕ) (p : List A) → p ≡ table g N → n ≤ N → length (take n p) ≡ n
taken g N n p e l =
    let k : length p ≡ N = ap length e ∙ length_table g N in
    length-take-le n p (omega arith)

module _ (input output : List ℕ) where
  -- a table agrees with the case
  abbrev Agrees : BuildOutcome → Type 0
  Agrees t = BuildAgrees t (get_or input 1 0) output

  -- a description agrees with the case, in the image of the case and the rooms that are lent
  abbrev Described : Description → Type 0
  Described d = Agrees (build_of d (image_in input) lent)

  pub image_is : {a : ℤ} {x b : Float} → a ≡ signed_in input 8 → x ≡ float_in input 2 → b ≡ float_in input 3
      → setting_of a (get_or input 0 0) (get_or input 1 0) x b (image_in input).high (image_in input).level10 ≡ image_in input
  image_is p q r = λ i. setting_of (p i) (get_or input 0 0) (get_or input 1 0) (q i) (r i) (image_in input).high (image_in input).level10

  pub built_agrees : (d : Description) {t : BuildOutcome} {i : Setting} {r : BuildRooms} → t ≡ build_of d i r → i ≡ image_in input → r ≡ lent → Agrees t → Described d
  built_agrees d {t} {i} {r} p q l a = subst Agrees (p ∙ ap (λ (v : Setting). build_of d v r) q ∙ ap (build_of d (image_in input)) l) a

  pub words_agree : (counts starts deltas coefficients : List ℕ) {x : List Float} {y z : List ℤ} → x ≡ table (float_in starts) 16 → y ≡ table (signed_in deltas) 2048 → z ≡ table (signed_in coefficients) 1024
      → Described (description_of counts (take (length starts) x) (take (length deltas) y) (take (length coefficients) z))
      → Described (description_of counts (floats_in starts) (signeds_in 2048 deltas) (signeds_in 1024 coefficients))
  words_agree counts starts deltas coefficients p q r a =
      subst Described (λ i. description_of counts (take (length starts) (p i)) (take (length deltas) (q i)) (take (length coefficients) (r i))) a

  -- the parts of the input with s splines and n points
  abbrev parts : ℕ → ℕ → Description
  parts s n =
      description_of (part 9 (9 + s) input) (floats_in (part (9 + s) (9 + s + 2 * s) input)) (signeds_in 2048 (part (9 + s + 2 * s) (9 + s + 2 * s + 2 * n) input))
      (signeds_in 1024 (part (9 + s + 2 * s + 2 * n) (length input) input))

  pub case_agrees : {s n : ℕ} → s ≡ get_or input 6 0 → n ≡ get_or input 7 0 → Described (parts s n) → Described (description_in input)
  case_agrees {s} {n} p q a = subst (λ (k : ℕ). Described (parts k (get_or input 7 0))) p (subst (λ (k : ℕ). Described (parts s k)) q a)

-- Assumes nothing.
