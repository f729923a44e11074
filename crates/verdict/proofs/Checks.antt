-- The checks before any drawing: what a passed verdict says.
use mathlib.Core.Path.{◌≡◌, refl}
use mathlib.Core.Bool.{Bool, true, false, ◌&&◌}
use Prim.Native.Nat.{ℕ, suc, ◌≤◌, ◌<◌, ◌^◌}
use native.Mathlib.Omega.{arith}
use lib.Dec.{leb}
use borrow.Author.Tests.{leb-true}
use Rattle.codes.specs.declared.Code.TheVariants as Code
use Rattle.shape.proofs.Shape.{shaped_is}
use Rattle.dequantize.specs.Judge.{Description, Shaped, judge_of}
use Rattle.dequantize.specs.declared.Given.{Given}
use Rattle.dequantize.specs.Answers.{Fine}
use Rattle.verdict.specs.Verdict.{sized, shaped, or_refused, verdict_of}

-- both of two tests
pub both : (a b : Bool) → a && b ≡ true → (a ≡ true) × (b ≡ true)
both true true e = (refl, refl)
both true false e = absurd (let z : ◌≡◌ {A = ℕ} 0 1 = cc in omega arith)
both false b e = absurd (let z : ◌≡◌ {A = ℕ} 0 1 = cc in omega arith)

pub agreed : (d : Description) → shaped d ≡ true → Shaped d
agreed d = shaped_is d.counts d.starts d.deltas d.coefficients

-- ---- a verdict that lets the drawing begin

pub record Ready (d : Description) (g : Given) (height rows estimate : ℕ) : Type 0 where
  pub shape : Shaped d
  pub low : height ≤ 2 ^ 23
  pub tall : height < rows
  pub fine : judge_of d g ≡ Fine estimate

pub ready : (d : Description) (g : Given) (width height rows estimate : ℕ) → verdict_of d g width height rows ≡ Fine estimate → Ready d g height rows estimate
unfolding verdict_of
ready d g width height rows estimate e = go (sized width height) refl (shaped d) refl (leb (suc height) rows) refl e
  where
    go : (a : Bool) → sized width height ≡ a → (b : Bool) → shaped d ≡ b → (c : Bool) → leb (suc height) rows ≡ c
        → or_refused a Code.Size (or_refused b Code.Shape (or_refused c Code.Room (judge_of d g))) ≡ Fine estimate → Ready d g height rows estimate
    go false p b q c r e = absurd (let z : ◌≡◌ {A = ℕ} 0 1 = cc in omega arith)
    go true p false q c r e = absurd (let z : ◌≡◌ {A = ℕ} 0 1 = cc in omega arith)
    go true p true q false r e = absurd (let z : ◌≡◌ {A = ℕ} 0 1 = cc in omega arith)
    go true p true q true r e = record {
      shape = agreed d q;
      low = leb-true height (2 ^ 23) (both (leb width (2 ^ 23)) (leb height (2 ^ 23)) p).1;
      tall = leb-true (suc height) rows r;
      fine = e;
    }

-- Assumes nothing.
