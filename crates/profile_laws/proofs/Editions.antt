-- What edition 1 accepts, edition 2 accepts too: wider limits keep every rule.
use mathlib.Core.Path.{◌≡◌}
use Prim.Native.Nat.{ℕ, ◌≤◌}
use native.Mathlib.Nat.{le_trans}
use native.Mathlib.Omega.{arith}
use lib.Dec.{T, leb→le, le→leb}
use lib.IntN.{ℤ, pos, negsuc}
use lib.Signed.{le_z, ◌≤ℤ◌, le_z_yes}
use Rattle.dequantize.specs.Judge.{Description}
use Rattle.editions.specs.declared.Limits.{Limits}
use Rattle.editions.specs.Editions.{Known}
use Rattle.profile.specs.Answers.{Meets}
use Rattle.profile.specs.Profile.{edition1, edition2, limits_of, answer_of}
use Rattle.profile_laws.specs.Rules.{SplineMeets, MeetsRules, Allows, two, Meeting, Says, meets}
use Rattle.profile_laws.proofs.Says.{allows_limits, says_exactly, said}

up : (a b c : ℤ) → T (le_z a b) → T (le_z b c) → T (le_z a c)
up (pos a) (pos b) (pos c) h k = le→leb a c (le_trans (leb→le a b h) (leb→le b c k))
up (pos a) (pos b) (negsuc c) h k = absurd k
up (pos a) (negsuc b) c h k = absurd h
up (negsuc a) (pos b) (pos c) h k = tt
up (negsuc a) (pos b) (negsuc c) h k = absurd k
up (negsuc a) (negsuc b) (pos c) h k = tt
up (negsuc a) (negsuc b) (negsuc c) h k = le→leb c a (le_trans (leb→le c b k) (leb→le b a h))

at_most_trans : {a b c : ℤ} → a ≤ℤ b → b ≤ℤ c → a ≤ℤ c
at_most_trans {a} {b} {c} h k = le_z_yes (up a b c h.le k.le)

-- the second allows at least what the first allows
pub record Wider (l m : Limits) : Type 0 where
  pub deltas : l.deltas ≤ m.deltas
  pub least : m.least ≤ℤ l.least
  pub greatest : l.greatest ≤ℤ m.greatest
  pub sigma : l.sigma ≤ℤ m.sigma

pub wider_meets : (l m : Limits) (d : Description) (a : ℤ) → Wider l m → MeetsRules l d a → MeetsRules m d a
wider_meets l m d a w r = record {
  splines = r.splines;
  adjusted = (at_most_trans w.least r.adjusted.0, at_most_trans r.adjusted.1 w.greatest);
  each = λ k h. spline k (r.each k h);
}
  where
    spline : (k : ℕ) → SplineMeets l d a k → SplineMeets m d a k
    spline k s = record {
      deltas = (s.deltas.0, le_trans s.deltas.1 w.deltas);
      later = s.later;
      first = (s.first.0, at_most_trans s.first.1 w.sigma);
      colours = s.colours;
    }

pub edition_widens : Wider edition1 edition2
edition_widens = record { deltas = omega arith; least = le_z_yes tt; greatest = le_z_yes tt; sigma = le_z_yes tt }

allowed_one : (l : Limits) → Allows 1 l → edition1 ≡ l
unfolding limits_of
allowed_one l w = let q : Known edition1 ≡ Known l = allows_limits 1 l w in cc

pub meeting_1_in_2 : (d : Description) (a : ℤ) → Meeting d a 1 → Meeting d a 2
meeting_1_in_2 d a m = record {
  shape = m.shape;
  limits = edition2;
  allowed = two;
  rules = wider_meets edition1 edition2 d a edition_widens (rw (allowed_one m.limits m.allowed) m.rules);
}

pub answer_1_in_2 : (d : Description) (a : ℤ) → answer_of d a 1 ≡ Meets → answer_of d a 2 ≡ Meets
answer_1_in_2 d a e = go ((says_exactly d a 1 Meets).0 e)
  where
    go : Says d a 1 Meets → answer_of d a 2 ≡ Meets
    go (meets m) = said d a 2 Meets (meets (meeting_1_in_2 d a m))

-- Assumes nothing.
