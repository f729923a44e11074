-- The code's three branches are `closest`: the remainder against what is left of the divisor orders as twice the remainder against the divisor.
use mathlib.Core.Path.{◌≡◌, refl}
use Prim.Native.Nat.{ℕ, ◌+◌, ◌-◌, ◌*◌, ◌/◌, ◌%◌, ◌≤◌, ◌<◌, compare, Ordering}
use native.Mathlib.Numerals.{add-one}
use native.Mathlib.Omega.{arith}
use lib.Ieee.{nearest}
use lib.Ieee.Nearest.{closest}
use Rattle.numbers.proofs.Order.{Cmp, cmp}

module _ (q r d : ℕ) where
  pick_lt : (o : Ordering) → Cmp o (r * 2) d → r < d - r → q ≡ nearest q o
  pick_lt Ordering.lt c h = refl
  pick_lt Ordering.eq c h = absurd (go c h)
    where
      go : r * 2 ≡ d → r < d - r → ⊥
      go a b = omega arith
  pick_lt Ordering.gt c h = absurd (go c h)
    where
      go : d < r * 2 → r < d - r → ⊥
      go a b = omega arith

  pick_gt : (o : Ordering) → Cmp o (r * 2) d → d - r < r → q + 1 ≡ nearest q o
  pick_gt Ordering.lt c h = absurd (go c h)
    where
      go : r * 2 < d → d - r < r → ⊥
      go a b = omega arith
  pick_gt Ordering.eq c h = absurd (go c h)
    where
      go : r * 2 ≡ d → d - r < r → ⊥
      go a b = omega arith
  pick_gt Ordering.gt c h = add-one q

  pick_eq : (o : Ordering) → Cmp o (r * 2) d → r < d → d - r ≤ r → r ≤ d - r → q + q % 2 ≡ nearest q o
  pick_eq Ordering.lt c l h k = absurd (go c l h k)
    where
      go : r * 2 < d → r < d → d - r ≤ r → r ≤ d - r → ⊥
      go a l b k = omega arith
  pick_eq Ordering.eq c l h k = refl
  pick_eq Ordering.gt c l h k = absurd (go c l h k)
    where
      go : d < r * 2 → r < d → d - r ≤ r → r ≤ d - r → ⊥
      go a l b k = omega arith

pub below_half : (n d : ℕ) → n % d < d - n % d → n / d ≡ closest n d
below_half n d h = pick_lt (n / d) (n % d) d (compare (n % d * 2) d) (cmp (n % d * 2) d) h

pub above_half : (n d : ℕ) → d - n % d < n % d → n / d + 1 ≡ closest n d
above_half n d h = pick_gt (n / d) (n % d) d (compare (n % d * 2) d) (cmp (n % d * 2) d) h

pub at_half : (n d : ℕ) → n % d < d → d - n % d ≤ n % d → n % d ≤ d - n % d → n / d + n / d % 2 ≡ closest n d
at_half n d l h k = pick_eq (n / d) (n % d) d (compare (n % d * 2) d) (cmp (n % d * 2) d) l h k

-- Assumes nothing.
