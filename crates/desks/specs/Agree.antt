-- Sights that agree in what one desk may see, and a sight that hides nothing. Definitions only.
use Rattle.std.specs.Prelude.{◌≡◌, false, ◌↔◌, List, ℕ, ◌<◌, ◌≤◌, length, get_or}
use Rattle.desks.specs.Desks.{bit_of, Sight}

-- the desk's own bits are the same over the splines, whatever else the bytes hold and however many are lent beyond
pub record OwnBitsAlike (desk splines : ℕ) (a b : List ℕ) : Type 0 where
  pub own_bits : (k : ℕ) → k < splines → bit_of desk (get_or a k 0) ≡ bit_of desk (get_or b k 0)

-- one desk and one number of splines, bytes enough in both or in neither, and the desk's own bits alike; of the owners nothing is said
pub record Agree (s r : Sight) : Type 0 where
  pub desk : s.desk ≡ r.desk
  pub splines : s.splines ≡ r.splines
  pub lent : (s.splines ≤ length s.bits) ↔ (r.splines ≤ length r.bits)
  pub own_bits : OwnBitsAlike s.desk s.splines s.bits r.bits

-- no bit of the desk is set for a spline of the description
pub record NothingHidden (s : Sight) : Type 0 where
  pub clear : (k : ℕ) → k < s.splines → bit_of s.desk (get_or s.bits k 0) ≡ false
