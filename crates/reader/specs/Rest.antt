-- What the steps of `read` leave in the lent buffers.
use Rattle.std.specs.Prelude.{◌≡◌, List, ℕ, length, replicate, ℤ, pos, Float}
use Rattle.list.specs.Steps.{zero_f32}
pub use Rattle.read_list.specs.Rest.{ListLeft}

-- zeros in every cell of the four buffers
pub record Wiped (n n' : List ℕ) (s s' : List Float) (d d' c c' : List ℤ) : Type 0 where
  pub counts : n' ≡ replicate (length n) 0
  pub starts : s' ≡ replicate (length s) zero_f32
  pub deltas : d' ≡ replicate (length d) (pos 0)
  pub coefficients : c' ≡ replicate (length c) (pos 0)
