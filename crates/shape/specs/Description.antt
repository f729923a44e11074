-- A description as the lists that its slices hold, and SHAPE of it.
use Rattle.std.specs.Prelude.{ℕ, List, ℤ, Float, Bool}
use Rattle.shape.specs.Shape.{shaped}
use Rattle.shape.specs.declared.Description as Declared

-- all splines, as they were read
pub record Description : Type 0 where
  pub counts : List ℕ
  pub starts : List Float
  pub deltas : List ℤ
  pub coefficients : List ℤ

abbrev pub description_of : List ℕ → List Float → List ℤ → List ℤ → Description
description_of counts starts deltas coefficients = record { counts = counts; starts = starts; deltas = deltas; coefficients = coefficients }

-- the description that a value of the Rust type holds
abbrev pub description_in : Declared.Description → Description
description_in d = description_of d.counts.now d.starts.now d.deltas.now d.coefficients.now

-- what SHAPE asks for, as a test
abbrev pub shaped_of : Description → Bool
shaped_of d = shaped d.counts d.starts d.deltas d.coefficients
