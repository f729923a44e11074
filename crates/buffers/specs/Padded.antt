-- What stands in a lent buffer after a call: values, and zeros behind them. Definitions only.
use Rattle.std.specs.Prelude.{List, ◌++◌, ℕ, ◌-◌, length, replicate}

-- n cells: the values, and zeros after them
abbrev pub padded : {A : Type 0} → ℕ → A → List A → List A
padded n zero vs = vs ++ replicate (n - length vs) zero
