-- A refusal: a code and the place that it names, as the Rust type `Refusal` is a pair.
use Rattle.std.specs.Prelude.{ℕ, Result, Err}
use Rattle.codes.specs.declared.Code.{Code}

abbrev pub Refusal : Type 0
Refusal = Code × ℕ

-- the answer that refuses, as a term and as a pattern of clauses
pattern abbrev pub refused : {A : Type 0} → Code → ℕ → Result A Refusal
refused c p = Err (c, p)
