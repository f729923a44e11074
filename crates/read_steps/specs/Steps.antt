-- What each loop leaves in the buffer that it is lent: on success its values and then what was there, after a stop nothing is said.
use Rattle.std.specs.Prelude.{◌≡◌, List, ◌++◌, ℕ, ◌≤◌, map, length, drop, ℤ, Float, Result, Ok}
use Rattle.codes.specs.Refusal.{Refusal, refused}
use Rattle.list.specs.List.{Got, got, stop}
use Rattle.list.specs.Steps.{f32_of}

-- what is left of a list of `total` values
abbrev pub Rest : List ℕ → ℕ → Type 0
Rest rest total = length rest ≤ total

-- whole numbers as f32
abbrev pub floats : Got (List ℤ) → Got (List Float)
floats (got zs l) = got (map f32_of zs) l
floats (stop c p) = stop c p

-- the values stand in front, and the rest is as it was
abbrev pub Front : {A : Type 0} → List A → List A → List A → Type 0
Front vs old new = new ≡ vs ++ drop (length vs) old

-- a step that fills the front of one buffer
abbrev pub Filled : {A : Type 0} → Got (List A) → Result (Unit {0}) Refusal → List A → List A → Type 0
Filled (got vs l) r old new = (r ≡ Ok tt) × Front vs old new
Filled (stop c p) r old new = r ≡ refused c p
