-- A buffer with a list written on its front. Definition only.
use Rattle.std.specs.Prelude.{List, ◌++◌, length, drop}

-- o with its first cells replaced by xs
unfoldable pub onto : {A : Type 0} → List A → List A → List A
onto xs o = xs ++ drop (length xs) o
