-- Lists of floats changed cell by cell. Definitions only.
use Rattle.std.specs.Prelude.{Bool, cond, ◌&&◌, List, [], ◌∷◌, ℕ, suc, ◌+◌, leb, ltb, Float}

-- the first cell is changed by f k, the next by f (k + 1), and so on
abbrev pub edit_from : (ℕ → Float → Float) → ℕ → List Float → List Float
edit_from f k [] = []
edit_from f k (v ∷ vs) = f k v ∷ edit_from f (suc k) vs

-- cell k is changed by f k
unfoldable pub edit : (ℕ → Float → Float) → List Float → List Float
edit f xs = edit_from f 0 xs

-- f at the cells below n, and nothing at the others
abbrev pub first_cells : ℕ → (ℕ → Float → Float) → ℕ → Float → Float
first_cells n f k v = cond (ltb k n) (f k v) v

-- whether k is one of the n numbers from a on
abbrev pub inside : ℕ → ℕ → ℕ → Bool
inside a n k = leb a k && ltb k (a + n)
