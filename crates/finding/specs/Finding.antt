-- A word in a drawing: where it stands, and where it stands first. Definitions only.
use Rattle.std.specs.Prelude.{◌≡◌, Bool, true, List, ℕ, ◌<◌, ◌≤◌, length, take, drop}
use Rattle.text.specs.Text.{same_of}

-- the bytes from a place on begin with the word
abbrev pub stands_at : List ℕ → ℕ → List ℕ → Bool
stands_at bytes at word = same_of (take (length word) (drop at bytes)) word

-- the first place from one on where the word stands, or the length where there is none
pub record FirstFrom (bytes : List ℕ) (start : ℕ) (word : List ℕ) (r : ℕ) : Type 0 where
  pub before : (k : ℕ) → start ≤ k → k < r → stands_at bytes k word ≡ true → ⊥
  pub there : r < length bytes → stands_at bytes r word ≡ true
