-- The frame of a file of vectors, as vectors/README.md gives it: what its words are, and when the file is whole.
use Rattle.std.specs.Prelude.{◌≡◌, Option, None, Some, cond, List, [], ◌∷◌, ℕ, zero, suc, ◌+◌, ◌-◌, ◌*◌, ◌/◌, ◌%◌, ◌<◌, min, ltb, eqb, length, take, get_or}
use Rattle.frame.specs.declared.Verdict.{Verdict}
use Rattle.frame.specs.declared.Verdict.TheVariants.{Whole, Short, Stranger, Version, Long, Damaged}

-- the word of the four bytes at a place, the lowest first
abbrev pub word_at : List ℕ → ℕ → ℕ
word_at bytes at = get_or bytes at 0 + 256 * get_or bytes (at + 1) 0 + 65536 * get_or bytes (at + 2) 0 + 16777216 * get_or bytes (at + 3) 0

-- the first r words of a buffer are those of the bytes, all of them or as many as there is room for
pub record Words (bytes : List ℕ) (room r : ℕ) (words : List ℕ) : Type 0 where
  pub count : r ≡ min (length bytes / 4) room
  pub kept : length words ≡ room
  pub each : (k : ℕ) → k < r → get_or words k 0 ≡ word_at bytes (4 * k)

-- the checksum: each word in turn, the sum so far times 16777619 plus the word, modulo 2^32
unfoldable pub sum_from : ℕ → List ℕ → ℕ
sum_from sum [] = sum
sum_from sum (word ∷ words) = sum_from ((sum * 16777619 + word) % 4294967296) words

abbrev pub sum_of : List ℕ → ℕ
sum_of words = sum_from 2166136261 words

-- a case: its kind, the number of its input words, that of its output words, then those words
abbrev pub case_end : List ℕ → ℕ → ℕ
case_end words at = at + (3 + get_or words (at + 1) 0 + get_or words (at + 2) 0)

-- where so many cases end that begin at a place
unfoldable pub end_from : List ℕ → ℕ → ℕ → ℕ
end_from words zero at = at
end_from words (suc left) at = end_from words left (case_end words at)

-- where all cases end: word 2 says how many there are, and the first begins at word 3
abbrev pub all_end : List ℕ → ℕ
all_end words = end_from words (get_or words 2 0) 3

-- the same, unless it is past the last word
unfoldable pub end_of : List ℕ → Option ℕ
end_of words = cond (ltb (length words - 1) (all_end words)) None (Some (all_end words))

-- the cases end at the last word, which is the checksum of those before it
unfoldable pub settled_of : List ℕ → ℕ → Verdict
settled_of words end =
    cond (ltb end (length words - 1)) Long
    (cond (eqb (sum_of (take (length words - 1) words)) (get_or words (length words - 1) 0)) Whole Damaged)

unfoldable pub settled_end : List ℕ → Option ℕ → Verdict
settled_end words None = Short
settled_end words (Some end) = settled_of words end

-- a whole file: at least four words, `AKTV`, version 1, cases up to the last word, and that one right
unfoldable pub frame_says : List ℕ → Verdict
frame_says words =
    cond (ltb (length words) 4) Short
    (cond (eqb (get_or words 0 0) 1448364865)
    (cond (eqb (get_or words 1 0) 1) (settled_end words (end_of words)) Version)
    Stranger)

abbrev pub IsWhole : List ℕ → Type 0
IsWhole words = frame_says words ≡ Whole

-- how many of so many cases that begin at a place are of a kind
unfoldable pub held_from : List ℕ → ℕ → ℕ → ℕ → ℕ
held_from words kind zero at = 0
held_from words kind (suc left) at = cond (eqb (get_or words at 0) kind) 1 0 + held_from words kind left (case_end words at)

abbrev pub held_of : List ℕ → ℕ → ℕ
held_of words kind = held_from words kind (get_or words 2 0) 3
