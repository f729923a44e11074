-- A text of decimal numbers with white space between them: the numbers that it holds, or the first byte that is none of it.
use Rattle.std.specs.Prelude.{◌≡◌, Bool, true, false, ◌||◌, ◌&&◌, cond, List, [], ◌∷◌, ◌++◌, ℕ, zero, suc, ◌+◌, ◌-◌, ◌*◌, ◌^◌, eqb, leb, ltb, length, take, set, Option, None, Some, Result, Ok, Err}
use Rattle.text.specs.declared.Step.{Step}
use Rattle.text.specs.declared.Step.TheVariants.{On, Ends, Stranger, Great}
use Rattle.text.specs.declared.ParseError.{ParseError}
use Rattle.text.specs.declared.ParseError.TheVariants as error

-- where a text stands: between numbers, or inside one that is n so far
abbrev pub Scan : Type 0
Scan = Option ℕ

-- after one byte: on, with so many numbers stored, or why the reading stops
abbrev pub Turned : Type 0
Turned = Result (Scan × ℕ) ParseError

-- white space: a space, or one of tab, line feed, vertical tab, form feed and carriage return
abbrev pub is_space : ℕ → Bool
is_space b = eqb b 32 || (leb 9 b && leb b 13)

-- the digits 0 to 9
abbrev pub is_digit : ℕ → Bool
is_digit b = leb 48 b && leb b 57

-- white space ends a number
abbrev pub space_of : Scan → Step
space_of None = On None
space_of (Some n) = Ends n

-- a digit begins a number or goes on with one, which stays below 2^32
abbrev pub digit_of : Scan → ℕ → Step
digit_of None d = On (Some d)
digit_of (Some n) d = cond (ltb (10 * n + d) (2 ^ 32)) (On (Some (10 * n + d))) Great

-- what the next byte makes of a text that stands between numbers or inside one
unfoldable pub step_of : Scan → ℕ → Step
step_of scan b = cond (is_space b) (space_of scan) (cond (is_digit b) (digit_of scan (b - 48)) Stranger)

-- all numbers of a text, or why and at which byte the reading stops
pub data Text : Type 0 where
  all : List ℕ → Text
  stop : ParseError → Text

-- numbers that were read before others
abbrev pub after : List ℕ → Text → Text
after xs (all ys) = all (xs ++ ys)
after xs (stop why) = stop why

-- what a step leads to, where `go` is the text behind it, with room for so many numbers
abbrev pub follow : ℕ → ℕ → (ℕ → Scan → Text) → Step → Text
follow left at go (On scan) = go left scan
follow zero at go (Ends n) = stop (error.Full at)
follow (suc left) at go (Ends n) = after (n ∷ []) (go left None)
follow left at go Stranger = stop (error.Stranger at)
follow left at go Great = stop (error.Great at)

-- the rest of a text from the byte `at` on, with room for so many numbers
unfoldable pub text_from : ℕ → ℕ → Scan → List ℕ → Text
text_from left at scan [] = all []
text_from left at scan (b ∷ bs) = follow left at (λ k s. text_from k (suc at) s bs) (step_of scan b)

-- what one turn leaves of `held` numbers that are stored, after a step and with room for so many more
abbrev pub turn_leaves : ℕ → ℕ → ℕ → Step → Turned → List ℕ → List ℕ → Type 0
turn_leaves left at held (On scan) r before now = (r ≡ Ok (scan, held)) × (now ≡ before)
turn_leaves zero at held (Ends n) r before now = r ≡ Err (error.Full at)
turn_leaves (suc left) at held (Ends n) r before now = (r ≡ Ok (None, held + 1)) × (now ≡ set before held n)
turn_leaves left at held Stranger r before now = r ≡ Err (error.Stranger at)
turn_leaves left at held Great r before now = r ≡ Err (error.Great at)

pub record TurnLeaves (left at held : ℕ) (step : Step) (r : Turned) (before now : List ℕ) : Type 0 where
  pub leaves : turn_leaves left at held step r before now

-- the end of a text counts as white space
abbrev pub ended : List ℕ → List ℕ
ended text = text ++ (32 ∷ [])

abbrev pub text_of : ℕ → List ℕ → Text
text_of room text = text_from room 0 None (ended text)

-- an answer and what the cells begin with are those of a text
abbrev pub ReadAs : Text → Result ℕ ParseError → List ℕ → Type 0
ReadAs (all xs) r cells = (r ≡ Ok (length xs)) × (take (length xs) cells ≡ xs)
ReadAs (stop why) r cells = r ≡ Err why

abbrev pub feed_of : ℕ → ℕ
feed_of b = cond (eqb b 10) 1 0

-- the line of a byte: one more than the line feeds before it
unfoldable pub feeds : List ℕ → ℕ
feeds [] = 0
feeds (b ∷ bs) = feed_of b + feeds bs

abbrev pub line_of : List ℕ → ℕ → ℕ
line_of text at = 1 + feeds (take at text)

-- whether two texts are the same, byte by byte
unfoldable pub same_of : List ℕ → List ℕ → Bool
same_of [] [] = true
same_of [] (y ∷ ys) = false
same_of (x ∷ xs) [] = false
same_of (x ∷ xs) (y ∷ ys) = cond (eqb x y) (same_of xs ys) false
