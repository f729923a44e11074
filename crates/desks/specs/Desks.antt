-- Two desks, one table: a shared byte for each spline, of which each desk has a bit, and what a desk is shown of listed segments. Definitions only.
use Rattle.std.specs.Prelude.{Bool, true, cond, ◌&&◌, List, [], ◌∷◌, ℕ, ◌/◌, ◌%◌, ◌^◌, ◌<◌, eqb, leb, ltb, length, get_or}
use Rattle.desks.specs.declared.Sight as declared

-- the desk's bit of a byte: bit 0 hides a spline for the operator, desk 0, bit 1 for the class checker, desk 1
unfoldable pub bit_of : ℕ → ℕ → Bool
bit_of desk byte = eqb (byte / 2 ^ desk % 2) 1

-- what a call takes beside the table: the owners of its segments, how many splines the description had, the shared bytes, and the desk
pub record Sight : Type 0 where
  pub owners : List ℕ
  pub splines : ℕ
  pub bits : List ℕ
  pub desk : ℕ

abbrev pub sight_of : List ℕ → ℕ → List ℕ → ℕ → Sight
sight_of owners splines bits desk = record { owners = owners; splines = splines; bits = bits; desk = desk }

-- the same of the value that calls pass
abbrev pub sight_in : declared.Sight → Sight
sight_in s = sight_of s.owners.now s.splines s.bits.now s.desk

-- the owner of segment i, and whether the segment is hidden for the desk, told by its owner
abbrev pub owner_in : Sight → ℕ → ℕ
owner_in s i = get_or s.owners i 0

abbrev pub hidden_in : Sight → ℕ → Bool
hidden_in s i = bit_of s.desk (get_or s.bits (owner_in s i) 0)

-- what a look at segment i takes: it has an owner, the owner a byte, and the desk is one of the two
pub record Seen (s : Sight) (i : ℕ) : Type 0 where
  pub owner : i < length s.owners
  pub byte : owner_in s i < length s.bits
  pub desk : s.desk < 2

-- what is shown of a list of segments, in its order
abbrev pub shown : Sight → List ℕ → List ℕ
shown s [] = []
shown s (i ∷ listed) = cond (hidden_in s i) (shown s listed) (i ∷ shown s listed)

-- ---- the checks

-- there are two desks
abbrev pub desk_good : Sight → Bool
desk_good s = ltb s.desk 2

-- a byte is lent for each spline
abbrev pub bytes_good : Sight → Bool
bytes_good s = leb s.splines (length s.bits)

-- the owner of each listed segment is a spline
abbrev pub all_owned : List ℕ → ℕ → List ℕ → Bool
all_owned owners splines [] = true
all_owned owners splines (i ∷ listed) = ltb (get_or owners i 0) splines && all_owned owners splines listed
