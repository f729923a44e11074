-- A code is known by its number: the list of all codes gives it back.
use Prim.Native.Nat.{ℕ}
use mathlib.Core.Path.{◌≡◌, refl, sym, ap, ◌∙◌}
use mathlib.Core.List.{List, [], ◌∷◌}
use lib.ListN.{get_or}
use Rattle.codes.specs.declared.Code.{Code}
use Rattle.codes.specs.declared.Code.TheVariants.{Done, Short, Splines, Coord, Points, Delta, Trail, Room, Size, Shape, Position, Distance, Area, Coincide, Table, Row, Span, Header, Text, Desk, Trace, Profile, Edition, Band}
use Rattle.codes.specs.Codes.{number_of}

abbrev all : List Code
all = Done ∷ Short ∷ Splines ∷ Coord ∷ Points ∷ Delta ∷ Trail ∷ Room ∷ Size ∷ Shape ∷ Position ∷ Distance ∷ Area ∷ Coincide ∷ Table ∷ Row ∷ Span ∷ Header ∷ Text ∷ Desk ∷ Trace ∷ Profile ∷ Edition ∷ Band ∷ []

numbered : (code : Code) → get_or all (number_of code) Done ≡ code
numbered Done = refl
numbered Short = refl
numbered Splines = refl
numbered Coord = refl
numbered Points = refl
numbered Delta = refl
numbered Trail = refl
numbered Room = refl
numbered Size = refl
numbered Shape = refl
numbered Position = refl
numbered Distance = refl
numbered Area = refl
numbered Coincide = refl
numbered Table = refl
numbered Row = refl
numbered Span = refl
numbered Header = refl
numbered Text = refl
numbered Desk = refl
numbered Trace = refl
numbered Profile = refl
numbered Edition = refl
numbered Band = refl

-- two codes with one number are equal
pub number_of_injective : (a b : Code) → number_of a ≡ number_of b → a ≡ b
number_of_injective a b same = sym (numbered a) ∙ ap (λ (n : ℕ). get_or all n Done) same ∙ numbered b

-- Assumes nothing.
