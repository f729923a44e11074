-- The number of each code, as the table of codes gives it.
-- Two codes with one number are equal: `number_of_injective` of proofs/Codes.antt.
use Rattle.std.specs.Prelude.{ℕ}
use Rattle.codes.specs.declared.Code.{Code}
use Rattle.codes.specs.declared.Code.TheVariants.{Done, Short, Splines, Coord, Points, Delta, Trail, Room, Size, Shape, Position, Distance, Area, Coincide, Table, Row, Span, Header, Text, Desk, Trace, Profile, Edition, Band}

abbrev pub number_of : Code → ℕ
number_of Done = 0
number_of Short = 1
number_of Splines = 2
number_of Coord = 3
number_of Points = 4
number_of Delta = 5
number_of Trail = 6
number_of Room = 7
number_of Size = 8
number_of Shape = 9
number_of Position = 10
number_of Distance = 11
number_of Area = 12
number_of Coincide = 13
number_of Table = 14
number_of Row = 15
number_of Span = 16
number_of Header = 17
number_of Text = 18
number_of Desk = 19
number_of Trace = 20
number_of Profile = 21
number_of Edition = 22
number_of Band = 23
