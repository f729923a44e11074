-- What it means that the definitions agree with a stored case, a kind at a time: vectors/README.md has the words of each. Definitions only.
use Rattle.std.specs.Prelude.{◌≡◌, List, ℕ, ◌+◌, ◌-◌, ◌*◌, ◌/◌, length, get_or, take, drop, replicate, Option, Some, None, Float}
use Rattle.buffers.specs.Onto.{onto}
use Rattle.dequantize.specs.Coefficients.{table}
use Rattle.transform.specs.Transform.{continuous_idct}
use Rattle.segments.specs.Segment.{eight_of}
use Rattle.segments.specs.declared.Segment.{Segment}
use Rattle.numbers.specs.Arith.{f}
use Rattle.walk.specs.Walk.{Walk, More, Ended, flat}
use Rattle.draw.specs.Draw.{Channels, three, Table, table_of, Sight, sight_of, draw_of}
use Rattle.stored.specs.Stored.{float_in, Begins}

-- the words from a up to b
abbrev pub part : ℕ → ℕ → List ℕ → List ℕ
part a b words = take (b - a) (drop a words)

-- the sum at t of a row of 32 coefficients
abbrev pub TransformAgrees : List ℕ → List ℕ → Type 0
TransformAgrees input output = continuous_idct (table (float_in input) 32) (float_in input 32) ≡ float_in output 0

-- what a point makes: nothing, or the eight floats behind a 1
abbrev pub MadeAgrees : Option Segment → List ℕ → Type 0
MadeAgrees None output = get_or output 0 0 ≡ 0
MadeAgrees (Some s) output = Begins (eight_of s) (part 1 9 output)

-- a walk in 512 cells, its points three floats each
abbrev pub WalkAgrees : Walk → List ℕ → Type 0
WalkAgrees More output = ⊥
WalkAgrees (Ended points) output = (length points ≡ length output / 3) × Begins (onto (flat points) (replicate 512 (f 0))) output

-- the path of a case
abbrev pub path_in : List ℕ → List Float
path_in input = take (length input) (table (float_in input) 256)

-- three channels of n floats each, one after another
pub record ChannelsAgree (n : ℕ) (channels : Channels) (words : List ℕ) : Type 0 where
  pub first : Begins channels.r0 (part 0 n words)
  pub second : Begins channels.r1 (part n (2 * n) words)
  pub third : Begins channels.r2 (part (2 * n) (3 * n) words)

-- the three channels of a case before drawing, in 64 cells each
abbrev pub channels_in : ℕ → List ℕ → Channels
channels_in n words = three (table (float_in (part 0 n words)) 64) (table (float_in (part n (2 * n) words)) 64) (table (float_in (part (2 * n) (3 * n) words)) 64)

-- the sight of a case, which hides nothing: every segment is of spline 0, whose byte is 0, seen from desk 0
abbrev pub bare : Sight
bare = sight_of (replicate 64 0) 1 (replicate 1 0) 0

-- n pixels of row y from column x0 on, drawn from a table
abbrev pub DrawAgrees : Table → ℕ → ℕ → ℕ → List ℕ → List ℕ → Type 0
DrawAgrees t y x0 n before after = ChannelsAgree n (draw_of t bare y x0 n (channels_in n before)).channels after

-- where the segments, the entries and the row starts of a case end
abbrev pub segments_end : List ℕ → ℕ
segments_end input = 6 + 8 * get_or input 0 0

abbrev pub entries_end : List ℕ → ℕ
entries_end input = segments_end input + get_or input 1 0

abbrev pub starts_end : List ℕ → ℕ
starts_end input = entries_end input + get_or input 2 0 + 1

-- the table of a case, its segments in 512 cells
abbrev pub table_in : List ℕ → Table
table_in input =
    table_of (table (float_in (part 6 (segments_end input) input)) 512) (get_or input 0 0) (part (segments_end input) (entries_end input) input) (get_or input 1 0)
    (part (entries_end input) (starts_end input) input) (get_or input 2 0)
