-- A contract is the equation that it is written as, and a run of calls is a run of outcomes by that equation: each follows by taking the call apart.
use mathlib.Core.Path.{◌≡◌, refl, sym, ap, ◌∙◌}
use mathlib.Core.Bool.{Bool}
use mathlib.Core.List.{List}
use Prim.Native.Nat.{ℕ}
use lib.IntN.{ℤ}
use lib.Ieee.{Float}
use Rattle.approximations.specs.Ln.{ln_of}
use Rattle.list.specs.List.{ListRooms}
use Rattle.reader.specs.Read.{ReadOutcome, read_outcome}
use Rattle.writer.specs.Write.{WriteOutcome, write_of}
use Rattle.write_laws.specs.Floats.{Floats}
use Rattle.dequantize.specs.Judge.{Description}
use Rattle.table.specs.Table.{Setting, build_of}
use Rattle.table.specs.Table as building
use Rattle.segments.specs.declared.Segment.{Segment}
use Rattle.picture.specs.Picture.{Built}
use Rattle.picture.proofs.InRooms.{segments_in_rooms}
use Rattle.picture.proofs.Makes.{built_are}
use Rattle.desks.specs.Desks.{Sight}
use Rattle.desks.specs.Agree.{Agree}
use Rattle.desks.specs.Hide.{HideOutcome, hide_of, Hides}
use Rattle.desks.specs.Hide as hiding
use Rattle.checks.specs.Alike.{AlikeFor}
use Rattle.checks.proofs.Alike.{agree_alike}
use Rattle.draw.proofs.Alike.{drawn_alike}
use Rattle.draw.specs.Draw.{Table, Channels, DrawOutcome, draw_of}
use Rattle.draw.specs.Draw as drawing
use Rattle.draw.specs.Parts.{Part, Draws, Drawn}
use Rattle.draw.specs.Parts as parts
use Rattle.draw.specs.Image.{Job, DrawnAll}
use Rattle.draw.specs.Image as images
use Rattle.hull.specs.Reach.{ReachOutcome, reach_of}
use Rattle.hull.specs.Reach as reaching
use Rattle.aktyrbuz.specs.Calls.{ReadCall, reads, WriteCall, writes, BuildCall, builds, DrawCall, draws, ReachCall, reaches, HideCall, hides, LnCall, logs, BuildDone, KeptTable, with_bits, PartCall, RowCalls, ImageCalls, HideCalls}
use Rattle.aktyrbuz.specs.Calls as calls

pub read_equation : (l : List ℕ) (configured pixels : ℕ) (rooms : ListRooms) (o : ReadOutcome) → ReadCall l configured pixels rooms o → o ≡ read_outcome configured pixels rooms l
read_equation l configured pixels rooms o (reads κs _ _ _ _ _ _ _ _ _ _ _ _ _ _ _ p) = p

pub write_equation : (ns : List ℕ) (ss : List Float) (ds cs : List ℤ) (a : ℤ) (configured pixels room : ℕ) (o : WriteOutcome) → WriteCall ns ss ds cs a configured pixels room o
    → o ≡ write_of ns ss ds cs a configured pixels room
write_equation ns ss ds cs a configured pixels room o (writes κs _ _ _ _ _ _ _ _ _ _ _ f p) = p

pub write_floats : (ns : List ℕ) (ss : List Float) (ds cs : List ℤ) (a : ℤ) (configured pixels room : ℕ) (o : WriteOutcome) → WriteCall ns ss ds cs a configured pixels room o → Floats ss
write_floats ns ss ds cs a configured pixels room o (writes κs _ _ _ _ _ _ _ _ _ _ _ f p) = f

pub build_equation : (d : Description) (i : Setting) (r : building.BuildRooms) (o : building.BuildOutcome) → BuildCall d i r o → o ≡ build_of d i r
build_equation d i r o (builds κs _ _ _ _ _ _ _ _ _ _ _ _ _ _ _ _ _ p) = p

pub draw_equation : (t : Table) (s : Sight) (y x0 n : ℕ) (a : Channels) (o : DrawOutcome) → DrawCall t s y x0 n a o → o ≡ draw_of t s y x0 n a
draw_equation t s y x0 n a o (draws κs _ _ _ _ _ _ _ _ _ _ _ _ _ _ _ _ _ p) = p

pub reach_equation : (t : Table) (s : Sight) (y W : ℕ) (o : ReachOutcome) → ReachCall t s y W o → o ≡ reach_of t s y W
reach_equation t s y W o (reaches κs _ _ _ _ _ _ _ _ _ p) = p

pub hide_equation : (a : List ℕ) (desk spline : ℕ) (hidden : Bool) (o : HideOutcome) → HideCall a desk spline hidden o → o ≡ hide_of a desk spline hidden
hide_equation a desk spline hidden o (hides κs _ _ _ _ _ _ _ _ _ p) = p

pub ln_equation : (x r : Float) → LnCall x r → r ≡ ln_of x
ln_equation x r (logs κs _ _ _ p) = p

-- what a build tells is told by its answer, and so is what a drawing or a reach tells
pub build_told_by : (d : Description) (i : Setting) (r : building.BuildRooms) (o : building.BuildOutcome) → BuildCall d i r o
    → o ≡ building.leaves o.answer o.path o.walk o.segments o.owners o.starts o.entries
build_told_by d i r o (builds κs _ _ _ _ _ _ _ _ _ _ _ _ _ _ _ _ _ p) = refl

pub told_by : (t : Table) (s : Sight) (y x0 n : ℕ) (a : Channels) (o : DrawOutcome) → DrawCall t s y x0 n a o → o ≡ drawing.leaves o.answer o.channels
told_by t s y x0 n a o (draws κs _ _ _ _ _ _ _ _ _ _ _ _ _ _ _ _ _ p) = refl

pub reach_told_by : (t : Table) (s : Sight) (y W : ℕ) (o : ReachOutcome) → ReachCall t s y W o → o ≡ reaching.tells o.answer
reach_told_by t s y W o (reaches κs _ _ _ _ _ _ _ _ _ p) = refl

pub hide_told_by : (a : List ℕ) (desk spline : ℕ) (hidden : Bool) (o : HideOutcome) → HideCall a desk spline hidden o → o ≡ hiding.leaves o.answer o.bits
hide_told_by a desk spline hidden o (hides κs _ _ _ _ _ _ _ _ _ p) = refl

-- ---- builds and runs

pub built_by : {d : Description} {i : Setting} {r : building.BuildRooms} {o : building.BuildOutcome} {s e estimate : ℕ} → BuildDone d i r o s e estimate → Built d i r o s e estimate
built_by {d} {i} {r} {o} b = record { outcome = build_equation d i r o b.called; faint = b.faint; done = b.done }

-- the segments that the description makes are those of the build
pub kept_are : {d : Description} {i : Setting} {segments : List Segment} {t : Table} (k : KeptTable d i segments t) → segments ≡ segments_in_rooms d i k.rooms
kept_are {d} {i} {segments} k = built_are (built_by k.done) segments k.makes

-- a table is alike to itself for sights that differ in bits that are not the desk's
pub own_alike : (y : ℕ) (t : Table) (s : Sight) (bits : List ℕ) → Agree s (with_bits s bits) → AlikeFor y t s t (with_bits s bits)
own_alike y t s bits agree = agree_alike t s (with_bits s bits) y agree refl

part_by : {t : Table} {s : Sight} {y : ℕ} {p : Part} {a b : Channels} {count : ℕ} → PartCall t s y p a count b → Draws t s y p a count b
part_by {t} {s} {y} {p} {a} c =
    let told = told_by t (with_bits s c.bits) y p.at p.wide c.lent c.outcome c.called in
    record {
      lent = c.lent;
      answer = c.outcome.answer;
      left = c.outcome.channels;
      in_row_lem = c.in_row_lem;
      begins = c.begins;
      outcome = sym told
          ∙ draw_equation t (with_bits s c.bits) y p.at p.wide c.lent c.outcome c.called
          ∙ sym (drawn_alike (own_alike y t s c.bits c.own_bits) p.at p.wide c.lent);
      counted = c.counted ∙ ap (λ (o : DrawOutcome). o.told.updates) told;
      comes_back = c.comes_back;
    }

pub row_by : {t : Table} {s : Sight} {y : ℕ} {ps : List Part} {a w : Channels} {sum : ℕ} → RowCalls t s y ps a sum w → Drawn t s y ps a sum w
row_by calls.none = parts.none
row_by (calls.more c rest) = parts.more (part_by c) (row_by rest)

pub image_by : {t : Table} {s : Sight} {js : List Job} {a w : images.Image} {sum : ℕ} → ImageCalls t s js a sum w → DrawnAll t s js a sum w
image_by calls.none = images.none
image_by (calls.more c rest) = images.more (part_by c) (image_by rest)

pub hides_by : {desk : ℕ} {a b : List ℕ} → HideCalls desk a b → Hides desk a b
hides_by calls.none = hiding.none
hides_by {desk} {a} (calls.more {spline = spline} {hidden = hidden} {o = o} c rest) = hiding.more spline hidden (hide_equation a desk spline hidden o c) (hides_by rest)

-- Assumes nothing.
