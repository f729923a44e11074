-- What each comparison has found, in the terms of the definitions.
use mathlib.Core.Path.{◌≡◌, sym, ap, subst, ◌∙◌}
use mathlib.Core.Bool.{Bool}
use mathlib.Core.List.{List}
use Prim.Native.Nat.{ℕ, ◌+◌, ◌*◌, ◌/◌, ◌≤◌}
use native.Mathlib.Omega.{arith}
use lib.ListN.{length, get_or, take, replicate, length-take}
use lib.Seq.{sets, length-take-le}
use lib.Ieee.{Float, nan, binary32, of_bits}
use Rattle.std.specs.Prelude.{Option}
use Rattle.dequantize.specs.declared.Spline.{Spline}
use Rattle.dequantize.specs.Coefficients.{table}
use Rattle.dequantize.proofs.Tables.{length_table}
use Rattle.transform.specs.declared.Sums.{Sums}
use Rattle.transform.specs.Transform.{continuous_idct, sums_of}
use Rattle.segments.specs.declared.Segment.{Segment}
use Rattle.segments.specs.Segment.{add_segment, eight_of}
use Rattle.numbers.specs.Arith.{f}
use Rattle.walk.specs.Walked.{Walked, Points, Room}
use Rattle.walk.specs.Walk.{Walk, More, Ended, walk_in, walked_of, WalkedOn}
use Rattle.draw.specs.DrawAnswer.{DrawAnswer}
use Rattle.draw.specs.Draw.{Channels, three, leaves, Table, table_of, draw_of, DrawOutcome}
use Rattle.stored.specs.Stored.{float_in, Begins}
use Rattle.replay_layers.specs.Agreed.{part, TransformAgrees, MadeAgrees, WalkAgrees, ChannelsAgree, DrawAgrees, bare, channels_in, path_in, table_in, starts_end}

pub transform_agrees : (input output : List ℕ) (s : Spline) {sums : Sums} {row : List Float} {t : Float} → sums ≡ sums_of s t → s.x ≡ row → row ≡ table (float_in input) 32 → t ≡ float_in input 32 → sums.x ≡ float_in output 0 → TransformAgrees input output
unfolding sums_of
transform_agrees input output s {sums} {row} {t} p q r u e =
    sym (ap (λ (v : Sums). v.x) p ∙ ap (λ (v : List Float). continuous_idct v t) (q ∙ r) ∙ ap (continuous_idct (table (float_in input) 32)) u) ∙ e

pub made_agrees : (s : Segment) (output : List ℕ) {eight : List Float} → eight ≡ sets (replicate 8 (of_bits binary32 0)) 0 (eight_of s) → Begins eight (part 1 9 output) → Begins (eight_of s) (part 1 9 output)
made_agrees s output p b = subst (λ (v : List Float). Begins v (part 1 9 output)) p b

pub added_agrees : (output : List ℕ) {a b : Option Segment} → a ≡ b → MadeAgrees b output → MadeAgrees a output
added_agrees output p m = subst (λ (v : Option Segment). MadeAgrees v output) (sym p) m

pub segment_agrees : (input output : List ℕ) {g : List Float} {a : Option Segment} (high : Bool) → g ≡ table (float_in input) 8
    → a ≡ add_segment (get_or g 0 nan) (get_or g 1 nan) (get_or g 2 nan) (get_or g 3 nan) (get_or g 4 nan) (get_or g 5 nan) (get_or g 6 nan) high → MadeAgrees a output
    → MadeAgrees (add_segment (float_in input 0) (float_in input 1) (float_in input 2) (float_in input 3) (float_in input 4) (float_in input 5) (float_in input 6) high) output
unfolding table
segment_agrees input output {g} {a} high p q m =
    subst (λ (v : Option Segment). MadeAgrees v output)
    (q ∙ ap (λ (h : List Float). add_segment (get_or h 0 nan) (get_or h 1 nan) (get_or h 2 nan) (get_or h 3 nan) (get_or h 4 nan) (get_or h 5 nan) (get_or h 6 nan) high) p) m

-- the path of a case, and its length
pub path_is : (input : List ℕ) {p : List Float} → p ≡ table (float_in input) 256 → take (length input) p ≡ path_in input
path_is input e = ap (take (length input)) e

pub long_enough : (input : List ℕ) (n m : ℕ) (p : List Float) → p ≡ table (float_in input) 256 → m ≤ n → n ≤ 256 → m ≤ length (take n p)
long_enough input n m p e h l =
    let k : length p ≡ 256 = ap length e ∙ length_table (float_in input) 256 in
    omega (arith, length-take n p)

pub taken : (input : List ℕ) (n : ℕ) (p : List Float) → p ≡ table (float_in input) 256 → n ≤ 256 → length (take n p) ≡ n
taken input n p e l =
    let k : length p ≡ 256 = ap length e ∙ length_table (float_in input) 256 in
    length-take-le n p (omega arith)

walked_agrees : (w : Walk) (output : List ℕ) {a : Walked} {k : ℕ} {e : List Float} → a ≡ walked_of w → a ≡ Points k → WalkedOn w (replicate 512 (f 0)) e → k ≡ length output / 3 → Begins e output → WalkAgrees w output
walked_agrees More output p q on l b = absurd (subst has_room (sym p ∙ q) tt)
  where
    has_room : Walked → Type 0
    has_room Room = Unit
    has_room (Points k) = ⊥
walked_agrees (Ended points) output p q on l b = (ap counted (sym p ∙ q) ∙ l, subst (λ (v : List Float). Begins v output) on b)
  where
    counted : Walked → ℕ
    counted Room = 0
    counted (Points k) = k

-- a walk with room: as many points as the answer says, and the cells that are written
pub walk_agrees : (input output : List ℕ) {p : List Float} {a : Walked} {k : ℕ} {e : List Float} → p ≡ path_in input → a ≡ walked_of (walk_in 170 p) → a ≡ Points k → WalkedOn (walk_in 170 p) (replicate 512 (f 0)) e → k ≡ length output / 3 → Begins e output → WalkAgrees (walk_in 170 (path_in input)) output
walk_agrees input output {p} {a} {k} {e} t q r on l b = subst (λ (v : List Float). WalkAgrees (walk_in 170 v) output) t (walked_agrees (walk_in 170 p) output q r on l b)

-- the channels of a case before it is drawn
pub from_channels : (n : ℕ) (before : List ℕ) {z0 z1 z2 : List Float} → z0 ≡ table (float_in (part 0 n before)) 64 → z1 ≡ table (float_in (part n (2 * n) before)) 64 → z2 ≡ table (float_in (part (2 * n) (3 * n) before)) 64 → three z0 z1 z2 ≡ channels_in n before
from_channels n before p q r = λ i. three (p i) (q i) (r i)

-- and after it
pub drawn_agrees : (t : Table) (y x0 n : ℕ) (before after : List ℕ) {r : DrawAnswer} {a z : Channels} → a ≡ channels_in n before → leaves r z ≡ draw_of t bare y x0 n a → ChannelsAgree n z after → DrawAgrees t y x0 n before after
drawn_agrees t y x0 n before after {r} {a} {z} p q c = subst (λ (v : DrawOutcome). ChannelsAgree n v.channels after) (q ∙ ap (draw_of t bare y x0 n) p) c

-- a case of drawing: its table and channels are where its first words say
module _ (input output : List ℕ) (y x0 n : ℕ) where
  -- with m segments, e entries and height h, the segments being s
  abbrev Cased : ℕ → ℕ → ℕ → List Float → Type 0
  Cased m e h s =
      DrawAgrees (table_of s (get_or input 0 0) (part (6 + 8 * m) (6 + 8 * m + e) input) (get_or input 1 0) (part (6 + 8 * m + e) (6 + 8 * m + e + h + 1) input) (get_or input 2 0)) y x0 n
      (part (6 + 8 * m + e + h + 1) (length input) input) output

  pub case_agrees : {m e h : ℕ} {s : List Float} → m ≡ get_or input 0 0 → e ≡ get_or input 1 0 → h ≡ get_or input 2 0 → s ≡ table (float_in (part 6 (6 + 8 * m) input)) 512 → Cased m e h s
      → DrawAgrees (table_in input) y x0 n (part (starts_end input) (length input) input) output
  case_agrees {m} {e} {h} {s} p q r t d =
      subst (λ (k : ℕ). Cased k (get_or input 1 0) (get_or input 2 0) (table (float_in (part 6 (6 + 8 * k) input)) 512)) p
      (subst (λ (k : ℕ). Cased m k (get_or input 2 0) (table (float_in (part 6 (6 + 8 * m) input)) 512)) q
      (subst (λ (k : ℕ). Cased m e k (table (float_in (part 6 (6 + 8 * m) input)) 512)) r (subst (Cased m e h) t d)))

-- Assumes nothing.
