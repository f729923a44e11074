-- Laws of buffers that are filled from the front with the numbers of a file, and of the whole file.
use mathlib.Core.Path.{◌≡◌, refl, sym, ap, ◌∙◌}
use mathlib.Core.Bool.{false}
use mathlib.Core.List.{List, [], ◌∷◌, ◌++◌, map, append-nil}
use Prim.Native.Nat.{ℕ, zero, suc, ◌+◌, ◌*◌, ◌^◌, ◌≤◌, ◌<◌}
use native.Mathlib.Nat.{not-suc-le-zero, le_of_suc-le-suc}
use native.Mathlib.Numerals.{add-one}
use native.Mathlib.Omega.{arith}
use lib.ListN.{length, take, drop, set, get_or, length-map, get_or-map, drop_of_length-le}
use lib.Seq.{take-length}
use lib.IntN.{ℤ}
use lib.Signed.{mag}
use lib.Ieee.{Float}
use borrow.Author.Tests.{leb-false}
use Rattle.codes.specs.declared.Code.TheVariants.{Coord}
use Rattle.list.specs.List.{ListRooms, got}
use Rattle.list.specs.Steps.{f32_of}
use Rattle.read_steps.specs.Steps.{Front}
use Rattle.reader.specs.Rest.{ListLeft}
use Rattle.read_list.specs.Answer.{done}
use Rattle.writer.specs.Write.{first_fault}
use Rattle.write_judge.specs.Verdict.{Fine}
use Rattle.little.specs.Little.{numbers_in, signed_in}
use Rattle.little.proofs.Little.{numbers_length}
use Rattle.trace.specs.Trace.{starts_from, part, number_checks}
use Rattle.trace.specs.Read.{splines_in, points_in, misplaced, described_in}
use Rattle.trace.proofs.Checks.{fine_each, part_length}
use Rattle.trace_load.specs.Steps.{start_in, Loadable, Loaded}

module _ {A : Type 0} where
  -- the first i values stand in front
  fill_suc : (vs d : List A) (z : A) (i : ℕ) → i < length vs → i < length d → set (take i vs ++ drop i d) i (get_or vs i z) ≡ take (suc i) vs ++ drop (suc i) d
  fill_suc [] d z i h g = absurd (not-suc-le-zero h)
  fill_suc (v ∷ vs) [] z i h g = absurd (not-suc-le-zero g)
  fill_suc (v ∷ vs) (x ∷ d) z zero h g = refl
  fill_suc (v ∷ vs) (x ∷ d) z (suc i) h g = ap (λ (t : List A). v ∷ t) (fill_suc vs d z i (le_of_suc-le-suc h) (le_of_suc-le-suc g))

  -- one more
  pub front_more : (vs old new : List A) (z v : A) (i : ℕ) → i < length vs → i < length old → v ≡ get_or vs i z → new ≡ take i vs ++ drop i old
      → set new i v ≡ take (i + 1) vs ++ drop (i + 1) old
  front_more vs old new z v i h g e is = rw (is, e, add-one) (fill_suc vs old z i h g)

  -- all of them
  pub front_all : (vs old new : List A) (i : ℕ) → length vs ≡ i → new ≡ take i vs ++ drop i old → Front vs old new
  front_all vs old new i e is = rw (← e, take-length) at is

-- the part is in the file
pub held_length : (bytes : List ℕ) (from n : ℕ) → 4 * (from + n) ≤ length bytes → length (part from n (numbers_in bytes)) ≡ n
held_length bytes from n h = part_length from n (numbers_in bytes) (omega (arith, numbers_length bytes))

-- a turn of the loop that loads, and its end
module _ {A : Type 0} (meant : ℕ → A) (bytes : List ℕ) (old new : List A) (i : ℕ) where
  abbrev Values : List A
  Values = map meant (numbers_in bytes)

  pub turn_loaded : (u : ℕ) (v : A) → length bytes ≡ 4 * length old → i < length old → u ≡ get_or (numbers_in bytes) i 0 → v ≡ meant u → new ≡ take i Values ++ drop i old
      → set new i v ≡ take (i + 1) Values ++ drop (i + 1) old
  turn_loaded u v long h e t is =
      let at : get_or Values i (meant 0) ≡ meant u = get_or-map meant (numbers_in bytes) i 0 ∙ ap meant (sym e) in
      front_more Values old new (meant 0) v i (omega (arith, length-map (numbers_in bytes) meant, numbers_length bytes)) h (t ∙ sym at) is

  pub end_loaded : length bytes ≡ 4 * length old → i ≤ length old → length old ≤ i → new ≡ take i Values ++ drop i old → new ≡ Values
  end_loaded long h g is =
      let k : length Values ≡ i = omega (arith, length-map (numbers_in bytes) meant, numbers_length bytes) in
      let s : new ≡ Values ++ drop (length Values) old = front_all Values old new i k is in
      let q : length old ≤ length Values = omega arith in
      s ∙ rw (drop_of_length-le old q, append-nil)

-- what is put into the cells of a slice stands in the front of the buffer
pub front_loaded : {A : Type 0} (meant : ℕ → A) (bytes slice : List ℕ) (from n : ℕ) (old new : List A) → 4 * (from + n) ≤ length bytes
    → numbers_in slice ≡ part from n (numbers_in bytes) → new ≡ map meant (numbers_in slice) → Front (map meant (part from n (numbers_in bytes))) old (new ++ drop n old)
front_loaded {A} meant bytes slice from n old new held e is =
    let k : length (map meant (part from n (numbers_in bytes))) ≡ n = length-map (part from n (numbers_in bytes)) meant ∙ held_length bytes from n held in
    ap (λ (t : List A). t ++ drop n old) (is ∙ ap (map meant) e) ∙ ap (λ (m : ℕ). map meant (part from n (numbers_in bytes)) ++ drop m old) (sym k)

pub map_same : (us : List ℕ) → map (λ (u : ℕ). u) us ≡ us
map_same [] = refl
map_same (u ∷ us) = ap (λ (t : List ℕ). u ∷ t) (map_same us)

-- a start that was judged is in range
pub placed_small : (u : ℕ) → misplaced u ≡ false → mag (signed_in u) < 2 ^ 23
unfolding misplaced
placed_small u e = leb-false (2 ^ 23) (mag (signed_in u)) e

pub placed_at : (bytes slice : List ℕ) (from n i : ℕ) → 4 * (from + n) ≤ length bytes → i < n → numbers_in slice ≡ part from n (numbers_in bytes)
    → first_fault (number_checks misplaced Coord from (part from n (numbers_in bytes))) ≡ Fine → misplaced (get_or (numbers_in slice) i 0) ≡ false
placed_at bytes slice from n i held h e fine =
    let k = held_length bytes from n held in
    ap (λ (us : List ℕ). misplaced (get_or us i 0)) e ∙ fine_each misplaced Coord (part from n (numbers_in bytes)) 0 from fine i (omega arith)

-- ---- the whole file

-- what was loaded is what the file says
map_starts : (us : List ℕ) → map start_in us ≡ map f32_of (map signed_in us)
unfolding start_in
map_starts [] = refl
map_starts (u ∷ us) = ap (λ (t : List Float). f32_of (signed_in u) ∷ t) (map_starts us)

pub all_loaded : (h : ℕ) (bytes : List ℕ) (rooms : ListRooms) (s p : ℕ) (a : ℤ) (n n' : List ℕ) (f f' : List Float) (d d' c c' : List ℤ)
    → Loadable bytes h (splines_in (numbers_in bytes)) (points_in (numbers_in bytes)) rooms
    → s ≡ splines_in (numbers_in bytes) → p ≡ points_in (numbers_in bytes) → a ≡ signed_in (get_or (numbers_in bytes) 3 0)
    → Loaded (numbers_in bytes) h s p n n' f f' d d' c c'
    → ListLeft (got (described_in h (numbers_in bytes)) []) (done s p a) n n' f f' d d' c c'
unfolding described_in
all_loaded h bytes rooms s p a n n' f f' d d' c c' g is ip ia l =
    let ns = numbers_in bytes in
    let k : length (part h (splines_in ns) ns) ≡ splines_in ns = held_length bytes h (splines_in ns) (omega (arith, g.whole)) in
    let m = rw (is, ip) at l in
    (rw (is, ip, ia, k, g.sums), m.counts, rw (map_starts (part (starts_from h (splines_in ns)) (2 * splines_in ns) ns)) at m.starts, m.deltas, m.coefficients)

-- Assumes nothing.
