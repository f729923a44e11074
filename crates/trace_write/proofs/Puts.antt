-- Laws of writing a file: the header and the parts, one after the other, are the file; and the answers.
use mathlib.Core.Path.{◌≡◌, refl, sym, ap, ◌∙◌}
use mathlib.Core.List.{List, [], ◌∷◌, ◌++◌, map}
use Prim.Native.Nat.{ℕ, ◌+◌, ◌-◌, ◌*◌, ◌/◌, ◌^◌, ◌≤◌, ◌<◌}
use native.Mathlib.Omega.{arith}
use lib.Dec.{ltb}
use lib.ListN.{length, replicate, length-append, length-map, length-replicate}
use lib.Seq.{sets}
use lib.IntN.{ℤ}
use lib.Ieee.{Float}
use borrow.Author.Tests.{lt-ltb, le-ltb}
use Rattle.codes.specs.declared.Code.{Code}
use Rattle.codes.specs.declared.Code.TheVariants.{Coord, Room, Shape}
use Rattle.shape.specs.Shape.{points_of}
use Rattle.shape.specs.Description.{Description}
use Rattle.list.specs.List.{described}
use Rattle.writer.specs.Write.{Check, check, first_fault, misshapen, whole_of, WriteOutcome, leaves, outcome}
use Rattle.write_judge.specs.Verdict.{Fine, Fault}
use Rattle.write_judge.proofs.Checks.{fails, passes, passed, faults_before, fine_before, both_fine, agreed}
use Rattle.write_steps.proofs.Stores.{zeros_after}
use Rattle.little.specs.Little.{bytes_of, unsigned_of}
use Rattle.little.proofs.Little.{bytes_length}
use Rattle.trace.specs.Trace.{Layout, header_of, file_of, starts_from, coefficients_from, numbers_of, number_checks}
use Rattle.trace.specs.Write.{misfit, header_checks, value_checks, write_checks}
use Rattle.trace_fit.proofs.Fits.{header_held}
use Rattle.trace_put.specs.Steps.{start_number, part_numbers}
use Rattle.trace_put.proofs.Puts.{put_behind}
use Rattle.trace_write.specs.Steps.{layout_with, written_by}
use Rattle.writer.specs.WriteAnswer.{Done, Refused}

-- ---- the whole file

starts_are : (ss : List Float) → map start_number ss ≡ map unsigned_of (map whole_of ss)
unfolding start_number
starts_are [] = refl
starts_are (x ∷ ss) = ap (λ (t : List ℕ). unsigned_of (whole_of x) ∷ t) (starts_are ss)

-- a file of any version, whose header has so many numbers as its layout says
module _ (v : Layout) (more ns : List ℕ) (ss : List Float) (ds cs : List ℤ) (a : ℤ) (long : v.header ≡ length (header_of v more (length ns) (points_of ns) a)) where
  abbrev File : List ℕ
  File = file_of v more (described a (map whole_of ss) ns ds cs)

  abbrev Header : List ℕ
  Header = header_of v more (length ns) (points_of ns) a

  pub file_put : (l o q : List ℕ) → o ≡ sets l 0 (bytes_of Header) → q ≡ sets o (4 * v.header) (bytes_of (part_numbers ns ss ds cs)) → q ≡ sets l 0 File
  unfolding file_of part_numbers
  file_put l o q x y = put_behind l o q 0 v.header Header (part_numbers ns ss ds cs) x y (omega (arith, long)) ∙ rw (starts_are ss)

  module _ (hs : length ss ≡ 2 * length ns) (hd : length ds ≡ 2 * points_of ns) (hc : length cs ≡ 128 * length ns) where
    pub file_size_lem : length File ≡ 4 * numbers_of v.header (length ns) (points_of ns)
    unfolding file_of
    file_size_lem =
        let zs = map unsigned_of (map whole_of ss) in
        let es = map unsigned_of ds in
        let bs = map unsigned_of cs in
        let k : length (Header ++ (ns ++ (zs ++ (es ++ bs)))) ≡ numbers_of v.header (length ns) (points_of ns)
        = length-append Header (ns ++ (zs ++ (es ++ bs)))
        ∙ omega (
          arith,
          long,
          length-append ns (zs ++ (es ++ bs)),
          length-append zs (es ++ bs),
          length-append es bs,
          length-map (map whole_of ss) unsigned_of,
          length-map ss whole_of,
          length-map ds unsigned_of,
          length-map cs unsigned_of,
        ) in
        bytes_length (Header ++ (ns ++ (zs ++ (es ++ bs)))) ∙ ap (λ (n : ℕ). 4 * n) k

-- ---- the answers

module _ (h : ℕ) (ns : List ℕ) (ss : List Float) (ds cs : List ℤ) where
  -- what a judged description is known to be, behind a header of h numbers
  pub record Judged : Type 0 where
    pub pairs : length ss ≡ 2 * length ns
    pub points : length ds ≡ 2 * points_of ns
    pub rows : length cs ≡ 128 * length ns
    pub few : length ns < 2 ^ 32
    pub fewer : points_of ns < 2 ^ 32
    pub offsets : 4 * coefficients_from h (length ns) (points_of ns) < 2 ^ 32
    pub fit : first_fault (number_checks misfit Coord (starts_from h (length ns)) ss) ≡ Fine

  pub judged : first_fault (write_checks h ns ss ds cs) ≡ Fine → Judged
  unfolding write_checks value_checks
  judged e =
      let a = passed (misshapen ns ss ds cs) Shape 0 _ e in
      let s = agreed ns ss ds cs a.0 in
      let b = both_fine (header_checks h (length ns) (points_of ns)) (value_checks h (length ns) ss ds) a.1 in
      let k = header_held h (length ns) (points_of ns) b.0 in
      let d = both_fine (number_checks misfit Coord (starts_from h (length ns)) ss) _ b.1 in
      record { pairs = s.0; points = s.1; rows = s.2; few = k.0; fewer = k.1; offsets = k.2; fit = d.0 }

  -- the size that is computed
  pub size_is : Judged → 4 * (h + (131 * length ns + 2 * (length ds / 2))) ≡ 4 * numbers_of h (length ns) (points_of ns)
  size_is j = omega (arith, j.points)

  pub half_is : Judged → length ds / 2 ≡ points_of ns
  half_is j = omega (arith, j.points)

-- what is left in bytes that were cleared: by the checks of the content, the file, and how long it is
module _ (content : List Check) (file : List ℕ) (due room : ℕ) where
  abbrev judged_outcome : WriteOutcome
  judged_outcome = outcome room file (first_fault (content ++ check (ltb room due) Room 0 ∷ []))

  pub left_fault : (c : Code) (p : ℕ) (l : List ℕ) → l ≡ replicate room 0 → first_fault content ≡ Fault c p → leaves (Refused c p) l ≡ judged_outcome
  left_fault c p l z e = rw (faults_before content (check (ltb room due) Room 0 ∷ []) c p e, z)

  module _ (fine : first_fault content ≡ Fine) where
    pub left_room : (l : List ℕ) → l ≡ replicate room 0 → length l < due → leaves (Refused Room 0) l ≡ judged_outcome
    left_room l z h =
        let k : length l ≡ room = ap length z ∙ length-replicate {A = ℕ} room 0 in
        let t = fails (ltb room due) Room 0 [] (lt-ltb room due (omega arith)) in
        rw (fine_before content (check (ltb room due) Room 0 ∷ []) fine, t, z)

    pub left_done : (l l' : List ℕ) (n : ℕ) → l ≡ replicate room 0 → n ≡ due → length file ≡ due → n ≤ length l → l' ≡ sets l 0 file → leaves (Done n) l' ≡ judged_outcome
    unfolding first_fault
    left_done l l' n z e long h is =
        let k : length l ≡ room = ap length z ∙ length-replicate {A = ℕ} room 0 in
        let size : length file ≡ n = long ∙ sym e in
        let t = passes (ltb room due) Room 0 [] (le-ltb room due (omega arith)) in
        let w : l' ≡ file ++ replicate (room - length file) 0 = is ∙ ap (λ (o : List ℕ). sets o 0 file) z ∙ zeros_after room file (omega arith) in
        rw (fine_before content (check (ltb room due) Room 0 ∷ []) fine, t, ← size, w)

-- how long a header is that has more numbers behind its first eight
pub long_with : (version : ℕ) (more : List ℕ) (s p : ℕ) (a : ℤ) → 8 + length more ≡ length (header_of (layout_with version more) more s p a)
long_with version more s p a = omega arith

-- what is left for a description, by the checks before that of the room
module _ (version : ℕ) (more : List ℕ) (d : Description) (a : ℤ) (checks : List Check) (room : ℕ) where
  abbrev Long : ℕ
  Long = 8 + length more

  abbrev Due : ℕ
  Due = 4 * numbers_of Long (length d.counts) (points_of d.counts)

  abbrev Written : List ℕ
  Written = file_of (layout_with version more) more (described a (map whole_of d.starts) d.counts d.deltas d.coefficients)

  pub answer_fault : (c : Code) (p : ℕ) (l : List ℕ) → l ≡ replicate room 0 → first_fault checks ≡ Fault c p → leaves (Refused c p) l ≡ written_by checks version more d a room
  answer_fault = left_fault checks Written Due room

  module _ (fine : first_fault checks ≡ Fine) (j : Judged Long d.counts d.starts d.deltas d.coefficients) where
    pub answer_room : (l : List ℕ) → l ≡ replicate room 0 → length l < 4 * (Long + (131 * length d.counts + 2 * (length d.deltas / 2)))
        → leaves (Refused Room 0) l ≡ written_by checks version more d a room
    answer_room l z h = left_room checks Written Due room fine l z (omega (arith, size_is Long d.counts d.starts d.deltas d.coefficients j))

    pub answer_done : (l l' : List ℕ) (n : ℕ) → l ≡ replicate room 0 → n ≡ 4 * (Long + (131 * length d.counts + 2 * (length d.deltas / 2))) → n ≤ length l → l' ≡ sets l 0 Written
        → leaves (Done n) l' ≡ written_by checks version more d a room
    answer_done l l' n z e h is =
        left_done checks Written Due room fine l l' n z (e ∙ size_is Long d.counts d.starts d.deltas d.coefficients j)
        (file_size_lem (layout_with version more) more d.counts d.starts d.deltas d.coefficients a (long_with version more (length d.counts) (points_of d.counts) a) j.pairs j.points j.rows) h is

-- Assumes nothing.
