-- Writing and reading undo each other: the file of a description gives it back, and what is read is written as the same bytes.
use mathlib.Core.Path.{◌≡◌, refl, sym, ap, ◌∙◌}
use mathlib.Core.Bool.{true, false}
use mathlib.Core.List.{List, [], ◌∷◌, ◌++◌, map}
use Prim.Native.Nat.{ℕ, suc, ◌+◌, ◌*◌, ◌/◌, ◌^◌, ◌≤◌, ◌<◌}
use native.Mathlib.Omega.{arith}
use lib.ListN.{length, take, drop, get_or, length-map, length-drop, take-append-drop}
use lib.Seq.{take_at, drop_at, drop-drop, drop-cons, take_all}
use lib.IntN.{ℤ, pos, negsuc, nat_abs}
use lib.Signed.{mag}
use lib.Ieee.{Float}
use borrow.Author.Tests.{le-ltb, lt-leb, leb-false, eq-eqb}
use Rattle.codes.specs.declared.Code.TheVariants.{Coord, Delta, Shape}
use Rattle.shape.specs.Shape.{points_of, shaped}
use Rattle.shape.proofs.Shape.{is_shaped}
use Rattle.list.specs.List.{ListRooms, got, Described, described}
use Rattle.list.specs.Steps.{f32_of}
use Rattle.reader.specs.Read.{ReadOutcome}
use Rattle.reader.specs.Read as reading
use Rattle.read_list.specs.Answer.{done}
use Rattle.read_list.proofs.Answers.{same_done}
use Rattle.writer.specs.Write.{first_fault, whole_of}
use Rattle.write_judge.specs.Verdict.{Fine}
use Rattle.write_judge.proofs.Checks.{passed, both_fine}
use Rattle.write_laws.specs.Floats.{Floats}
use Rattle.roundtrip.specs.Enough.{Enough}
use Rattle.little.specs.Little.{bytes_of, numbers_in, unsigned_of, signed_in, Bytes, Numbers, Signeds}
use Rattle.little.proofs.Little.{numbers_back, bytes_back, numbers_length, number_small, signed_unsigned, unsigned_signed, unsigned_small}
use Rattle.trace.specs.Trace.{Layout, version1, starts_from, deltas_from, coefficients_from, numbers_of, header_of, file_numbers, file_of, part, wild, number_checks}
use Rattle.trace.specs.Read.{splines_in, points_in, misplaced, too_wild, offset_checks, body_checks, read_checks, tight, whole_checks, described_in, read_trace}
use Rattle.trace.specs.Write.{misfit, header_checks, value_checks, write_checks}
use Rattle.trace.proofs.Checks.{part_at}
use Rattle.trace.proofs.Starts.{fit_small, fit_back, whole_fit, whole_back}
use Rattle.trace_judge.proofs.Faults.{held_length, offsets_fine, length_fine, parts_rest, body_rest, judge_body}
use Rattle.trace_fit.proofs.Fits.{header_fine, judge_rest, values_rest}
use Rattle.trace_read.proofs.Loads.{whole_fine, judged_fine}
use Rattle.trace_write.proofs.Puts.{judged, file_size_lem}
use Rattle.trace_laws.specs.Behind.{number, S, P, LaidBy, TamedBy}
use Rattle.trace_laws.specs.Refusals.{Opened, Laid}
use Rattle.trace_laws.proofs.Clean.{right, due_is, fine_tamed, starts_fine, deltas_fine}

-- ---- parts of the numbers of a file

module _ (H ns zs ds cs : List ℕ) (h s p : ℕ) (eh : length H ≡ h) (es : length ns ≡ s) (ez : length zs ≡ 2 * s) (ed : length ds ≡ 2 * p) (ec : length cs ≡ 128 * s) where
  abbrev All : List ℕ
  All = H ++ (ns ++ (zs ++ (ds ++ cs)))

  behind_header : drop h All ≡ ns ++ (zs ++ (ds ++ cs))
  behind_header = drop_at H (ns ++ (zs ++ (ds ++ cs))) h eh

  behind_counts : drop (starts_from h s) All ≡ zs ++ (ds ++ cs)
  behind_counts = sym (drop-drop s h All) ∙ ap (drop s) behind_header ∙ drop_at ns (zs ++ (ds ++ cs)) s es

  behind_starts : drop (deltas_from h s) All ≡ ds ++ cs
  behind_starts =
      let k : deltas_from h s ≡ starts_from h s + 2 * s = omega arith in
      rw k (sym (drop-drop (2 * s) (starts_from h s) All) ∙ ap (drop (2 * s)) behind_counts ∙ drop_at zs (ds ++ cs) (2 * s) ez)

  behind_deltas : drop (coefficients_from h s p) All ≡ cs
  behind_deltas =
      let k : coefficients_from h s p ≡ deltas_from h s + 2 * p = omega arith in
      rw k (sym (drop-drop (2 * p) (deltas_from h s) All) ∙ ap (drop (2 * p)) behind_starts ∙ drop_at ds cs (2 * p) ed)

  pub counts_part : part h s All ≡ ns
  counts_part = ap (take s) behind_header ∙ take_at ns (zs ++ (ds ++ cs)) s es

  pub starts_part : part (starts_from h s) (2 * s) All ≡ zs
  starts_part = ap (take (2 * s)) behind_counts ∙ take_at zs (ds ++ cs) (2 * s) ez

  pub deltas_part : part (deltas_from h s) (2 * p) All ≡ ds
  deltas_part = ap (take (2 * p)) behind_starts ∙ take_at ds cs (2 * p) ed

  pub coefficients_part : part (coefficients_from h s p) (128 * s) All ≡ cs
  coefficients_part = ap (take (128 * s)) behind_deltas ∙ take_all (128 * s) cs (omega arith)

-- the parts make up what follows the header
pub parts_make : (N : List ℕ) (h s p : ℕ) → length N ≡ numbers_of h s p
    → part h s N ++ (part (starts_from h s) (2 * s) N ++ (part (deltas_from h s) (2 * p) N ++ part (coefficients_from h s p) (128 * s) N)) ≡ drop h N
parts_make N h s p e =
    let k1 : deltas_from h s ≡ starts_from h s + 2 * s = omega arith in
    let k2 : coefficients_from h s p ≡ deltas_from h s + 2 * p = omega arith in
    let c : part (coefficients_from h s p) (128 * s) N ≡ drop (coefficients_from h s p) N = take_all (128 * s) (drop (coefficients_from h s p) N) (omega (arith, length-drop (coefficients_from h s p) N)) in
    let d : part (deltas_from h s) (2 * p) N ++ part (coefficients_from h s p) (128 * s) N ≡ drop (deltas_from h s) N
    = rw (c, k2) (ap (λ (t : List ℕ). take (2 * p) (drop (deltas_from h s) N) ++ t) (sym (drop-drop (2 * p) (deltas_from h s) N)) ∙ take-append-drop (2 * p) (drop (deltas_from h s) N)) in
    let f : part (starts_from h s) (2 * s) N ++ (part (deltas_from h s) (2 * p) N ++ part (coefficients_from h s p) (128 * s) N) ≡ drop (starts_from h s) N
    = ap (λ (t : List ℕ). part (starts_from h s) (2 * s) N ++ t) d
    ∙ rw k1 (ap (λ (t : List ℕ). take (2 * s) (drop (starts_from h s) N) ++ t) (sym (drop-drop (2 * s) (starts_from h s) N)) ∙ take-append-drop (2 * s) (drop (starts_from h s) N)) in
    ap (λ (t : List ℕ). part h s N ++ t) f
    ∙ ap (λ (t : List ℕ). take s (drop h N) ++ t) (sym (drop-drop s h N)) ∙ take-append-drop s (drop h N)

-- ---- numbers and signed numbers, list by list

numbers_append : (xs ys : List ℕ) → Numbers xs → Numbers ys → Numbers (xs ++ ys)
numbers_append [] ys a b = b
numbers_append (x ∷ xs) ys a b = (a.0, numbers_append xs ys a.1 b)

signeds_numbers : (zs : List ℤ) → Signeds zs → Numbers (map unsigned_of zs)
signeds_numbers [] s = tt
signeds_numbers (z ∷ zs) s = (unsigned_small z s.0, signeds_numbers zs s.1)

signeds_back : (zs : List ℤ) → Signeds zs → map signed_in (map unsigned_of zs) ≡ zs
signeds_back [] s = refl
signeds_back (z ∷ zs) s = rw (signed_unsigned z s.0, signeds_back zs s.1)

-- numbers of a file that are in 32 bits
abbrev Small : List ℕ → Type 0
Small ns = (i : ℕ) → i < length ns → get_or ns i 0 < 2 ^ 32

numbers_again : (us : List ℕ) → Small us → map unsigned_of (map signed_in us) ≡ us
numbers_again [] s = refl
numbers_again (u ∷ us) s = rw (unsigned_signed u (s 0 (omega arith)), numbers_again us (λ i h. s (suc i) (omega arith)))

-- starts that can be written
starts_signeds : (k : ℕ) (ss : List Float) → first_fault (number_checks misfit Coord k ss) ≡ Fine → Signeds (map whole_of ss)
unfolding number_checks
starts_signeds k [] e = tt
starts_signeds k (x ∷ ss) e =
    let t = passed (misfit x) Coord (4 * k) (number_checks misfit Coord (suc k) ss) e in
    (omega (arith, fit_small x t.0), starts_signeds (suc k) ss t.1)

starts_placed : (k j : ℕ) (ss : List Float) → first_fault (number_checks misfit Coord k ss) ≡ Fine → first_fault (number_checks misplaced Coord j (map unsigned_of (map whole_of ss))) ≡ Fine
unfolding number_checks first_fault misplaced
starts_placed k j [] e = refl
starts_placed k j (x ∷ ss) e =
    let t = passed (misfit x) Coord (4 * k) (number_checks misfit Coord (suc k) ss) e in
    let m = fit_small x t.0 in
    rw (signed_unsigned (whole_of x) (omega arith), lt-leb (2 ^ 23) (mag (whole_of x)) m) (starts_placed (suc k) (suc j) ss t.1)

pub starts_back : (k : ℕ) (ss : List Float) → Floats ss → first_fault (number_checks misfit Coord k ss) ≡ Fine → map f32_of (map whole_of ss) ≡ ss
unfolding number_checks
starts_back k [] f e = refl
starts_back k (x ∷ ss) f e =
    let t = passed (misfit x) Coord (4 * k) (number_checks misfit Coord (suc k) ss) e in
    rw (fit_back x f.0 t.0, starts_back (suc k) ss f.1 t.1)

-- double deltas that can be written
mag_of : (z : ℤ) → nat_abs z < 2 ^ 30 → mag z < 2 ^ 31
mag_of (pos n) h = omega arith
mag_of (negsuc n) h = omega arith

deltas_signeds : (k : ℕ) (ds : List ℤ) → first_fault (number_checks wild Delta k ds) ≡ Fine → Signeds ds
unfolding number_checks
deltas_signeds k [] e = tt
deltas_signeds k (d ∷ ds) e =
    let t = passed (wild d) Delta (4 * k) (number_checks wild Delta (suc k) ds) e in
    (mag_of d (leb-false (2 ^ 30) (nat_abs d) t.0), deltas_signeds (suc k) ds t.1)

deltas_tame : (k j : ℕ) (ds : List ℤ) → first_fault (number_checks wild Delta k ds) ≡ Fine → first_fault (number_checks too_wild Delta j (map unsigned_of ds)) ≡ Fine
unfolding number_checks first_fault too_wild
deltas_tame k j [] e = refl
deltas_tame k j (d ∷ ds) e =
    let t = passed (wild d) Delta (4 * k) (number_checks wild Delta (suc k) ds) e in
    rw (signed_unsigned d (mag_of d (leb-false (2 ^ 30) (nat_abs d) t.0)), t.0) (deltas_tame (suc k) (suc j) ds t.1)

-- what was read can be written
placed_fit : (k j : ℕ) (us : List ℕ) → first_fault (number_checks misplaced Coord k us) ≡ Fine → first_fault (number_checks misfit Coord j (map f32_of (map signed_in us))) ≡ Fine
unfolding number_checks first_fault misplaced
placed_fit k j [] e = refl
placed_fit k j (u ∷ us) e =
    let t = passed (misplaced u) Coord (4 * k) (number_checks misplaced Coord (suc k) us) e in
    rw (whole_fit (signed_in u) (leb-false (2 ^ 23) (mag (signed_in u)) t.0)) (placed_fit (suc k) (suc j) us t.1)

placed_back : (k : ℕ) (us : List ℕ) → first_fault (number_checks misplaced Coord k us) ≡ Fine → map whole_of (map f32_of (map signed_in us)) ≡ map signed_in us
unfolding number_checks misplaced
placed_back k [] e = refl
placed_back k (u ∷ us) e =
    let t = passed (misplaced u) Coord (4 * k) (number_checks misplaced Coord (suc k) us) e in
    rw (whole_back (signed_in u) (leb-false (2 ^ 23) (mag (signed_in u)) t.0), placed_back (suc k) us t.1)

tame_written : (k j : ℕ) (us : List ℕ) → first_fault (number_checks too_wild Delta k us) ≡ Fine → first_fault (number_checks wild Delta j (map signed_in us)) ≡ Fine
unfolding number_checks first_fault too_wild
tame_written k j [] e = refl
tame_written k j (u ∷ us) e =
    let t = passed (wild (signed_in u)) Delta (4 * k) (number_checks too_wild Delta (suc k) us) e in
    rw t.0 (tame_written (suc k) (suc j) us t.1)

-- ---- the file of a description is read as it, in a version of any layout

module _ (v : Layout) (more ns : List ℕ) (ss : List Float) (ds cs : List ℤ) (a : ℤ) (long : v.header ≡ length (header_of v more (length ns) (points_of ns) a)) (fine : first_fault (write_checks v.header ns ss ds cs) ≡ Fine)
    (nv : v.version < 2 ^ 32) (nm : Numbers more) (nn : Numbers ns) (nc : Signeds cs) (na : mag a < 2 ^ 31) where
  abbrev h : ℕ
  h = v.header

  abbrev Whole : Described
  Whole = described a (map whole_of ss) ns ds cs

  abbrev Nums : List ℕ
  Nums = file_numbers v more Whole

  abbrev File : List ℕ
  File = file_of v more Whole

  written_tame : first_fault (number_checks wild Delta (deltas_from h (length ns)) ds) ≡ Fine
  unfolding write_checks value_checks
  written_tame =
      let x = passed _ Shape 0 _ fine in
      let b = both_fine (header_checks h (length ns) (points_of ns)) (value_checks h (length ns) ss ds) x.1 in
      (both_fine (number_checks misfit Coord (starts_from h (length ns)) ss) _ b.1).1

  pub numbers_are : numbers_in File ≡ Nums
  unfolding file_of
  numbers_are =
      let j = judged h ns ss ds cs fine in
      let o = j.offsets in
      let rest = numbers_append more _ nm
      (numbers_append ns _ nn (numbers_append (map unsigned_of (map whole_of ss)) _ (signeds_numbers (map whole_of ss) (starts_signeds (starts_from h (length ns)) ss j.fit))
      (numbers_append (map unsigned_of ds) _ (signeds_numbers ds (deltas_signeds (deltas_from h (length ns)) ds written_tame)) (signeds_numbers cs nc)))) in
      numbers_back Nums (nv, (j.few, (j.fewer, (unsigned_small a na, (omega arith, (omega arith, (omega arith, (o, rest))))))))

  pub size_is : length File ≡ 4 * numbers_of h (length ns) (points_of ns)
  size_is = let j = judged h ns ss ds cs fine in file_size_lem v more ns ss ds cs a long j.pairs j.points j.rows

  zs_length : length (map unsigned_of (map whole_of ss)) ≡ 2 * length ns
  zs_length = length-map (map whole_of ss) unsigned_of ∙ length-map ss whole_of ∙ (judged h ns ss ds cs fine).pairs

  ds_length : length (map unsigned_of ds) ≡ 2 * points_of ns
  ds_length = length-map ds unsigned_of ∙ (judged h ns ss ds cs fine).points

  cs_length : length (map unsigned_of cs) ≡ 128 * length ns
  cs_length = length-map cs unsigned_of ∙ (judged h ns ss ds cs fine).rows

  abbrev Header : List ℕ
  Header = header_of v more (length ns) (points_of ns) a

  counts_are : part h (length ns) Nums ≡ ns
  counts_are = counts_part Header ns (map unsigned_of (map whole_of ss)) (map unsigned_of ds) (map unsigned_of cs) h (length ns) (points_of ns) (sym long) refl zs_length ds_length cs_length

  starts_are : part (starts_from h (length ns)) (2 * length ns) Nums ≡ map unsigned_of (map whole_of ss)
  starts_are = starts_part Header ns (map unsigned_of (map whole_of ss)) (map unsigned_of ds) (map unsigned_of cs) h (length ns) (points_of ns) (sym long) refl zs_length ds_length cs_length

  deltas_are : part (deltas_from h (length ns)) (2 * points_of ns) Nums ≡ map unsigned_of ds
  deltas_are = deltas_part Header ns (map unsigned_of (map whole_of ss)) (map unsigned_of ds) (map unsigned_of cs) h (length ns) (points_of ns) (sym long) refl zs_length ds_length cs_length

  coefficients_are : part (coefficients_from h (length ns) (points_of ns)) (128 * length ns) Nums ≡ map unsigned_of cs
  coefficients_are = coefficients_part Header ns (map unsigned_of (map whole_of ss)) (map unsigned_of ds) (map unsigned_of cs) h (length ns) (points_of ns) (sym long) refl zs_length ds_length cs_length

  pub offsets_so : first_fault (offset_checks h Nums) ≡ Fine
  offsets_so =
      let s = length ns in
      let p = points_of ns in
      sym (offsets_fine h Nums s p refl refl (right (4 * h) (4 * h) refl) (right (4 * starts_from h s) (4 * starts_from h s) refl)
      (right (4 * deltas_from h s) (4 * deltas_from h s) refl) (right (4 * coefficients_from h s p) (4 * coefficients_from h s p) refl))

  pub body_so : first_fault (body_checks h (length File) Nums) ≡ Fine
  body_so =
      let j = judged h ns ss ds cs fine in
      let s = length ns in
      let p = points_of ns in
      let z = size_is in
      let lengths = length_fine (length File) (4 * numbers_of h s p) (omega arith) (omega arith) in
      let starts : first_fault (number_checks misplaced Coord (starts_from h s) (part (starts_from h s) (2 * s) Nums)) ≡ Fine = rw starts_are (starts_placed _ (starts_from h s) ss j.fit) in
      let deltas : first_fault (number_checks too_wild Delta (deltas_from h s) (part (deltas_from h s) (2 * p) Nums)) ≡ Fine = rw deltas_are (deltas_tame _ (deltas_from h s) ds written_tame) in
      sym (body_rest h (length File) Nums s p refl refl (sym lengths))
      ∙ sym (parts_rest h s p Nums (eq-eqb _ _ (ap points_of counts_are)) starts) ∙ deltas

  pub described_so : described_in h Nums ≡ Whole
  unfolding described_in
  described_so =
      let j = judged h ns ss ds cs fine in
      rw (
        starts_are,
        counts_are,
        deltas_are,
        coefficients_are,
        signed_unsigned a na,
        signeds_back (map whole_of ss) (starts_signeds _ ss j.fit),
        signeds_back ds (deltas_signeds (deltas_from h (length ns)) ds written_tame),
        signeds_back cs nc,
      )

  pub roomy : (rooms : ListRooms) → Enough rooms ns ss ds cs → tight rooms (length ns) (points_of ns) ≡ false
  unfolding tight
  roomy rooms e =
      let j = judged h ns ss ds cs fine in
      rw (
        le-ltb rooms.counts (length ns) e.counts,
        le-ltb rooms.starts (2 * length ns) (omega (arith, e.starts, j.pairs)),
        le-ltb rooms.coefficients (128 * length ns) (omega (arith, e.coefficients, j.rows)),
        le-ltb rooms.deltas (2 * points_of ns) (omega (arith, e.deltas, j.points)),
      )

-- version 1
module _ (ns : List ℕ) (ss : List Float) (ds cs : List ℤ) (a : ℤ) (fine : first_fault (write_checks 8 ns ss ds cs) ≡ Fine) (nn : Numbers ns) (nc : Signeds cs) (na : mag a < 2 ^ 31) where
  abbrev File1 : List ℕ
  File1 = file_of version1 [] (described a (map whole_of ss) ns ds cs)

  one_small : 1 < 2 ^ 32
  one_small = omega arith

  numbers_so : numbers_in File1 ≡ file_numbers version1 [] (described a (map whole_of ss) ns ds cs)
  numbers_so = numbers_are version1 [] ns ss ds cs a refl fine one_small tt nn nc na

  judged_so : first_fault (read_checks version1 (length File1) (numbers_in File1)) ≡ Fine
  judged_so =
      let z = size_is version1 [] ns ss ds cs a refl fine one_small tt nn nc na in
      rw numbers_so
      (sym (judge_body (length File1) _ (omega arith) refl (offsets_so version1 [] ns ss ds cs a refl fine one_small tt nn nc na)) ∙ body_so version1 [] ns ss ds cs a refl fine one_small tt nn nc na)

  pub file_is_read : (rooms : ListRooms) → Enough rooms ns ss ds cs → read_trace rooms File1 ≡ got (described a (map whole_of ss) ns ds cs) []
  file_is_read rooms e =
      let f = whole_fine rooms File1 judged_so (length ns) (points_of ns) (sym (ap splines_in numbers_so)) (sym (ap points_in numbers_so)) (roomy version1 [] ns ss ds cs a refl fine one_small tt nn nc na rooms e) in
      judged_fine rooms File1 (sym f) ∙ ap (λ (n : List ℕ). got (described_in 8 n) []) numbers_so
      ∙ ap (λ (x : Described). got x []) (described_so version1 [] ns ss ds cs a refl fine one_small tt nn nc na)

-- ---- what is read is written as the same bytes

-- the four parts of a file behind a header of h numbers
module _ (h : ℕ) (bytes : List ℕ) where
  abbrev pub ns_in : List ℕ
  ns_in = part h (S bytes) (numbers_in bytes)

  abbrev pub zs_in : List ℤ
  zs_in = map signed_in (part (starts_from h (S bytes)) (2 * S bytes) (numbers_in bytes))

  abbrev pub ds_in : List ℤ
  ds_in = map signed_in (part (deltas_from h (S bytes)) (2 * P bytes) (numbers_in bytes))

  abbrev pub cs_in : List ℤ
  cs_in = map signed_in (part (coefficients_from h (S bytes) (P bytes)) (128 * S bytes) (numbers_in bytes))

-- of a version whose header has behind its first eight numbers what the layout says, a file in which nothing was found
pub record FileFound (v : Layout) (more bytes : List ℕ) (B C : Type 0) : Type 0 where
  pub version : number bytes 0 ≡ v.version
  pub eight : 8 ≤ v.header
  pub little : v.header < 16
  pub front : drop 8 (numbers_in bytes) ≡ more ++ drop v.header (numbers_in bytes)
  pub laid : LaidBy v.header B bytes
  pub tamed : TamedBy v.header C bytes

module _ (v : Layout) (more bytes : List ℕ) (B C : Type 0) (found : FileFound v more bytes B C) (b : Bytes bytes) where
  abbrev H : ℕ
  H = v.header

  abbrev N : List ℕ
  N = numbers_in bytes

  whole : length bytes ≡ 4 * numbers_of H (S bytes) (P bytes)
  whole = found.tamed.placed.summed.whole ∙ due_is H C bytes

  many : length N ≡ numbers_of H (S bytes) (P bytes)
  many = numbers_length bytes ∙ omega (arith, whole)

  small : (from n : ℕ) → 4 * (from + n) ≤ length bytes → Small (part from n N)
  small from n h i g =
      let k = held_length bytes from n h in
      let at = part_at from n N i (omega arith) in
      omega (arith, number_small bytes (from + i) b)

  counts_length : length (part H (S bytes) N) ≡ S bytes
  counts_length = held_length bytes H (S bytes) (omega (arith, whole))

  starts_again : map unsigned_of (map signed_in (part (starts_from H (S bytes)) (2 * S bytes) N)) ≡ part (starts_from H (S bytes)) (2 * S bytes) N
  starts_again = numbers_again _ (small (starts_from H (S bytes)) (2 * S bytes) (omega (arith, whole)))

  deltas_again : map unsigned_of (map signed_in (part (deltas_from H (S bytes)) (2 * P bytes) N)) ≡ part (deltas_from H (S bytes)) (2 * P bytes) N
  deltas_again = numbers_again _ (small (deltas_from H (S bytes)) (2 * P bytes) (omega (arith, whole)))

  coefficients_again : map unsigned_of (map signed_in (part (coefficients_from H (S bytes) (P bytes)) (128 * S bytes) N)) ≡ part (coefficients_from H (S bytes) (P bytes)) (128 * S bytes) N
  coefficients_again = numbers_again _ (small (coefficients_from H (S bytes) (P bytes)) (128 * S bytes) (omega (arith, whole)))

  eight : N ≡ get_or N 0 0 ∷ get_or N 1 0 ∷ get_or N 2 0 ∷ get_or N 3 0 ∷ get_or N 4 0 ∷ get_or N 5 0 ∷ get_or N 6 0 ∷ get_or N 7 0 ∷ drop 8 N
  eight =
      let m = many in
      let l = found.eight in
      drop-cons N 0 0 (omega arith)
      ∙ ap (λ (t : List ℕ). get_or N 0 0 ∷ t) (drop-cons N 1 0 (omega arith)
      ∙ ap (λ (t : List ℕ). get_or N 1 0 ∷ t) (drop-cons N 2 0 (omega arith)
      ∙ ap (λ (t : List ℕ). get_or N 2 0 ∷ t) (drop-cons N 3 0 (omega arith)
      ∙ ap (λ (t : List ℕ). get_or N 3 0 ∷ t) (drop-cons N 4 0 (omega arith)
      ∙ ap (λ (t : List ℕ). get_or N 4 0 ∷ t) (drop-cons N 5 0 (omega arith)
      ∙ ap (λ (t : List ℕ). get_or N 5 0 ∷ t) (drop-cons N 6 0 (omega arith)
      ∙ ap (λ (t : List ℕ). get_or N 6 0 ∷ t) (drop-cons N 7 0 (omega arith))))))))

  numbers_again_all : file_numbers v more (described_in H N) ≡ N
  unfolding described_in
  numbers_again_all =
      let l = found.laid in
      let s = S bytes in
      let p = P bytes in
      let o5 : 4 * starts_from H s ≡ get_or N 5 0 = sym (l.starts ∙ omega arith) in
      let o6 : 4 * deltas_from H s ≡ get_or N 6 0 = sym (l.deltas ∙ omega arith) in
      let o7 : 4 * coefficients_from H s p ≡ get_or N 7 0 = sym (l.coefficients ∙ omega arith) in
      rw (counts_length, found.tamed.placed.summed.sums, starts_again, deltas_again, coefficients_again, unsigned_signed (get_or N 3 0) (number_small bytes 3 b), parts_make N H s p many)
      (head_same found.version l.counts o5 o6 o7 ∙ sym eight)
    where
      head_same : get_or N 0 0 ≡ v.version → get_or N 4 0 ≡ 4 * H → {u x w : ℕ} → u ≡ get_or N 5 0 → x ≡ get_or N 6 0 → w ≡ get_or N 7 0
          → v.version ∷ get_or N 1 0 ∷ get_or N 2 0 ∷ get_or N 3 0 ∷ 4 * H ∷ u ∷ x ∷ w ∷ (more ++ drop H N)
          ≡ get_or N 0 0 ∷ get_or N 1 0 ∷ get_or N 2 0 ∷ get_or N 3 0 ∷ get_or N 4 0 ∷ get_or N 5 0 ∷ get_or N 6 0 ∷ get_or N 7 0 ∷ drop 8 N
      head_same e0 e4 e5 e6 e7 = rw (e0, e4, e5, e6, e7, found.front)

  file_again : file_of v more (described_in H N) ≡ bytes
  unfolding file_of
  file_again = ap bytes_of numbers_again_all ∙ bytes_back bytes (numbers_of H (S bytes) (P bytes)) whole b

  zs_long : length (map f32_of (zs_in H bytes)) ≡ 2 * S bytes
  zs_long = length-map (zs_in H bytes) f32_of ∙ length-map (part (starts_from H (S bytes)) (2 * S bytes) N) signed_in ∙ held_length bytes (starts_from H (S bytes)) (2 * S bytes) (omega (arith, whole))

  ds_long : length (ds_in H bytes) ≡ 2 * P bytes
  ds_long = length-map (part (deltas_from H (S bytes)) (2 * P bytes) N) signed_in ∙ held_length bytes (deltas_from H (S bytes)) (2 * P bytes) (omega (arith, whole))

  cs_long : length (cs_in H bytes) ≡ 128 * S bytes
  cs_long = length-map (part (coefficients_from H (S bytes) (P bytes)) (128 * S bytes) N) signed_in ∙ held_length bytes (coefficients_from H (S bytes) (P bytes)) (128 * S bytes) (omega (arith, whole))

  ns_sum : points_of (ns_in H bytes) ≡ P bytes
  ns_sum = found.tamed.placed.summed.sums

  zs_back : map whole_of (map f32_of (zs_in H bytes)) ≡ zs_in H bytes
  zs_back = placed_back (starts_from H (S bytes)) _ (starts_fine H bytes found.tamed.placed.summed.whole found.tamed.placed.inside)

  pub again_fine : first_fault (write_checks H (ns_in H bytes) (map f32_of (zs_in H bytes)) (ds_in H bytes) (cs_in H bytes)) ≡ Fine
  again_fine =
      let t = found.tamed in
      let w = t.placed.summed.whole in
      let l = found.laid in
      let s = S bytes in
      let p = P bytes in
      let ns = ns_in H bytes in
      let ss = map f32_of (zs_in H bytes) in
      let ds = ds_in H bytes in
      let good : shaped ns ss ds (cs_in H bytes) ≡ true
      = is_shaped ns ss ds (cs_in H bytes) (record { starts = zs_long ∙ omega (arith, counts_length); deltas = ds_long ∙ omega (arith, ns_sum); coefficients = cs_long ∙ omega (arith, counts_length) }) in
      let half : length ds / 2 ≡ p = omega (arith, ds_long) in
      let a = number_small bytes 1 b in
      let c = number_small bytes 2 b in
      let o = number_small bytes 7 b in
      let k = l.coefficients in
      let header : first_fault (header_checks H (length ns) (length ds / 2)) ≡ Fine
      = rw (counts_length, half) (sym (header_fine H s p a c found.little (omega arith) (omega arith) (omega arith))) in
      let starts : first_fault (number_checks misfit Coord (starts_from H (length ns)) ss) ≡ Fine
      = placed_fit (starts_from H s) (starts_from H (length ns)) _ (starts_fine H bytes w t.placed.inside) in
      sym (judge_rest H ns ss ds (cs_in H bytes) good header)
      ∙ sym (values_rest H (length ns) ss ds starts)
      ∙ tame_written (deltas_from H s) (deltas_from H (length ns)) _ (deltas_fine H bytes w t.tame)

  -- what reading it leaves, in front of each buffer, and that its file is these bytes
  pub record Taken (q : ReadOutcome) (s p : ℕ) (a : ℤ) : Type 0 where
    pub counts : take s q.counts ≡ ns_in H bytes
    pub starts : take (2 * s) q.starts ≡ map f32_of (zs_in H bytes)
    pub deltas : take (2 * p) q.deltas ≡ ds_in H bytes
    pub coefficients : take (128 * s) q.coefficients ≡ cs_in H bytes
    pub file : file_of v more (described a (map whole_of (map f32_of (zs_in H bytes))) (ns_in H bytes) (ds_in H bytes) (cs_in H bytes)) ≡ bytes

  pub taken : (rooms : ListRooms) (q : ReadOutcome) (s p : ℕ) (a : ℤ) → q ≡ reading.outcome rooms (got (described_in H N) []) → q.answer ≡ done s p a → Taken q s p a
  unfolding described_in
  taken rooms q s p a is e =
      let xs = ns_in H bytes in
      let ss = map f32_of (zs_in H bytes) in
      let ys = ds_in H bytes in
      let ws = cs_in H bytes in
      let ans : done (length xs) (points_of xs) (signed_in (get_or N 3 0)) ≡ done s p a = sym (ap (λ (u : ReadOutcome). u.answer) is) ∙ e in
      let same = same_done ans in
      let i : s ≡ S bytes = sym same.0 ∙ counts_length in
      let j : p ≡ P bytes = sym same.1 ∙ ns_sum in
      record {
        counts = ap (take s) (ap (λ (u : ReadOutcome). u.counts) is) ∙ take_at xs _ s same.0;
        starts = ap (take (2 * s)) (ap (λ (u : ReadOutcome). u.starts) is) ∙ take_at ss _ (2 * s) (zs_long ∙ omega arith);
        deltas = ap (take (2 * p)) (ap (λ (u : ReadOutcome). u.deltas) is) ∙ take_at ys _ (2 * p) (ds_long ∙ omega arith);
        coefficients = ap (take (128 * s)) (ap (λ (u : ReadOutcome). u.coefficients) is) ∙ take_at ws _ (128 * s) (cs_long ∙ omega arith);
        file = rw (zs_back, ← same.2) file_again;
      }

-- version 1
pub found_first : (rooms : ListRooms) (bytes : List ℕ) → first_fault (whole_checks rooms bytes) ≡ Fine → FileFound version1 [] bytes (Opened bytes) (Laid bytes)
unfolding whole_checks
found_first rooms bytes fine =
    let t = fine_tamed bytes (both_fine (read_checks version1 (length bytes) (numbers_in bytes)) _ fine).0 in
    record { version = t.placed.summed.laid.opened.version; eight = omega arith; little = omega arith; front = refl; laid = t.placed.summed.laid; tamed = t }

-- Assumes nothing.
