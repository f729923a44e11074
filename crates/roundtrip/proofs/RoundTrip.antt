-- Writing and reading undo each other: any outcome that the contract of one call allows, fed to any outcome that the contract of the other allows.
-- A contract is an equation, so each theorem takes its outcomes by their equations.
use mathlib.Core.Path.{◌≡◌, refl, sym, ap, ◌∙◌}
use mathlib.Core.Bool.{true}
use mathlib.Core.List.{List, [], ◌∷◌, ◌++◌, map}
use Prim.Native.Nat.{ℕ, ◌-◌, ◌*◌, ◌≤◌}
use native.Mathlib.Omega.{arith}
use lib.Dec.{ltb}
use lib.ListN.{length, take, replicate, length-map}
use lib.Seq.{take_at}
use lib.IntN.{ℤ, pos}
use lib.Ieee.{Float}
use borrow.Author.Tests.{le-ltb}
use Rattle.buffers.specs.Padded.{padded}
use Rattle.codes.specs.declared.Code.TheVariants.{Room}
use Rattle.shape.specs.Shape.{points_of}
use Rattle.list.specs.List.{ListRooms, Got, got, stop, Described, described, limit_of, read_of, list_of}
use Rattle.list.specs.Steps.{f32_of, zero_f32}
use Rattle.list.proofs.RoundTrip.{Holds, written_is_read, read_is_written, read_is_valid}
use Rattle.reader.specs.Read.{ReadOutcome, read_outcome}
use Rattle.reader.specs.Read as reading
use Rattle.read_list.specs.Answer.{done}
use Rattle.read_list.proofs.Answers.{same_done}
use Rattle.writer.specs.Write.{Check, check, first_fault, content_checks, whole_of, values_of, WriteOutcome, leaves, outcome, write_of}
use Rattle.write_judge.specs.Verdict.{Verdict}
use Rattle.write_judge.specs.Verdict.{Fine, Fault}
use Rattle.writer.specs.WriteAnswer.{Done}
use Rattle.write_judge.proofs.Checks.{passes, fine_before, both_fine, agreed, content_fine}
use Rattle.write_laws.specs.Floats.{Floats}
use Rattle.write_laws.proofs.Accepts.{fine_valid, valid_fine, wholes_back, floats_back}
use Rattle.roundtrip.specs.Enough.{Enough}

-- ---- what an accepted call of `write` leaves

pub record Written (ns : List ℕ) (ss : List Float) (ds cs : List ℤ) (a : ℤ) (limit room n : ℕ) (list : List ℕ) : Type 0 where
  pub fine : first_fault (content_checks ns ss ds cs limit) ≡ Fine
  pub size : n ≡ length (values_of ns ss ds cs a)
  pub is : list ≡ values_of ns ss ds cs a ++ replicate (room - n) 0

module _ (ns : List ℕ) (ss : List Float) (ds cs : List ℤ) (a : ℤ) (configured pixels room : ℕ) where
  -- an answer of success tells all
  pub done_written : (o : WriteOutcome) (n : ℕ) → o ≡ write_of ns ss ds cs a configured pixels room → o.answer ≡ Done n
      → Written ns ss ds cs a (limit_of configured pixels) room n o.list
  unfolding write_of
  done_written o n p e = go (first_fault (content ++ last ∷ [])) refl (sym (ap (λ (u : WriteOutcome). u.answer) p) ∙ e) (ap (λ (u : WriteOutcome). u.list) p)
    where
      values : List ℕ
      values = values_of ns ss ds cs a

      content : List Check
      content = content_checks ns ss ds cs (limit_of configured pixels)

      last : Check
      last = check (ltb room (length values)) Room room

      go : (v : Verdict) → first_fault (content ++ last ∷ []) ≡ v → (outcome room values v).answer ≡ Done n → o.list ≡ (outcome room values v).list
          → Written ns ss ds cs a (limit_of configured pixels) room n o.list
      go (Fault c q) f e l = let z : ◌≡◌ {A = ℕ} 0 1 = cc in absurd (omega arith)
      go Fine f e l =
          let k : length values ≡ n = cc in
          record { fine = (both_fine content (last ∷ []) f).0; size = sym k; is = l ∙ ap (λ (m : ℕ). values ++ replicate (room - m) 0) k }

  -- a description that is accepted, with room for its values
  pub accepted : first_fault (content_checks ns ss ds cs (limit_of configured pixels)) ≡ Fine → length (values_of ns ss ds cs a) ≤ room
      → write_of ns ss ds cs a configured pixels room
      ≡ leaves (Done (length (values_of ns ss ds cs a))) (values_of ns ss ds cs a ++ replicate (room - length (values_of ns ss ds cs a)) 0)
  unfolding write_of first_fault
  accepted f h =
      let values = values_of ns ss ds cs a in
      let t = passes (ltb room (length values)) Room room [] (le-ltb room (length values) h) in
      rw (fine_before (content_checks ns ss ds cs (limit_of configured pixels)) (check (ltb room (length values)) Room room ∷ []) f, t)

-- ---- what is written is read

-- the description that a list was written from is read from it, every number, with rooms exact or larger
pub written_then_read : (ns : List ℕ) (ss : List Float) (ds cs : List ℤ) (a : ℤ) (configured pixels room : ℕ) (o : WriteOutcome) (n : ℕ)
    → Floats ss → o ≡ write_of ns ss ds cs a configured pixels room → o.answer ≡ Done n
    → (rooms : ListRooms) → Enough rooms ns ss ds cs → (q : ReadOutcome) → q ≡ read_outcome configured pixels rooms (take n o.list)
    → q ≡ reading.leaves (done (length ns) (points_of ns) a) (padded rooms.counts 0 ns) (padded rooms.starts zero_f32 ss)
    (padded rooms.deltas (pos 0) ds) (padded rooms.coefficients (pos 0) cs)
unfolding values_of
written_then_read ns ss ds cs a configured pixels room o n f p e rooms h q r =
    let w = done_written ns ss ds cs a configured pixels room o n p e in
    let zs = map whole_of ss in
    let limit = limit_of configured pixels in
    let list : take n o.list ≡ list_of (described a zs ns ds cs)
    = ap (take n) w.is ∙ take_at (values_of ns ss ds cs a) (replicate (room - n) 0) n (sym w.size) in
    let holds : Holds rooms zs ns ds cs
    = record { counts = h.counts; starts = omega (arith, length-map ss whole_of, h.starts); deltas = h.deltas; coefficients = h.coefficients } in
    let got_it = written_is_read limit rooms a zs ns ds cs (fine_valid limit ns ss ds cs w.fine) holds in
    let shape = agreed ns ss ds cs (content_fine ns ss ds cs limit w.fine).0 in
    let back = floats_back (length ns) true 1 ss shape.0 f (content_fine ns ss ds cs limit w.fine).2 in
    r ∙ rw (list, got_it, back)

-- ---- what is read is written

pub record Taken (limit : ℕ) (rooms : ListRooms) (l : List ℕ) (q : ReadOutcome) (s p : ℕ) (a : ℤ) : Type 0 where
  pub zs : List ℤ
  pub ns : List ℕ
  pub ds : List ℤ
  pub cs : List ℤ
  pub rest : List ℕ
  pub got_it : read_of limit rooms l ≡ got (described a zs ns ds cs) rest
  pub splines : s ≡ length ns
  pub points : p ≡ points_of ns
  pub counts : q.counts ≡ padded rooms.counts 0 ns
  pub starts : q.starts ≡ padded rooms.starts zero_f32 (map f32_of zs)
  pub deltas : q.deltas ≡ padded rooms.deltas (pos 0) ds
  pub coefficients : q.coefficients ≡ padded rooms.coefficients (pos 0) cs

pub done_read : (configured pixels : ℕ) (rooms : ListRooms) (l : List ℕ) (q : ReadOutcome) (s p : ℕ) (a : ℤ) → q ≡ read_outcome configured pixels rooms l
    → q.answer ≡ done s p a → Taken (limit_of configured pixels) rooms l q s p a
done_read configured pixels rooms l q s p a r e =
    go (read_of (limit_of configured pixels) rooms l) refl r (sym (ap (λ (u : ReadOutcome). u.answer) r) ∙ e)
  where
    go : (g : Got Described) → read_of (limit_of configured pixels) rooms l ≡ g → q ≡ reading.outcome rooms g → (reading.outcome rooms g).answer ≡ done s p a
        → Taken (limit_of configured pixels) rooms l q s p a
    go (stop c k) g r e = let z : ◌≡◌ {A = ℕ} 0 1 = cc in absurd (omega arith)
    go (got (described b zs ns ds cs) rest) g r e =
        let same = same_done e in
        record {
          zs = zs;
          ns = ns;
          ds = ds;
          cs = cs;
          rest = rest;
          got_it = g ∙ ap (λ (k : ℤ). got (described k zs ns ds cs) rest) same.2;
          splines = sym same.0;
          points = sym same.1;
          counts = ap (λ (u : ReadOutcome). u.counts) r;
          starts = ap (λ (u : ReadOutcome). u.starts) r;
          deltas = ap (λ (u : ReadOutcome). u.deltas) r;
          coefficients = ap (λ (u : ReadOutcome). u.coefficients) r;
        }

-- the list that a description was read from is written from it, every value, and zeros after it
pub read_then_written : (configured pixels : ℕ) (rooms : ListRooms) (l : List ℕ) (q : ReadOutcome) (s p : ℕ) (a : ℤ) → q ≡ read_outcome configured pixels rooms l
    → q.answer ≡ done s p a → (room : ℕ) → length l ≤ room → (o : WriteOutcome)
    → o ≡ write_of (take s q.counts) (take (2 * s) q.starts) (take (2 * p) q.deltas) (take (128 * s) q.coefficients) a configured pixels room
    → o ≡ leaves (Done (length l)) (l ++ replicate (room - length l) 0)
unfolding values_of
read_then_written configured pixels rooms l q s p a r e room h o w =
    let t = done_read configured pixels rooms l q s p a r e in
    let limit = limit_of configured pixels in
    let v = read_is_valid limit rooms l a t.zs t.ns t.ds t.cs t.rest t.got_it in
    let list = read_is_written limit rooms l a t.zs t.ns t.ds t.cs t.rest t.got_it in
    let ss = map f32_of t.zs in
    let ns-is : take s q.counts ≡ t.ns = ap (take s) t.counts ∙ take_at t.ns _ s (sym t.splines) in
    let ss-is : take (2 * s) q.starts ≡ ss = ap (take (2 * s)) t.starts ∙ take_at ss _ (2 * s) (length-map t.zs f32_of ∙ omega (arith, v.starts, t.splines)) in
    let ds-is : take (2 * p) q.deltas ≡ t.ds = ap (take (2 * p)) t.deltas ∙ take_at t.ds _ (2 * p) (omega (arith, v.deltas, t.points)) in
    let cs-is : take (128 * s) q.coefficients ≡ t.cs
    = ap (take (128 * s)) t.coefficients ∙ take_at t.cs _ (128 * s) (omega (arith, v.coefficients, t.splines)) in
    let values : values_of t.ns ss t.ds t.cs a ≡ l
    = ap (λ (zs : List ℤ). list_of (described a zs t.ns t.ds t.cs)) (wholes_back (length t.ns) true t.zs v.starts v.near) ∙ list in
    let written = accepted t.ns ss t.ds t.cs a configured pixels room (valid_fine limit t.zs t.ns t.ds t.cs v) (omega (arith, ap length values)) in
    w ∙ rw (ns-is, ss-is, ds-is, cs-is) (written ∙ ap (λ (k : List ℕ). leaves (Done (length k)) (k ++ replicate (room - length k) 0)) values)

-- Assumes nothing.
