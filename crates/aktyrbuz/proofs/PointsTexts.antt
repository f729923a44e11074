-- Request (iv): what is accepted, each code exactly when, and both ways round, for every outcome that the contracts of the two calls allow.
use mathlib.Core.Path.{◌≡◌, refl, sym, ap, subst, ◌∙◌}
use mathlib.Core.List.{List, [], ◌∷◌}
use mathlib.Core.Logic.{◌↔◌, ◌⊎◌}
use Prim.Native.Nat.{ℕ, ◌*◌}
use native.Mathlib.Omega.{arith}
use lib.IntN.{ℤ}
use lib.ListN.{length, get_or, take}
use lib.Ieee.{Float, nan}
use Rattle.codes.specs.declared.Code.{Code}
use Rattle.writer.specs.Write.{WriteOutcome}
use Rattle.writer.specs.WriteAnswer.{WriteAnswer, Done, Refused}
use Rattle.dequantize.specs.Judge.{description_of}
use Rattle.dequantize.specs.Refusals.{SplineRefusal}
use Rattle.dequantize.specs.declared.Given.{Given}
use Rattle.polyline.specs.Read.{PointsOutcome, read_points_of}
use Rattle.polyline.specs.Write.{write_points_of}
use Rattle.polyline_laws.specs.Refusals.{PointsReadRefusal, PointsAccepted, PointsWriteRefusal, PointsWritten}
use Rattle.polyline_laws.proofs.Says.{form_says, one_saying}
use Rattle.polyline_laws.proofs.ReadWhen.{read_exactly}
use Rattle.polyline_laws.proofs.Accepted.{accepted_exactly, accepted_leaves}
use Rattle.polyline_laws.proofs.WriteWhen.{write_exactly, written_exactly}
use Rattle.polyline_laws.proofs.Trips.{written_back, alone_back, origin, origin_is, read_back}
use Rattle.polyline_laws.proofs.AsBuilt.{built_code, passed_code}
use Rattle.aktyrbuz.specs.PolylineCalls.{PointsReadCall, PointsWriteCall}
use Rattle.aktyrbuz.specs.Requests.{TextAcceptedExactly, PointsDone, PointsReadCodes, PointsWriteCodes, PointsAsBuilt, TextWrittenBack, TextReadBack}
use Rattle.aktyrbuz.proofs.Requests.{points_as_defined, points_refusals_zero}

-- an outcome of reading is the defined one, so what is said of that is said of it
read_along : (text : List ℕ) (start deltas : ℕ) (o : PointsOutcome) → PointsReadCall text start deltas o → (P : PointsOutcome → Type 0) → P (read_points_of start deltas text) → P o
read_along text start deltas o r P h = subst P (sym (points_as_defined.read text start deltas o r)) h

write_along : (ns : List ℕ) (ss : List Float) (ds cs : List ℤ) (k room : ℕ) (o : WriteOutcome) → PointsWriteCall ns ss ds cs k room o → (P : WriteOutcome → Type 0) → P (write_points_of ns ss ds cs k room) → P o
write_along ns ss ds cs k room o w P h = subst P (sym (points_as_defined.write ns ss ds cs k room o w)) h

-- ---- reading

pub text_accepted_exactly : TextAcceptedExactly
text_accepted_exactly = record {
  exactly = λ text start deltas o r n.
      read_along text start deltas o r (λ (u : PointsOutcome). u.answer ≡ Done n ↔ PointsAccepted text start deltas n) (accepted_exactly text start deltas n);
  left = λ text start deltas o r n a. points_as_defined.read text start deltas o r ∙ accepted_leaves text start deltas n a;
}

module _ (text : List ℕ) (start deltas : ℕ) (o : PointsOutcome) (r : PointsReadCall text start deltas o) where
  read_codes_exactly : (c : Code) (p : ℕ) → o.answer ≡ Refused c p ↔ PointsReadRefusal text start deltas c p
  read_codes_exactly c p =
      read_along text start deltas o r (λ (u : PointsOutcome). u.answer ≡ Refused c p ↔ PointsReadRefusal text start deltas c p) (read_exactly text start deltas c p)

  -- an answer that is no refusal is done
  answered : (a : WriteAnswer) → o.answer ≡ a → ((c : Code) (p : ℕ) → PointsReadRefusal text start deltas c p → ⊥) → PointsDone o
  answered (Done n) e none = record { deltas = n; is = e }
  answered (Refused c p) e none = absurd (none c p ((read_codes_exactly c p).0 e))

pub points_read_codes : PointsReadCodes
points_read_codes = record {
  exactly = read_codes_exactly;
  told = λ text start deltas o r c p t. points_refusals_zero.read text start deltas o r c p ((read_codes_exactly text start deltas o r c p).1 t);
  else_done = λ text start deltas o r none. answered text start deltas o r o.answer refl none;
  says = form_says;
  one_saying = one_saying;
}

-- ---- writing

write_codes_exactly : (ns : List ℕ) (ss : List Float) (ds cs : List ℤ) (k room : ℕ) (o : WriteOutcome) → PointsWriteCall ns ss ds cs k room o
    → (c : Code) (p : ℕ) → o.answer ≡ Refused c p ↔ PointsWriteRefusal ns ss ds cs k room c p
write_codes_exactly ns ss ds cs k room o w c p =
    write_along ns ss ds cs k room o w (λ (u : WriteOutcome). u.answer ≡ Refused c p ↔ PointsWriteRefusal ns ss ds cs k room c p) (write_exactly ns ss ds cs k room c p)

pub points_write_codes : PointsWriteCodes
points_write_codes = record {
  exactly = write_codes_exactly;
  told = λ ns ss ds cs k room o w c p t. points_refusals_zero.write ns ss ds cs k room o w c p ((write_codes_exactly ns ss ds cs k room o w c p).1 t);
  done = λ ns ss ds cs k room o w n.
      write_along ns ss ds cs k room o w (λ (u : WriteOutcome). u.answer ≡ Done n ↔ PointsWritten ns ss ds cs k room n) (written_exactly ns ss ds cs k room n);
}

-- ---- there and back

module _ (text : List ℕ) (start deltas : ℕ) (o : PointsOutcome) (n : ℕ) (r : PointsReadCall text start deltas o) (e : o.answer ≡ Done n) where
  is : o ≡ read_points_of start deltas text
  is = points_as_defined.read text start deltas o r

  done : (read_points_of start deltas text).answer ≡ Done n
  done = sym (ap (λ (u : PointsOutcome). u.answer) is) ∙ e

pub text_written_back : TextWrittenBack
text_written_back = record {
  any = λ text start deltas o n r e ns ss ds cs k h room l q w.
      let i = is text start deltas o n r e in
      points_as_defined.write ns ss ds cs k room q w
      ∙ written_back text start deltas n (done text start deltas o n r e) ns ss ds cs k h.there (h.x ∙ ap (λ (u : PointsOutcome). get_or u.start 0 nan) i)
      (h.y ∙ ap (λ (u : PointsOutcome). get_or u.start 1 nan) i) (h.deltas ∙ ap (λ (u : PointsOutcome). take (2 * n) u.deltas) i) room l;
  alone = λ text start deltas o n r e cs c room l q w.
      let i = is text start deltas o n r e in
      points_as_defined.write (n ∷ []) (take 2 o.start) (take (2 * n) o.deltas) cs 0 room q w
      ∙ ap (λ (u : PointsOutcome). write_points_of (n ∷ []) (take 2 u.start) (take (2 * n) u.deltas) cs 0 room) i ∙ alone_back text start deltas n (done text start deltas o n r e) cs c room l;
}

-- ---- as building judges

module _ (ns : List ℕ) (ss : List Float) (ds cs : List ℤ) (k room n : ℕ) (e : (write_points_of ns ss ds cs k room).answer ≡ Done n) where
  built : (g : Given) (c : Code) → SplineRefusal (description_of ns ss ds cs) g k c → (c ≡ Code.Distance) ⊎ (c ≡ Code.Area)
  built g c s = let w = (written_exactly ns ss ds cs k room n).0 e in built_code (description_of ns ss ds cs) k w.goes w.apart g c s

pub points_as_built : PointsAsBuilt
points_as_built = record {
  read = λ text start deltas o n r e ns ss ds cs k h g c s.
      let i = is text start deltas o n r e in
      let b = written_back text start deltas n (done text start deltas o n r e) ns ss ds cs k h.there (h.x ∙ ap (λ (u : PointsOutcome). get_or u.start 0 nan) i)
      (h.y ∙ ap (λ (u : PointsOutcome). get_or u.start 1 nan) i) (h.deltas ∙ ap (λ (u : PointsOutcome). take (2 * n) u.deltas) i) (length text) (omega arith) in
      built ns ss ds cs k (length text) (length text) (ap (λ (u : WriteOutcome). u.answer) b) g c s;
  written = λ ns ss ds cs k room o n w e g c s. built ns ss ds cs k room n (sym (ap (λ (u : WriteOutcome). u.answer) (points_as_defined.write ns ss ds cs k room o w)) ∙ e) g c s;
  passed = λ ns ss ds cs k room o w t g h c p e.
      passed_code ns ss ds cs k room t g h c p (sym (ap (λ (u : WriteOutcome). u.answer) (points_as_defined.write ns ss ds cs k room o w)) ∙ e);
}

pub text_read_back : TextReadBack
text_read_back ns ss ds cs k room o n w e start deltas h g q r =
    let i = points_as_defined.write ns ss ds cs k room o w in
    let d : (write_points_of ns ss ds cs k room).answer ≡ Done n = sym (ap (λ (u : WriteOutcome). u.answer) i) ∙ e in
    record {
      first = origin ns ss ds cs k room n d;
      rounded = origin_is ns ss ds cs k room n d;
      is = points_as_defined.read (take n o.list) start deltas q r ∙ ap (λ (u : WriteOutcome). read_points_of start deltas (take n u.list)) i
          ∙ read_back ns ss ds cs k room n d start deltas h g;
    }

-- Assumes nothing.
