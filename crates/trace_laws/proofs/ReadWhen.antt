-- `trace_read` refuses with a code at a place exactly when the table of reading gives it.
use mathlib.Core.Path.{◌≡◌, refl, sym, ap, ◌∙◌}
use mathlib.Core.Bool.{Bool, true, false, ◌||◌}
use mathlib.Core.List.{List, [], ◌∷◌}
use mathlib.Core.Logic.{◌↔◌}
use Prim.Native.Nat.{ℕ, ◌*◌}
use native.Mathlib.Omega.{arith}
use lib.Dec.{ltb}
use lib.ListN.{length}
use borrow.Author.Tests.{lt-ltb, ltb-true, ltb-false}
use Rattle.codes.specs.declared.Code.{Code}
use Rattle.codes.specs.declared.Code.TheVariants.{Short, Room, Header}
use Rattle.list.specs.List.{ListRooms, Got, Described, described, lacking}
use Rattle.reader.specs.Read.{ReadOutcome, outcome}
use Rattle.reader.specs.Refusals.{ReadRefused}
use Rattle.codes.specs.Refusal.{refused}
use Rattle.codes.proofs.Refusals.{same_refusal}
use Rattle.read_list.specs.Answer.{ReadAnswer}
use Rattle.writer.specs.Write.{check, first_fault}
use Rattle.write_judge.specs.Verdict.{Verdict}
use Rattle.write_judge.specs.Verdict.{Fine, Fault}
use Rattle.little.specs.Little.{numbers_in}
use Rattle.trace.specs.Trace.{version1}
use Rattle.trace.specs.Read.{version_checks, offset_checks, body_checks, read_checks, tight, whole_checks, described_in, read_trace_of}
use Rattle.trace_judge.proofs.Faults.{judge_short, judge_version, judge_offset, judge_body}
use Rattle.trace_read.proofs.Loads.{whole_fault, whole_room, judged_fine, judged_fault}
use Rattle.trace_laws.specs.Behind.{number, S, P, OffsetRefusal, BodyRefusal}
use Rattle.trace_laws.specs.Behind as behind
use Rattle.trace_laws.specs.Refusals.{Opened, Laid, Tamed, ListLacks, TraceReadRefusal, cut, version, short, trail, shape, coord, delta, room}
use Rattle.trace_laws.specs.Refusals as told
use Rattle.trace_laws.proofs.Clean.{right, wrong, is_right, is_wrong, laid_offsets, offsets_laid, tamed_fine, fine_tamed}
use Rattle.trace_laws.proofs.BehindWhen.{body_to, offsets_to, told_offset, told_body}
use Rattle.trace_laws.proofs.Firsts.{head_or, append_or, none_or}

-- ---- the room

pub lacks_tight : (rooms : ListRooms) (s p : ℕ) → ListLacks rooms s p → tight rooms s p ≡ true
unfolding tight
lacks_tight rooms s p (told.counts h) = rw (lt-ltb rooms.counts s h)
lacks_tight rooms s p (told.starts h) = rw (lt-ltb rooms.starts (2 * s) h) (any (ltb rooms.counts s) (ltb rooms.deltas (2 * p)))
  where
    any : (a b : Bool) → ((a || true) || b) ≡ true
    any true b = refl
    any false b = refl
lacks_tight rooms s p (told.coefficients h) = rw (lt-ltb rooms.coefficients (128 * s) h) (any (ltb rooms.counts s) (ltb rooms.starts (2 * s)) (ltb rooms.deltas (2 * p)))
  where
    any : (a b d : Bool) → ((a || (b || true)) || d) ≡ true
    any true b d = refl
    any false true d = refl
    any false false d = refl
lacks_tight rooms s p (told.deltas h) = rw (lt-ltb rooms.deltas (2 * p) h) (any (lacking rooms s))
  where
    any : (a : Bool) → (a || true) ≡ true
    any true = refl
    any false = refl

pub tight_lacks : (rooms : ListRooms) (s p : ℕ) → tight rooms s p ≡ true → ListLacks rooms s p
unfolding tight
tight_lacks rooms s p e = go (ltb rooms.counts s) (ltb rooms.starts (2 * s)) (ltb rooms.coefficients (128 * s)) (ltb rooms.deltas (2 * p)) refl refl refl refl e
  where
    go : (a b d f : Bool) → ltb rooms.counts s ≡ a → ltb rooms.starts (2 * s) ≡ b → ltb rooms.coefficients (128 * s) ≡ d → ltb rooms.deltas (2 * p) ≡ f
        → ((a || (b || d)) || f) ≡ true → ListLacks rooms s p
    go true b d f x y z w e = told.counts (ltb-true _ _ x)
    go false true d f x y z w e = told.starts (ltb-true _ _ y)
    go false false true f x y z w e = told.coefficients (ltb-true _ _ z)
    go false false false true x y z w e = told.deltas (ltb-true _ _ w)
    go false false false false x y z w e = let k : ◌≡◌ {A = ℕ} 0 1 = cc in absurd (omega arith)

-- ---- from a fault to the table

module _ (rooms : ListRooms) (bytes : List ℕ) where
  abbrev R : Code → ℕ → Type 0
  R = TraceReadRefusal rooms bytes

  abbrev N : List ℕ
  N = numbers_in bytes

  abbrev n : ℕ
  n = length bytes

  -- the tables of Behind.antt at version 1
  offset_row : (c : Code) (q : ℕ) → OffsetRefusal 8 (Opened bytes) bytes c q → R c q
  offset_row c q (behind.counts o v) = told.counts o v
  offset_row c q (behind.starts o a v) = told.starts o a v
  offset_row c q (behind.deltas o a b v) = told.deltas o a b v
  offset_row c q (behind.coefficients o a b d v) = told.coefficients o a b d v

  body_row : (c : Code) (q : ℕ) → BodyRefusal 8 (Laid bytes) bytes c q → R c q
  body_row c q (behind.short l h) = short l h
  body_row c q (behind.trail l h) = trail l h
  body_row c q (behind.shape l w v) = shape l w v
  body_row c q (behind.coord m k h f o) = coord m k h f o
  body_row c q (behind.delta p k h f o) = delta p k h f o

  module _ (c : Code) (q : ℕ) where
    content_to : first_fault (read_checks version1 n N) ≡ Fault c q → R c q
    unfolding read_checks version_checks
    content_to e =
        head_or R c q (ltb n 32) Short n _ e (λ t. cut (ltb-true n 32 t))
        (λ a r. head_or R c q _ Header 0 _ r (λ t. version (ltb-false n 32 a) (is_wrong _ _ t))
        (λ b r2. let o : Opened bytes = record { long = ltb-false n 32 a; version = is_right _ _ b } in
        append_or R c q (offset_checks 8 N) (body_checks 8 n N) r2 (λ f. offset_row c q (offsets_to 8 (Opened bytes) bytes o c q f))
        (λ f r3. body_row c q (body_to 8 (Laid bytes) bytes (offsets_laid 8 (Opened bytes) bytes o f) c q r3))))

    pub fault_told : first_fault (whole_checks rooms bytes) ≡ Fault c q → R c q
    unfolding whole_checks
    fault_told e =
        append_or R c q (read_checks version1 n N) (check (tight rooms (S bytes) (P bytes)) Room 0 ∷ []) e content_to
        (λ f r. head_or R c q (tight rooms (S bytes) (P bytes)) Room 0 [] r (λ t. room (fine_tamed bytes f) (tight_lacks rooms (S bytes) (P bytes) t)) (λ t z. none_or R c q z))

  -- ---- from the table to a fault

  content_from : (c : Code) (q : ℕ) → first_fault (read_checks version1 n N) ≡ Fault c q → first_fault (whole_checks rooms bytes) ≡ Fault c q
  content_from c q e = sym (whole_fault rooms bytes c q e)

  offset_from : (c : Code) (q : ℕ) → Opened bytes → OffsetRefusal 8 (Opened bytes) bytes c q → first_fault (whole_checks rooms bytes) ≡ Fault c q
  offset_from c q o r = content_from c q (sym (judge_offset n N o.long (right _ _ o.version) c q (told_offset 8 (Opened bytes) bytes c q r)))

  body_from : (c : Code) (q : ℕ) → Laid bytes → BodyRefusal 8 (Laid bytes) bytes c q → first_fault (whole_checks rooms bytes) ≡ Fault c q
  body_from c q l r =
      content_from c q
      (sym (judge_body n N l.opened.long (right _ _ l.opened.version) (laid_offsets 8 (Opened bytes) bytes l)) ∙ told_body 8 (Laid bytes) bytes c q r)

  pub told_fault : (c : Code) (q : ℕ) → R c q → first_fault (whole_checks rooms bytes) ≡ Fault c q
  told_fault c q (cut h) = content_from c q (sym (judge_short n N h))
  told_fault c q (version h v) = content_from c q (sym (judge_version n N h (wrong _ _ v)))
  told_fault c q (told.counts o v) = offset_from c q o (behind.counts o v)
  told_fault c q (told.starts o a v) = offset_from c q o (behind.starts o a v)
  told_fault c q (told.deltas o a b v) = offset_from c q o (behind.deltas o a b v)
  told_fault c q (told.coefficients o a b d v) = offset_from c q o (behind.coefficients o a b d v)
  told_fault c q (short l h) = body_from c q l (behind.short l h)
  told_fault c q (trail l h) = body_from c q l (behind.trail l h)
  told_fault c q (shape l w v) = body_from c q l (behind.shape l w v)
  told_fault c q (coord m k h f o) = body_from c q m.laid (behind.coord m k h f o)
  told_fault c q (delta p k h f o) = body_from c q p.summed.laid (behind.delta p k h f o)
  told_fault c q (room t l) = sym (whole_room rooms bytes (tamed_fine bytes t) (S bytes) (P bytes) refl refl (lacks_tight rooms (S bytes) (P bytes) l))

  -- ---- the answers

  answer_of_lem : (c : Code) (q : ℕ) → (read_trace_of rooms bytes).answer ≡ refused c q → first_fault (whole_checks rooms bytes) ≡ Fault c q
  unfolding read_trace_of
  answer_of_lem c q e = go (first_fault (whole_checks rooms bytes)) refl
    where
      whole : (x : Described) → (outcome rooms (Got.got x [])).answer ≡ refused c q → first_fault (whole_checks rooms bytes) ≡ Fault c q
      whole (described a zs ns ds cs) e = let z : ◌≡◌ {A = ℕ} 0 1 = cc in absurd (omega arith)

      go : (v : Verdict) → first_fault (whole_checks rooms bytes) ≡ v → first_fault (whole_checks rooms bytes) ≡ Fault c q
      go Fine f = whole (described_in 8 N) (ap (λ (g : Got Described). (outcome rooms g).answer) (sym (judged_fine rooms bytes f)) ∙ e)
      go (Fault k p) f =
          let z : ◌≡◌ {A = ReadAnswer} (refused k p) (refused c q) = ap (λ (g : Got Described). (outcome rooms g).answer) (sym (judged_fault rooms bytes k p f)) ∙ e in
          let same = same_refusal z in
          f ∙ ap (λ (d : Code). Fault d p) same.0 ∙ ap (Fault c) same.1

  fault_answer : (c : Code) (q : ℕ) → first_fault (whole_checks rooms bytes) ≡ Fault c q → (read_trace_of rooms bytes).answer ≡ refused c q
  unfolding read_trace_of
  fault_answer c q f = ap (λ (g : Got Described). (outcome rooms g).answer) (judged_fault rooms bytes c q f)

  -- refused exactly so
  pub read_exactly : (c : Code) (q : ℕ) → (read_trace_of rooms bytes).answer ≡ refused c q ↔ R c q
  read_exactly c q = (λ e. fault_told c q (answer_of_lem c q e), λ r. fault_answer c q (told_fault c q r))

  pub read_refused : (c : Code) (q : ℕ) (o : ReadOutcome) → o ≡ read_trace_of rooms bytes → R c q → ReadRefused rooms c q o
  unfolding read_trace_of
  read_refused c q o e r =
      let x = e ∙ ap (outcome rooms) (judged_fault rooms bytes c q (told_fault c q r)) in
      record {
        answer = ap (λ (u : ReadOutcome). u.answer) x;
        told = ap (λ (u : ReadOutcome). u.told) x;
        counts = ap (λ (u : ReadOutcome). u.counts) x;
        starts = ap (λ (u : ReadOutcome). u.starts) x;
        deltas = ap (λ (u : ReadOutcome). u.deltas) x;
        coefficients = ap (λ (u : ReadOutcome). u.coefficients) x;
      }

  -- and done where nothing is given
  pub read_else : ((c : Code) (q : ℕ) → R c q → ⊥) → first_fault (whole_checks rooms bytes) ≡ Fine
  read_else none = go (first_fault (whole_checks rooms bytes)) refl
    where
      go : (v : Verdict) → first_fault (whole_checks rooms bytes) ≡ v → first_fault (whole_checks rooms bytes) ≡ Fine
      go Fine f = f
      go (Fault c q) f = absurd (none c q (fault_told c q f))

-- Assumes nothing.
