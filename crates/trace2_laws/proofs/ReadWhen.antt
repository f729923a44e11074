-- `trace_read2` refuses with a code at a place exactly when the table of reading gives it.
use mathlib.Core.Path.{◌≡◌, refl, sym, ap, ◌∙◌}
use mathlib.Core.Bool.{true, false}
use mathlib.Core.Logic.{◌↔◌, inl, inr}
use mathlib.Core.List.{List, [], ◌∷◌, ◌++◌}
use Prim.Native.Nat.{ℕ, ◌*◌, ◌≤◌, ◌<◌}
use native.Mathlib.Omega.{arith}
use lib.Dec.{ltb}
use lib.ListN.{length, get_or}
use borrow.Author.Tests.{lt-ltb, le-ltb, ltb-true, ltb-false}
use Rattle.codes.specs.declared.Code.{Code}
use Rattle.codes.specs.declared.Code.TheVariants.{Short, Room, Header, Edition}
use Rattle.list.specs.List.{ListRooms, got, stop, Described, described}
use Rattle.reader.specs.Read.{ReadOutcome, outcome}
use Rattle.reader.specs.Refusals.{ReadRefused}
use Rattle.codes.specs.Refusal.{refused}
use Rattle.codes.proofs.Refusals.{same_refusal}
use Rattle.read_list.specs.Answer.{ReadAnswer, done}
use Rattle.writer.specs.Write.{Check, check, first_fault}
use Rattle.write_judge.specs.Verdict.{Verdict}
use Rattle.write_judge.specs.Verdict.{Fine, Fault}
use Rattle.write_judge.proofs.Checks.{fails, passes, passed, faults_before, fine_before, both_fine}
use Rattle.little.specs.Little.{numbers_in}
use Rattle.trace.specs.Read.{offset_checks, body_checks, tight, described_in}
use Rattle.trace_laws.specs.Behind.{number, S, P, LaidBy, TamedBy, OffsetRefusal, BodyRefusal}
use Rattle.trace_laws.specs.Behind as behind
use Rattle.trace_laws.specs.Refusals.{ListLacks}
use Rattle.trace_laws.proofs.Clean.{laid_offsets, offsets_laid, tamed_body, body_tamed}
use Rattle.trace_laws.proofs.Firsts.{head_or, append_or, none_or}
use Rattle.trace_laws.proofs.BehindWhen.{body_to, offsets_to, told_offset, told_body}
use Rattle.trace_laws.proofs.ReadWhen.{lacks_tight, tight_lacks}
use Rattle.trace2.specs.Editions.{unknown, header_long, edition_in}
use Rattle.trace2.specs.Read.{laid_checks, file_checks, whole_checks2, read_file, FileOutcome, read_file_of}
use Rattle.trace2.proofs.Editions.{one_known, two_known, neither_known, known_is, unknown_not}
use Rattle.trace2.proofs.Versions.{short_alike, second_alike}
use Rattle.trace2_laws.specs.Refusals.{Known, Unknown, Says, first, second, Editioned, FileReadRefusal, cut, version, cut_second, offset, edition, body, room}

-- ---- versions and editions, as tests and in words

pub known_told : (n : ℕ) → Known n → unknown n ≡ false
known_told n (inl e) = sym (one_known n e)
known_told n (inr e) = sym (two_known n e)

pub unknown_told : (n : ℕ) → Unknown n → unknown n ≡ true
unknown_told n u = neither_known n u.0 u.1

module _ (bytes : List ℕ) where
  abbrev N : List ℕ
  N = numbers_in bytes

  abbrev n : ℕ
  n = length bytes

  -- what is left once the header is there
  unfoldable pub Rest : ℕ → ℕ → List Check
  Rest h e = offset_checks h N ++ (check (unknown e) Edition 32 ∷ body_checks h n N)

  -- a file with its header is judged by its version
  pub says_rest : (h e : ℕ) → Says bytes h e → first_fault (file_checks n N) ≡ first_fault (Rest h e)
  unfolding file_checks laid_checks Rest
  says_rest h e (first l v) =
      passes _ Short n _ (le-ltb n 32 l) ∙ passes _ Header 0 _ (sym (one_known (get_or N 0 0) v)) ∙ rw v (passes _ Short n _ (le-ltb n 32 l))
  says_rest h e (second l v) =
      passes _ Short n _ (le-ltb n 32 (omega arith)) ∙ passes _ Header 0 _ (sym (two_known (get_or N 0 0) v)) ∙ rw v (passes _ Short n _ (le-ltb n 36 l))

  pub says_offset : (h e : ℕ) → Says bytes h e → (c : Code) (q : ℕ) → first_fault (offset_checks h N) ≡ Fault c q → first_fault (file_checks n N) ≡ Fault c q
  unfolding Rest
  says_offset h e s c q f = says_rest h e s ∙ faults_before (offset_checks h N) _ c q f

  -- and with its offsets right, by the edition and then what follows
  laid_rest : (h e : ℕ) → LaidBy h (Says bytes h e) bytes → first_fault (file_checks n N) ≡ first_fault (check (unknown e) Edition 32 ∷ body_checks h n N)
  unfolding Rest
  laid_rest h e l = says_rest h e l.opened ∙ fine_before (offset_checks h N) _ (laid_offsets h (Says bytes h e) bytes l)

  headed_rest : (h e : ℕ) → Editioned bytes h e → first_fault (file_checks n N) ≡ first_fault (body_checks h n N)
  headed_rest h e d = laid_rest h e d.laid ∙ passes _ Edition 32 _ (known_told e d.known)

  pub tamed_file : (h e : ℕ) → TamedBy h (Editioned bytes h e) bytes → first_fault (file_checks n N) ≡ Fine
  tamed_file h e t = headed_rest h e t.placed.summed.laid ∙ tamed_body h (Editioned bytes h e) bytes t

  -- nothing was found: which version it is, and all that holds of it
  pub record Clean : Type 0 where
    pub header : ℕ
    pub edition : ℕ
    pub says : Says bytes header edition
    pub tamed : TamedBy header (Editioned bytes header edition) bytes

  pub file_clean : first_fault (file_checks n N) ≡ Fine → Clean
  unfolding file_checks laid_checks
  file_clean f =
      let a = passed (ltb n 32) Short n _ f in
      let b = passed (unknown (get_or N 0 0)) Header 0 _ a.1 in
      go (known_is (get_or N 0 0) b.0) (ltb-false n 32 a.0) b.1
    where
      by : (h e : ℕ) → (4 * h ≤ n → Says bytes h e) → first_fault (laid_checks h e n N) ≡ Fine → Clean
      by h e s f =
          let a = passed (ltb n (4 * h)) Short n _ f in
          let b = both_fine (offset_checks h N) _ a.1 in
          let d = passed (unknown e) Edition 32 _ b.1 in
          let y = s (ltb-false n (4 * h) a.0) in
          record {
            header = h;
            edition = e;
            says = y;
            tamed = body_tamed h (Editioned bytes h e) bytes (record { laid = offsets_laid h (Says bytes h e) bytes y b.0; known = known_is e d.0 }) d.1;
          }

      go : Known (get_or N 0 0) → 32 ≤ n → first_fault (laid_checks (header_long (get_or N 0 0)) (edition_in N) n N) ≡ Fine → Clean
      go (inl v) l f = by 8 1 (λ k. first l v) (rw v at f)
      go (inr v) l f = by 9 (get_or N 8 0) (λ k. second k v) (rw v at f)

-- ---- from a fault to the table

module _ (rooms : ListRooms) (bytes : List ℕ) where
  abbrev R : Code → ℕ → Type 0
  R = FileReadRefusal rooms bytes

  abbrev Ns : List ℕ
  Ns = numbers_in bytes

  abbrev m : ℕ
  m = length bytes

  module _ (c : Code) (q : ℕ) where
    laid_to : (h e : ℕ) → (4 * h ≤ m → Says bytes h e) → (m < 4 * h → R Short m) → first_fault (laid_checks h e m Ns) ≡ Fault c q → R c q
    unfolding laid_checks
    laid_to h e says short f =
        head_or R c q (ltb m (4 * h)) Short m _ f (λ t. short (ltb-true m (4 * h) t))
        (λ t r. let s = says (ltb-false m (4 * h) t) in
        append_or R c q (offset_checks h Ns) (check (unknown e) Edition 32 ∷ body_checks h m Ns) r (λ g. offset (offsets_to h (Says bytes h e) bytes s c q g))
        (λ g r2. let l = offsets_laid h (Says bytes h e) bytes s g in
        head_or R c q (unknown e) Edition 32 _ r2 (λ u. edition l (unknown_not e u))
        (λ u r3. body (body_to h (Editioned bytes h e) bytes (record { laid = l; known = known_is e u }) c q r3))))

    file_to : first_fault (file_checks m Ns) ≡ Fault c q → R c q
    unfolding file_checks
    file_to f =
        head_or R c q (ltb m 32) Short m _ f (λ t. cut (ltb-true m 32 t))
        (λ a r. head_or R c q (unknown (get_or Ns 0 0)) Header 0 _ r (λ t. version (ltb-false m 32 a) (unknown_not (get_or Ns 0 0) t))
        (λ b r2. go (known_is (get_or Ns 0 0) b) (ltb-false m 32 a) r2))
      where
        go : Known (get_or Ns 0 0) → 32 ≤ m → first_fault (laid_checks (header_long (get_or Ns 0 0)) (edition_in Ns) m Ns) ≡ Fault c q → R c q
        go (inl v) l f = laid_to 8 1 (λ k. first l v) (λ k. absurd (omega (arith, k, l))) (rw v at f)
        go (inr v) l f = laid_to 9 (get_or Ns 8 0) (λ k. second k v) (λ k. cut_second l v k) (rw v at f)

    fault_told : first_fault (whole_checks2 rooms bytes) ≡ Fault c q → R c q
    unfolding whole_checks2
    fault_told f =
        append_or R c q (file_checks m Ns) (check (tight rooms (S bytes) (P bytes)) Room 0 ∷ []) f file_to
        (λ g r. head_or R c q (tight rooms (S bytes) (P bytes)) Room 0 [] r
        (λ t. let k = file_clean bytes g in room k.tamed (tight_lacks rooms (S bytes) (P bytes) t)) (λ t z. none_or R c q z))

  -- ---- from the table to a fault

  file_from : (c : Code) (q : ℕ) → first_fault (file_checks m Ns) ≡ Fault c q → first_fault (whole_checks2 rooms bytes) ≡ Fault c q
  unfolding whole_checks2
  file_from c q f = faults_before (file_checks m Ns) _ c q f

  version_from : 32 ≤ m → Unknown (number bytes 0) → first_fault (file_checks m Ns) ≡ Fault Header 0
  unfolding file_checks
  version_from l u = passes _ Short m _ (le-ltb m 32 l) ∙ fails _ Header 0 _ (unknown_told (get_or Ns 0 0) u)

  second_from : 32 ≤ m → number bytes 0 ≡ 2 → m < 36 → first_fault (file_checks m Ns) ≡ Fault Short m
  unfolding laid_checks
  second_from l v s = second_alike m Ns l v ∙ fails _ Short m _ (lt-ltb m 36 s)

  room_from : (h e : ℕ) → TamedBy h (Editioned bytes h e) bytes → ListLacks rooms (S bytes) (P bytes) → first_fault (whole_checks2 rooms bytes) ≡ Fault Room 0
  unfolding whole_checks2
  room_from h e t l = fine_before (file_checks m Ns) _ (tamed_file bytes h e t) ∙ fails (tight rooms (S bytes) (P bytes)) Room 0 [] (lacks_tight rooms (S bytes) (P bytes) l)

  -- an offset that is wrong has the header before it
  offset_says : (h e : ℕ) (c : Code) (q : ℕ) → OffsetRefusal h (Says bytes h e) bytes c q → Says bytes h e
  offset_says h e c q (behind.counts s v) = s
  offset_says h e c q (behind.starts s a v) = s
  offset_says h e c q (behind.deltas s a b v) = s
  offset_says h e c q (behind.coefficients s a b d v) = s

  body_headed : (h e : ℕ) (c : Code) (q : ℕ) → BodyRefusal h (Editioned bytes h e) bytes c q → Editioned bytes h e
  body_headed h e c q (behind.short d g) = d
  body_headed h e c q (behind.trail d g) = d
  body_headed h e c q (behind.shape d w v) = d
  body_headed h e c q (behind.coord s k g f o) = s.laid
  body_headed h e c q (behind.delta p k g f o) = p.summed.laid

  told_fault : (c : Code) (q : ℕ) → R c q → first_fault (whole_checks2 rooms bytes) ≡ Fault c q
  told_fault c q (cut l) = file_from c q (short_alike m Ns l)
  told_fault c q (version l u) = file_from c q (version_from l u)
  told_fault c q (cut_second l v s) = file_from c q (second_from l v s)
  told_fault c q (offset {h} {e} r) = file_from c q (says_offset bytes h e (offset_says h e c q r) c q (told_offset h (Says bytes h e) bytes c q r))
  told_fault c q (edition {h} {e} l u) = file_from c q (laid_rest bytes h e l ∙ fails _ Edition 32 _ (unknown_told e u))
  told_fault c q (body {h} {e} r) = file_from c q (headed_rest bytes h e (body_headed h e c q r) ∙ told_body h (Editioned bytes h e) bytes c q r)
  told_fault c q (room {h} {e} t l) = room_from h e t l

  -- ---- the answers

  pub judged_fine : first_fault (whole_checks2 rooms bytes) ≡ Fine → read_file rooms bytes ≡ got (described_in (header_long (get_or Ns 0 0)) Ns) []
  unfolding read_file
  judged_fine f = rw f

  judged_fault : (c : Code) (q : ℕ) → first_fault (whole_checks2 rooms bytes) ≡ Fault c q → read_file rooms bytes ≡ stop c q
  unfolding read_file
  judged_fault c q f = rw f

  read_is : (read_file_of rooms bytes).read ≡ outcome rooms (read_file rooms bytes)
  unfolding read_file_of
  read_is = refl

  -- a done answer, and a refused one, tell what was found
  answer_of_lem : (c : Code) (q : ℕ) → (read_file_of rooms bytes).read.answer ≡ refused c q → first_fault (whole_checks2 rooms bytes) ≡ Fault c q
  answer_of_lem c q e = go (first_fault (whole_checks2 rooms bytes)) refl
    where
      whole : (x : Described) → (outcome rooms (got x [])).answer ≡ refused c q → first_fault (whole_checks2 rooms bytes) ≡ Fault c q
      whole (described a zs ns ds cs) e = let z : ◌≡◌ {A = ℕ} 0 1 = cc in absurd (omega arith)

      go : (v : Verdict) → first_fault (whole_checks2 rooms bytes) ≡ v → first_fault (whole_checks2 rooms bytes) ≡ Fault c q
      go Fine f = whole (described_in (header_long (get_or Ns 0 0)) Ns) (sym (ap (λ (o : ReadOutcome). o.answer) (read_is ∙ ap (outcome rooms) (judged_fine f))) ∙ e)
      go (Fault k p) f =
          let z : ◌≡◌ {A = ReadAnswer} (refused k p) (refused c q) = sym (ap (λ (o : ReadOutcome). o.answer) (read_is ∙ ap (outcome rooms) (judged_fault k p f))) ∙ e in
          let same = same_refusal z in
          f ∙ ap (λ (d : Code). Fault d p) same.0 ∙ ap (Fault c) same.1

  pub done_fine : (s p : ℕ) (a : _) → (read_file_of rooms bytes).read.answer ≡ done s p a → first_fault (whole_checks2 rooms bytes) ≡ Fine
  done_fine s p a e = go (first_fault (whole_checks2 rooms bytes)) refl
    where
      go : (v : Verdict) → first_fault (whole_checks2 rooms bytes) ≡ v → first_fault (whole_checks2 rooms bytes) ≡ Fine
      go Fine f = f
      go (Fault k q) f =
          let z : ◌≡◌ {A = ReadAnswer} (refused k q) (done s p a) = sym (ap (λ (o : ReadOutcome). o.answer) (read_is ∙ ap (outcome rooms) (judged_fault k q f))) ∙ e in
          let y : ◌≡◌ {A = ℕ} 0 1 = cc in absurd (omega arith)

  pub refused_so : (c : Code) (q : ℕ) → R c q → read_file_of rooms bytes ≡ record { read = outcome rooms (stop c q); edition = 0 }
  unfolding read_file_of
  refused_so c q r = rw (judged_fault c q (told_fault c q r))

  -- refused exactly so
  pub read_exactly : (c : Code) (q : ℕ) → (read_file_of rooms bytes).read.answer ≡ refused c q ↔ R c q
  read_exactly c q = (λ e. fault_told c q (answer_of_lem c q e), λ r. ap (λ (o : FileOutcome). o.read.answer) (refused_so c q r))

  pub read_refused : (c : Code) (q : ℕ) (o : FileOutcome) → o ≡ read_file_of rooms bytes → R c q → ReadRefused rooms c q o.read × (o.edition ≡ 0)
  read_refused c q o e r =
      let x = e ∙ refused_so c q r in
      let y : o.read ≡ outcome rooms (stop c q) = ap (λ (u : FileOutcome). u.read) x in (
        record {
          answer = ap (λ (u : ReadOutcome). u.answer) y;
          told = ap (λ (u : ReadOutcome). u.told) y;
          counts = ap (λ (u : ReadOutcome). u.counts) y;
          starts = ap (λ (u : ReadOutcome). u.starts) y;
          deltas = ap (λ (u : ReadOutcome). u.deltas) y;
          coefficients = ap (λ (u : ReadOutcome). u.coefficients) y;
        },
        ap (λ (u : FileOutcome). u.edition) x,
      )

  -- and done where nothing is given
  pub read_else : ((c : Code) (q : ℕ) → R c q → ⊥) → first_fault (whole_checks2 rooms bytes) ≡ Fine
  read_else none = go (first_fault (whole_checks2 rooms bytes)) refl
    where
      go : (v : Verdict) → first_fault (whole_checks2 rooms bytes) ≡ v → first_fault (whole_checks2 rooms bytes) ≡ Fine
      go Fine f = f
      go (Fault c q) f = absurd (none c q (fault_told c q f))

-- Assumes nothing.
