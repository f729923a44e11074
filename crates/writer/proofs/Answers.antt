-- Laws of the whole: what `write` answers and leaves after each way through it.
use mathlib.Core.Path.{◌≡◌, ap, ◌∙◌}
use mathlib.Core.List.{List, [], ◌∷◌, ◌++◌}
use Prim.Native.Nat.{ℕ, ◌+◌, ◌-◌, ◌*◌, ◌^◌, ◌≤◌, ◌<◌}
use native.Mathlib.Omega.{arith}
use lib.Dec.{ltb}
use lib.ListN.{length, replicate, length-replicate}
use lib.Seq.{sets}
use lib.IntN.{ℤ}
use lib.Ieee.{Float}
use borrow.Author.Tests.{lt-ltb, le-ltb}
use Rattle.codes.specs.declared.Code.{Code}
use Rattle.codes.specs.declared.Code.TheVariants.{Room}
use Rattle.list.specs.List.{limit_of}
use Rattle.writer.specs.Write.{check, first_fault, content_checks, values_of, leaves, write_of}
use Rattle.write_judge.specs.Verdict.{Fine, Fault}
use Rattle.write_steps.specs.Steps.{Writable}
use Rattle.write_judge.proofs.Checks.{fails, passes, faults_before, fine_before, agreed, counted, content_fine}
use Rattle.write_steps.proofs.Stores.{list_length, zeros_after}
use Rattle.writer.specs.WriteAnswer.{Done, Refused}

module _ (ns : List ℕ) (ss : List Float) (ds cs : List ℤ) (limit : ℕ) where
  -- a description in which no fault was found, and a list with room for it
  pub writable : (room : ℕ) → first_fault (content_checks ns ss ds cs limit) ≡ Fine → limit < 2 ^ 32 → 131 * length ns + length ds + 2 ≤ room → Writable ns ss ds cs room
  writable room e under h =
      let f = content_fine ns ss ds cs limit e in
      let s = agreed ns ss ds cs f.0 in
      let n = counted limit (length ns) f.1 in
      record { some = n.0; few = omega (arith, n.1); pairs = s.0; points = s.1; rows = s.2; fit = f.2; fits = h }

  -- its values are few enough to be counted
  pub size_fits : first_fault (content_checks ns ss ds cs limit) ≡ Fine → limit < 2 ^ 32 → length ns < 2 ^ 32
  size_fits e under = omega (arith, (counted limit (length ns) (content_fine ns ss ds cs limit e).1).1)

module _ (ns : List ℕ) (ss : List Float) (ds cs : List ℤ) (a : ℤ) (configured pixels room limit : ℕ) (is : limit ≡ limit_of configured pixels) where
  pub answer_fault : (c : Code) (p : ℕ) (l : List ℕ) → l ≡ replicate room 0 → first_fault (content_checks ns ss ds cs limit) ≡ Fault c p
      → leaves (Refused c p) l ≡ write_of ns ss ds cs a configured pixels room
  unfolding write_of
  answer_fault c p l z e = rw (← is, faults_before (content_checks ns ss ds cs limit) _ c p e, z)

  module _ (fine : first_fault (content_checks ns ss ds cs limit) ≡ Fine) where
    size : length (values_of ns ss ds cs a) ≡ 131 * length ns + length ds + 2
    size =
        let s = agreed ns ss ds cs (content_fine ns ss ds cs limit fine).0 in
        list_length ns ss ds cs a s.0 s.1 s.2

    pub answer_room : (l : List ℕ) → l ≡ replicate room 0 → length l < 131 * length ns + length ds + 2
        → leaves (Refused Room (length l)) l ≡ write_of ns ss ds cs a configured pixels room
    unfolding write_of
    answer_room l z h =
        let k : length l ≡ room = ap length z ∙ length-replicate {A = ℕ} room 0 in
        let t = fails (ltb room (length (values_of ns ss ds cs a))) Room room [] (lt-ltb room (length (values_of ns ss ds cs a)) (omega (arith, size))) in
        rw (← is, fine_before (content_checks ns ss ds cs limit) (check (ltb room (length (values_of ns ss ds cs a))) Room room ∷ []) fine, t, k, z)

    pub answer_done : (l l' : List ℕ) → l ≡ replicate room 0 → 131 * length ns + length ds + 2 ≤ length l → l' ≡ sets l 0 (values_of ns ss ds cs a)
        → leaves (Done (131 * length ns + length ds + 2)) l' ≡ write_of ns ss ds cs a configured pixels room
    unfolding write_of first_fault
    answer_done l l' z h e =
        let k : length l ≡ room = ap length z ∙ length-replicate {A = ℕ} room 0 in
        let values = values_of ns ss ds cs a in
        let t = passes (ltb room (length values)) Room room [] (le-ltb room (length values) (omega (arith, size))) in
        let w : l' ≡ values ++ replicate (room - length values) 0
        = e ∙ ap (λ (o : List ℕ). sets o 0 values) z ∙ zeros_after room values (omega (arith, size)) in
        rw (← is, fine_before (content_checks ns ss ds cs limit) (check (ltb room (length values)) Room room ∷ []) fine, t, ← size, w)

-- Assumes nothing.
