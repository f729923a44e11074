-- The codes of reading and writing, each exactly when: statements on outcomes that the proved contracts allow. Definitions only.
use Rattle.codes.specs.Refusal.{refused}
use Rattle.std.specs.Prelude.{◌≡◌, List, ◌↔◌, ℕ, ℤ, Float, length}
use Rattle.codes.specs.declared.Code.{Code}
use Rattle.shape.specs.Shape.{points_of}
use Rattle.list.specs.List.{ListRooms, limit_of}
use Rattle.reader.specs.Read.{ReadOutcome}
use Rattle.reader.specs.Refusals.{ReadRefusal, ReadRefused}
use Rattle.read_list.specs.Answer.{ReadAnswer}
use Rattle.read_list.specs.Answer as ReadAnswer
use Rattle.writer.specs.Write.{WriteOutcome}
use Rattle.writer.specs.WriteAnswer.{Done, Refused}
use Rattle.write_laws.specs.Refusals.{WriteRefusal, WriteRefused, WriteAccepted, list_size}
use Rattle.aktyrbuz.specs.Calls.{ReadCall, WriteCall}

-- an answer of success, with its counts
pub record ReadDone (o : ReadOutcome) : Type 0 where
  pub splines : ℕ
  pub points : ℕ
  pub adjustment : ℤ
  pub is : o.answer ≡ ReadAnswer.done splines points adjustment

-- reading refuses with a code at a place exactly when the table of reading gives it; the number, the place and the counts of 0 are then told, and every lent cell is zero
-- where the table gives nothing, reading is done
pub record ReadCodes : Type 0 where
  pub exactly : (l : List ℕ) (configured pixels : ℕ) (rooms : ListRooms) (o : ReadOutcome) → ReadCall l configured pixels rooms o
      → (c : Code) (p : ℕ) → o.answer ≡ refused c p ↔ ReadRefusal (limit_of configured pixels) rooms l c p
  pub told : (l : List ℕ) (configured pixels : ℕ) (rooms : ListRooms) (o : ReadOutcome) → ReadCall l configured pixels rooms o
      → (c : Code) (p : ℕ) → ReadRefusal (limit_of configured pixels) rooms l c p → ReadRefused rooms c p o
  pub else_done : (l : List ℕ) (configured pixels : ℕ) (rooms : ListRooms) (o : ReadOutcome) → ReadCall l configured pixels rooms o
      → ((c : Code) (p : ℕ) → ReadRefusal (limit_of configured pixels) rooms l c p → ⊥) → ReadDone o

-- writing likewise, by the table of writing; and it is done exactly when nothing is given
pub record WriteCodes : Type 0 where
  pub exactly : (ns : List ℕ) (ss : List Float) (ds cs : List ℤ) (a : ℤ) (configured pixels room : ℕ) (o : WriteOutcome) → WriteCall ns ss ds cs a configured pixels room o
      → (c : Code) (p : ℕ) → o.answer ≡ Refused c p ↔ WriteRefusal ns ss ds cs (limit_of configured pixels) room c p
  pub told : (ns : List ℕ) (ss : List Float) (ds cs : List ℤ) (a : ℤ) (configured pixels room : ℕ) (o : WriteOutcome) → WriteCall ns ss ds cs a configured pixels room o
      → (c : Code) (p : ℕ) → WriteRefusal ns ss ds cs (limit_of configured pixels) room c p → WriteRefused room c p o
  pub done : (ns : List ℕ) (ss : List Float) (ds cs : List ℤ) (a : ℤ) (configured pixels room : ℕ) (o : WriteOutcome) → WriteCall ns ss ds cs a configured pixels room o
      → (n : ℕ) → o.answer ≡ Done n ↔ WriteAccepted ns ss ds cs (limit_of configured pixels) room n

-- 2 + 131 S + 2 P values are written of S splines and P points
abbrev pub WrittenSize : Type 0
WrittenSize =
    (ns : List ℕ) (ss : List Float) (ds cs : List ℤ) (a : ℤ) (configured pixels room : ℕ) (o : WriteOutcome) → WriteCall ns ss ds cs a configured pixels room o
    → (n : ℕ) → o.answer ≡ Done n → n ≡ list_size (length ns) (points_of ns)
