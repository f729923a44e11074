-- What a call of `read` leaves: its answer and every lent cell, from the list, the two limits and the four lengths alone.
use Rattle.std.specs.Prelude.{List, map, ℕ, length, replicate, ℤ, pos, Float}
use Rattle.buffers.specs.Padded.{padded}
use Rattle.codes.specs.Codes.{number_of}
use Rattle.shape.specs.Shape.{points_of}
use Rattle.list.specs.List.{Got, got, stop, ListRooms, Described, described, limit_of, read_of}
use Rattle.list.specs.Steps.{f32_of, zero_f32}
use Rattle.std.specs.Prelude.{Ok}
use Rattle.codes.specs.Refusal.{refused}
pub use Rattle.read_list.specs.Answer.{ReadAnswer, done}
pub use Rattle.read_list.specs.Rest.{rooms_of}

-- an answer in the terms of the table of codes: the code's number, the place, and the counts
pub record ReadTold : Type 0 where
  pub number : ℕ
  pub place : ℕ
  pub splines : ℕ
  pub points : ℕ
  pub adjustment : ℤ

-- a success is number 0 at place 0; a refusal has counts of 0
abbrev pub told_of : ReadAnswer → ReadTold
told_of (Ok r) = record { number = 0; place = 0; splines = r.splines; points = r.points; adjustment = r.adjustment }
told_of (refused c p) = record { number = number_of c; place = p; splines = 0; points = 0; adjustment = pos 0 }

-- the answer, what it tells, and the four lent buffers
pub record ReadOutcome : Type 0 where
  pub answer : ReadAnswer
  pub told : ReadTold
  pub counts : List ℕ
  pub starts : List Float
  pub deltas : List ℤ
  pub coefficients : List ℤ

abbrev pub leaves : ReadAnswer → List ℕ → List Float → List ℤ → List ℤ → ReadOutcome
leaves r ns zs ds cs = record { answer = r; told = told_of r; counts = ns; starts = zs; deltas = ds; coefficients = cs }

-- what was read, or a refusal with every cell zero
abbrev pub outcome : ListRooms → Got Described → ReadOutcome
outcome rooms (got (described a zs ns ds cs) l) = record {
  answer = done (length ns) (points_of ns) a;
  told = record { number = 0; place = 0; splines = length ns; points = points_of ns; adjustment = a };
  counts = padded rooms.counts 0 ns;
  starts = padded rooms.starts zero_f32 (map f32_of zs);
  deltas = padded rooms.deltas (pos 0) ds;
  coefficients = padded rooms.coefficients (pos 0) cs;
}
outcome rooms (stop c p) = record {
  answer = refused c p;
  told = record { number = number_of c; place = p; splines = 0; points = 0; adjustment = pos 0 };
  counts = replicate rooms.counts 0;
  starts = replicate rooms.starts zero_f32;
  deltas = replicate rooms.deltas (pos 0);
  coefficients = replicate rooms.coefficients (pos 0);
}

-- the outcome of reading a list
abbrev pub read_outcome : ℕ → ℕ → ListRooms → List ℕ → ReadOutcome
read_outcome configured pixels rooms list = outcome rooms (read_of (limit_of configured pixels) rooms list)
