-- Rooms that hold a description: cells for its counts, its starts, its double deltas and its coefficients.
use Rattle.std.specs.Prelude.{List, ℕ, ◌≤◌, length, ℤ, Float}
use Rattle.list.specs.List.{ListRooms}

pub record Enough (rooms : ListRooms) (ns : List ℕ) (ss : List Float) (ds cs : List ℤ) : Type 0 where
  pub counts : length ns ≤ rooms.counts
  pub starts : length ss ≤ rooms.starts
  pub deltas : length ds ≤ rooms.deltas
  pub coefficients : length cs ≤ rooms.coefficients
