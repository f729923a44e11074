-- The two round trips, on the definitions: a valid description is read back from its list, and a list that is read is the list of what it describes.
-- The first puts the steps of Written.antt together; the second is what Accepted.antt says of the whole list.
use mathlib.Core.Path.{◌≡◌, sym}
use mathlib.Core.Bool.{true}
use mathlib.Core.List.{List, [], ◌∷◌, ◌++◌, append-nil}
use Prim.Native.Nat.{ℕ, ◌+◌, ◌-◌, ◌*◌, ◌≤◌}
use native.Mathlib.Omega.{arith}
use lib.ListN.{length}
use lib.IntN.{ℤ, pos}
use borrow.Author.Tests.{le-ltb}
use Rattle.list.specs.List.{pack_signed, ListRooms, got, splines, described, splines_of, after_starts, read_of, starts_list, splines_list, list_of, Valid}
use Rattle.list.proofs.Signed.{unpack_pack}
use Rattle.list.proofs.Accepted.{list_read}
use Rattle.list.proofs.Written.{starts_written, splines_written}

-- rooms that hold a description
pub record Holds (rooms : ListRooms) (zs : List ℤ) (ns : List ℕ) (ds cs : List ℤ) : Type 0 where
  pub counts : length ns ≤ rooms.counts
  pub starts : length zs ≤ rooms.starts
  pub deltas : length ds ≤ rooms.deltas
  pub coefficients : length cs ≤ rooms.coefficients

-- what is written is read
pub written_is_read : (limit : ℕ) (rooms : ListRooms) (a : ℤ) (zs : List ℤ) (ns : List ℕ) (ds cs : List ℤ) → Valid limit zs ns ds cs → Holds rooms zs ns ds cs
    → read_of limit rooms (list_of (described a zs ns ds cs)) ≡ got (described a zs ns ds cs) []
unfolding read_of after_starts
written_is_read limit rooms a zs ns ds cs v h =
    let s = length ns in
    let t = length ((s - 1) ∷ (starts_list true (pos 0) (pos 0) zs ++ (pack_signed a ∷ splines_list ns ds cs))) in
    let one : s - 1 + 1 ≡ s = omega (arith, v.some) in
    let x = starts_written t true (pos 0) (pos 0) s zs (pack_signed a ∷ splines_list ns ds cs) v.starts v.near in
    let y : splines_of t limit rooms.deltas s (splines_list ns ds cs) ≡ got (splines ns ds cs) []
    = rw append-nil at (splines_written t limit rooms.deltas ns ds cs [] v.total (omega (arith, v.deltas, h.deltas)) v.deltas v.coefficients v.tame) in
    rw (
      one,
      le-ltb limit s v.count,
      le-ltb rooms.counts s h.counts,
      le-ltb rooms.starts (2 * s) (omega (arith, v.starts, h.starts)),
      le-ltb rooms.coefficients (128 * s) (omega (arith, v.coefficients, h.coefficients)),
      x,
      y,
      unpack_pack a,
    )

-- what is read is written
pub read_is_written : (limit : ℕ) (rooms : ListRooms) (l : List ℕ) (a : ℤ) (zs : List ℤ) (ns : List ℕ) (ds cs : List ℤ) (r : List ℕ)
    → read_of limit rooms l ≡ got (described a zs ns ds cs) r → list_of (described a zs ns ds cs) ≡ l
read_is_written limit rooms l a zs ns ds cs r e = sym (list_read limit rooms l a zs ns ds cs r e).is

-- and can be written under the same limit
pub read_is_valid : (limit : ℕ) (rooms : ListRooms) (l : List ℕ) (a : ℤ) (zs : List ℤ) (ns : List ℕ) (ds cs : List ℤ) (r : List ℕ)
    → read_of limit rooms l ≡ got (described a zs ns ds cs) r → Valid limit zs ns ds cs
read_is_valid limit rooms l a zs ns ds cs r e = (list_read limit rooms l a zs ns ds cs r e).valid

-- Assumes nothing.
