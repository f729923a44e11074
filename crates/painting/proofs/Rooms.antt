-- As much of a buffer as there is room for: what is drawn on that part is drawn on the buffer.
use mathlib.Core.Path.{◌≡◌, refl, sym, ap, ◌∙◌}
use mathlib.Core.List.{List, [], ◌∷◌, ◌++◌, append_assoc}
use Prim.Native.Nat.{ℕ, zero, suc, ◌*◌, ◌≤◌}
use native.Mathlib.Omega.{arith}
use lib.ListN.{length, take, drop, take-append-drop}
use lib.Seq.{sets, length-take-le}
use lib.Ieee.{Float}
use Rattle.buffers.specs.Onto.{onto}
use Rattle.buffers.proofs.Fronts.{sets_front}
use Rattle.points.specs.Points.{segment_room, eights}
use Rattle.points.proofs.Adding.{length_eights}
use Rattle.owners.specs.Owners.{owned_room}
use Rattle.painting.specs.Painting.{Painted, All, NoRoomAt, drawn_of, DrawnOn}
use Rattle.painting.specs.Segmented.{Segmented}

-- so many records are lent that their room is the whole room
pub room_is : (o : List Float) (owners room : ℕ) → room ≡ owned_room (length o) owners
    → (8 * room ≤ length o) × (8 * room ≡ length (take (8 * room) o)) × (segment_room (length (take (8 * room) o)) ≡ owned_room (length o) owners) × (room ≤ owners)
room_is o owners room e =
    let h : 8 * room ≤ length o = omega arith in
    let l : length (take (8 * room) o) ≡ 8 * room = length-take-le (8 * room) o h in
    (h, omega arith, omega arith, omega arith)

module _ {A : Type 0} where
  drop_part : (m n : ℕ) (o : List A) → m ≤ n → drop m (take n o) ++ drop n o ≡ drop m o
  drop_part zero n o h = take-append-drop n o
  drop_part (suc m) zero o h = absurd (omega arith)
  drop_part (suc m) (suc n) [] h = refl
  drop_part (suc m) (suc n) (a ∷ o) h = drop_part m n o (omega arith)

  -- stores on the first n cells
  sets_part : (xs o : List A) (n : ℕ) → length xs ≤ n → n ≤ length o → sets (take n o) 0 xs ++ drop n o ≡ sets o 0 xs
  unfolding onto
  sets_part xs o n h l =
      let s : sets (take n o) 0 xs ≡ xs ++ drop (length xs) (take n o) = sets_front xs (take n o) (omega (arith, length-take-le n o l)) in
      let t : sets o 0 xs ≡ xs ++ drop (length xs) o = sets_front xs o (omega arith) in
      rw (s, t, append_assoc, drop_part (length xs) n o h)

on_part : (q : Painted) (room : ℕ) (o e : List Float) (u v : List ℕ) → 8 * room ≤ length o → DrawnOn q room (take (8 * room) o) e u v → DrawnOn q room o (e ++ drop (8 * room) o) u v
on_part (NoRoomAt k) room o e u v l h = tt
on_part (All segs owners) room o e u v l h = (
  ap (λ (x : List Float). x ++ drop (8 * room) o) h.0 ∙ sets_part (eights segs) o (8 * room) (omega (arith, length_eights segs, h.2)) l,
  h.1,
  h.2,
  h.3,
)

-- drawing with some room for segments, on that part and on the buffer
pub part_drawn : (paint : ℕ → Painted) (o e : List Float) (u v : List ℕ) (room : ℕ) {r : Segmented} → room ≡ owned_room (length o) (length u)
    → (r ≡ drawn_of (paint (segment_room (length (take (8 * room) o)))))
    × DrawnOn (paint (segment_room (length (take (8 * room) o)))) (segment_room (length (take (8 * room) o))) (take (8 * room) o) e u v
    → (r ≡ drawn_of (paint (owned_room (length o) (length u)))) × DrawnOn (paint (owned_room (length o) (length u))) (owned_room (length o) (length u)) o (e ++ drop (8 * room) o) u v
part_drawn paint o e u v room q h =
    let f = room_is o (length u) room q in
    let s : segment_room (length (take (8 * room) o)) ≡ room = f.2 ∙ sym q in
    let k = rw s at h in
    rw (← q) (k.0, on_part (paint room) room o e u v f.0 k.1)

-- Assumes nothing.
