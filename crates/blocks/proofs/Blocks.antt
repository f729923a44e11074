-- Laws of a block of pixels: its four passes are one edit, and a block that has come back is a turn of the loop over all blocks.
use mathlib.Core.Path.{◌≡◌, ap, ◌∙◌}
use mathlib.Core.List.{List, ◌++◌}
use Prim.Native.Nat.{ℕ, ◌+◌, ◌-◌, ◌<◌, ◌≤◌}
use native.Mathlib.Omega.{arith}
use lib.ListN.{length, get_or, take, drop, length-take, length-drop}
use lib.Ieee.{Float, nan, binary32}
use borrow.Author.Tests.{lt-ltb}
use Rattle.roots.specs.Root.{sqrt_of}
use Rattle.segments.specs.declared.Segment.{Segment}
use Rattle.shade.specs.Edit.{edit, first_cells}
use Rattle.shade.specs.Shade.{sqd, dy2, intensity_at, shade, shaded, shaded_by_intensity, shaded_by_square}
use Rattle.shade.proofs.Edits.{length_edit, get_d_edit, edit_cong, stored_part}

-- a cell after a pass over the first m
pub passed : (f : ℕ → Float → Float) (m : ℕ) (v w : List Float) (i : ℕ) → m ≤ length v → i < m → w ≡ edit (first_cells m f) v → get_or w i nan ≡ f i (get_or v i nan)
passed f m v w i h k p = ap (λ (u : List Float). get_or u i nan) p ∙ get_d_edit (first_cells m f) v i (omega arith) ∙ rw (lt-ltb i m k)

pub as_long : (f : ℕ → Float → Float) (m : ℕ) (v w : List Float) → w ≡ edit (first_cells m f) v → length w ≡ length v
as_long f m v w p = ap length p ∙ length_edit (first_cells m f) v

-- squares in v1, the roots of the first m in v2, intensities in v3, and the segment added by these
pub four_passes : (s : Segment) (d : Float) (x c m l : ℕ) (v0 v1 v2 v3 xs ys : List Float) → length v0 ≡ 32 → m ≤ l → l ≤ 32 → m ≡ length xs → v1 ≡ edit (first_cells l (λ k w. sqd s.center_x d (x + k))) v0 → v2 ≡ edit (first_cells m (λ k w. sqrt_of binary32 w)) v1 → v3 ≡ edit (first_cells l (λ k w. intensity_at s w)) v2 → ys ≡ edit (λ k v. shaded_by_intensity s (get_or v3 k nan) c v) xs → ys ≡ edit (λ k v. shaded_by_square s d (x + k) c v) xs
four_passes s d x c m l v0 v1 v2 v3 xs ys z ml l32 e p q r t =
    t ∙ edit_cong _ (λ k v. shaded_by_square s d (x + k) c v) xs (λ i v k. ap (λ (w : Float). shaded_by_intensity s w c v) (local_at i (omega arith)))
  where
    square : ℕ → Float → Float
    square k w = sqd s.center_x d (x + k)

    root : ℕ → Float → Float
    root k w = sqrt_of binary32 w

    local : ℕ → Float → Float
    local k w = intensity_at s w

    long1 : length v1 ≡ 32
    long1 = as_long square l v0 v1 p ∙ z

    long2 : length v2 ≡ 32
    long2 = as_long root m v1 v2 q ∙ long1

    root_at : (i : ℕ) → i < m → get_or v2 i nan ≡ sqrt_of binary32 (sqd s.center_x d (x + i))
    root_at i k = passed root m v1 v2 i (omega (arith, long1)) k q ∙ ap (sqrt_of binary32) (passed square l v0 v1 i (omega arith) (omega arith) p)

    local_at : (i : ℕ) → i < m → get_or v3 i nan ≡ intensity_at s (sqrt_of binary32 (sqd s.center_x d (x + i)))
    local_at i k = passed local l v2 v3 i (omega (arith, long2)) (omega arith) r ∙ ap (intensity_at s) (root_at i k)

-- the cells from a up to e
pub part_long : (xs : List Float) (a e : ℕ) → a ≤ e → e ≤ length xs → length (take (e - a) (drop a xs)) ≡ e - a
part_long xs a e l h = simp (length-take, length-drop) (omega arith)

-- by the square of the distance in y
same_shade : (s : Segment) (y x c : ℕ) (d v : Float) → d ≡ dy2 s.center_y y → shaded_by_square s d x c v ≡ shaded s y x c v
unfolding shaded_by_intensity shade
same_shade s y x c d v e = ap (λ (w : Float). shaded_by_square s w x c v) e

-- the block from a up to e of the pixels from column x on
pub block_turn : (s : Segment) (y x c : ℕ) (d : Float) (a e b : ℕ) (xs₀ xs ys : List Float) → d ≡ dy2 s.center_y y → b ≡ x + a → a ≤ e → e ≤ length xs₀ → xs ≡ edit (first_cells a (λ k v. shaded s y (x + k) c v)) xs₀ → ys ≡ edit (λ k v. shaded_by_square s d (b + k) c v) (take (e - a) (drop a xs)) → take a xs ++ (ys ++ drop (e - a) (drop a xs)) ≡ edit (first_cells e (λ k v. shaded s y (x + k) c v)) xs₀
block_turn s y x c d a e b xs₀ xs ys p q l h r t =
    stored_part (λ k v. shaded s y (x + k) c v) xs₀ xs ys a e l h r
    (t ∙ edit_cong _ (λ k v. shaded s y (x + (a + k)) c v) (take (e - a) (drop a xs)) (λ i v k. ap (λ (z : ℕ). shaded_by_square s d z c v) (omega arith) ∙ same_shade s y (x + (a + i)) c d v p))

-- Assumes nothing.
