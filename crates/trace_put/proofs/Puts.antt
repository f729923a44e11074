-- Laws of putting numbers: what a loop has put, with what it has still to put, is what it puts in all; the parts one after the other.
use mathlib.Core.Path.{◌≡◌, refl, sym, ap, ◌∙◌}
use mathlib.Core.List.{List, [], ◌∷◌, ◌++◌, map}
use Prim.Native.Nat.{ℕ, suc, ◌+◌, ◌*◌, ◌≤◌, ◌<◌}
use native.Mathlib.Numerals.{add-one}
use native.Mathlib.Omega.{arith}
use lib.ListN.{length, drop, get_or, length-append, length-map, drop_of_length-le, get_or-map}
use lib.Seq.{drop-cons, sets}
use lib.IntN.{ℤ}
use lib.Ieee.{Float}
use Rattle.write_steps.proofs.Stores.{sets_append}
use Rattle.little.specs.Little.{four_of, bytes_of, unsigned_of}
use Rattle.little.proofs.Little.{bytes_length, bytes_append}
use Rattle.trace_put.specs.Steps.{start_number, part_numbers}

-- ---- a turn of a loop that puts numbers

module _ (vs l l' : List ℕ) (from i : ℕ) where
  pub put_more : (z v : ℕ) → i < length vs → v ≡ get_or vs i z → l' ≡ sets l (4 * (from + i)) (four_of v)
      → sets l' (4 * (from + (i + 1))) (bytes_of (drop (i + 1) vs)) ≡ sets l (4 * (from + i)) (bytes_of (drop i vs))
  unfolding bytes_of
  put_more z v h e is =
      let p : 4 * (from + (i + 1)) ≡ 4 * (from + i) + 4 = omega arith in
      rw (is, p, add-one i, drop-cons vs i z h, ← e) (sym (sets_append l (4 * (from + i)) (four_of v) (bytes_of (drop (suc i) vs))))

pub put_end : (vs l : List ℕ) (k i : ℕ) → length vs ≤ i → sets l k (bytes_of (drop i vs)) ≡ l
unfolding bytes_of
put_end vs l k i h = rw (drop_of_length-le vs h)

-- a number of a list of what others stand for
pub map_at : {A : Type 0} (f : A → ℕ) (xs : List A) (d : A) (i v : ℕ) → v ≡ f (get_or xs i d) → v ≡ get_or (map f xs) i (f d)
map_at f xs d i v e = e ∙ sym (get_or-map f xs i d)

-- ---- the parts, one after the other

-- numbers put behind others
pub put_behind : (l o q : List ℕ) (k j : ℕ) (ms ns : List ℕ) → o ≡ sets l (4 * k) (bytes_of ms) → q ≡ sets o (4 * j) (bytes_of ns) → j ≡ k + length ms
    → q ≡ sets l (4 * k) (bytes_of (ms ++ ns))
put_behind l o q k j ms ns a b e =
    let p : 4 * j ≡ 4 * k + length (bytes_of ms) = omega (arith, bytes_length ms) in
    b ∙ rw (p, a, bytes_append ms ns) (sym (sets_append l (4 * k) (bytes_of ms) (bytes_of ns)))

append_four : (a b c d : List ℕ) → a ++ b ++ c ++ d ≡ a ++ (b ++ (c ++ d))
append_four [] [] [] d = refl
append_four [] [] (x ∷ c) d = ap (λ (t : List ℕ). x ∷ t) (append_four [] [] c d)
append_four [] (x ∷ b) c d = ap (λ (t : List ℕ). x ∷ t) (append_four [] b c d)
append_four (x ∷ a) b c d = ap (λ (t : List ℕ). x ∷ t) (append_four a b c d)

-- behind a header of h numbers
pub parts_put : (h : ℕ) (ns : List ℕ) (ss : List Float) (ds cs : List ℤ) (l o1 o2 o3 o4 : List ℕ) → length ss ≡ 2 * length ns
    → o1 ≡ sets l (4 * h) (bytes_of ns) → o2 ≡ sets o1 (4 * (h + length ns)) (bytes_of (map start_number ss))
    → o3 ≡ sets o2 (4 * (h + 3 * length ns)) (bytes_of (map unsigned_of ds)) → o4 ≡ sets o3 (4 * (h + (3 * length ns + length ds))) (bytes_of (map unsigned_of cs))
    → o4 ≡ sets l (4 * h) (bytes_of (part_numbers ns ss ds cs))
unfolding part_numbers
parts_put h ns ss ds cs l o1 o2 o3 o4 pairs a b c d =
    let zs = map start_number ss in
    let es = map unsigned_of ds in
    let x = put_behind l o1 o2 h (h + length ns) ns zs a b refl in
    let y = put_behind l o2 o3 h (h + 3 * length ns) (ns ++ zs) es x c (omega (arith, length-append ns zs, length-map ss start_number)) in
    let z = put_behind l o3 o4 h (h + (3 * length ns + length ds)) (ns ++ zs ++ es) (map unsigned_of cs) y d
    (omega (arith, length-append ns zs, length-map ss start_number, length-append (ns ++ zs) es, length-map ds unsigned_of)) in
    z ∙ ap (λ (t : List ℕ). sets l (4 * h) (bytes_of t)) (append_four ns zs es (map unsigned_of cs))

-- Assumes nothing.
