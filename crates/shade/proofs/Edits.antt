-- Laws of `edit`, each shown cell by cell: an edit of a part that was lent and has come back, and the turns of a loop that edits from the front.
use mathlib.Core.Path.{◌≡◌, refl, sym, ap, ◌∙◌}
use mathlib.Core.Bool.{cond}
use mathlib.Core.Logic.{◌⊎◌, inl, inr, ⊎_elim}
use mathlib.Core.List.{List, [], ◌∷◌, ◌++◌}
use Prim.Native.Nat.{ℕ, zero, suc, ◌+◌, ◌-◌, ◌<◌, ◌≤◌, suc-le-suc, zero-le}
use native.Mathlib.Nat.{add-zero, add-suc, suc-add, zero-add, le_of_suc-le-suc, not-suc-le-zero, le_antisymm, ne_of_lt, ne_of_gt}
use native.Mathlib.Omega.{arith}
use lib.ListN.{length, get_or, set, take, drop, length-set, length-append, length-take, length-drop, get_or-append}
use lib.Seq.{ext_get_or, get_or-set_same, get_or-set_other, get_or-take, get_or-drop, get_or-append-add}
use lib.Dec.{ltb}
use lib.Ieee.{Float, nan}
use borrow.Author.Tests.{lt-ltb, le-ltb, le-leb, lt-leb}
use Rattle.shade.specs.Edit.{edit_from, edit, first_cells, inside}

pub lt_or_ge : (a b : ℕ) → (a < b) ⊎ (b ≤ a)
lt_or_ge a zero = inr zero-le
lt_or_ge zero (suc b) = inl (suc-le-suc zero-le)
lt_or_ge (suc a) (suc b) = ⊎_elim (λ p. inl (suc-le-suc p)) (λ q. inr (suc-le-suc q)) (lt_or_ge a b)

length_edit_from : (f : ℕ → Float → Float) (k : ℕ) (xs : List Float) → length (edit_from f k xs) ≡ length xs
length_edit_from f k [] = refl
length_edit_from f k (v ∷ vs) = ap suc (length_edit_from f (suc k) vs)

pub length_edit : (f : ℕ → Float → Float) (xs : List Float) → length (edit f xs) ≡ length xs
unfolding edit
length_edit f xs = length_edit_from f 0 xs

get_d_edit_from : (f : ℕ → Float → Float) (k : ℕ) (xs : List Float) (i : ℕ) → i < length xs → get_or (edit_from f k xs) i nan ≡ f (k + i) (get_or xs i nan)
get_d_edit_from f k [] i h = absurd (not-suc-le-zero h)
get_d_edit_from f k (v ∷ vs) zero h = rw (add-zero k)
get_d_edit_from f k (v ∷ vs) (suc i) h = rw (add-suc k i, ← (suc-add k i)) (get_d_edit_from f (suc k) vs i (le_of_suc-le-suc h))

pub get_d_edit : (f : ℕ → Float → Float) (xs : List Float) (i : ℕ) → i < length xs → get_or (edit f xs) i nan ≡ f i (get_or xs i nan)
unfolding edit
get_d_edit f xs i h = rw (zero-add i) at (get_d_edit_from f 0 xs i h)

-- a list of the same length whose cells are right is the edited list
pub is_edit : (f : ℕ → Float → Float) (xs ys : List Float) → length ys ≡ length xs → ((i : ℕ) → i < length xs → get_or ys i nan ≡ f i (get_or xs i nan)) → ys ≡ edit f xs
is_edit f xs ys e h = ext_get_or nan ys (edit f xs) (e ∙ sym (length_edit f xs)) (λ i k. h i (omega arith) ∙ sym (get_d_edit f xs i (omega arith)))

pub edit_cong : (f g : ℕ → Float → Float) (xs : List Float) → ((i : ℕ) (v : Float) → i < length xs → f i v ≡ g i v) → edit f xs ≡ edit g xs
edit_cong f g xs h = is_edit g xs (edit f xs) (length_edit f xs) (λ i k. get_d_edit f xs i k ∙ h i _ k)

pub edit_none : (f : ℕ → Float → Float) (xs : List Float) → xs ≡ edit (first_cells 0 f) xs
edit_none f xs = is_edit (first_cells 0 f) xs xs refl (λ i k. rw (le-ltb i 0 (omega arith)))

-- a loop that has come to its end
pub edit_until : (f : ℕ → Float → Float) (xs ys : List Float) {k n : ℕ} → k ≤ n → n ≤ k → ys ≡ edit (first_cells k f) xs → ys ≡ edit (first_cells n f) xs
edit_until f xs ys l h e = e ∙ ap (λ (j : ℕ). edit (first_cells j f) xs) (le_antisymm l h)

pub edit_all : (f : ℕ → Float → Float) (xs : List Float) (n : ℕ) → length xs ≤ n → edit (first_cells n f) xs ≡ edit f xs
edit_all f xs n h = edit_cong (first_cells n f) f xs (λ i v k. rw (lt-ltb i n (omega arith)))

pub edit_edit : (f g : ℕ → Float → Float) (xs : List Float) → edit g (edit f xs) ≡ edit (λ k v. g k (f k v)) xs
edit_edit f g xs =
    is_edit (λ k v. g k (f k v)) xs (edit g (edit f xs)) (length_edit g (edit f xs) ∙ length_edit f xs)
    (λ i k. get_d_edit g (edit f xs) i (rw (length_edit f xs) k) ∙ ap (g i) (get_d_edit f xs i k))

-- one more cell
pub edit_step : (f : ℕ → Float → Float) (xs : List Float) (i : ℕ) (v : Float) → i < length xs → v ≡ f i (get_or xs i nan) → set (edit (first_cells i f) xs) i v ≡ edit (first_cells (i + 1) f) xs
edit_step f xs i v h e =
    is_edit (first_cells (i + 1) f) xs (set (edit (first_cells i f) xs) i v)
    (length-set (edit (first_cells i f) xs) i v ∙ length_edit (first_cells i f) xs)
    (λ j k. ⊎_elim (λ l. get_or-set_other (edit (first_cells i f) xs) i j v nan (ne_of_lt l) ∙ get_d_edit (first_cells i f) xs j k ∙ rw (lt-ltb j i l, lt-ltb j (i + 1) (omega arith)))
    (λ l. ⊎_elim (λ m. get_or-set_other (edit (first_cells i f) xs) i j v nan (ne_of_gt m) ∙ get_d_edit (first_cells i f) xs j k ∙ rw (le-ltb j i l, le-ltb j (i + 1) (omega arith)))
    (λ m. same j (omega arith) k)
    (lt_or_ge i j))
    (lt_or_ge j i))
  where
    same : (j : ℕ) → j ≡ i → j < length xs → get_or (set (edit (first_cells i f) xs) i v) j nan ≡ first_cells (i + 1) f j (get_or xs j nan)
    same j p k =
        rw (p, lt-ltb i (i + 1) (omega arith))
        (get_or-set_same (edit (first_cells i f) xs) i v nan (rw (length_edit (first_cells i f) xs) h) ∙ e)

-- what stands where, once a part has come back
pub part_at : (xs ys : List Float) (a n i : ℕ) → a + n ≤ length xs → length ys ≡ n → i < length xs → get_or (take a xs ++ (ys ++ drop n (drop a xs))) i nan ≡ cond (inside a n i) (get_or ys (i - a) nan) (get_or xs i nan)
part_at xs ys a n i h e k =
    ⊎_elim
    (λ l. rw (lt-leb a i l) (get_or-append (take a xs) rest nan i (omega (arith, l, ta)) ∙ get_or-take a xs i nan l))
    (λ l. rw (le-leb a i l) (later (i - a) (omega arith) l))
    (lt_or_ge i a)
  where
    rest : List Float
    rest = ys ++ drop n (drop a xs)

    ta : length (take a xs) ≡ a
    ta = length-take a xs ∙ omega arith

    last : (j : ℕ) → get_or rest (length ys + j) nan ≡ get_or xs (a + (n + j)) nan
    last j = get_or-append-add ys (drop n (drop a xs)) j nan ∙ get_or-drop n (drop a xs) j nan ∙ get_or-drop a xs (n + j) nan

    later : (j : ℕ) → i ≡ a + j → a ≤ i → get_or (take a xs ++ rest) i nan ≡ cond (ltb i (a + n)) (get_or ys j nan) (get_or xs i nan)
    later j p l =
        ap (λ (m : ℕ). get_or (take a xs ++ rest) m nan) (p ∙ ap (λ (m : ℕ). m + j) (sym ta))
        ∙ get_or-append-add (take a xs) rest j nan
        ∙ ⊎_elim
        (λ m. rw (lt-ltb i (a + n) m) (get_or-append ys (drop n (drop a xs)) nan j (omega arith)))
        (λ m. rw (le-ltb i (a + n) m) (ap (λ (q : ℕ). get_or rest q nan) (omega arith) ∙ last (j - n) ∙ ap (λ (q : ℕ). get_or xs q nan) (omega arith)))
        (lt_or_ge i (a + n))

pub part_length : (xs ys : List Float) (a n : ℕ) → a + n ≤ length xs → length ys ≡ n → length (take a xs ++ (ys ++ drop n (drop a xs))) ≡ length xs
part_length xs ys a n h e = simp (length-append, length-take, length-drop) (omega arith)

-- the whole, once an edited part has come back
pub edit_part : (f : ℕ → Float → Float) (xs : List Float) (a n : ℕ) → a + n ≤ length xs → take a xs ++ (edit (λ k v. f (a + k) v) (take n (drop a xs)) ++ drop n (drop a xs)) ≡ edit (λ k v. cond (inside a n k) (f k v) v) xs
edit_part f xs a n h =
    is_edit (λ k v. cond (inside a n k) (f k v) v) xs _ (part_length xs ys a n h ly)
    (λ i k. part_at xs ys a n i h ly k ∙ ⊎_elim (λ l. rw (lt-leb a i l)) (λ l. ⊎_elim (λ m. rw (le-leb a i l, lt-ltb i (a + n) m) (inner i l m)) (λ m. rw (le-leb a i l, le-ltb i (a + n) m)) (lt_or_ge i (a + n))) (lt_or_ge i a))
  where
    ys : List Float
    ys = edit (λ k v. f (a + k) v) (take n (drop a xs))

    lt : length (take n (drop a xs)) ≡ n
    lt = simp (length-take, length-drop) (omega arith)

    ly : length ys ≡ n
    ly = length_edit (λ k v. f (a + k) v) (take n (drop a xs)) ∙ lt

    inner : (i : ℕ) → a ≤ i → i < a + n → get_or ys (i - a) nan ≡ f i (get_or xs i nan)
    inner i l m =
        get_d_edit (λ k v. f (a + k) v) (take n (drop a xs)) (i - a) (omega (arith, lt))
        ∙ ap (f (a + (i - a))) (get_or-take n (drop a xs) (i - a) nan (omega arith) ∙ get_or-drop a xs (i - a) nan)
        ∙ ap (λ (q : ℕ). f q (get_or xs q nan)) (omega arith)

-- a loop's turn: the cell i of a list that is edited below i
pub stored : (f : ℕ → Float → Float) (xs₀ xs : List Float) (i : ℕ) (v : Float) → i < length xs₀ → xs ≡ edit (first_cells i f) xs₀ → v ≡ f i (get_or xs i nan) → set xs i v ≡ edit (first_cells (i + 1) f) xs₀
stored f xs₀ xs i v h e p =
    ap (λ (l : List Float). set l i v) e
    ∙ edit_step f xs₀ i v h (p ∙ ap (f i) (ap (λ (l : List Float). get_or l i nan) e ∙ get_d_edit (first_cells i f) xs₀ i h ∙ rw (le-ltb i i (omega arith))))

-- the whole, once m cells have come back of which the first n are edited
pub edit_part_of : (f : ℕ → Float → Float) (xs : List Float) (a n m : ℕ) → n ≤ m → a + m ≤ length xs → take a xs ++ (edit (first_cells n (λ k v. f (a + k) v)) (take m (drop a xs)) ++ drop m (drop a xs)) ≡ edit (λ k v. cond (inside a n k) (f k v) v) xs
edit_part_of f xs a n m l h =
    ap (λ (q : List Float). take a xs ++ (q ++ drop m (drop a xs))) (edit_cong (first_cells n (λ k v. f (a + k) v)) (λ k v. g (a + k) v) (take m (drop a xs)) (λ i v k. same i v))
    ∙ edit_part g xs a m h
    ∙ edit_cong (λ k v. cond (inside a m k) (g k v) v) g xs (λ i v k. whole i v)
  where
    g : ℕ → Float → Float
    g k v = cond (inside a n k) (f k v) v

    same : (i : ℕ) (v : Float) → first_cells n (λ k w. f (a + k) w) i v ≡ g (a + i) v
    same i v = ⊎_elim (λ r. rw (lt-ltb i n r, le-leb a (a + i) (omega arith), lt-ltb (a + i) (a + n) (omega arith))) (λ r. rw (le-ltb i n r, le-leb a (a + i) (omega arith), le-ltb (a + i) (a + n) (omega arith))) (lt_or_ge i n)

    whole : (i : ℕ) (v : Float) → cond (inside a m i) (g i v) v ≡ g i v
    whole i v = ⊎_elim (λ r. rw (lt-leb a i r)) (λ r. rw (le-leb a i r) (⊎_elim (λ q. rw (lt-ltb i (a + m) q)) (λ q. rw (le-ltb i (a + m) q, le-ltb i (a + n) (omega arith))) (lt_or_ge i (a + m)))) (lt_or_ge i a)

-- a loop's turn: the cells from a up to e, lent and edited, of a list that is edited below a
pub stored_part : (f : ℕ → Float → Float) (xs₀ xs ys : List Float) (a e : ℕ) → a ≤ e → e ≤ length xs₀ → xs ≡ edit (first_cells a f) xs₀ → ys ≡ edit (λ k v. f (a + k) v) (take (e - a) (drop a xs)) → take a xs ++ (ys ++ drop (e - a) (drop a xs)) ≡ edit (first_cells e f) xs₀
stored_part f xs₀ xs ys a e l h p q =
    ap (λ (m : List Float). take a xs ++ (m ++ drop (e - a) (drop a xs))) q
    ∙ edit_part f xs a (e - a) (omega (arith, ap length p, length_edit (first_cells a f) xs₀))
    ∙ ap (edit (λ k v. cond (inside a (e - a) k) (f k v) v)) p
    ∙ edit_edit (first_cells a f) (λ k v. cond (inside a (e - a) k) (f k v) v) xs₀
    ∙ edit_cong _ (first_cells e f) xs₀ (λ i v k. same i v)
  where
    same : (i : ℕ) (v : Float) → cond (inside a (e - a) i) (f i (first_cells a f i v)) (first_cells a f i v) ≡ first_cells e f i v
    same i v =
        ⊎_elim
        (λ m. rw (lt-leb a i m, lt-ltb i a m, lt-ltb i e (omega arith)))
        (λ m. rw (le-leb a i m, le-ltb i a m) (⊎_elim
        (λ r. rw (lt-ltb i e r, lt-ltb i (a + (e - a)) (omega arith)))
        (λ r. rw (le-ltb i e r, le-ltb i (a + (e - a)) (omega arith)))
        (lt_or_ge i e)))
        (lt_or_ge i a)

-- Assumes nothing.
