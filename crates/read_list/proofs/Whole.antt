-- The whole list: what the calls below left in the buffers is what the definition reads.
use mathlib.Core.Path.{◌≡◌, refl, sym, ap, subst, ◌∙◌}
use mathlib.Core.Bool.{Bool, true, false}
use mathlib.Core.List.{List, [], ◌∷◌, ◌++◌, map}
use Prim.Native.Nat.{ℕ, zero, suc, ◌+◌, ◌-◌, ◌*◌, ◌≤◌, ◌<◌}
use native.Mathlib.Nat.{not-suc-le-zero}
use native.Mathlib.Omega.{arith}
use lib.ListN.{length, get_or, take, drop, length-append, length-map, length-drop}
use lib.Seq.{length-take-le}
use lib.IntN.{ℤ, pos}
use lib.Ieee.{Float}
use borrow.Author.Tests.{lt-ltb, le-ltb}
use Rattle.std.specs.Prelude.{Ok}
use Rattle.codes.specs.declared.Code.{Code}
use Rattle.codes.specs.Refusal.{refused}
use Rattle.codes.proofs.Refusals.{same_refusal}
use Rattle.shape.specs.Shape.{points_of}
use Rattle.list.specs.List.{unpack_signed, pack_signed, ListRooms, Got, got, stop, Splines, splines, Described, described, and_then, starts_in, splines_of, describe, ended, after_starts, lacking, read_of, starts_list, splines_list}
use Rattle.list.specs.Steps.{f32_of}
use Rattle.list.proofs.Accepted.{starts_read, splines_read}
use Rattle.read_steps.specs.Steps.{floats, Front, Filled}
use Rattle.read_splines.specs.Splines.{SplinesLeft}
use Rattle.read_splines.proofs.Splines.{Gave, filled_gave, filled_stopped, went}
use Rattle.read_list.specs.Answer.{ReadAnswer, done}
use Rattle.read_list.specs.Rest.{RestLeft, ListLeft}

-- ---- how far the splines go

splines_length : (ns : List ℕ) (ds cs : List ℤ) → length ds ≡ 2 * points_of ns → length cs ≡ 128 * length ns → length (splines_list ns ds cs) ≡ 129 * length ns + 2 * points_of ns
splines_length [] ds cs a b = refl
splines_length (n ∷ ns) ds cs a b =
    let es = map pack_signed (take (2 * n) ds) in
    let bs = map pack_signed (take 128 cs) in
    let others = splines_list ns (drop (2 * n) ds) (drop 128 cs) in
    let e1 : length es ≡ 2 * n = length-map (take (2 * n) ds) pack_signed ∙ length-take-le (2 * n) ds (omega arith) in
    let e2 : length bs ≡ 128 = length-map (take 128 cs) pack_signed ∙ length-take-le 128 cs (omega arith) in
    let ih = splines_length ns (drop (2 * n) ds) (drop 128 cs) (length-drop (2 * n) ds ∙ omega arith) (length-drop 128 cs ∙ omega arith) in
    ap suc (length-append (es ++ bs) others) ∙ omega (arith, length-append es bs, e1, e2, ih)

splines_went : (t left room s : ℕ) (l : List ℕ) (ns : List ℕ) (ds cs : List ℤ) (r : List ℕ) → splines_of t left room s l ≡ got (splines ns ds cs) r
    → (length ns ≡ s) × (length l ≡ 129 * s + 2 * points_of ns + length r)
splines_went t left room s l ns ds cs r e =
    let v = splines_read t left room s l ns ds cs r e in
    let k = splines_length ns ds cs v.deltas v.coefficients in
    (v.count, ap length v.is ∙ length-append (splines_list ns ds cs) r ∙ omega (arith, k, v.count))

-- ---- what follows the starts

pub rest_stop : (g : Got Described) (k : Code) (p : ℕ) (n n' : List ℕ) (d d' c c' : List ℤ) → g ≡ stop k p → RestLeft g (refused k p) n n' d d' c c'
rest_stop g k p n n' d d' c c' e = subst (λ (x : Got Described). RestLeft x (refused k p) n n' d d' c c') (sym e) refl

splines_stopped : (g : Got Splines) (k : Code) (p : ℕ) (n n' : List ℕ) (d d' c c' : List ℤ) → SplinesLeft g (refused k p) n n' d d' c c' → g ≡ stop k p
splines_stopped (got (splines ns ds cs) r) k p n n' d d' c c' h = cc h.0
splines_stopped (stop j q) k p n n' d d' c c' h = let e = same_refusal h in cc

ended_trail : (t : ℕ) (x : Described) (l : List ℕ) → 0 < length l → ended t x l ≡ stop Code.Trail (t - length l)
ended_trail t x [] h = absurd (not-suc-le-zero h)
ended_trail t x (a ∷ l) h = refl

ended_none : (t : ℕ) (x : Described) (l : List ℕ) → length l ≡ 0 → ended t x l ≡ got x []
ended_none t x [] h = refl
ended_none t x (a ∷ l) h = absurd (omega arith)

module _ (t limit room s : ℕ) where
  pub after_short : (l : List ℕ) → length l < 1 → after_starts t limit room s [] l ≡ stop Code.Short t
  unfolding after_starts
  after_short [] e = refl
  after_short (a ∷ l) e = absurd (omega arith)

  after_at : (l : List ℕ) → 1 ≤ length l
      → after_starts t limit room s [] l ≡ and_then (splines_of t limit room s (drop 1 l)) (λ x l1. ended t (describe (unpack_signed (get_or l 0 0)) [] x) l1)
  unfolding after_starts
  after_at [] e = absurd (not-suc-le-zero e)
  after_at (a ∷ l) e = refl

  module _ (l rest : List ℕ) (u : ℕ) (e : 1 ≤ length l) (eu : u ≡ get_or l 0 0) (er : rest ≡ drop 1 l) (n n' : List ℕ) (d d' c c' : List ℤ) where
    at_rest : after_starts t limit room s [] l ≡ and_then (splines_of t limit room s rest) (λ x l1. ended t (describe (unpack_signed u) [] x) l1)
    at_rest = after_at l e ∙ rw (← er, ← eu)

    pub after_stop : (k : Code) (p : ℕ) → SplinesLeft (splines_of t limit room s rest) (refused k p) n n' d d' c c' → after_starts t limit room s [] l ≡ stop k p
    after_stop k p h = at_rest ∙ rw (splines_stopped (splines_of t limit room s rest) k p n n' d d' c c' h)

    module _ (m : ℕ) (h : SplinesLeft (splines_of t limit room s rest) (Ok m) n n' d d' c c') where
      pub after_trail : 129 * s + 2 * m < length rest → after_starts t limit room s [] l ≡ stop Code.Trail (t - (length rest - (129 * s + 2 * m)))
      after_trail g = at_rest ∙ go (splines_of t limit room s rest) refl h
        where
          go : (i : Got Splines) → splines_of t limit room s rest ≡ i → SplinesLeft i (Ok m) n n' d d' c c'
              → and_then i (λ x l1. ended t (describe (unpack_signed u) [] x) l1) ≡ stop Code.Trail (t - (length rest - (129 * s + 2 * m)))
          go (got (splines ns ds cs) r) i h =
              let w = splines_went t limit room s rest ns ds cs r i in
              let q : m ≡ points_of ns = cc h.0 in
              let len : length r ≡ length rest - (129 * s + 2 * m) = omega (arith, w.1) in
              ended_trail t (described (unpack_signed u) [] ns ds cs) r (omega arith) ∙ rw len
          go (stop j q) i h = let z : ◌≡◌ {A = ℕ} 0 1 = cc in absurd (omega arith)

      pub after_done : length rest ≤ 129 * s + 2 * m → RestLeft (after_starts t limit room s [] l) (done s m (unpack_signed u)) n n' d d' c c'
      after_done g =
          subst (λ (x : Got Described). RestLeft x (done s m (unpack_signed u)) n n' d d' c c') (sym at_rest) (go (splines_of t limit room s rest) refl h)
        where
          go : (i : Got Splines) → splines_of t limit room s rest ≡ i → SplinesLeft i (Ok m) n n' d d' c c'
              → RestLeft (and_then i (λ x l1. ended t (describe (unpack_signed u) [] x) l1)) (done s m (unpack_signed u)) n n' d d' c c'
          go (got (splines ns ds cs) r) i h =
              let w = splines_went t limit room s rest ns ds cs r i in
              let q : m ≡ points_of ns = cc h.0 in
              let none : length r ≡ 0 = omega (arith, w.1) in
              rw (ended_none t (described (unpack_signed u) [] ns ds cs) r none, q, ← w.0) (refl, h.1, h.2, h.3)
          go (stop j q) i h = let z : ◌≡◌ {A = ℕ} 0 1 = cc in absurd (omega arith)

-- ---- the starts

-- what follows the starts does not turn on them
abbrev with_starts : List ℤ → Got Described → Got Described
with_starts zs (got (described a ys ns ds cs) l) = got (described a zs ns ds cs) l
with_starts zs (stop k p) = stop k p

starts_aside : (t limit room s : ℕ) (zs : List ℤ) (l : List ℕ) → after_starts t limit room s zs l ≡ with_starts zs (after_starts t limit room s [] l)
unfolding after_starts
starts_aside t limit room s zs [] = refl
starts_aside t limit room s zs (u ∷ l) = go (splines_of t limit room s l)
  where
    go : (g : Got Splines) → and_then g (λ x l1. ended t (describe (unpack_signed u) zs x) l1) ≡ with_starts zs (and_then g (λ x l1. ended t (describe (unpack_signed u) [] x) l1))
    go (got (splines ns ds cs) []) = refl
    go (got (splines ns ds cs) (b ∷ k)) = refl
    go (stop c p) = refl

rest_starts : (g : Got Described) (zs : List ℤ) (r : ReadAnswer) (n n' : List ℕ) (f f' : List Float) (d d' c c' : List ℤ) → RestLeft g r n n' d d' c c' → Front (map f32_of zs) f f'
    → ListLeft (with_starts zs g) r n n' f f' d d' c c'
rest_starts (got (described a ys ns ds cs) l) zs r n n' f f' d d' c c' h w = (h.0, h.1, w, h.2, h.3)
rest_starts (stop k p) zs r n n' f f' d d' c c' h w = h

got_floats : (g : Got (List ℤ)) (vs : List Float) (r : List ℕ) → floats g ≡ got vs r → (zs : List ℤ) × (g ≡ got zs r) × (map f32_of zs ≡ vs)
got_floats (got zs l) vs r e = let p : l ≡ r = cc in (zs, rw p, cc)
got_floats (stop c p) vs r e = let z : ◌≡◌ {A = ℕ} 0 1 = cc in absurd (omega arith)

stop_floats : (g : Got (List ℤ)) (c : Code) (p : ℕ) → floats g ≡ stop c p → g ≡ stop c p
stop_floats (got zs l) c p e = cc
stop_floats (stop d q) c p e = cc

starts_length : (first : Bool) (x y : ℤ) (n : ℕ) (zs : List ℤ) → length zs ≡ 2 * n → length (starts_list first x y zs) ≡ 2 * n
starts_length first x y zero [] h = refl
starts_length first x y zero (a ∷ zs) h = absurd (omega arith)
starts_length first x y (suc n) [] h = absurd (omega arith)
starts_length first x y (suc n) (a ∷ []) h = absurd (omega arith)
starts_length true x y (suc n) (a ∷ b ∷ zs) h = omega (arith, starts_length false a b n zs (omega arith))
starts_length false x y (suc n) (a ∷ b ∷ zs) h = omega (arith, starts_length false a b n zs (omega arith))

-- ---- the whole list

pub list_stop : (g : Got Described) (k : Code) (p : ℕ) (n n' : List ℕ) (f f' : List Float) (d d' c c' : List ℤ) → g ≡ stop k p → ListLeft g (refused k p) n n' f f' d d' c c'
list_stop g k p n n' f f' d d' c c' e = subst (λ (x : Got Described). ListLeft x (refused k p) n n' f f' d d' c c') (sym e) refl

module _ (limit : ℕ) (rooms : ListRooms) where
  pub read_short : (l : List ℕ) → length l < 1 → read_of limit rooms l ≡ stop Code.Short 0
  unfolding read_of
  read_short [] e = refl
  read_short (a ∷ l) e = absurd (omega arith)

  pub read_splines : (l : List ℕ) → 1 ≤ length l → limit ≤ get_or l 0 0 → read_of limit rooms l ≡ stop Code.Splines 0
  unfolding read_of
  read_splines [] e h = absurd (not-suc-le-zero e)
  read_splines (v ∷ l) e h = rw (lt-ltb limit (v + 1) (omega arith))

  pub read_room : (l : List ℕ) → 1 ≤ length l → get_or l 0 0 < limit → lacking rooms (get_or l 0 0 + 1) ≡ true → read_of limit rooms l ≡ stop Code.Room 0
  unfolding read_of
  read_room [] e h w = absurd (not-suc-le-zero e)
  read_room (v ∷ l) e h w = rw (le-ltb limit (v + 1) (omega arith), w)

  pub no_counts : (v : ℕ) → rooms.counts < v + 1 → lacking rooms (v + 1) ≡ true
  no_counts v a = rw (lt-ltb rooms.counts (v + 1) a)

  pub no_starts : (v : ℕ) → v + 1 ≤ rooms.counts → rooms.starts < 2 * (v + 1) → lacking rooms (v + 1) ≡ true
  no_starts v a b = rw (le-ltb rooms.counts (v + 1) a, lt-ltb rooms.starts (2 * (v + 1)) b)

  pub no_coefficients : (v : ℕ) → v + 1 ≤ rooms.counts → 2 * (v + 1) ≤ rooms.starts → rooms.coefficients < 128 * (v + 1) → lacking rooms (v + 1) ≡ true
  no_coefficients v a b c = rw (le-ltb rooms.counts (v + 1) a, le-ltb rooms.starts (2 * (v + 1)) b, lt-ltb rooms.coefficients (128 * (v + 1)) c)

  read_at : (l : List ℕ) → 1 ≤ length l → get_or l 0 0 < limit → get_or l 0 0 + 1 ≤ rooms.counts → 2 * (get_or l 0 0 + 1) ≤ rooms.starts → 128 * (get_or l 0 0 + 1) ≤ rooms.coefficients
      → read_of limit rooms l ≡ and_then (starts_in (length l) true (pos 0) (pos 0) (get_or l 0 0 + 1) (drop 1 l)) (λ zs l1. after_starts (length l) limit rooms.deltas (get_or l 0 0 + 1) zs l1)
  unfolding read_of
  read_at [] e h a b c = absurd (not-suc-le-zero e)
  read_at (v ∷ l) e h a b c =
      rw (le-ltb limit (v + 1) (omega arith), le-ltb rooms.counts (v + 1) a, le-ltb rooms.starts (2 * (v + 1)) b, le-ltb rooms.coefficients (128 * (v + 1)) c)

module _ (limit : ℕ) (rooms : ListRooms) (l rest : List ℕ) (v : ℕ) (e : 1 ≤ length l) (ev : v ≡ get_or l 0 0) (h : v < limit) (a : v + 1 ≤ rooms.counts)
    (b : 2 * (v + 1) ≤ rooms.starts) (c : 128 * (v + 1) ≤ rooms.coefficients) (er : rest ≡ drop 1 l) (f f' : List Float) where
  abbrev Starts : Got (List ℤ)
  Starts = starts_in (length l) true (pos 0) (pos 0) (v + 1) rest

  abbrev At : ℕ → Type 0
  At m = m < limit → m + 1 ≤ rooms.counts → 2 * (m + 1) ≤ rooms.starts → 128 * (m + 1) ≤ rooms.coefficients
      → read_of limit rooms l ≡ and_then (starts_in (length l) true (pos 0) (pos 0) (m + 1) rest) (λ zs l1. after_starts (length l) limit rooms.deltas (m + 1) zs l1)

  at_starts : read_of limit rooms l ≡ and_then Starts (λ zs l1. after_starts (length l) limit rooms.deltas (v + 1) zs l1)
  at_starts = subst At (sym ev) (λ h a b c. read_at limit rooms l e h a b c ∙ rw (← er)) h a b c

  pub read_starts_stop : (k : Code) (p : ℕ) → Filled (floats Starts) (refused k p) f f' → read_of limit rooms l ≡ stop k p
  read_starts_stop k p w = at_starts ∙ rw (stop_floats Starts k p (filled_stopped (floats Starts) f f' k p w))

  module _ (w : Filled (floats Starts) (Ok tt) f f') where
    gave : Gave (floats Starts) f f'
    gave = filled_gave (floats Starts) f f' w

    read : (zs : List ℤ) × (Starts ≡ got zs gave.rest) × (map f32_of zs ≡ gave.vs)
    read = got_floats Starts gave.vs gave.rest gave.is

    far : (gave.rest ≡ drop (2 * (v + 1)) rest) × (2 * (v + 1) ≤ length rest)
    far =
        let x = starts_read (length l) true (pos 0) (pos 0) (v + 1) rest read.0 gave.rest read.1 in
        went rest (starts_list true (pos 0) (pos 0) read.0) gave.rest (2 * (v + 1)) x.0 (starts_length true (pos 0) (pos 0) (v + 1) read.0 x.1)

    pub read_long : 2 * (v + 1) ≤ length rest
    read_long = far.1

    pub read_after : (tail : List ℕ) → tail ≡ drop (2 * (v + 1)) rest → (r : ReadAnswer) (n n' : List ℕ) (d d' c c' : List ℤ)
        → RestLeft (after_starts (length l) limit rooms.deltas (v + 1) [] tail) r n n' d d' c c' → ListLeft (read_of limit rooms l) r n n' f f' d d' c c'
    read_after tail et r n n' d d' c' c'' k =
        let x : gave.rest ≡ tail = far.0 ∙ sym et in
        let y : read_of limit rooms l ≡ with_starts read.0 (after_starts (length l) limit rooms.deltas (v + 1) [] tail)
        = at_starts ∙ rw (read.1, x) (starts_aside (length l) limit rooms.deltas (v + 1) read.0 tail) in
        let z : Front (map f32_of read.0) f f' = gave.left ∙ rw (← read.2) in
        subst (λ (q : Got Described). ListLeft q r n n' f f' d d' c' c'') (sym y)
        (rest_starts (after_starts (length l) limit rooms.deltas (v + 1) [] tail) read.0 r n n' f f' d d' c' c'' k z)

-- Assumes nothing.
