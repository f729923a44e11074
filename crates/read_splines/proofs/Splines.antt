-- One spline and all splines: what the calls below them left in the buffers is what the definition reads.
-- How far a step goes in the list follows from what it accepts (`list`, Accepted.antt).
use mathlib.Core.Path.{◌≡◌, refl, sym, ap, subst, ◌∙◌}
use mathlib.Core.List.{List, [], ◌∷◌, ◌++◌, map, append_assoc, append-nil}
use Prim.Native.Nat.{ℕ, zero, suc, ◌+◌, ◌-◌, ◌*◌, ◌≤◌, ◌<◌}
use native.Mathlib.Nat.{not-suc-le-zero, sub-zero}
use native.Mathlib.Omega.{arith}
use lib.ListN.{length, get_or, take, drop, set, length-set, length-drop, length-append, length-map, drop_of_length-le, take-append-drop}
use lib.Seq.{drop-drop, length-take-le, take_at, drop_at}
use lib.IntN.{ℤ}
use borrow.Author.Tests.{lt-ltb, le-ltb}
use Rattle.std.specs.Prelude.{Result, Ok}
use Rattle.codes.specs.declared.Code.{Code}
use Rattle.codes.specs.Refusal.{Refusal, refused}
use Rattle.codes.proofs.Refusals.{same_refusal}
use Rattle.shape.specs.Shape.{points_of}
use Rattle.list.specs.List.{pack_signed, Got, got, stop, Spline, spline, Splines, splines, and_then, onto_splines, deltas_in, coefficients_in, spline_in, splines_of}
use Rattle.list.proofs.Buffers.{part_tail}
use Rattle.list.proofs.Accepted.{deltas_read, SplineRead, spline_read}
use Rattle.read_steps.specs.Steps.{Front, Filled}
use Rattle.read_splines.specs.Splines.{SplineLeft, SplinesLeft}
use Rattle.read_steps.proofs.Turns.{take_one, keep_one}

-- ---- what a step gave

pub record Gave {A : Type 0} (g : Got (List A)) (old new : List A) : Type 0 where
  pub vs : List A
  pub rest : List ℕ
  pub is : g ≡ got vs rest
  pub left : Front vs old new

module _ {A : Type 0} where
  pub filled_gave : (g : Got (List A)) (old new : List A) → Filled g (Ok tt) old new → Gave g old new
  filled_gave (got vs l) old new h = record { vs = vs; rest = l; is = refl; left = h.1 }
  filled_gave (stop c p) old new h = let z : ◌≡◌ {A = ℕ} 0 1 = cc in absurd (omega arith)

  pub filled_stopped : (g : Got (List A)) (old new : List A) (c : Code) (p : ℕ) → Filled g (refused c p) old new → g ≡ stop c p
  filled_stopped (got vs l) old new c p h = cc h.0
  filled_stopped (stop d q) old new c p h = let e = same_refusal h in cc

-- a list that begins with n values goes on after them
pub went : (l w r : List ℕ) (n : ℕ) → l ≡ w ++ r → length w ≡ n → (r ≡ drop n l) × (n ≤ length l)
went l w r n e h = (sym (ap (drop n) e ∙ drop_at w r n h), omega (arith, ap length e ∙ length-append w r))

pub packed_went : (l : List ℕ) (vs : List ℤ) (r : List ℕ) (n : ℕ) → l ≡ map pack_signed vs ++ r → length vs ≡ n → (r ≡ drop n l) × (n ≤ length l)
packed_went l vs r n e h = went l (map pack_signed vs) r n e (length-map vs pack_signed ∙ h)

-- ---- one spline

pub spline_stop : (g : Got Spline) (k : Code) (p : ℕ) (d d' c c' : List ℤ) → g ≡ stop k p → SplineLeft g (refused k p) d d' c c'
spline_stop g k p d d' c c' e = subst (λ (x : Got Spline). SplineLeft x (refused k p) d d' c c') (sym e) refl

module _ (t left room : ℕ) where
  pub spline_short : (l : List ℕ) → length l < 1 → spline_in t left room l ≡ stop Code.Short t
  unfolding spline_in
  spline_short [] e = refl
  spline_short (a ∷ l) e = absurd (omega arith)

  pub spline_over : (l : List ℕ) → 1 ≤ length l → left < get_or l 0 0 → spline_in t left room l ≡ stop Code.Points (t - length l)
  unfolding spline_in
  spline_over [] e h = absurd (not-suc-le-zero e)
  spline_over (n ∷ l) e h = rw (lt-ltb left n h)

  pub spline_room : (l : List ℕ) → 1 ≤ length l → get_or l 0 0 ≤ left → room < 2 * get_or l 0 0 → spline_in t left room l ≡ stop Code.Room (t - length l)
  unfolding spline_in
  spline_room [] e h g = absurd (not-suc-le-zero e)
  spline_room (n ∷ l) e h g = rw (le-ltb left n h, lt-ltb room (2 * n) g)

  spline_at : (l : List ℕ) (n : ℕ) → 1 ≤ length l → n ≡ get_or l 0 0 → n ≤ left → 2 * n ≤ room
      → spline_in t left room l ≡ and_then (deltas_in t n (drop 1 l)) (λ ds l1. and_then (coefficients_in t 128 l1) (λ cs l2. got (spline n ds cs) l2))
  unfolding spline_in
  spline_at [] n e q h g = absurd (not-suc-le-zero e)
  spline_at (a ∷ l) n e q h g = rw (← q, le-ltb left n h, le-ltb room (2 * n) g)

-- its double deltas have been read, from the part after its count
module _ (t left room : ℕ) (l after : List ℕ) (n : ℕ) (e : 1 ≤ length l) (q : n ≡ get_or l 0 0) (h : n ≤ left) (g : 2 * n ≤ room) (ea : after ≡ drop 1 l) (d d' : List ℤ) where
  pub spline_deltas_stop : (k : Code) (p : ℕ) → Filled (deltas_in t n after) (refused k p) d d' → spline_in t left room l ≡ stop k p
  spline_deltas_stop k p f = spline_at t left room l n e q h g ∙ rw (← ea, filled_stopped (deltas_in t n after) d d' k p f)

  module _ (f : Filled (deltas_in t n after) (Ok tt) d d') where
    gave : Gave (deltas_in t n after) d d'
    gave = filled_gave (deltas_in t n after) d d' f

    far : (gave.rest ≡ drop (2 * n) after) × (2 * n ≤ length after)
    far =
        let x = deltas_read t n after gave.vs gave.rest gave.is in
        packed_went after gave.vs gave.rest (2 * n) x.0 x.1

    pub spline_after : 2 * n ≤ length after
    spline_after = far.1

    -- and its coefficients from the part after those
    module _ (tail : List ℕ) (et : tail ≡ drop (2 * n) after) (c c' : List ℤ) where
      at_tail : spline_in t left room l ≡ and_then (coefficients_in t 128 tail) (λ cs l2. got (spline n gave.vs cs) l2)
      at_tail = spline_at t left room l n e q h g ∙ rw (← ea, gave.is, far.0, ← et)

      pub spline_coefficients_stop : (k : Code) (p : ℕ) → Filled (coefficients_in t 128 tail) (refused k p) c c' → spline_in t left room l ≡ stop k p
      spline_coefficients_stop k p b = at_tail ∙ rw (filled_stopped (coefficients_in t 128 tail) c c' k p b)

      pub spline_done : Filled (coefficients_in t 128 tail) (Ok tt) c c' → SplineLeft (spline_in t left room l) (Ok n) d d' c c'
      spline_done b =
          let k = filled_gave (coefficients_in t 128 tail) c c' b in
          let is : spline_in t left room l ≡ got (spline n gave.vs k.vs) k.rest
          = at_tail ∙ ap (λ (x : Got (List ℤ)). and_then x (λ cs l2. got (spline n gave.vs cs) l2)) k.is in
          subst (λ (x : Got Spline). SplineLeft x (Ok n) d d' c c') (sym is) (refl, gave.left, k.left)

-- ---- what a whole spline gave

pub record Took (t left room : ℕ) (l : List ℕ) (n : ℕ) (d d' c c' : List ℤ) : Type 0 where
  pub ds : List ℤ
  pub cs : List ℤ
  pub is : spline_in t left room l ≡ got (spline n ds cs) (drop (2 * n + 129) l)
  pub long : 2 * n + 129 ≤ length l
  pub under : n ≤ left
  pub fits : 2 * n ≤ room
  pub deltas : length ds ≡ 2 * n
  pub coefficients : length cs ≡ 128
  pub new_d : Front ds d d'
  pub new_c : Front cs c c'

spline_went : (t left room : ℕ) (l : List ℕ) (n : ℕ) (ds cs : List ℤ) (r : List ℕ) → SplineRead t left room l n ds cs r
    → (r ≡ drop (2 * n + 129) l) × (2 * n + 129 ≤ length l)
spline_went t left room l n ds cs r v =
    went l (n ∷ (map pack_signed ds ++ map pack_signed cs)) r (2 * n + 129)
    (v.is ∙ ap (λ (m : List ℕ). n ∷ m) (sym (append_assoc (map pack_signed ds) (map pack_signed cs) r)))
    (ap suc (length-append (map pack_signed ds) (map pack_signed cs)) ∙ omega (arith, length-map ds pack_signed, length-map cs pack_signed, v.deltas, v.coefficients))

pub took : (t left room : ℕ) (l : List ℕ) (n : ℕ) (d d' c c' : List ℤ) → SplineLeft (spline_in t left room l) (Ok n) d d' c c' → Took t left room l n d d' c c'
took t left room l n d d' c c' h = go (spline_in t left room l) refl h
  where
    whole : (ds cs : List ℤ) (r : List ℕ) → spline_in t left room l ≡ got (spline n ds cs) r → Front ds d d' → Front cs c c' → Took t left room l n d d' c c'
    whole ds cs r e x y =
        let v = spline_read t left room l n ds cs r e in
        let w = spline_went t left room l n ds cs r v in
        record {
          ds = ds;
          cs = cs;
          is = e ∙ rw w.0;
          long = w.1;
          under = v.under;
          fits = v.fits;
          deltas = v.deltas;
          coefficients = v.coefficients;
          new_d = x;
          new_c = y;
        }

    go : (g : Got Spline) → spline_in t left room l ≡ g → SplineLeft g (Ok n) d d' c c' → Took t left room l n d d' c c'
    go (got (spline m ds cs) r) e h =
        let p : m ≡ n = cc h.0 in
        whole ds cs r (e ∙ rw p) h.1 h.2
    go (stop k p) e h = let z : ◌≡◌ {A = ℕ} 0 1 = cc in absurd (omega arith)

spline_stopped : (g : Got Spline) (k : Code) (p : ℕ) (d d' c c' : List ℤ) → SplineLeft g (refused k p) d d' c c' → g ≡ stop k p
spline_stopped (got (spline m ds cs) r) k p d d' c c' h = cc h.0
spline_stopped (stop j q) k p d d' c c' h = let e = same_refusal h in cc

-- ---- all splines

pub splines_one : (t left room m : ℕ) (l : List ℕ) (n : ℕ) (ds cs : List ℤ) (r : List ℕ) → 0 < m → spline_in t left room l ≡ got (spline n ds cs) r
    → splines_of t left room m l ≡ onto_splines (spline n ds cs) (splines_of t (left - n) (room - 2 * n) (m - 1) r)
unfolding splines_of
splines_one t left room zero l n ds cs r h e = absurd (not-suc-le-zero h)
splines_one t left room (suc m) l n ds cs r h e =
    let s : suc m - 1 ≡ m = omega arith in
    rw (e, s)

splines_stop : (t left room m : ℕ) (l : List ℕ) (k : Code) (p : ℕ) → 0 < m → spline_in t left room l ≡ stop k p → splines_of t left room m l ≡ stop k p
unfolding splines_of
splines_stop t left room zero l k p h e = absurd (not-suc-le-zero h)
splines_stop t left room (suc m) l k p h e = rw e

-- splines that were read before others
abbrev pub before : List ℕ → List ℤ → List ℤ → Got Splines → Got Splines
before ms es bs (got (splines ns ds cs) l) = got (splines (ms ++ ns) (es ++ ds) (bs ++ cs)) l
before ms es bs (stop k p) = stop k p

before_none : (g : Got Splines) → g ≡ before [] [] [] g
before_none (got (splines ns ds cs) l) = refl
before_none (stop k p) = refl

before_one : (ms : List ℕ) (n : ℕ) (es ds bs cs : List ℤ) (g : Got Splines)
    → before ms es bs (onto_splines (spline n ds cs) g) ≡ before (ms ++ (n ∷ [])) (es ++ ds) (bs ++ cs) g
before_one ms n es ds bs cs (got (splines a b c) l) = rw (append_assoc ms (n ∷ []) a, append_assoc es ds b, append_assoc bs cs c)
before_one ms n es ds bs cs (stop k p) = refl

before_end : (ms : List ℕ) (es bs : List ℤ) (t left room : ℕ) (l : List ℕ) → before ms es bs (splines_of t left room 0 l) ≡ got (splines ms es bs) l
unfolding splines_of
before_end ms es bs t left room l = rw (append-nil ms, append-nil es, append-nil bs)

sum_snoc : (ms : List ℕ) (n : ℕ) → points_of (ms ++ (n ∷ [])) ≡ points_of ms + n
sum_snoc [] n = omega arith
sum_snoc (m ∷ ms) n = omega (arith, sum_snoc ms n)

-- a part of a buffer has come back with values at its front
module _ {A : Type 0} (D : List A) (d : ℕ) (vs p' : List A) (h : d + length vs ≤ length D) (e : Front vs (take (length D - d) (drop d D)) p') where
  spliced : take d D ++ (p' ++ drop (length D - d) (drop d D)) ≡ (take d D ++ vs) ++ drop (d + length vs) D
  spliced =
      rw (e, part_tail d D, drop-drop (length D - d) d D, drop-drop (length vs) d D, drop_of_length-le D {i = d + (length D - d)} (omega arith), append-nil)
      (sym (append_assoc (take d D) vs (drop (d + length vs) D)))

  seam : length (take d D ++ vs) ≡ d + length vs
  seam = length-append (take d D) vs ∙ rw (length-take-le d D (omega arith))

  splice_take : take (d + length vs) (take d D ++ (p' ++ drop (length D - d) (drop d D))) ≡ take d D ++ vs
  splice_take = rw spliced (take_at (take d D ++ vs) (drop (d + length vs) D) (d + length vs) seam)

  splice_drop : drop (d + length vs) (take d D ++ (p' ++ drop (length D - d) (drop d D))) ≡ drop (d + length vs) D
  splice_drop = rw spliced (drop_at (take d D ++ vs) (drop (d + length vs) D) (d + length vs) seam)

  splice_length : length (take d D ++ (p' ++ drop (length D - d) (drop d D))) ≡ length D
  splice_length = rw spliced (length-append (take d D ++ vs) (drop (d + length vs) D) ∙ rw (seam, length-drop (d + length vs) D) (omega arith))

kept : {A : Type 0} (l old : List A) (i k : ℕ) (new : List A) → drop (i + k) new ≡ drop (i + k) l → drop i l ≡ drop i old → drop (i + k) new ≡ drop (i + k) old
kept l old i k new x y = x ∙ sym (drop-drop k i l) ∙ ap (drop k) y ∙ drop-drop k i old

front : {A : Type 0} (l old : List A) (i : ℕ) → i ≤ length l → drop i l ≡ drop i old → Front (take i l) old l
front l old i h e = rw (length-take-le i l h, ← e) (sym (take-append-drop i l))

-- how far the loop is: N, D and C are the buffers, and what was read stands in their fronts
pub record Going (list : List ℕ) (total limit s : ℕ) (N₀ : List ℕ) (D₀ C₀ : List ℤ) (N : List ℕ) (D C : List ℤ) (rest : List ℕ) (left i d k : ℕ) : Type 0 where
  pub turns : i ≤ s
  pub cells : k ≡ 128 * i
  pub under : left + points_of (take i N) ≡ limit
  pub in_d : d ≤ length D
  pub len_n : length N ≡ length N₀
  pub len_d : length D ≡ length D₀
  pub len_c : length C ≡ length C₀
  pub len_r : length rest ≤ total
  pub keep_n : drop i N ≡ drop i N₀
  pub keep_d : drop d D ≡ drop d D₀
  pub keep_c : drop k C ≡ drop k C₀
  pub so : splines_of total limit (length D₀) s list ≡ before (take i N) (take d D) (take k C) (splines_of total left (length D - d) (s - i) rest)

module _ (list : List ℕ) (total limit s : ℕ) (N₀ : List ℕ) (D₀ C₀ : List ℤ) where
  pub going_start : length list ≤ total → Going list total limit s N₀ D₀ C₀ N₀ D₀ C₀ list limit 0 0 0
  going_start h = record {
    turns = omega arith;
    cells = refl;
    under = omega arith;
    in_d = omega arith;
    len_n = refl;
    len_d = refl;
    len_c = refl;
    len_r = h;
    keep_n = refl;
    keep_d = refl;
    keep_c = refl;
    so = rw (sub-zero (length D₀), sub-zero s) (before_none (splines_of total limit (length D₀) s list));
  }

  module _ (N : List ℕ) (D C : List ℤ) (rest : List ℕ) (left i d k : ℕ) (now : Going list total limit s N₀ D₀ C₀ N D C rest left i d k) where
    pub going_done : s ≤ i → s ≤ length N₀ → 128 * s ≤ length C₀
        → SplinesLeft (splines_of total limit (length D₀) s list) (Ok (limit - left)) N₀ N D₀ D C₀ C
    going_done h roomN roomC =
        let z : s - i ≡ 0 = omega arith in
        let f : splines_of total limit (length D₀) s list ≡ got (splines (take i N) (take d D) (take k C)) rest
        = now.so ∙ rw z (before_end (take i N) (take d D) (take k C) total left (length D - d) rest) in
        let inN : i ≤ length N = omega (arith, now.turns, now.len_n) in
        let in_c : k ≤ length C = omega (arith, now.turns, now.len_c, now.cells) in
        subst (λ (x : Got Splines). SplinesLeft x (Ok (limit - left)) N₀ N D₀ D C₀ C) (sym f)
        (ap (λ (x : ℕ). Ok x) (omega (arith, now.under)), front N N₀ i inN now.keep_n, front D D₀ d now.in_d now.keep_d, front C C₀ k in_c now.keep_c)

    module _ (more : i < s) (roomC : 128 * s ≤ length C₀) (roomN : s ≤ length N₀) (d' c' : List ℤ) where
      abbrev Left : Result ℕ Refusal → Type 0
      Left r = SplineLeft (spline_in total left (length (take (length D - d) (drop d D))) rest) r (take (length D - d) (drop d D)) d' (take (length C - k) (drop k C)) c'

      pub going_stop : (c : Code) (p : ℕ) → Left (refused c p)
          → (N' : List ℕ) (D' C' : List ℤ) → SplinesLeft (splines_of total limit (length D₀) s list) (refused c p) N₀ N' D₀ D' C₀ C'
      going_stop c p h N' D' C' =
          let room : length (take (length D - d) (drop d D)) ≡ length D - d = rw (part_tail d D) (length-drop d D) in
          let e = spline_stopped (spline_in total left (length (take (length D - d) (drop d D))) rest) c p (take (length D - d) (drop d D)) d' (take (length C - k) (drop k C)) c' h in
          let f : splines_of total limit (length D₀) s list ≡ stop c p
          = now.so ∙ rw (splines_stop total left (length D - d) (s - i) rest c p (omega arith) (rw room at e)) in
          subst (λ (x : Got Splines). SplinesLeft x (refused c p) N₀ N' D₀ D' C₀ C') (sym f) refl

      module _ (n : ℕ) (h : Left (Ok n)) where
        it : Took total left (length (take (length D - d) (drop d D))) rest n (take (length D - d) (drop d D)) d' (take (length C - k) (drop k C)) c'
        it = took total left (length (take (length D - d) (drop d D))) rest n (take (length D - d) (drop d D)) d' (take (length C - k) (drop k C)) c' h

        step : (ds cs : List ℤ) → spline_in total left (length D - d) rest ≡ got (spline n ds cs) (drop (2 * n + 129) rest)
            → (D' C' : List ℤ) (N' : List ℕ) → take (d + 2 * n) D' ≡ take d D ++ ds → take (k + 128) C' ≡ take k C ++ cs → take (i + 1) N' ≡ take i N ++ (n ∷ [])
            → length D' ≡ length D
            → before (take i N) (take d D) (take k C) (splines_of total left (length D - d) (s - i) rest)
            ≡ before (take (i + 1) N') (take (d + 2 * n) D') (take (k + 128) C')
            (splines_of total (left - n) (length D' - (d + 2 * n)) (s - (i + 1)) (take (length rest - (2 * n + 129)) (drop (2 * n + 129) rest)))
        step ds cs e D' C' N' x y z w =
            let r1 : s - i - 1 ≡ s - (i + 1) = omega arith in
            let r2 : length D - d - 2 * n ≡ length D - (d + 2 * n) = omega arith in
            rw (
              x,
              y,
              z,
              w,
              part_tail (2 * n + 129) rest,
              splines_one total left (length D - d) (s - i) rest n ds cs (drop (2 * n + 129) rest) (omega arith) e,
              r1,
              r2,
            )
            (before_one (take i N) n (take d D) ds (take k C) cs (splines_of total (left - n) (length D - (d + 2 * n)) (s - (i + 1)) (drop (2 * n + 129) rest)))

        pub going_long : 2 * n + 129 ≤ length rest
        going_long = it.long

        pub going_left : n ≤ left
        going_left = it.under

        pub going_turn : Going list total limit s N₀ D₀ C₀ (set N i n) (take d D ++ (d' ++ drop (length D - d) (drop d D)))
            (take k C ++ (c' ++ drop (length C - k) (drop k C))) (take (length rest - (2 * n + 129)) (drop (2 * n + 129) rest)) (left - n) (i + 1) (d + 2 * n) (k + 128)
        going_turn =
            let room : length (take (length D - d) (drop d D)) ≡ length D - d = rw (part_tail d D) (length-drop d D) in
            let fitD : d + length it.ds ≤ length D = omega (arith, it.deltas, it.fits, now.in_d, room) in
            let fitC : k + length it.cs ≤ length C = omega (arith, it.coefficients, now.cells, now.len_c) in
            let endD : d + length it.ds ≡ d + 2 * n = ap (λ (x : ℕ). d + x) it.deltas in
            let endC : k + length it.cs ≡ k + 128 = ap (λ (x : ℕ). k + x) it.coefficients in
            let atN : i < length N = omega (arith, now.len_n) in
            record {
              turns = omega arith;
              cells = omega (arith, now.cells);
              under = rw (take_one N i n atN, sum_snoc (take i N) n) (omega (arith, now.under, it.under));
              in_d = rw (splice_length D d it.ds d' fitD it.new_d) (omega arith);
              len_n = length-set N i n ∙ now.len_n;
              len_d = splice_length D d it.ds d' fitD it.new_d ∙ now.len_d;
              len_c = splice_length C k it.cs c' fitC it.new_c ∙ now.len_c;
              len_r = rw (part_tail (2 * n + 129) rest) (omega (arith, length-drop (2 * n + 129) rest, now.len_r));
              keep_n = keep_one N N₀ i n now.keep_n;
              keep_d = kept D D₀ d (2 * n) (take d D ++ (d' ++ drop (length D - d) (drop d D))) (rw endD at (splice_drop D d it.ds d' fitD it.new_d)) now.keep_d;
              keep_c = kept C C₀ k 128 (take k C ++ (c' ++ drop (length C - k) (drop k C))) (rw endC at (splice_drop C k it.cs c' fitC it.new_c)) now.keep_c;
              so = now.so ∙ step it.ds it.cs (rw room at it.is)
                  (take d D ++ (d' ++ drop (length D - d) (drop d D))) (take k C ++ (c' ++ drop (length C - k) (drop k C))) (set N i n)
                  (rw endD at (splice_take D d it.ds d' fitD it.new_d)) (rw endC at (splice_take C k it.cs c' fitC it.new_c))
                  (take_one N i n atN) (splice_length D d it.ds d' fitD it.new_d);
            }

-- Assumes nothing.
