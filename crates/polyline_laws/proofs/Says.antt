-- A text of the form says points, and only these: a number of the form is the text of a whole number, and what is read of a text of points is those points, each with its first byte.
use mathlib.Core.Path.{◌≡◌, refl, sym, ap, subst, ◌∙◌}
use mathlib.Core.Bool.{Bool, true, false}
use mathlib.Core.List.{List, [], ◌∷◌, ◌++◌, append_assoc, map}
use Prim.Native.Nat.{ℕ, zero, suc, ◌+◌, ◌-◌, ◌*◌, ◌/◌, ◌%◌, ◌≤◌, ◌<◌}
use native.Mathlib.Omega.{arith}
use lib.Dec.{ltb}
use lib.ListN.{length, length-append}
use lib.IntN.{ℤ, pos, negsuc}
use borrow.Author.Tests.{ne_eqb, ltb-true, ltb-false}
use Rattle.control_points.specs.declared.Pair.{Pair}
use Rattle.polyline.specs.declared.Figure.{Figure}
use Rattle.polyline.specs.declared.Spot.{Spot}
use Rattle.polyline.specs.Form.{IsDigit, IsLeading, Digits, Number, nought, plain, minus, PairForm, pair, PointsForm, last, more}
use Rattle.polyline.specs.Spots.{signed_by, figure_at, grown_by, spot_of, spots_from, uncapped, spots_of}
use Rattle.polyline.specs.Write.{digits_of, number_text, pair_text, later_text, points_text}
use Rattle.polyline.proofs.Digits.{digits_small, digits_large}
use Rattle.polyline_laws.specs.Says.{Says, Said, FormSays, OneSaying}

pub append_none : (l : List ℕ) → l ++ [] ≡ l
append_none [] = refl
append_none (x ∷ l) = ap (λ (k : List ℕ). x ∷ k) (append_none l)

-- ---- a number of the form is a whole number's

-- some number from 1 on has these digits
record Valued (bytes : List ℕ) : Type 0 where
  n : ℕ
  some : 1 ≤ n
  is : bytes ≡ digits_of n

digit_more : (n b : ℕ) → 1 ≤ n → IsDigit b → digits_of n ++ b ∷ [] ≡ digits_of (10 * n + (b - 48))
digit_more n b h d =
    let q : (10 * n + (b - 48)) / 10 ≡ n = omega (arith, d.0, d.1) in
    let r : 48 + (10 * n + (b - 48)) % 10 ≡ b = omega (arith, d.0, d.1) in
    sym (digits_large (10 * n + (b - 48)) (omega arith) ∙ rw (q, r))

digits_valued : (bs : List ℕ) (n : ℕ) → 1 ≤ n → Digits bs → Valued (digits_of n ++ bs)
digits_valued [] n h d = record { n = n; some = h; is = append_none (digits_of n) }
digits_valued (b ∷ bs) n h d =
    let v = digits_valued bs (10 * n + (b - 48)) (omega arith) d.1 in
    record { n = v.n; some = v.some; is = sym (append_assoc (digits_of n) (b ∷ []) bs) ∙ ap (λ (l : List ℕ). l ++ bs) (digit_more n b h d.0) ∙ v.is }

leading_valued : (b : ℕ) (bs : List ℕ) → IsLeading b → Digits bs → Valued (b ∷ bs)
leading_valued b bs h d =
    let v = digits_valued bs (b - 48) (omega (arith, h.0)) d in
    let k : 48 + (b - 48) ≡ b = omega (arith, h.0) in
    let e : digits_of (b - 48) ≡ b ∷ [] = digits_small (b - 48) (omega (arith, h.1)) ∙ rw k in
    record { n = v.n; some = v.some; is = sym (ap (λ (l : List ℕ). l ++ bs) e) ∙ v.is }

record Numbered (bytes : List ℕ) : Type 0 where
  z : ℤ
  is : bytes ≡ number_text z

number_numbered : (a : List ℕ) → Number a → Numbered a
unfolding number_text
number_numbered a nought = record { z = pos 0; is = sym (digits_small 0 (omega arith)) }
number_numbered a (plain {b} {bs} h d) = let v = leading_valued b bs h d in record { z = pos v.n; is = v.is }
number_numbered a (minus {b} {bs} h d) =
    let v = leading_valued b bs h d in
    let k : suc (v.n - 1) ≡ v.n = omega (arith, v.some) in
    record { z = negsuc (v.n - 1); is = ap (λ (l : List ℕ). 45 ∷ l) v.is ∙ rw k }

record Paired (bytes : List ℕ) : Type 0 where
  p : Pair
  is : bytes ≡ pair_text p

pair_paired : (a : List ℕ) → PairForm a → Paired a
unfolding pair_text
pair_paired t (pair a b h g) =
    let x = number_numbered a h in
    let y = number_numbered b g in
    record { p = record { x = x.z; y = y.z }; is = ap (λ (l : List ℕ). l ++ 44 ∷ b) x.is ∙ ap (λ (l : List ℕ). number_text x.z ++ 44 ∷ l) y.is }

-- the text of a point and more of them
pub later_text_lem : (ps : List Pair) → 0 < length ps → later_text ps ≡ 32 ∷ points_text ps
unfolding later_text points_text
later_text_lem [] h = absurd (omega arith)
later_text_lem (p ∷ ps) h = refl

form_said : (text : List ℕ) → PointsForm text → Said text
unfolding points_text later_text
form_said t (last {a} h) = let p = pair_paired a h in record { points = p.p ∷ []; says = record { some = omega arith; is = p.is ∙ sym (append_none (pair_text p.p)) } }
form_said t (more a b h g) =
    let p = pair_paired a h in
    let s = form_said b g in
    record {
      points = p.p ∷ s.points;
      says = record {
        some = omega arith;
        is = ap (λ (l : List ℕ). l ++ 32 ∷ b) p.is ∙ ap (λ (l : List ℕ). pair_text p.p ++ 32 ∷ l) s.says.is
            ∙ ap (λ (l : List ℕ). pair_text p.p ++ l) (sym (later_text_lem s.points s.says.some));
      };
    }

-- ---- a whole number's text is a number of the form

record Led (n : ℕ) : Type 0 where
  b : ℕ
  bs : List ℕ
  is : digits_of n ≡ b ∷ bs
  leading : IsLeading b
  digits : Digits bs

digits_end : (bs : List ℕ) (b : ℕ) → Digits bs → IsDigit b → Digits (bs ++ b ∷ [])
digits_end [] b h g = (g, tt)
digits_end (d ∷ ds) b h g = (h.0, digits_end ds b h.1 g)

led : (k n : ℕ) → n < k → 1 ≤ n → Led n
led zero n h g = absurd (omega arith)
led (suc k) n h g = go (ltb n 10) refl (λ e. led k (n / 10) (omega (arith, ltb-false n 10 e)) (omega (arith, ltb-false n 10 e)))
  where
    go : (t : Bool) → ltb n 10 ≡ t → (ltb n 10 ≡ false → Led (n / 10)) → Led n
    go true e ih =
        let s : n < 10 = ltb-true n 10 e in
        record { b = 48 + n; bs = []; is = digits_small n s; leading = (omega arith, omega arith); digits = tt }
    go false e ih =
        let l = ih e in
        record {
          b = l.b;
          bs = l.bs ++ (48 + n % 10) ∷ [];
          is = digits_large n (ltb-false n 10 e) ∙ ap (λ (t : List ℕ). t ++ (48 + n % 10) ∷ []) l.is;
          leading = l.leading;
          digits = digits_end l.bs (48 + n % 10) l.digits (omega arith, omega arith);
        }

number_form : (z : ℤ) → Number (number_text z)
unfolding number_text
number_form (pos zero) = rw (digits_small 0 (omega arith)) nought
number_form (pos (suc n)) = let l = led (suc (suc n)) (suc n) (omega arith) (omega arith) in rw l.is (plain l.leading l.digits)
number_form (negsuc n) = let l = led (suc (suc n)) (suc n) (omega arith) (omega arith) in rw l.is (minus l.leading l.digits)

pair_form : (p : Pair) → PairForm (pair_text p)
unfolding pair_text
pair_form p = pair (number_text p.x) (number_text p.y) (number_form p.x) (number_form p.y)

points_form : (ps : List Pair) → 0 < length ps → PointsForm (points_text ps)
unfolding points_text later_text
points_form [] h = absurd (omega arith)
points_form (p ∷ []) h = subst PointsForm (sym (append_none (pair_text p))) (last (pair_form p))
points_form (p ∷ q ∷ ps) h = more (pair_text p) (points_text (q ∷ ps)) (pair_form p) (points_form (q ∷ ps) (omega arith))

pub form_says : FormSays
form_says text = (form_said text, λ s. subst PointsForm (sym s.says.is) (points_form s.points s.says.some))

-- ---- what is read of a text of points

-- the pairs of points, the first at a byte
abbrev pub spots_by : ℕ → List Pair → List Spot
spots_by at [] = []
spots_by at (p ∷ ps) = record { begin = at; point = p } ∷ spots_by (suc (at + length (pair_text p))) ps

abbrev figure : ℕ → ℤ → Bool → ℕ → Figure
figure begin x negative size = record { begin = begin; x = x; negative = negative; size = size }

module _ (begin : ℕ) (x : ℤ) (s : Bool) where
  -- a byte that is a digit
  digit_step : (size at b : ℕ) (r : List ℕ) → IsDigit b → spots_from uncapped (figure begin x s size) at (b ∷ r) ≡ spots_from uncapped (figure begin x s (10 * size + (b - 48))) (suc at) r
  unfolding spots_from grown_by
  digit_step size at b r d = rw (ne_eqb b 32 (λ e. omega (arith, d.0)), ne_eqb b 44 (λ e. omega (arith, d.0)), ne_eqb b 45 (λ e. omega (arith, d.0)))

  digits_step : (k n : ℕ) → n < k → (at : ℕ) (r : List ℕ) → spots_from uncapped (figure begin x s 0) at (digits_of n ++ r) ≡ spots_from uncapped (figure begin x s n) (at + length (digits_of n)) r
  digits_step zero n h at r = absurd (omega arith)
  digits_step (suc k) n h at r = go (ltb n 10) refl (λ e l. digits_step k (n / 10) (omega (arith, ltb-false n 10 e)) at l)
    where
      go : (t : Bool) → ltb n 10 ≡ t
          → (ltb n 10 ≡ false → (l : List ℕ) → spots_from uncapped (figure begin x s 0) at (digits_of (n / 10) ++ l) ≡ spots_from uncapped (figure begin x s (n / 10)) (at + length (digits_of (n / 10))) l)
          → spots_from uncapped (figure begin x s 0) at (digits_of n ++ r) ≡ spots_from uncapped (figure begin x s n) (at + length (digits_of n)) r
      go true e ih =
          let h : n < 10 = ltb-true n 10 e in
          let v : 10 * 0 + (48 + n - 48) ≡ n = omega arith in
          let w : suc at ≡ at + 1 = omega arith in
          rw (digits_small n h) (digit_step 0 at (48 + n) r (omega arith, omega arith) ∙ rw (v, w))
      go false e ih =
          let h : 10 ≤ n = ltb-false n 10 e in
          let v : 10 * (n / 10) + (48 + n % 10 - 48) ≡ n = omega arith in
          let w : suc (at + length (digits_of (n / 10))) ≡ at + length (digits_of (n / 10) ++ (48 + n % 10) ∷ []) = omega (arith, length-append (digits_of (n / 10)) ((48 + n % 10) ∷ [])) in
          rw (digits_large n h)
          (ap (λ (l : List ℕ). spots_from uncapped (figure begin x s 0) at l) (append_assoc (digits_of (n / 10)) ((48 + n % 10) ∷ []) r)
          ∙ ih e ((48 + n % 10) ∷ r) ∙ digit_step (n / 10) (at + length (digits_of (n / 10))) (48 + n % 10) r (omega arith, omega arith) ∙ rw (v, w))

-- the sign and the size of a number
abbrev negative : ℤ → Bool
negative (pos n) = false
negative (negsuc n) = true

abbrev size : ℤ → ℕ
size (pos n) = n
size (negsuc n) = suc n

sign_size : (z : ℤ) → signed_by (negative z) (size z) ≡ z
sign_size (pos n) = refl
sign_size (negsuc n) = refl

minus_step : (begin : ℕ) (x : ℤ) (at : ℕ) (r : List ℕ) → spots_from uncapped (figure begin x false 0) at (45 ∷ r) ≡ spots_from uncapped (figure begin x true 0) (suc at) r
unfolding spots_from grown_by
minus_step begin x at r = refl

number_step : (begin : ℕ) (x z : ℤ) (at : ℕ) (r : List ℕ)
    → spots_from uncapped (figure begin x false 0) at (number_text z ++ r) ≡ spots_from uncapped (figure begin x (negative z) (size z)) (at + length (number_text z)) r
unfolding number_text
number_step begin x (pos n) at r = digits_step begin x false (suc n) n (omega arith) at r
number_step begin x (negsuc n) at r =
    let w : suc at + length (digits_of (suc n)) ≡ at + suc (length (digits_of (suc n))) = omega arith in
    minus_step begin x at (digits_of (suc n) ++ r) ∙ digits_step begin x true (suc (suc n)) (suc n) (omega arith) (suc at) r ∙ rw w

comma_step : (begin : ℕ) (x : ℤ) (s : Bool) (n at : ℕ) (r : List ℕ) → spots_from uncapped (figure begin x s n) at (44 ∷ r) ≡ spots_from uncapped (figure begin (signed_by s n) false 0) (suc at) r
unfolding spots_from grown_by
comma_step begin x s n at r = refl

space_step : (begin : ℕ) (x : ℤ) (s : Bool) (n at : ℕ) (r : List ℕ)
    → spots_from uncapped (figure begin x s n) at (32 ∷ r) ≡ record { begin = begin; point = record { x = x; y = signed_by s n } } ∷ spots_from uncapped (figure_at (suc at)) (suc at) r
unfolding spots_from spot_of
space_step begin x s n at r = refl

pair_step : (p : Pair) (at : ℕ) (r : List ℕ)
    → spots_from uncapped (figure_at at) at (pair_text p ++ 32 ∷ r) ≡ record { begin = at; point = p } ∷ spots_from uncapped (figure_at (suc (at + length (pair_text p)))) (suc (at + length (pair_text p))) r
unfolding pair_text
pair_step p at r =
    let a = number_text p.x in
    let b = number_text p.y in
    let w : suc (at + length a) + length b ≡ at + length (a ++ 44 ∷ b) = omega (arith, length-append a (44 ∷ b)) in
    ap (spots_from uncapped (figure_at at) at) (append_assoc a (44 ∷ b) (32 ∷ r))
    ∙ number_step at (pos 0) p.x at (44 ∷ (b ++ 32 ∷ r))
    ∙ comma_step at (pos 0) (negative p.x) (size p.x) (at + length a) (b ++ 32 ∷ r)
    ∙ number_step at (signed_by (negative p.x) (size p.x)) p.y (suc (at + length a)) (32 ∷ r)
    ∙ space_step at (signed_by (negative p.x) (size p.x)) (negative p.y) (size p.y) (suc (at + length a) + length b) r
    ∙ rw (sign_size p.x, sign_size p.y, w)

points_step : (ps : List Pair) (at : ℕ) → 0 < length ps → spots_from uncapped (figure_at at) at (points_text ps ++ 32 ∷ []) ≡ spots_by at ps
unfolding points_text later_text spots_from
points_step [] at h = absurd (omega arith)
points_step (p ∷ []) at h = ap (λ (l : List ℕ). spots_from uncapped (figure_at at) at (l ++ 32 ∷ [])) (append_none (pair_text p)) ∙ pair_step p at []
points_step (p ∷ q ∷ ps) at h =
    ap (spots_from uncapped (figure_at at) at) (append_assoc (pair_text p) (later_text (q ∷ ps)) (32 ∷ []))
    ∙ pair_step p at (points_text (q ∷ ps) ++ 32 ∷ [])
    ∙ ap (λ (l : List Spot). record { begin = at; point = p } ∷ l) (points_step (q ∷ ps) (suc (at + length (pair_text p))) (omega arith))

pub spots_said : (text : List ℕ) (ps : List Pair) → Says text ps → spots_of text ≡ spots_by 0 ps
unfolding spots_of
spots_said text ps s = rw s.is (points_step ps 0 s.some)

-- ---- the pairs of points by number

pub spots_length : (ps : List Pair) (at : ℕ) → length (spots_by at ps) ≡ length ps
spots_length [] at = refl
spots_length (p ∷ ps) at = ap suc (spots_length ps (suc (at + length (pair_text p))))

pub spots_points : (ps : List Pair) (at : ℕ) → map (λ (s : Spot). s.point) (spots_by at ps) ≡ ps
spots_points [] at = refl
spots_points (p ∷ ps) at = ap (λ (l : List Pair). p ∷ l) (spots_points ps (suc (at + length (pair_text p))))

pub one_saying : OneSaying
one_saying text ps qs a b =
    sym (spots_points ps 0) ∙ ap (map (λ (s : Spot). s.point)) (sym (spots_said text ps a) ∙ spots_said text qs b) ∙ spots_points qs 0

-- Assumes nothing.
