-- Laws of the frame, by recursion over the words that are left and over the cases that are left.
use mathlib.Core.Path.{◌≡◌, refl, sym, ap, ◌∙◌}
use mathlib.Core.Bool.{Bool, true, false, cond}
use mathlib.Core.List.{List}
use Prim.Native.Nat.{ℕ, zero, suc, ◌+◌, ◌-◌, ◌*◌, ◌%◌, ◌<◌, ◌≤◌}
use native.Mathlib.Numerals.{add-one}
use native.Mathlib.Omega.{arith}
use lib.Dec.{ltb, eqb}
use lib.ListN.{length, take, drop, set, get_or, drop_of_length-le}
use lib.Seq.{drop-cons, get_or-set_same, get_or-set_other}
use borrow.Author.Count.{below_more}
use borrow.Author.Tests.{lt-ltb, le-ltb, ltb-false, eq-eqb, ne_eqb}
use Rattle.std.specs.Prelude.{None, Some}
use Rattle.frame.specs.declared.Verdict.{Verdict}
use Rattle.frame.specs.declared.Verdict.TheVariants.{Whole, Short, Stranger, Version, Long, Damaged}
use Rattle.frame.specs.Frame.{word_at, sum_from, sum_of, case_end, end_from, all_end, end_of, settled_of, settled_end, frame_says, held_from}

-- one word more is stored, and those before it stay
pub words_more : (bytes words : List ℕ) (i : ℕ) {word : ℕ} → i < length words → word ≡ word_at bytes (4 * i) → ((k : ℕ) → k < i → get_or words k 0 ≡ word_at bytes (4 * k)) → (k : ℕ) → k < i + 1 → get_or (set words i word) k 0 ≡ word_at bytes (4 * k)
words_more bytes words i {word} h is stored =
    below_more _ i
    (λ k below. get_or-set_other words i k word 0 (λ e. omega arith) ∙ stored k below)
    (get_or-set_same words i word 0 h ∙ is)

-- one word more, and the whole sum stays
pub sum_more : (words : List ℕ) (sum i : ℕ) {word whole : ℕ} → i < length words → word ≡ get_or words i 0 → sum_from sum (drop i words) ≡ whole → sum_from ((sum * 16777619 + word) % 4294967296) (drop (i + 1) words) ≡ whole
unfolding sum_from
sum_more words sum i h at so_far = rw (at, add-one) (rw (drop-cons words i 0 h) at so_far)

pub sum_done : (words : List ℕ) (sum i : ℕ) {whole : ℕ} → length words ≤ i → sum_from sum (drop i words) ≡ whole → sum ≡ whole
unfolding sum_from
sum_done words sum i h so_far = rw (drop_of_length-le words h) at so_far

one_less : (n : ℕ) → n ≡ suc n - 1
one_less n = omega arith

-- so many cases are left before the first one, and one less behind each
pub none_less : (n : ℕ) → n - 0 ≡ n
none_less n = omega arith

pub less : (n i : ℕ) → n - (i + 1) ≡ n - i - 1
less n i = omega arith

-- cases end no earlier than they begin
pub end_grows : (words : List ℕ) (left at : ℕ) → at ≤ end_from words left at
unfolding end_from
end_grows words zero at = omega arith
end_grows words (suc left) at = omega (arith, end_grows words left (case_end words at))

-- one case less, and the end stays
pub end_step : (words : List ℕ) (left at : ℕ) → 0 < left → end_from words left at ≡ end_from words (left - 1) (case_end words at)
unfolding end_from
end_step words zero at h = omega arith
end_step words (suc left) at h = ap (λ (k : ℕ). end_from words k (case_end words at)) (one_less left)

pub held_step : (words : List ℕ) (kind left at : ℕ) → 0 < left → held_from words kind left at ≡ cond (eqb (get_or words at 0) kind) 1 0 + held_from words kind (left - 1) (case_end words at)
unfolding held_from
held_step words kind zero at h = omega arith
held_step words kind (suc left) at h = ap (λ (k : ℕ). cond (eqb (get_or words at 0) kind) 1 0 + held_from words kind k (case_end words at)) (one_less left)

-- one case less that is found, or is not, and the count of all stays
module _ (words : List ℕ) (kind left at found : ℕ) {size all : ℕ} (some : 0 < left) (sized : size ≡ 3 + get_or words (at + 1) 0 + get_or words (at + 2) 0) (so_far : found + held_from words kind left at ≡ all) where
  on : held_from words kind left at ≡ cond (eqb (get_or words at 0) kind) 1 0 + held_from words kind (left - 1) (at + size)
  on = held_step words kind left at some ∙ ap (λ (n : ℕ). cond (eqb (get_or words at 0) kind) 1 0 + held_from words kind (left - 1) (at + n)) (sym sized)

  pub held_found : get_or words at 0 ≡ kind → found + 1 + held_from words kind (left - 1) (at + size) ≡ all
  held_found is = omega (arith, rw (eq-eqb (get_or words at 0) kind is) at on)

  pub held_passed : (get_or words at 0 ≡ kind → ⊥) → found + held_from words kind (left - 1) (at + size) ≡ all
  held_passed is-not = omega (arith, rw (ne_eqb (get_or words at 0) kind is-not) at on)

pub held_done : (words : List ℕ) (kind left at found : ℕ) {all : ℕ} → left ≤ 0 → found + held_from words kind left at ≡ all → found ≡ all
unfolding held_from
held_done words kind zero at found h so_far = omega arith
held_done words kind (suc left) at found h so_far = omega arith

pub end_more : (words : List ℕ) (left at : ℕ) {size end : ℕ} → 0 < left → size ≡ 3 + get_or words (at + 1) 0 + get_or words (at + 2) 0 → end_from words left at ≡ end → end_from words (left - 1) (at + size) ≡ end
end_more words left at h size so_far = ap (λ (n : ℕ). end_from words (left - 1) (at + n)) size ∙ sym (end_step words left at h) ∙ so_far

-- a case that is left ends no later than all do
pub case_within : (words : List ℕ) (left at : ℕ) {end : ℕ} → 0 < left → end_from words left at ≡ end → case_end words at ≤ end
case_within words left at h so_far = omega (arith, end_grows words (left - 1) (case_end words at), end_step words left at h)

-- no case is left
pub end_done : (words : List ℕ) (left at : ℕ) {end : ℕ} → left ≤ 0 → end_from words left at ≡ end → at ≡ end
unfolding end_from
end_done words zero at h so_far = so_far
end_done words (suc left) at h so_far = omega arith

pub ends_at : (words : List ℕ) {at : ℕ} → at ≤ length words - 1 → at ≡ all_end words → Some at ≡ end_of words
unfolding end_of
ends_at words h at = let g : all_end words ≤ length words - 1 = omega arith in rw (at, le-ltb (length words - 1) (all_end words) g)

pub ends_past : (words : List ℕ) → length words - 1 < all_end words → None ≡ end_of words
unfolding end_of
ends_past words h = rw (lt-ltb (length words - 1) (all_end words) h)

pub settled_long : (words : List ℕ) (end : ℕ) → end < length words - 1 → Long ≡ settled_of words end
unfolding settled_of
settled_long words end h = rw (lt-ltb end (length words - 1) h)

pub settled_whole : (words : List ℕ) (end : ℕ) {sum : ℕ} → length words - 1 ≤ end → sum ≡ sum_of (take (length words - 1) words) → sum ≡ get_or words (length words - 1) 0 → Whole ≡ settled_of words end
unfolding settled_of
settled_whole words end h sum is = rw (le-ltb end (length words - 1) h, eq-eqb _ _ (sym sum ∙ is))

pub settled_damaged : (words : List ℕ) (end : ℕ) {sum : ℕ} → length words - 1 ≤ end → sum ≡ sum_of (take (length words - 1) words) → (sum ≡ get_or words (length words - 1) 0 → ⊥) → Damaged ≡ settled_of words end
unfolding settled_of
settled_damaged words end h sum is-not = rw (le-ltb end (length words - 1) h, ne_eqb _ _ (λ e. is-not (sum ∙ e)))

pub judged_short : (words : List ℕ) → length words < 4 → Short ≡ frame_says words
unfolding frame_says
judged_short words h = rw (lt-ltb (length words) 4 h)

pub judged_stranger : (words : List ℕ) → 4 ≤ length words → (get_or words 0 0 ≡ 1448364865 → ⊥) → Stranger ≡ frame_says words
unfolding frame_says
judged_stranger words h magic = rw (le-ltb (length words) 4 h, ne_eqb (get_or words 0 0) 1448364865 magic)

pub judged_version : (words : List ℕ) → 4 ≤ length words → get_or words 0 0 ≡ 1448364865 → (get_or words 1 0 ≡ 1 → ⊥) → Version ≡ frame_says words
unfolding frame_says
judged_version words h magic version = rw (le-ltb (length words) 4 h, eq-eqb (get_or words 0 0) 1448364865 magic, ne_eqb (get_or words 1 0) 1 version)

pub judged_on : (words : List ℕ) → 4 ≤ length words → get_or words 0 0 ≡ 1448364865 → get_or words 1 0 ≡ 1 → settled_end words (end_of words) ≡ frame_says words
unfolding frame_says
judged_on words h magic version = rw (le-ltb (length words) 4 h, eq-eqb (get_or words 0 0) 1448364865 magic, eq-eqb (get_or words 1 0) 1 version)

pub on_past : (words : List ℕ) → settled_end words (end_of words) ≡ frame_says words → end_of words ≡ None → Short ≡ frame_says words
unfolding settled_end
on_past words on past = rw past at on

pub on_at : (words : List ℕ) {end : ℕ} → settled_end words (end_of words) ≡ frame_says words → end_of words ≡ Some end → settled_of words end ≡ frame_says words
unfolding settled_end
on_at words on at = rw at at on

-- what a whole file is: long enough, and its cases end at the last word
pub record Within (words : List ℕ) : Type 0 where
  pub long : 4 ≤ length words
  pub ends : all_end words ≡ length words - 1

short_no : Short ≡ Whole → ⊥
short_no e = let z : ◌≡◌ {A = ℕ} 0 1 = cc in omega arith

long_no : Long ≡ Whole → ⊥
long_no e = let z : ◌≡◌ {A = ℕ} 0 1 = cc in omega arith

version_no : Version ≡ Whole → ⊥
version_no e = let z : ◌≡◌ {A = ℕ} 0 1 = cc in omega arith

stranger_no : Stranger ≡ Whole → ⊥
stranger_no e = let z : ◌≡◌ {A = ℕ} 0 1 = cc in omega arith

-- a test that leads to another verdict than `Whole` was not taken, or was
not_taken : (test : Bool) {other rest : Verdict} → (other ≡ Whole → ⊥) → cond test other rest ≡ Whole → (test ≡ false) × (rest ≡ Whole)
not_taken true unlike whole = absurd (unlike whole)
not_taken false unlike whole = (refl, whole)

taken : (test : Bool) {other rest : Verdict} → (other ≡ Whole → ⊥) → cond test rest other ≡ Whole → (test ≡ true) × (rest ≡ Whole)
taken true unlike whole = (refl, whole)
taken false unlike whole = absurd (unlike whole)

reached : (words : List ℕ) (past : Bool) (end : ℕ) → settled_end words (cond past None (Some end)) ≡ Whole → (past ≡ false) × (settled_of words end ≡ Whole)
unfolding settled_end
reached words true end whole = absurd (short_no whole)
reached words false end whole = (refl, whole)

ends : (words : List ℕ) → settled_end words (end_of words) ≡ Whole → all_end words ≡ length words - 1
unfolding end_of settled_of
ends words whole =
    let r : (ltb (length words - 1) (all_end words) ≡ false) × (settled_of words (all_end words) ≡ Whole) = reached words (ltb (length words - 1) (all_end words)) (all_end words) whole in
    omega (arith, ltb-false (length words - 1) (all_end words) r.0, ltb-false (all_end words) (length words - 1) (not_taken _ long_no r.1).0)

pub whole_within : (words : List ℕ) → frame_says words ≡ Whole → Within words
unfolding frame_says
whole_within words whole =
    let long : (ltb (length words) 4 ≡ false) × _ = not_taken _ short_no whole in
    let magic : (eqb (get_or words 0 0) 1448364865 ≡ true) × _ = taken (eqb (get_or words 0 0) 1448364865) stranger_no long.1 in
    let version : (eqb (get_or words 1 0) 1 ≡ true) × _ = taken (eqb (get_or words 1 0) 1) version_no magic.1 in
    record { long = ltb-false (length words) 4 long.0; ends = ends words version.1 }

-- Assumes nothing.
