-- Two tables that are alike in a row pass the same checks of it. A table as it is kept is alike in every row.
use mathlib.Core.Path.{◌≡◌, refl, sym, ap, ◌∙◌}
use mathlib.Core.Bool.{Bool, true, false, ◌&&◌}
use mathlib.Core.List.{List}
use Prim.Native.Nat.{ℕ, ◌+◌, ◌*◌, ◌<◌, ◌≤◌}
use native.Mathlib.Omega.{arith}
use lib.Dec.{leb, ltb}
use lib.ListN.{length, get_or, take, drop, length-take}
use lib.Seq.{slice, get_or-take, take-take}
use lib.Ieee.{Float, nan}
use Rattle.segments.specs.Segment.{field, segment_at}
use Rattle.desks.specs.Desks.{Sight, owner_in, desk_good, bytes_good, all_owned, shown}
use Rattle.desks.specs.Agree.{Agree, NothingHidden}
use Rattle.desks.proofs.Shown.{agree_shown, agree_owned, nothing_hidden}
use Rattle.checks.specs.Tables.{Table, row_of, shown_of}
use Rattle.checks.specs.Checks.{counts_good, counts_good_for, all_below, entries_good, row_good, row_good_for, or_fault, judge_row}
use Rattle.checks.specs.Verdict.{Fine}
use Rattle.codes.specs.declared.Code.{Code}
use Rattle.checks.specs.Refusals.{CountsFit, CountsFitFor}
use Rattle.checks.specs.Alike.{AlikeIn, AlikeFor, Kept, KeptFor}
use borrow.Author.Tests.{le-leb, leb-true}
use Rattle.checks.proofs.Checks.{counts_facts, counts_facts_for, RowFacts, row_facts, RowFactsFor}
use Rattle.checks.proofs.Refusals.{counts_fit, below_each}

-- ---- two tables alike in a row

both_or_none : (a b : Bool) → (a ≡ true → b ≡ true) → (b ≡ true → a ≡ true) → a ≡ b
both_or_none true b f g = sym (f refl)
both_or_none false true f g = g refl
both_or_none false false f g = refl

same_checks : {a a' b b' c c' m m' : ℕ} {l l' : List ℕ} → a ≡ a' → b ≡ b' → c ≡ c' → m ≡ m' → l ≡ l' → (leb a b && leb b c && all_below m l) ≡ (leb a' b' && leb b' c' && all_below m' l')
same_checks p q r s e = rw (p, q, r, s, e)

module _ {y : ℕ} {t u : Table} (k : AlikeIn y t u) where
  pub alike_counts : counts_good t ≡ counts_good u
  alike_counts = both_or_none (counts_good t) (counts_good u) (λ e. counts_fit u (k.fit.0 (counts_facts t e))) (λ e. counts_fit t (k.fit.1 (counts_facts u e)))

  pub alike_row : row_good t y ≡ row_good u y
  unfolding entries_good
  alike_row = same_checks k.first k.past k.entry_count_lem k.segment_count_lem k.entries

  -- where the row passes its checks, its entries name the same segments
  pub alike_named : RowFacts t y → (j : ℕ) → j < length (row_of t y) → segment_at t.segments (get_or (row_of t y) j 0) ≡ segment_at u.segments (get_or (row_of t y) j 0)
  alike_named f j l = k.segments j l (below_each t.segment_count (row_of t y) f.all_named j l)

-- ---- and by sights that agree

same_test : {a b c d : ℕ} → ((a ≤ b) → (c ≤ d)) → ((c ≤ d) → (a ≤ b)) → leb a b ≡ leb c d
same_test {a} {b} {c} {d} f g = both_or_none (leb a b) (leb c d) (λ e. le-leb c d (f (leb-true a b e))) (λ e. le-leb a b (g (leb-true c d e)))

same_verdicts : {a a' b b' e e' : Bool} {h h' : ℕ} (y : ℕ) (spanned : Bool) → a ≡ a' → b ≡ b' → h ≡ h' → e ≡ e' → or_fault a Code.Table (or_fault b Code.Trace (or_fault (ltb y h) Code.Row (or_fault spanned Code.Span (or_fault e Code.Table Fine)))) ≡ or_fault a' Code.Table (or_fault b' Code.Trace (or_fault (ltb y h') Code.Row (or_fault spanned Code.Span (or_fault e' Code.Table Fine))))
same_verdicts y spanned p q r w = rw (p, q, r, w)

module _ {y : ℕ} {t u : Table} {s r : Sight} (k : AlikeFor y t s u r) where
  alike_counts_for : counts_good_for t s ≡ counts_good_for u r
  unfolding counts_good_for
  alike_counts_for =
      ap (λ (b : Bool). b && leb t.segment_count (length s.owners)) (alike_counts k.tables)
      ∙ ap (λ (b : Bool). counts_good u && b) (same_test k.owners_fit.0 k.owners_fit.1)

  pub alike_desk : desk_good s ≡ desk_good r
  alike_desk = ap (λ (d : ℕ). ltb d 2) k.sights.desk

  alike_bytes : bytes_good s ≡ bytes_good r
  alike_bytes = same_test k.sights.lent.0 k.sights.lent.1

  -- the owners of a row whose entries name segments
  alike_owners : RowFacts t y → (j : ℕ) → j < length (row_of t y) → owner_in s (get_or (row_of t y) j 0) ≡ owner_in r (get_or (row_of t y) j 0)
  alike_owners f j l = k.owners j l (below_each t.segment_count (row_of t y) f.all_named j l)

  alike_row_for : row_good_for t s y ≡ row_good_for u r y
  unfolding row_good_for
  alike_row_for = go (row_good t y) refl ∙ ap (λ (b : Bool). b && all_owned r.owners r.splines (row_of u y)) (alike_row k.tables)
    where
      go : (b : Bool) → row_good t y ≡ b → (row_good t y && all_owned s.owners s.splines (row_of t y)) ≡ (row_good t y && all_owned r.owners r.splines (row_of u y))
      go false e = rw e
      go true e =
          ap (λ (b : Bool). row_good t y && b)
          (agree_owned k.sights (row_of t y) (alike_owners (row_facts t y e)) ∙ ap (all_owned r.owners r.splines) k.tables.entries)

  pub alike_judged : (spanned : Bool) → judge_row t s y spanned ≡ judge_row u r y spanned
  alike_judged spanned = same_verdicts y spanned alike_counts_for alike_bytes k.tables.height alike_row_for

  -- where the row passes its checks, the desk is shown the same entries of it
  pub alike_shown : RowFactsFor t s y → shown_of t s y ≡ shown_of u r y
  alike_shown f = agree_shown k.sights (row_of t y) (alike_owners f.table) f.all_owned_lem ∙ ap (shown r) k.tables.entries

-- ---- a table as it is kept

module _ {A : Type 0} where
  -- a list that begins as long as another does
  as_long : {n m : ℕ} (xs zs : List A) → n ≡ m → take n xs ≡ take n zs → n ≤ length xs → m ≤ length zs
  as_long {n} {m} xs zs e q h = omega (arith, e, ap length q, length-take n xs, length-take n zs, h)

  cell_same : (n : ℕ) (xs zs : List A) (d : A) → take n xs ≡ take n zs → (i : ℕ) → i < n → get_or xs i d ≡ get_or zs i d
  cell_same n xs zs d q i h = sym (get_or-take n xs i d h) ∙ ap (λ (l : List A). get_or l i d) q ∙ get_or-take n zs i d h

  slice_same : (n : ℕ) (xs zs : List A) → take n xs ≡ take n zs → (a b : ℕ) → b ≤ n → slice a b xs ≡ slice a b zs
  slice_same n xs zs q a b h = ap (drop a) (sym (take-take b n xs h) ∙ ap (take b) q ∙ take-take b n zs h)

segment_same : (s : ℕ) (xs zs : List Float) → take (8 * s) xs ≡ take (8 * s) zs → (i : ℕ) → i < s → segment_at xs i ≡ segment_at zs i
unfolding segment_at
segment_same s xs zs q i h = rw (at 0 (omega arith), at 1 (omega arith), at 2 (omega arith), at 3 (omega arith), at 4 (omega arith), at 5 (omega arith), at 6 (omega arith), at 7 (omega arith))
  where
    at : (j : ℕ) → j < 8 → field xs i j ≡ field zs i j
    at j k = cell_same (8 * s) xs zs nan q (8 * i + j) (omega arith)

module _ {t u : Table} (k : Kept t u) where
  pub kept_fits : CountsFit t → CountsFit u
  kept_fits f = record {
    few_segments = omega (arith, k.segment_count_lem, f.few_segments);
    segments_fit = as_long t.segments u.segments (ap (λ (n : ℕ). 8 * n) k.segment_count_lem) k.segments f.segments_fit;
    few_entries = omega (arith, k.entry_count_lem, f.few_entries);
    entries_fit = as_long t.entries u.entries k.entry_count_lem k.entries f.entries_fit;
    low = omega (arith, k.height, f.low);
    starts_fit = as_long t.row_starts u.row_starts (ap (λ (n : ℕ). n + 1) k.height) k.starts f.starts_fit;
  }

  pub kept_segment : (i : ℕ) → i < t.segment_count → segment_at t.segments i ≡ segment_at u.segments i
  kept_segment i h = segment_same t.segment_count t.segments u.segments k.segments i h

  -- a row that passes the checks is alike in both
  pub kept_alike : (y : ℕ) → y < t.height → counts_good t ≡ true → row_good t y ≡ true → AlikeIn y t u
  kept_alike y h g r =
      let f = row_facts t y r in
      let first : get_or t.row_starts y 0 ≡ get_or u.row_starts y 0 = cell_same (t.height + 1) t.row_starts u.row_starts 0 k.starts y (omega arith) in
      let past : get_or t.row_starts (y + 1) 0 ≡ get_or u.row_starts (y + 1) 0 = cell_same (t.height + 1) t.row_starts u.row_starts 0 k.starts (y + 1) (omega arith) in
      record {
        fit = (kept_fits, λ e. counts_facts t g);
        segment_count_lem = k.segment_count_lem;
        entry_count_lem = k.entry_count_lem;
        height = k.height;
        first = first;
        past = past;
        entries = slice_same t.entry_count t.entries u.entries k.entries (get_or t.row_starts y 0) (get_or t.row_starts (y + 1) 0) f.in_count
            ∙ ap (λ (n : ℕ). slice n (get_or t.row_starts (y + 1) 0) u.entries) first
            ∙ ap (λ (n : ℕ). slice (get_or u.row_starts y 0) n u.entries) past;
        segments = λ j l m. kept_segment (get_or (row_of t y) j 0) m;
      }

module _ {t u : Table} {s r : Sight} (k : KeptFor t s u r) where
  pub kept_fits_for : CountsFitFor t s → CountsFitFor u r
  kept_fits_for f = record { table = kept_fits k.table f.table; owners_fit = as_long s.owners r.owners k.table.segment_count_lem k.owners f.owners_fit }

  -- a row that passes the checks is alike for both
  pub kept_alike_for : (y : ℕ) → y < t.height → counts_good_for t s ≡ true → row_good t y ≡ true → AlikeFor y t s u r
  kept_alike_for y h g q =
      let f = counts_facts_for t s g in
      record {
        tables = kept_alike k.table y h (counts_fit t f.table) q;
        sights = k.sights;
        owners_fit = (λ e. (kept_fits_for f).owners_fit, λ e. f.owners_fit);
        owners = λ j l m. cell_same t.segment_count s.owners r.owners 0 k.owners (get_or (row_of t y) j 0) m;
      }

-- ---- one table, two sights of it

-- sights with the same owners that agree see the table alike in every row
pub agree_alike : (t : Table) (s r : Sight) (y : ℕ) → Agree s r → s.owners ≡ r.owners → AlikeFor y t s t r
agree_alike t s r y a e = record {
  tables = record { fit = (λ f. f, λ f. f); segment_count_lem = refl; entry_count_lem = refl; height = refl; first = refl; past = refl; entries = refl; segments = λ j l m. refl };
  sights = a;
  owners_fit = (λ h. omega (arith, h, ap length e), λ h. omega (arith, h, ap length e));
  owners = λ j l m. ap (λ (o : List ℕ). get_or o (get_or (row_of t y) j 0) 0) e;
}

-- a row that passes the checks is shown whole where nothing is hidden
pub shown_whole : (t : Table) (s : Sight) (y : ℕ) → NothingHidden s → RowFactsFor t s y → shown_of t s y ≡ row_of t y
shown_whole t s y n f = nothing_hidden s (row_of t y) n f.all_owned_lem

-- Assumes nothing.
