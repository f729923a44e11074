-- What drawing one record for a desk answers and leaves, by its checks; a record that was filled, and a segment by its number.
use mathlib.Core.Path.{◌≡◌, refl, sym, ap, ◌∙◌}
use mathlib.Core.Bool.{Bool, true, false, cond}
use mathlib.Core.List.{List, [], ◌∷◌}
use Prim.Native.Nat.{ℕ, ◌+◌, ◌-◌, ◌*◌, ◌/◌, ◌^◌, ◌<◌, ◌≤◌}
use native.Mathlib.Nat.{zero-add}
use native.Mathlib.Omega.{arith}
use lib.Dec.{leb, ltb}
use lib.ListN.{length, get_or, take, drop, length-drop}
use lib.Seq.{get_or-drop}
use lib.Ieee.{Float, nan}
use borrow.Author.Tests.{ltb-true, leb-true, lt-ltb}
use borrow.Author.Rules.{part_to_end}
use Rattle.codes.specs.declared.Code.{Code}
use Rattle.segments.specs.Segment.{field, segment_at}
use Rattle.segments.specs.declared.Segment.{Segment}
use Rattle.flat_records.specs.declared.SegmentRecord.{SegmentRecord}
use Rattle.draw.specs.DrawAnswer.{Done, Refused}
use Rattle.checks.specs.Verdict.{Verdict, Fine, Fault}
use Rattle.desks.specs.Desks.{Sight, sight_of, owner_in, hidden_in, desk_good, bytes_good}
use Rattle.checks.proofs.Checks.{passed_check}
use Rattle.draw.specs.Draw.{span_good, Channels, leaves, DrawOutcome}
use Rattle.checks.proofs.Entries.{and_left, and_right}
use Rattle.records.specs.Records.{without_owner, joined_of, zero_record, record_of, records_of, draw_alone, draw_record_of, is_known, draw_number_of, judge_for, outcome_for, draw_for}
use Rattle.records.proofs.Fills.{length_list_from, list_from_at}

-- ---- a record for a desk

-- every check of a record for a desk passed
pub record PassedFor (s : Sight) : Type 0 where
  pub desk : s.desk < 2
  pub bytes : s.splines ≤ length s.bits
  pub owned : owner_in s 0 < s.splines

pub judged_for : (known : Bool) (s : Sight) (y : ℕ) (spanned : Bool) → judge_for known s y spanned ≡ Fine → PassedFor s
unfolding judge_for
judged_for known s y spanned h =
    let s1 = passed_check (desk_good s) Code.Desk _ h in
    let s2 = passed_check known Code.Table _ s1.1 in
    let s3 = passed_check (bytes_good s) Code.Trace _ s2.1 in
    let s4 = passed_check (ltb y (2 ^ 23)) Code.Row _ s3.1 in
    let s5 = passed_check spanned Code.Span _ s4.1 in
    let s6 = passed_check (ltb (owner_in s 0) s.splines) Code.Table _ s5.1 in
    record { desk = ltb-true s.desk 2 s1.0; bytes = leb-true s.splines (length s.bits) s3.0; owned = ltb-true (owner_in s 0) s.splines s6.0 }

module _ (known : Bool) (r : SegmentRecord) (splines : ℕ) (bits : List ℕ) (desk y x0 n : ℕ) (a : Channels) {spanned : Bool} (w : spanned ≡ span_good x0 n (length a.r0) (length a.r1) (length a.r2)) where
  abbrev sight : Sight
  sight = sight_of (r.owner ∷ []) splines bits desk

  judged_as : {v : Verdict} → judge_for known sight y spanned ≡ v → draw_for known r splines bits desk y x0 n a ≡ outcome_for v (hidden_in sight 0) (draw_alone known (without_owner r) y x0 n a) a
  unfolding draw_for
  judged_as e = ap (λ (v : Verdict). outcome_for v (hidden_in sight 0) (draw_alone known (without_owner r) y x0 n a) a) (sym (ap (judge_for known sight y) w) ∙ e)

  pub for_fault : {c : Code} → judge_for known sight y spanned ≡ Fault c → leaves (Refused c 0) a ≡ draw_for known r splines bits desk y x0 n a
  for_fault e = sym (judged_as e)

  pub for_hidden : judge_for known sight y spanned ≡ Fine → hidden_in sight 0 ≡ true → leaves (Done 0) a ≡ draw_for known r splines bits desk y x0 n a
  for_hidden e h = sym (judged_as e ∙ ap (λ (b : Bool). cond b (leaves (Done 0) a) (draw_alone known (without_owner r) y x0 n a)) h)

  pub for_drawn : {o : DrawOutcome} → judge_for known sight y spanned ≡ Fine → hidden_in sight 0 ≡ false → o ≡ draw_alone known (without_owner r) y x0 n a → o ≡ draw_for known r splines bits desk y x0 n a
  for_drawn e h d = d ∙ sym (judged_as e ∙ ap (λ (b : Bool). cond b (leaves (Done 0) a) (draw_alone known (without_owner r) y x0 n a)) h)

-- ---- a record that was filled

module _ (xs : List Float) (us : List ℕ) (c m i : ℕ) (in_count : i < c) (in-records : i < m) (in-floats : 8 * i + 8 ≤ length xs) (in_owners : i < length us) where
  -- it is the flat segment of its number, with its owner
  pub filled : get_or (records_of xs us c m) i zero_record ≡ joined_of (segment_at xs i) (get_or us i 0)
  unfolding record_of
  filled =
      list_from_at (record_of xs us c) 0 m i zero_record in-records
      ∙ rw (zero-add i) (rw (lt-ltb i c in_count, lt-ltb i (length xs / 8) (omega arith), lt-ltb i (length us) in_owners) refl)

  -- and drawing it is drawing that segment
  pub filled_drawn : (y x0 n : ℕ) (a : Channels) → draw_record_of (records_of xs us c m) i y x0 n a ≡ draw_alone true (segment_at xs i) y x0 n a
  filled_drawn y x0 n a =
      ap (λ (k : ℕ). draw_alone (ltb i k) (without_owner (get_or (records_of xs us c m) i zero_record)) y x0 n a) (length_list_from (record_of xs us c) 0 m)
      ∙ ap (λ (known : Bool). draw_alone known (without_owner (get_or (records_of xs us c m) i zero_record)) y x0 n a) (lt-ltb i m in-records)
      ∙ ap (λ (r : SegmentRecord). draw_alone true (without_owner r) y x0 n a) filled

-- ---- a segment by its number

-- what a known number says
pub record Known (xs : List Float) (c i : ℕ) : Type 0 where
  pub counted : i < c
  pub fits : 8 * c ≤ length xs

pub known_facts : (xs : List Float) (c i : ℕ) → is_known xs c i ≡ true → Known xs c i
unfolding is_known
known_facts xs c i e = record { counted = ltb-true i c (and_left (ltb i c) (leb (8 * c) (length xs)) e); fits = leb-true (8 * c) (length xs) (and_right (ltb i c) (leb (8 * c) (length xs)) e) }

-- a segment of the floats from segment b on is a segment of them all
module _ (xs : List Float) (b j i : ℕ) (e : b + j ≡ i) where
  field_from : (k : ℕ) → field (drop (8 * b) xs) j k ≡ field xs i k
  field_from k = get_or-drop (8 * b) xs (8 * j + k) nan ∙ ap (λ (m : ℕ). get_or xs m nan) (omega arith)

  pub segment_from : segment_at (drop (8 * b) xs) j ≡ segment_at xs i
  unfolding segment_at
  segment_from = rw (field_from 0, field_from 1, field_from 2, field_from 3, field_from 4, field_from 5, field_from 6, field_from 7) refl

-- a known number among the 16 from b on: drawing its record of those 16, whatever their owners, is drawing the number
pub in_16 : (xs : List Float) (us : List ℕ) (c i b y x0 n : ℕ) (a : Channels) → length us ≡ 16 → is_known xs c i ≡ true → b ≤ i → i < b + 16
    → draw_record_of (records_of (take (length xs - 8 * b) (drop (8 * b) xs)) us (c - b) 16) (i - b) y x0 n a ≡ draw_number_of xs c i y x0 n a
in_16 xs us c i b y x0 n a w e l u =
    let k = known_facts xs c i e in
    let fits : 8 * (i - b) + 8 ≤ length (drop (8 * b) xs) = rw (length-drop (8 * b) xs) (omega (arith, k.counted, k.fits)) in
    let here : i - b < c - b = omega (arith, k.counted) in
    let few : i - b < 16 = omega arith in
    let at : b + (i - b) ≡ i = omega arith in
    ap (λ (zs : List Float). draw_record_of (records_of zs us (c - b) 16) (i - b) y x0 n a) (part_to_end xs (8 * b))
    ∙ filled_drawn (drop (8 * b) xs) us (c - b) 16 (i - b) here few fits (omega arith) y x0 n a
    ∙ ap (λ (s : Segment). draw_alone true s y x0 n a) (segment_from xs b (i - b) i at)
    ∙ ap (λ (known : Bool). draw_alone known (segment_at xs i) y x0 n a) (sym e)

-- Assumes nothing.
