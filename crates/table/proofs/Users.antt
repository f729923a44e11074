-- What whoever uses a build needs: it has its needs met or a line of the table of codes refuses it; each code is given exactly when its line says, a refusal leaves zeros, and
-- any two outcomes are equal.
use mathlib.Core.Path.{◌≡◌, refl, sym, ap, ◌∙◌}
use mathlib.Core.Bool.{Bool, true, false, ◌&&◌, and-false}
use mathlib.Core.List.{List}
use mathlib.Core.Logic.{◌⊎◌, inl, inr, ◌↔◌}
use Prim.Native.Nat.{ℕ, suc, ◌^◌, ◌≤◌, ◌<◌}
use native.Mathlib.Omega.{arith}
use lib.Dec.{leb}
use lib.ListN.{length}
use borrow.Author.Tests.{leb-true, leb-false, le-leb, lt-leb}
use Rattle.codes.specs.declared.Code.{Code}
use Rattle.codes.proofs.Refusals.{same_refusal}
use Rattle.shape.proofs.Shape as Shape
use Rattle.dequantize.specs.Answers.{Judged}
use Rattle.dequantize.specs.Answers as Judged
use Rattle.dequantize.specs.Judge.{Description, Shaped, total_of, judge_of}
use Rattle.dequantize.specs.Refusals.{AllPass}
use Rattle.dequantize.proofs.Refusals.{fine_all, all_fine, judged_exactly}
use Rattle.segments.specs.declared.Segment.{Segment}
use Rattle.points.specs.Points.{eights}
use Rattle.painting.specs.Painting.{Painted, All, NoRoomAt, Passed}
use Rattle.painting.specs.Segments.{DrawnUpTo}
use Rattle.painting.proofs.Segments.{all_exactly, room_exactly}
use Rattle.rows.specs.Rows.{in_row}
use Rattle.rows.proofs.Users.{room_when, table_when, either}
use Rattle.build_answer.specs.BuildAnswer.{Refused}
use Rattle.table.specs.Table.{BuildRooms, Setting, BuildOutcome, given_of, refused_with, after_rows, after_paint, after_judge, build_of}
use Rattle.verdict.specs.Verdict.{sized, shaped, verdict_of}
use Rattle.table.specs.Segments.{entry_total, Fits, NeedsMet, done_with}
use Rattle.table.specs.Refusals.{BuildRefusal, size, shape, starts, judged, drawing, entries}
use Rattle.table.proofs.InRooms.{painted}
use Rattle.verdict.proofs.Checks.{both, agreed}

-- ---- tests

wide_or_tall : (a b m : ℕ) → leb a m && leb b m ≡ false → (m < a) ⊎ (m < b)
wide_or_tall a b m e = go (leb a m) refl
  where
    go : (t : Bool) → leb a m ≡ t → (m < a) ⊎ (m < b)
    go false p = inl (leb-false a m p)
    go true p = inr (leb-false b m (ap (λ (t : Bool). t && leb b m) (sym p) ∙ e))

not_sized : (a b m : ℕ) → (m < a) ⊎ (m < b) → leb a m && leb b m ≡ false
not_sized a b m (inl h) = rw (lt-leb a m h)
not_sized a b m (inr h) = rw (lt-leb b m h) (and-false (leb a m))

is_shaped : (d : Description) → Shaped d → shaped d ≡ true
is_shaped d = Shape.is_shaped d.counts d.starts d.deltas d.coefficients

not_shaped : (d : Description) → (Shaped d → ⊥) → shaped d ≡ false
not_shaped d = Shape.not_shaped d.counts d.starts d.deltas d.coefficients

module _ (d : Description) (i : Setting) (r : BuildRooms) where
  -- ---- a line of the table gives its code, and needs that are met a table

  abbrev rest : Judged → BuildOutcome
  rest v = after_judge r i.height v (painted d i r)

  abbrev total : ℕ
  total = total_of d (given_of i) (length d.counts)

  passed : AllPass d (given_of i) → Passed d (given_of i)
  passed a = record { total = total; fine = all_fine d (given_of i) a }

  fits_verdict : Fits d i r → verdict_of d (given_of i) i.width i.height r.starts ≡ judge_of d (given_of i)
  unfolding verdict_of
  fits_verdict f =
      rw (le-leb i.width (2 ^ 23) f.narrow, le-leb i.height (2 ^ 23) f.low, is_shaped d f.shape, le-leb (suc i.height) r.starts f.tall)

  -- where every spline passes, drawing decides
  after_passes : Fits d i r → AllPass d (given_of i) → build_of d i r ≡ after_paint r i.height total (painted d i r)
  unfolding build_of
  after_passes f a = ap rest (fits_verdict f ∙ all_fine d (given_of i) a)

  abbrev Segmented : List Segment → List ℕ → Type 0
  Segmented segs owners = DrawnUpTo d (given_of i) i.high r.path r.walk r.segments r.owners (length d.counts) segs owners

  pub is_drawn : Fits d i r → AllPass d (given_of i) → (segs : List Segment) (owners : List ℕ) → Segmented segs owners → painted d i r ≡ All segs owners
  is_drawn f a segs owners w = (all_exactly d (given_of i) i.high r.path r.walk r.segments r.owners f.shape (passed a) segs owners).1 w

  pub refused : {c : Code} {p : ℕ} → BuildRefusal d i r c p → build_of d i r ≡ refused_with r c p
  unfolding build_of verdict_of
  refused (size h) = rw (not_sized i.width i.height (2 ^ 23) h)
  refused (shape a b n) = rw (le-leb i.width (2 ^ 23) a, le-leb i.height (2 ^ 23) b, not_shaped d n)
  refused (starts a b s h) = rw (le-leb i.width (2 ^ 23) a, le-leb i.height (2 ^ 23) b, is_shaped d s, lt-leb (suc i.height) r.starts (omega arith))
  refused (judged {c = c} {k = k} f e) = ap rest (fits_verdict f ∙ (judged_exactly d (given_of i) c k).1 e)
  refused (drawing {k = k} f a l) =
      after_passes f a
      ∙ ap (after_paint r i.height total) ((room_exactly d (given_of i) i.high r.path r.walk r.segments r.owners f.shape (passed a) k).1 l)
  refused (entries {segs = segs} {owners = owners} f a w h) =
      after_passes f a
      ∙ ap (after_paint r i.height total) (is_drawn f a segs owners w)
      ∙ ap (after_rows r total (length segs) (eights segs) owners) (room_when (in_row (eights segs)) (length segs) i.height r.starts r.entries h)

  pub met : (segs : List Segment) (owners : List ℕ) → NeedsMet d i r segs owners → build_of d i r ≡ done_with d i r segs owners
  unfolding done_with
  met segs owners n =
      after_passes n.fits n.passes
      ∙ ap (after_paint r i.height total) (is_drawn n.fits n.passes segs owners n.drawn)
      ∙ ap (after_rows r total (length segs) (eights segs) owners) (table_when (in_row (eights segs)) (length segs) i.height r.starts r.entries n.entries)

  -- ---- and one of them holds

  pub record Accepts : Type 0 where
    pub segs : List Segment
    pub owners : List ℕ
    pub needs : NeedsMet d i r segs owners

  pub record Refuses : Type 0 where
    pub code : Code
    pub place : ℕ
    pub why : BuildRefusal d i r code place

  by_paint : Fits d i r → AllPass d (given_of i) → (q : Painted) → painted d i r ≡ q → Accepts ⊎ Refuses
  by_paint f a (NoRoomAt k) q =
      inr (record { code = Code.Room; place = k; why = drawing f a ((room_exactly d (given_of i) i.high r.path r.walk r.segments r.owners f.shape (passed a) k).0 q) })
  by_paint f a (All segs owners) q = go (either (in_row (eights segs)) (length segs) i.height r.starts r.entries)
    where
      w : Segmented segs owners
      w = (all_exactly d (given_of i) i.high r.path r.walk r.segments r.owners f.shape (passed a) segs owners).0 q

      go : ((entry_total i segs ≤ r.entries) × (entry_total i segs ≤ 2 ^ 30)) ⊎ ((r.entries < entry_total i segs) ⊎ (2 ^ 30 < entry_total i segs)) → Accepts ⊎ Refuses
      go (inl fine) = inl (record { segs = segs; owners = owners; needs = record { fits = f; passes = a; drawn = w; entries = fine } })
      go (inr more) = inr (record { code = Code.Room; place = 0; why = entries f a w more })

  by_judge : Fits d i r → (v : Judged) → judge_of d (given_of i) ≡ v → Accepts ⊎ Refuses
  by_judge f (Judged.Refused c k) j = inr (record { code = c; place = k; why = judged f ((judged_exactly d (given_of i) c k).0 j) })
  by_judge f (Judged.Fine t) j = by_paint f (fine_all d (given_of i) t j).0 (painted d i r) refl

  by_checks : (a : Bool) → sized i.width i.height ≡ a → (b : Bool) → shaped d ≡ b → (t : Bool) → leb (suc i.height) r.starts ≡ t → Accepts ⊎ Refuses
  by_checks false q b s t h = inr (record { code = Code.Size; place = 0; why = size (wide_or_tall i.width i.height (2 ^ 23) q) })
  by_checks true q b s t h = inside (both (leb i.width (2 ^ 23)) (leb i.height (2 ^ 23)) q) b s t h
    where
      inside : (leb i.width (2 ^ 23) ≡ true) × (leb i.height (2 ^ 23) ≡ true) → (b : Bool) → shaped d ≡ b → (t : Bool) → leb (suc i.height) r.starts ≡ t → Accepts ⊎ Refuses
      inside w false s t h = inr (record {
        code = Code.Shape;
        place = 0;
        why = shape (leb-true i.width (2 ^ 23) w.0) (leb-true i.height (2 ^ 23) w.1) (λ k. cc (is_shaped d k, s));
      })
      inside w true s false h = inr (record {
        code = Code.Room;
        place = 0;
        why = starts (leb-true i.width (2 ^ 23) w.0) (leb-true i.height (2 ^ 23) w.1) (agreed d s) (let l = leb-false (suc i.height) r.starts h in omega arith);
      })
      inside w true s true h =
          by_judge
          (record { narrow = leb-true i.width (2 ^ 23) w.0; low = leb-true i.height (2 ^ 23) w.1; shape = agreed d s; tall = leb-true (suc i.height) r.starts h })
          (judge_of d (given_of i)) refl

  pub either_way : Accepts ⊎ Refuses
  either_way = by_checks (sized i.width i.height) refl (shaped d) refl (leb (suc i.height) r.starts) refl

  -- ---- what the contract of `build` promises

  given : (c : Code) (p : ℕ) → (build_of d i r).answer ≡ Refused c p → BuildRefusal d i r c p
  unfolding refused_with done_with
  given c p e = go either_way
    where
      go : Accepts ⊎ Refuses → BuildRefusal d i r c p
      go (inl a) = absurd (cc (ap (λ (t : BuildOutcome). t.answer) (met a.segs a.owners a.needs), e))
      go (inr w) =
          let q : Refused w.code w.place ≡ Refused c p = sym (ap (λ (t : BuildOutcome). t.answer) (refused w.why)) ∙ e in
          let same = same_refusal q in
          rw (← same.0, ← same.1) w.why

  -- a code is given exactly when its line of the table says
  pub refused_exactly : (c : Code) (p : ℕ) → ((build_of d i r).answer ≡ Refused c p) ↔ BuildRefusal d i r c p
  unfolding refused_with
  refused_exactly c p = (given c p, λ h. ap (λ (t : BuildOutcome). t.answer) (refused h))

  -- after a refusal every lent cell is zero
  pub refused_leaves_zero : (t : BuildOutcome) (c : Code) (p : ℕ) → t ≡ build_of d i r → t.answer ≡ Refused c p → t ≡ refused_with r c p
  refused_leaves_zero t c p e q = e ∙ refused (given c p (sym (ap (λ (u : BuildOutcome). u.answer) e) ∙ q))

  pub one_outcome : (t u : BuildOutcome) → t ≡ build_of d i r → u ≡ build_of d i r → t ≡ u
  one_outcome t u e q = e ∙ sym q

-- Assumes nothing.
