-- Request (xi): each statement on outcomes of making and refreshing a summary, by the laws of `bands_laws` through the equations of the contracts.
use mathlib.Core.Path.{◌≡◌, refl, sym, ap, subst, ◌∙◌}
use mathlib.Core.Logic.{◌↔◌}
use mathlib.Core.List.{List}
use Prim.Native.Nat.{ℕ, ◌<◌}
use native.Mathlib.Omega.{arith}
use lib.ListN.{length}
use Rattle.desks.specs.Desks.{Sight}
use Rattle.desks.specs.Agree.{Agree}
use Rattle.desks.specs.Hide.{HideOutcome, hide_of}
use Rattle.checks.specs.Tables.{Table}
use Rattle.hull.specs.Reach.{ReachOutcome, reach_of}
use Rattle.hull.specs.ReachAnswer.{ReachAnswer}
use Rattle.hull.specs.ReachAnswer as ReachAnswer
use Rattle.bands.specs.BandsAnswer.{BandsAnswer}
use Rattle.bands.specs.BandsAnswer as BandsAnswer
use Rattle.bands.specs.Bands.{bands_in}
use Rattle.bands.specs.Calls.{BandsOutcome, bands_of, band_of}
use Rattle.bands_laws.specs.Done.{BandsDone}
use Rattle.bands_laws.specs.Summaries.{RowReach, HullOf, Refreshes}
use Rattle.bands_laws.proofs.Rows.{band_rows}
use Rattle.bands_laws.proofs.Refusals.{bands_place, bands_refused, bands_refused_exactly, bands_done, bands_done_exactly, bands_else_done, band_place, band_refused, band_refused_exactly, band_done, band_done_exactly, band_else_done}
use Rattle.bands_laws.proofs.Fresh as laws
use Rattle.bands_laws.proofs.Alike as alike
use Rattle.aktyrbuz.proofs.AcceptedBands.{bands_same, band_same}
use Rattle.bands_laws.proofs.Hiding as after
use Rattle.makers_laws.proofs.Built.{fits_drawing, kept_fit, kept_is_right}
use Rattle.aktyrbuz.specs.Calls.{with_bits}
use Rattle.aktyrbuz.specs.BandsCalls.{BandsCall, BandCall}
use Rattle.aktyrbuz.specs.Requests.{Reaches, BandsCodes, BandCodes, BandsOneOutcome, RowsInBands, BandSegments, MustReach, BandIsHull, RefreshedIsFresh, OtherBandsStay, NoEntryZeros, RefreshesDone, SummaryAfterHide, BandsOfDesksApart, BandsOfAccepted}
use Rattle.aktyrbuz.proofs.Calls.{reach_equation, hide_equation, built_by}
use Rattle.aktyrbuz.proofs.BandsNumbers.{bands_equation, band_equation, refreshes_by}
use Rattle.aktyrbuz.proofs.Requests.{hides_agree, accepted_is}

-- ---- through the equations

-- what is so exactly of the defined outcome is so of an equal one
along : {A : Type 0} {o d : BandsOutcome} (r : BandsAnswer) → o ≡ d → (d.answer ≡ r) ↔ A → (o.answer ≡ r) ↔ A
along r e x = (λ h. x.0 (sym (ap (λ (u : BandsOutcome). u.answer) e) ∙ h), λ a. ap (λ (u : BandsOutcome). u.answer) e ∙ x.1 a)

answered : {o d : BandsOutcome} {r : BandsAnswer} → o ≡ d → o.answer ≡ r → d.answer ≡ r
answered e h = sym (ap (λ (u : BandsOutcome). u.answer) e) ∙ h

pub bands_codes : BandsCodes
bands_codes = record {
  exactly = λ t s W room o k c p. along (BandsAnswer.Refused c p) (bands_equation t s W room o k) (bands_refused_exactly t s W room c p);
  told = λ t s W room o k c p l.
      rw (bands_equation t s W room o k ∙ bands_refused t s W room l, bands_place t s W room l) (refl, refl);
  done = λ t s W room o k n. along (BandsAnswer.Done n) (bands_equation t s W room o k) (bands_done_exactly t s W room n);
  done_told = λ t s W room o k n d.
      let e = bands_equation t s W room o k in
      (rw (e ∙ bands_done t s W room d, d.told), ap (λ (u : BandsOutcome). length u.cells) e ∙ laws.fresh_length t s W room n ((bands_done_exactly t s W room n).1 d));
  else_done = λ t s W room o k none. (along (BandsAnswer.Done (bands_in t.height)) (bands_equation t s W room o k) (bands_done_exactly t s W room (bands_in t.height))).1 (bands_else_done t s W room none);
}

pub band_codes : BandCodes
band_codes = record {
  exactly = λ t s W b cells o k c p. along (BandsAnswer.Refused c p) (band_equation t s W b cells o k) (band_refused_exactly t s W b cells c p);
  told = λ t s W b cells o k c p l.
      rw (band_equation t s W b cells o k ∙ band_refused t s W b cells l, band_place t s W b cells l) (refl, refl);
  done = λ t s W b cells o k n. along (BandsAnswer.Done n) (band_equation t s W b cells o k) (band_done_exactly t s W b cells n);
  done_told = λ t s W b cells o k n d. rw (band_equation t s W b cells o k ∙ band_done t s W b cells d, d.told);
  else_done = λ t s W b cells o k none. (along (BandsAnswer.Done (bands_in t.height)) (band_equation t s W b cells o k) (band_done_exactly t s W b cells (bands_in t.height))).1 (band_else_done t s W b cells none);
}

pub bands_one_outcome : BandsOneOutcome
bands_one_outcome = record {
  make = λ t s W room o q k l. bands_equation t s W room o k ∙ sym (bands_equation t s W room q l);
  refresh = λ t s W b cells o q k l. band_equation t s W b cells o k ∙ sym (band_equation t s W b cells q l);
}

-- ---- a band's numbers

pub rows_in_bands : RowsInBands
rows_in_bands = band_rows

-- a band of a making that is done is one of the image's
made_band : (t : Table) (s : Sight) (W room n b : ℕ) → (bands_of t s W room).answer ≡ BandsAnswer.Done n → b < n → b < bands_in t.height
made_band t s W room n b e h = omega (arith, h, (laws.made t s W room n e).told)

pub band_segments : BandSegments
band_segments = record {
  made = λ t s W room o n k e b h.
      let q = bands_equation t s W room o k in
      let d = answered q e in
      rw q (laws.fresh_segments t s W room n d b (made_band t s W room n b d h));
  refreshed = λ t s W b cells o n k e. let q = band_equation t s W b cells o k in rw q (laws.refreshed_segments t s W b cells n (answered q e));
}

-- what is defined as the reach of a row must be its answer, and what was answered is so defined
module _ (t : Table) (s : Sight) (W b first past : ℕ) (h : HullOf (λ y a e. (reach_of t s y W).answer ≡ ReachAnswer.Done a e) (λ y a e. (reach_of t s y W).answer ≡ ReachAnswer.Done a e) t.height b first past) where
  must : (y a e : ℕ) → (reach_of t s y W).answer ≡ ReachAnswer.Done a e → MustReach t s W y a e
  must y a e d o k = ap (λ (u : ReachOutcome). u.answer) (reach_equation t s y W o k) ∙ d

  was : (y a e : ℕ) → Reaches t s y W a e → (reach_of t s y W).answer ≡ ReachAnswer.Done a e
  was y a e r = sym (ap (λ (u : ReachOutcome). u.answer) (reach_equation t s y W r.outcome r.called)) ∙ r.done

  row_must : (Holds : ℕ → ℕ → Type 0) → RowReach (λ y a e. (reach_of t s y W).answer ≡ ReachAnswer.Done a e) Holds t.height b → RowReach (MustReach t s W) Holds t.height b
  row_must Holds r = record { row = r.row; in_band = r.in_band; a = r.a; e = r.e; answers = must r.row r.a r.e r.answers; ordered = r.ordered; holds = r.holds }

  by_calls : HullOf (MustReach t s W) (λ y a e. Reaches t s y W a e) t.height b first past
  by_calls = record {
    each = λ y i. let w = h.each y i in (w.0, w.1, must y w.0 w.1 w.2);
    inside = λ y i a e r l. h.inside y i a e (was y a e r) l;
    begins = λ l. row_must (λ a e. a ≡ first) (h.begins l);
    ends = λ l. row_must (λ a e. e ≡ past) (h.ends l);
    empty = h.empty;
  }

pub band_is_hull : BandIsHull
band_is_hull = record {
  made = λ t s W room o n k e b h.
      let q = bands_equation t s W room o k in
      let d = answered q e in
      rw q (by_calls t s W b _ _ (laws.fresh_hull t s W room n d b (made_band t s W room n b d h)));
  refreshed = λ t s W b cells o n k e. let q = band_equation t s W b cells o k in rw q (by_calls t s W b _ _ (laws.refreshed_hull t s W b cells n (answered q e)));
}

pub refreshed_is_fresh : RefreshedIsFresh
refreshed_is_fresh t s W b cells o n k e room q m l d j h =
    let p = band_equation t s W b cells o k in
    let r = bands_equation t s W room q l in
    rw (p, r) (laws.refreshed_is_fresh t s W b cells n (answered p e) room m (answered r d) j h)

pub other_bands_stay : OtherBandsStay
other_bands_stay t s W b cells o n k e =
    let p = band_equation t s W b cells o k in
    rw p (λ i h. laws.other_bands_stay t s W b cells n (answered p e) i h, laws.refreshed_length t s W b cells n (answered p e))

pub no_entry_zeros : NoEntryZeros
no_entry_zeros = record {
  made = λ t s W room o n k e b h none j l.
      let q = bands_equation t s W room o k in
      let d = answered q e in
      rw q (laws.no_entry_zeros t s W room n d b (made_band t s W room n b d h) (laws.band_none t s b none) j l);
  refreshed = λ t s W b cells o n k e none j l. let q = band_equation t s W b cells o k in rw q (laws.refreshed_zeros t s W b cells n (answered q e) (laws.band_none t s b none) j l);
  behind = λ t s W room o n k e i h.
      let q = bands_equation t s W room o k in
      let d = answered q e in
      rw q (laws.fresh_behind t s W room n d i (omega (arith, h, (laws.made t s W room n d).told)));
}

-- ---- after a hide, for two desks, and for another maker's table

-- a refresh is done where its checks pass
refresh_by : (t : Table) (s : Sight) (W n : ℕ) (cells : List ℕ) → BandsDone t s W (length cells) n → (b : ℕ) → b < n → (band_of t s W b cells).answer ≡ BandsAnswer.Done n
refresh_by t s W n cells d b l = (band_done_exactly t s W b cells n).1 (after.refresh_done t s W n b cells d l)

pub refreshes_done : RefreshesDone
refreshes_done = record {
  fresh = λ t s W cells o n k e b l q c.
      let p = bands_equation t s W (length cells) o k in
      ap (λ (u : BandsOutcome). u.answer) (band_equation t s W b cells q c) ∙ refresh_by t s W n cells (laws.made t s W (length cells) n (answered p e)) b l;
  after_hide = λ t s W cells o n k e spline hidden h c b l q r.
      let p = bands_equation t s W (length cells) o k in
      let w = hide_equation s.bits s.desk spline hidden h c in
      let d = after.done_after t s spline hidden W (length cells) n (laws.made t s W (length cells) n (answered p e)) in
      ap (λ (u : BandsOutcome). u.answer) (band_equation t (with_bits s h.bits) W b cells q r ∙ ap (λ (v : HideOutcome). band_of t (with_bits s v.bits) W b cells) w)
      ∙ refresh_by t (with_bits s (hide_of s.bits s.desk spline hidden).bits) W n cells d b l;
}

pub summary_after_hide : SummaryAfterHide
summary_after_hide t s W room o n k e spline hidden h c bs z run each q l =
    let p = bands_equation t s W room o k in
    let w = hide_equation s.bits s.desk spline hidden h c in
    let moved = subst (λ (v : HideOutcome). Refreshes t (with_bits s v.bits) W bs (bands_of t s W room).cells z) w
    (subst (λ (u : BandsOutcome). Refreshes t (with_bits s h.bits) W bs u.cells z) p (refreshes_by run)) in
    let is = after.summary_after_hide t s spline hidden W room n (answered p e) bs z moved each in
    let made = bands_equation t (with_bits s h.bits) W room q l ∙ ap (λ (v : HideOutcome). bands_of t (with_bits s v.bits) W room) w ∙ sym is in
    (ap (λ (u : BandsOutcome). u.answer) made, ap (λ (u : BandsOutcome). u.cells) made)

made_apart : (t : Table) (s : Sight) (bits : List ℕ) → Agree s (with_bits s bits) → (W room : ℕ) (o q : BandsOutcome) → BandsCall t s W room o → BandsCall t (with_bits s bits) W room q → o ≡ q
made_apart t s bits agree W room o q k l =
    bands_equation t s W room o k ∙ alike.bands_of_desks_apart t s (with_bits s bits) W room agree refl ∙ sym (bands_equation t (with_bits s bits) W room q l)

refreshed_apart : (t : Table) (s : Sight) (bits : List ℕ) → Agree s (with_bits s bits) → (W b : ℕ) (cells : List ℕ) (o q : BandsOutcome)
    → BandCall t s W b cells o → BandCall t (with_bits s bits) W b cells q → o ≡ q
refreshed_apart t s bits agree W b cells o q k l =
    band_equation t s W b cells o k ∙ alike.band_of_desks_apart t s (with_bits s bits) W b cells agree refl ∙ sym (band_equation t (with_bits s bits) W b cells q l)

pub bands_of_desks_apart : BandsOfDesksApart
bands_of_desks_apart = record {
  make = made_apart;
  refresh = refreshed_apart;
  make_unseen = λ t s other apart bits run. made_apart t s bits (hides_agree s other apart bits run);
  refresh_unseen = λ t s other apart bits run. refreshed_apart t s bits (hides_agree s other apart bits run);
}

pub bands_of_accepted : BandsOfAccepted
bands_of_accepted = record {
  make = λ d i segments t u k same m c s W room o q z w.
      let b = built_by k.done in
      let v = accepted_is u m c in
      bands_equation t s W room o z
      ∙ bands_same same.count same.height same.floats (kept_is_right b k.kept) v.right (kept_fit b k.kept) (fits_drawing u v.fits) s W room
      ∙ sym (bands_equation u s W room q w);
  refresh = λ d i segments t u k same m c s W a cells o q z w.
      let b = built_by k.done in
      let v = accepted_is u m c in
      band_equation t s W a cells o z
      ∙ band_same same.count same.height same.floats (kept_is_right b k.kept) v.right (kept_fit b k.kept) (fits_drawing u v.fits) s W a cells
      ∙ sym (band_equation u s W a cells q w);
}

-- Assumes nothing.
