-- What a build by profile answers, exactly when, and that it is a build where it gets as far.
use mathlib.Core.Path.{◌≡◌, refl, sym, ap, ◌∙◌}
use mathlib.Core.Bool.{Bool, true, false, ◌&&◌, and-false}
use mathlib.Core.List.{List}
use mathlib.Core.Logic.{◌⊎◌, inl, inr, ◌↔◌}
use Prim.Native.Nat.{ℕ, ◌^◌, ◌<◌}
use native.Mathlib.Omega.{arith}
use lib.Dec.{leb}
use lib.IntN.{ℤ}
use borrow.Author.Tests.{leb-true, leb-false, le-leb, lt-leb}
use Rattle.std.specs.Prelude.{Ok}
use Rattle.codes.specs.declared.Code.{Code}
use Rattle.dequantize.specs.Judge.{Description}
use Rattle.control_points.specs.Refusals as tracing
use Rattle.dequantize.specs.Refusals as judging
use Rattle.dequantize.specs.declared.Given.{Given}
use Rattle.control_points.specs.declared.Pair.{Pair}
use Rattle.profile_rules.specs.declared.Rule.{Rule}
use Rattle.build_answer.specs.BuildAnswer.{BuildAnswer}
use Rattle.build_answer.specs.BuildAnswer as plainly
use Rattle.build_answer.specs.declared.Built.{Built}
use Rattle.table.specs.Table.{BuildRooms, Setting, BuildOutcome, refused_with, build_of}
use Rattle.verdict.specs.Verdict.{sized}
use Rattle.table.specs.Refusals.{BuildRefusal}
use Rattle.table.specs.Refusals as building
use Rattle.table.proofs.Users.{refused, refused_exactly}
use Rattle.verdict.proofs.Checks.{both}
use Rattle.profile.specs.Answers.{ProfileAnswer, Meets}
use Rattle.profile_told.specs.Answers.{ProfileBuildAnswer, Done, Broken, Refused}
use Rattle.profile_build.specs.Building.{ProfileBuildOutcome, of_build, stopped_with, as_built, check_profile_of, after_check, build_profile_of}
use Rattle.profile_laws.specs.Rules.{Meeting, Breaking, Says, meets, breaks, refuses}
use Rattle.profile_laws.specs.Rules as rules
use Rattle.profile_laws.specs.Refusals.{Sized, Plain, BreaksRule, DoneByBuild, UnknownEdition, ProfileBuildRefusal, size, shape, edition, building}
use Rattle.profile_laws.proofs.Says.{says, said}
use Rattle.profile_laws.proofs.Editions.{meeting_1_in_2}

-- ---- SIZE

is_sized : (i : Setting) → Sized i → sized i.width i.height ≡ true
is_sized i s = rw (le-leb i.width (2 ^ 23) s.narrow, le-leb i.height (2 ^ 23) s.low)

not_sized : (i : Setting) → (2 ^ 23 < i.width) ⊎ (2 ^ 23 < i.height) → sized i.width i.height ≡ false
not_sized i (inl h) = rw (lt-leb i.width (2 ^ 23) h)
not_sized i (inr h) = rw (lt-leb i.height (2 ^ 23) h) (and-false (leb i.width (2 ^ 23)))

sized_is : (i : Setting) → sized i.width i.height ≡ true → Sized i
sized_is i e =
    let b = both (leb i.width (2 ^ 23)) (leb i.height (2 ^ 23)) e in
    record { narrow = leb-true i.width (2 ^ 23) b.0; low = leb-true i.height (2 ^ 23) b.1 }

wide_or_tall : (i : Setting) → sized i.width i.height ≡ false → (2 ^ 23 < i.width) ⊎ (2 ^ 23 < i.height)
wide_or_tall i e = go (leb i.width (2 ^ 23)) refl
  where
    go : (t : Bool) → leb i.width (2 ^ 23) ≡ t → (2 ^ 23 < i.width) ⊎ (2 ^ 23 < i.height)
    go false p = inl (leb-false i.width (2 ^ 23) p)
    go true p = inr (leb-false i.height (2 ^ 23) (ap (λ (t : Bool). t && leb i.height (2 ^ 23)) (sym p) ∙ e))

module _ (d : Description) (i : Setting) (e : ℕ) (r : BuildRooms) where
  abbrev by_profile : ProfileBuildOutcome
  by_profile = build_profile_of d i e r

  -- ---- what each case leaves

  decided : (x : ProfileAnswer) → check_profile_of d i.adjustment i.width i.height e ≡ x → by_profile ≡ after_check r x (build_of d i r)
  unfolding build_profile_of
  decided x q = ap (λ (t : ProfileAnswer). after_check r t (build_of d i r)) q

  checked : Sized i → (x : ProfileAnswer) → Says d i.adjustment e x → check_profile_of d i.adjustment i.width i.height e ≡ x
  unfolding check_profile_of
  checked s x y = rw (is_sized i s) (said d i.adjustment e x y)

  too_large_lem : (2 ^ 23 < i.width) ⊎ (2 ^ 23 < i.height) → check_profile_of d i.adjustment i.width i.height e ≡ Refused Code.Size 0
  unfolding check_profile_of
  too_large_lem h = rw (not_sized i h)

  pub as_build : Plain d i e r → by_profile ≡ as_built (build_of d i r)
  as_build p = decided Meets (checked p.sized Meets (meets p.meets))

  pub breaks_leaves : (rule : Rule) (k : ℕ) → BreaksRule d i e r rule k → by_profile ≡ stopped_with r (Broken rule k)
  breaks_leaves rule k b = decided (Broken rule k) (checked b.sized (Broken rule k) (breaks b.breaks))

  -- a build's refusal, every cell
  stopped_is : (c : Code) (p : ℕ) → as_built (refused_with r c p) ≡ stopped_with r (Refused c p)
  unfolding refused_with stopped_with
  stopped_is c p = refl

  pub refusal_leaves : (c : Code) (p : ℕ) → ProfileBuildRefusal d i e r c p → by_profile ≡ stopped_with r (Refused c p)
  refusal_leaves _ _ (size h) = decided (Refused Code.Size 0) (too_large_lem h)
  refusal_leaves _ _ (shape s n) = decided (Refused Code.Shape 0) (checked s (Refused Code.Shape 0) (refuses (rules.shape n)))
  refusal_leaves _ _ (edition s h n) = decided (Refused Code.Edition 0) (checked s (Refused Code.Edition 0) (refuses (rules.edition h n)))
  refusal_leaves c p (building q b) = as_build q ∙ ap (λ (o : BuildOutcome). as_built o) (refused d i r b) ∙ stopped_is c p

  -- ---- and one of them holds

  data Way : Type 0 where
    plain : Plain d i e r → Way
    broken : (rule : Rule) (k : ℕ) → BreaksRule d i e r rule k → Way
    refusal : (c : Code) (p : ℕ) → ProfileBuildRefusal d i e r c p → Way

  by_answer : Sized i → {x : ProfileAnswer} → Says d i.adjustment e x → Way
  by_answer s (meets m) = plain (record { sized = s; meets = m })
  by_answer s (breaks {rule = rule} {k = k} b) = broken rule k (record { sized = s; breaks = b })
  by_answer s (refuses (rules.shape n)) = refusal Code.Shape 0 (shape s n)
  by_answer s (refuses (rules.edition h n)) = refusal Code.Edition 0 (edition s h n)

  way : Way
  way = go (sized i.width i.height) refl
    where
      go : (t : Bool) → sized i.width i.height ≡ t → Way
      go true q = by_answer (sized_is i q) (says d i.adjustment e)
      go false q = refusal Code.Size 0 (size (wide_or_tall i q))

  -- ---- the answers, exactly when

  answer_of_lem : {o : ProfileBuildOutcome} → by_profile ≡ o → by_profile.answer ≡ o.answer
  answer_of_lem q = ap (λ (t : ProfileBuildOutcome). t.answer) q

  stopped_answer : (x : ProfileBuildAnswer) → (stopped_with r x).answer ≡ x
  unfolding stopped_with
  stopped_answer x = refl

  -- of a build's answer
  is_done : (b : BuildAnswer) (s n t f : ℕ) → of_build b ≡ Done s n t f → b ≡ plainly.Done s n t f
  is_done (Ok b) s n t f q = let e : ◌≡◌ {A = Built} b (record { segments = s; entries = n; estimate = t; faint = f }) = cc in rw e
  is_done (plainly.Refused c p) s n t f q = absurd (let z : ◌≡◌ {A = ℕ} 0 1 = cc in omega arith)

  is_refused : (b : BuildAnswer) (c : Code) (p : ℕ) → of_build b ≡ Refused c p → b ≡ plainly.Refused c p
  is_refused (Ok b) c p q = absurd (let z : ◌≡◌ {A = ℕ} 0 1 = cc in omega arith)
  is_refused (plainly.Refused c' p') c p q =
      let u : c' ≡ c = cc in
      let v : p' ≡ p = cc in
      rw (u, v)

  not_broken : (b : BuildAnswer) (rule : Rule) (k : ℕ) → of_build b ≡ Broken rule k → ⊥
  not_broken (Ok b) rule k q = let z : ◌≡◌ {A = ℕ} 0 1 = cc in omega arith
  not_broken (plainly.Refused c p) rule k q = let z : ◌≡◌ {A = ℕ} 0 1 = cc in omega arith

  done_given : (s n t f : ℕ) → by_profile.answer ≡ Done s n t f → DoneByBuild d i e r s n t f
  done_given s n t f q = go way
    where
      go : Way → DoneByBuild d i e r s n t f
      go (plain p) = record { fits = p; built = is_done (build_of d i r).answer s n t f (sym (answer_of_lem (as_build p)) ∙ q) }
      go (broken rule k b) =
          let x : ◌≡◌ {A = ProfileBuildAnswer} (Broken rule k) (Done s n t f) = sym (stopped_answer (Broken rule k)) ∙ sym (answer_of_lem (breaks_leaves rule k b)) ∙ q in
          absurd (let z : ◌≡◌ {A = ℕ} 0 1 = cc in omega arith)
      go (refusal c p w) =
          let x : ◌≡◌ {A = ProfileBuildAnswer} (Refused c p) (Done s n t f) = sym (stopped_answer (Refused c p)) ∙ sym (answer_of_lem (refusal_leaves c p w)) ∙ q in
          absurd (let z : ◌≡◌ {A = ℕ} 0 1 = cc in omega arith)

  pub done_exactly : (s n t f : ℕ) → (by_profile.answer ≡ Done s n t f) ↔ DoneByBuild d i e r s n t f
  done_exactly s n t f = (done_given s n t f, λ w. answer_of_lem (as_build w.fits) ∙ ap (λ (b : BuildAnswer). of_build b) w.built)

  broken_given : (rule : Rule) (k : ℕ) → by_profile.answer ≡ Broken rule k → BreaksRule d i e r rule k
  broken_given rule k q = go way
    where
      go : Way → BreaksRule d i e r rule k
      go (plain p) = absurd (not_broken (build_of d i r).answer rule k (sym (answer_of_lem (as_build p)) ∙ q))
      go (broken rule' k' b) =
          let x : ◌≡◌ {A = ProfileBuildAnswer} (Broken rule' k') (Broken rule k) = sym (stopped_answer (Broken rule' k')) ∙ sym (answer_of_lem (breaks_leaves rule' k' b)) ∙ q in
          let u : rule' ≡ rule = cc in
          let v : k' ≡ k = cc in
          rw (← u, ← v) b
      go (refusal c p w) =
          let x : ◌≡◌ {A = ProfileBuildAnswer} (Refused c p) (Broken rule k) = sym (stopped_answer (Refused c p)) ∙ sym (answer_of_lem (refusal_leaves c p w)) ∙ q in
          absurd (let z : ◌≡◌ {A = ℕ} 0 1 = cc in omega arith)

  pub broken_exactly : (rule : Rule) (k : ℕ) → (by_profile.answer ≡ Broken rule k) ↔ BreaksRule d i e r rule k
  broken_exactly rule k = (broken_given rule k, λ b. answer_of_lem (breaks_leaves rule k b) ∙ stopped_answer (Broken rule k))

  refusal_given : (c : Code) (p : ℕ) → by_profile.answer ≡ Refused c p → ProfileBuildRefusal d i e r c p
  refusal_given c p q = go way
    where
      go : Way → ProfileBuildRefusal d i e r c p
      go (plain w) = building w ((refused_exactly d i r c p).0 (is_refused (build_of d i r).answer c p (sym (answer_of_lem (as_build w)) ∙ q)))
      go (broken rule k b) =
          let x : ◌≡◌ {A = ProfileBuildAnswer} (Broken rule k) (Refused c p) = sym (stopped_answer (Broken rule k)) ∙ sym (answer_of_lem (breaks_leaves rule k b)) ∙ q in
          absurd (let z : ◌≡◌ {A = ℕ} 0 1 = cc in omega arith)
      go (refusal c' p' w) =
          let x : ◌≡◌ {A = ProfileBuildAnswer} (Refused c' p') (Refused c p) = sym (stopped_answer (Refused c' p')) ∙ sym (answer_of_lem (refusal_leaves c' p' w)) ∙ q in
          let u : c' ≡ c = cc in
          let v : p' ≡ p = cc in
          rw (← u, ← v) w

  pub build_refused_exactly : (c : Code) (p : ℕ) → (by_profile.answer ≡ Refused c p) ↔ ProfileBuildRefusal d i e r c p
  build_refused_exactly c p = (refusal_given c p, λ w. answer_of_lem (refusal_leaves c p w) ∙ stopped_answer (Refused c p))

  -- ---- a build by profile is a build

  -- refused otherwise than by PROFILE or EDITION
  refusal_is_build : (c : Code) (p : ℕ) → (c ≡ Code.Edition → ⊥) → ProfileBuildRefusal d i e r c p → by_profile ≡ as_built (build_of d i r)
  refusal_is_build _ _ n (size h) =
      refusal_leaves Code.Size 0 (size h) ∙ sym (stopped_is Code.Size 0) ∙ ap (λ (o : BuildOutcome). as_built o) (sym (refused d i r (building.size h)))
  refusal_is_build _ _ n (shape s w) =
      refusal_leaves Code.Shape 0 (shape s w) ∙ sym (stopped_is Code.Shape 0) ∙ ap (λ (o : BuildOutcome). as_built o) (sym (refused d i r (building.shape s.narrow s.low w)))
  refusal_is_build _ _ n (edition s h w) = absurd (n refl)
  refusal_is_build c p n (building q b) = as_build q

  pub otherwise_is_build : (c : Code) (p : ℕ) → (c ≡ Code.Edition → ⊥) → by_profile.answer ≡ Refused c p → by_profile ≡ as_built (build_of d i r)
  otherwise_is_build c p n q = refusal_is_build c p n (refusal_given c p q)

  -- after a refusal every lent cell is zero
  pub refused_zero : (c : Code) (p : ℕ) → by_profile.answer ≡ Refused c p → by_profile ≡ stopped_with r (Refused c p)
  refused_zero c p q = refusal_leaves c p (refusal_given c p q)

  pub broken_zero : (rule : Rule) (k : ℕ) → by_profile.answer ≡ Broken rule k → by_profile ≡ stopped_with r (Broken rule k)
  broken_zero rule k q = breaks_leaves rule k (broken_given rule k q)

-- ---- EDITION

-- no spline is refused by EDITION, and no build
pair_no_edition : {limit : ℕ} {start : Pair} {ds : List ℤ} {j : ℕ} {c : Code} → tracing.PairRefusal limit start ds j c → c ≡ Code.Edition → ⊥
pair_no_edition (tracing.delta_large h) q = let z : ◌≡◌ {A = ℕ} 0 1 = cc in omega arith
pair_no_edition (tracing.delta_outside h k) q = let z : ◌≡◌ {A = ℕ} 0 1 = cc in omega arith
pair_no_edition (tracing.too_far h k m) q = let z : ◌≡◌ {A = ℕ} 0 1 = cc in omega arith
pair_no_edition (tracing.point_outside h k m n) q = let z : ◌≡◌ {A = ℕ} 0 1 = cc in omega arith

spline_no_edition : {d : Description} {g : Given} {k : ℕ} {c : Code} → judging.SplineRefusal d g k c → c ≡ Code.Edition → ⊥
spline_no_edition (judging.start_strays h) q = let z : ◌≡◌ {A = ℕ} 0 1 = cc in omega arith
spline_no_edition (judging.pair_refused start x y j h f w) q = pair_no_edition w q
spline_no_edition (judging.area_above t h) q = let z : ◌≡◌ {A = ℕ} 0 1 = cc in omega arith
spline_no_edition (judging.points_meet t h m) q = let z : ◌≡◌ {A = ℕ} 0 1 = cc in omega arith

build_no_edition : {d : Description} {i : Setting} {r : BuildRooms} {c : Code} {p : ℕ} → BuildRefusal d i r c p → c ≡ Code.Edition → ⊥
build_no_edition (building.size h) q = let z : ◌≡◌ {A = ℕ} 0 1 = cc in omega arith
build_no_edition (building.shape x y n) q = let z : ◌≡◌ {A = ℕ} 0 1 = cc in omega arith
build_no_edition (building.starts x y s h) q = let z : ◌≡◌ {A = ℕ} 0 1 = cc in omega arith
build_no_edition (building.judged f w) q = spline_no_edition w.why q
build_no_edition (building.drawing f w h) q = let z : ◌≡◌ {A = ℕ} 0 1 = cc in omega arith
build_no_edition (building.entries f w h m) q = let z : ◌≡◌ {A = ℕ} 0 1 = cc in omega arith

module _ (d : Description) (i : Setting) (e : ℕ) (r : BuildRooms) where
  unknown : (c : Code) (p : ℕ) → c ≡ Code.Edition → ProfileBuildRefusal d i e r c p → UnknownEdition d i e r p
  unknown _ _ q (size h) = absurd (let z : ◌≡◌ {A = ℕ} 0 1 = cc in omega arith)
  unknown _ _ q (shape s n) = absurd (let z : ◌≡◌ {A = ℕ} 0 1 = cc in omega arith)
  unknown _ _ q (edition s h n) = record { first_place = refl; sized = s; shape = h; none = n }
  unknown c p q (building w b) = absurd (build_no_edition b q)

  refusal_of : (p : ℕ) → UnknownEdition d i e r p → ProfileBuildRefusal d i e r Code.Edition p
  refusal_of p u = rw u.first_place (edition u.sized u.shape u.none)

  pub edition_exactly : (p : ℕ) → ((build_profile_of d i e r).answer ≡ Refused Code.Edition p) ↔ UnknownEdition d i e r p
  edition_exactly p =
      (λ q. unknown Code.Edition p refl ((build_refused_exactly d i e r Code.Edition p).0 q), λ u. (build_refused_exactly d i e r Code.Edition p).1 (refusal_of p u))

-- what edition 1 builds, edition 2 builds too, every cell
pub build_1_in_2 : (d : Description) (i : Setting) (r : BuildRooms) (s n t f : ℕ) → (build_profile_of d i 1 r).answer ≡ Done s n t f → build_profile_of d i 2 r ≡ build_profile_of d i 1 r
build_1_in_2 d i r s n t f q =
    let w = (done_exactly d i 1 r s n t f).0 q in
    as_build d i 2 r (record { sized = w.fits.sized; meets = meeting_1_in_2 d i.adjustment w.fits.meets }) ∙ sym (as_build d i 1 r w.fits)

-- Assumes nothing.
