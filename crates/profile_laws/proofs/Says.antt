-- A check says what the table of answers says, and nothing else.
use mathlib.Core.Path.{◌≡◌, refl, sym, ap, subst, ◌∙◌}
use mathlib.Core.Bool.{Bool, true, false, cond, true≢false}
use mathlib.Core.Logic.{◌↔◌}
use Prim.Native.Nat.{ℕ}
use native.Mathlib.Omega.{arith}
use lib.Dec.{eqb}
use lib.IntN.{ℤ}
use borrow.Author.Tests.{eqb-true, eqb-false, ne_eqb}
use Rattle.codes.specs.declared.Code.{Code}
use Rattle.shape.specs.Shape.{shaped}
use Rattle.shape.proofs.Shape.{is_shaped, shaped_is, not_shaped}
use Rattle.dequantize.specs.Judge.{Description, Shaped}
use Rattle.editions.specs.declared.Limits.{Limits}
use Rattle.editions.specs.Editions.{Known, Unknown}
use Rattle.profile_rules.specs.declared.Rule.{Rule}
use Rattle.profile_rules.specs.Checked.{Checked}
use Rattle.profile.specs.Answers.{ProfileAnswer, Meets, Broken, Refused}
use Rattle.profile.specs.Profile.{edition1, edition2, limits_of, check_rules, answered, by_edition, answer_of}
use Rattle.profile_laws.specs.Rules.{Allows, one, two, NoEdition, Meeting, Breaking, ProfileRefusal, shape, edition, Says, meets, breaks, refuses}
use Rattle.profile_laws.proofs.Splines.{RulesFind, all_kept, one_broken, rules_find, meets_checked, breaks_checked}

-- ---- the edition

pub allows_limits : (e : ℕ) (l : Limits) → Allows e l → limits_of e ≡ Known l
unfolding limits_of
allows_limits _ _ one = refl
allows_limits _ _ two = refl

pub no_limits : (e : ℕ) → NoEdition e → limits_of e ≡ Unknown
unfolding limits_of
no_limits e n = rw (ne_eqb e 1 n.0, ne_eqb e 2 n.1)

module _ (d : Description) (a : ℤ) (e : ℕ) where
  abbrev agree : Bool
  agree = shaped d.counts d.starts d.deltas d.coefficients

  -- ---- the answer

  by_rules : Shaped d → (l : Limits) → Allows e l → {x : Checked} → RulesFind l d a x → Says d a e (answered x)
  by_rules s l w (all_kept m) = meets (record { shape = s; limits = l; allowed = w; rules = m })
  by_rules s l w (one_broken b) = breaks (record { shape = s; limits = l; allowed = w; broken = b })

  by_edition_lem : Shaped d → Says d a e (by_edition (limits_of e) d.counts d.coefficients a)
  unfolding limits_of
  by_edition_lem s = go (eqb e 1) refl (eqb e 2) refl
    where
      go : (t : Bool) → eqb e 1 ≡ t → (u : Bool) → eqb e 2 ≡ u → Says d a e (by_edition (cond t (Known edition1) (cond u (Known edition2) Unknown)) d.counts d.coefficients a)
      go true p u q = by_rules s edition1 (rw (eqb-true e 1 p) one) (rules_find edition1 d a)
      go false p true q = by_rules s edition2 (rw (eqb-true e 2 q) two) (rules_find edition2 d a)
      go false p false q = refuses (edition s (eqb-false e 1 p, eqb-false e 2 q))

  pub says : Says d a e (answer_of d a e)
  unfolding answer_of
  says = go agree refl
    where
      go : (t : Bool) → agree ≡ t → Says d a e (cond t (by_edition (limits_of e) d.counts d.coefficients a) (Refused Code.Shape 0))
      go true p = by_edition_lem (shaped_is d.counts d.starts d.deltas d.coefficients p)
      go false p = refuses (shape (λ s. true≢false (sym (is_shaped d.counts d.starts d.deltas d.coefficients s) ∙ p)))

  -- ---- and back

  agreed : Shaped d → agree ≡ true
  agreed = is_shaped d.counts d.starts d.deltas d.coefficients

  said_known : Shaped d → (l : Limits) → Allows e l → answer_of d a e ≡ answered (check_rules l d.counts d.coefficients a)
  unfolding answer_of
  said_known s l w = rw (agreed s, allows_limits e l w)

  pub said : (r : ProfileAnswer) → Says d a e r → answer_of d a e ≡ r
  unfolding answer_of
  said _ (meets m) = said_known m.shape m.limits m.allowed ∙ ap (λ (x : Checked). answered x) (meets_checked m.limits d a m.rules)
  said _ (breaks {rule = rule} {k = k} b) =
      said_known b.shape b.limits b.allowed ∙ ap (λ (x : Checked). answered x) (breaks_checked b.limits d a rule k b.broken)
  said _ (refuses (shape n)) = rw (not_shaped d.counts d.starts d.deltas d.coefficients n)
  said _ (refuses (edition s n)) = rw (agreed s, no_limits e n)

  pub says_exactly : (r : ProfileAnswer) → (answer_of d a e ≡ r) ↔ Says d a e r
  says_exactly r = (λ q. subst (λ (x : ProfileAnswer). Says d a e x) q says, said r)

  -- ---- each answer by itself

  pub meets_iff : (answer_of d a e ≡ Meets) ↔ Meeting d a e
  meets_iff = (λ q. go ((says_exactly Meets).0 q), λ m. said Meets (meets m))
    where
      go : Says d a e Meets → Meeting d a e
      go (meets m) = m

  pub broken_iff : (rule : Rule) (k : ℕ) → (answer_of d a e ≡ Broken rule k) ↔ Breaking d a e rule k
  broken_iff rule k = (λ q. go ((says_exactly (Broken rule k)).0 q), λ b. said (Broken rule k) (breaks b))
    where
      go : Says d a e (Broken rule k) → Breaking d a e rule k
      go (breaks b) = b

  pub refused_iff : (c : Code) (p : ℕ) → (answer_of d a e ≡ Refused c p) ↔ ProfileRefusal d a e c p
  refused_iff c p = (λ q. go ((says_exactly (Refused c p)).0 q), λ w. said (Refused c p) (refuses w))
    where
      go : Says d a e (Refused c p) → ProfileRefusal d a e c p
      go (refuses w) = w

  pub edition_iff : (p : ℕ) → (answer_of d a e ≡ Refused Code.Edition p) ↔ ((p ≡ 0) × Shaped d × NoEdition e)
  edition_iff p = (λ q. go Code.Edition p refl ((refused_iff Code.Edition p).0 q), λ w. (refused_iff Code.Edition p).1 (back w))
    where
      go : (c : Code) (k : ℕ) → c ≡ Code.Edition → ProfileRefusal d a e c k → (k ≡ 0) × Shaped d × NoEdition e
      go _ _ q (shape n) = absurd (let z : ◌≡◌ {A = ℕ} 0 1 = cc in omega arith)
      go _ _ q (edition s n) = (refl, s, n)

      back : (p ≡ 0) × Shaped d × NoEdition e → ProfileRefusal d a e Code.Edition p
      back w = rw w.0 (edition w.1 w.2)

-- Assumes nothing.
