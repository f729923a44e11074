-- The six rules of a profile over what an edition allows, each as a statement on numbers; a description that meets them, and the first one that is broken. Definitions only.
-- That a check says so exactly is `says_exactly` of proofs/Says.antt.
use Rattle.std.specs.Prelude.{◌≡◌, ℕ, ◌+◌, ◌*◌, ◌≤◌, ◌<◌, ℤ, pos, ◌≤ℤ◌, length, get_or}
use Rattle.codes.specs.declared.Code.{Code}
use Rattle.dequantize.specs.Judge.{Description, Shaped}
use Rattle.editions.specs.declared.Limits.{Limits}
use Rattle.profile_rules.specs.declared.Rule.{Rule}
use Rattle.profile.specs.Answers.{ProfileAnswer, Meets, Broken, Refused}
use Rattle.profile.specs.Profile.{edition1, edition2}

-- from the first to the second, both included
abbrev pub FromTo : ℕ → ℕ → ℕ → Type 0
FromTo least greatest n = (least ≤ n) × (n ≤ greatest)

abbrev pub FromToℤ : ℤ → ℤ → ℤ → Type 0
FromToℤ least greatest z = (least ≤ℤ z) × (z ≤ℤ greatest)

-- the coefficient i of X, of B and of sigma of the spline k
abbrev pub x_at : Description → ℕ → ℕ → ℤ
x_at d k i = get_or d.coefficients (128 * k + i) (pos 0)

abbrev pub b_at : Description → ℕ → ℕ → ℤ
b_at d k i = get_or d.coefficients (128 * k + 64 + i) (pos 0)

abbrev pub sigma_at : Description → ℕ → ℕ → ℤ
sigma_at d k i = get_or d.coefficients (128 * k + 96 + i) (pos 0)

-- ---- the rules

module _ (l : Limits) (d : Description) (adjustment : ℤ) where
  -- 1: it has 1 to 4096 splines
  abbrev pub Rule1 : Type 0
  Rule1 = FromTo 1 4096 (length d.counts)

  -- 2: the spline k has 1 to the most double deltas
  abbrev pub Rule2 : ℕ → Type 0
  Rule2 k = FromTo 1 l.deltas (get_or d.counts k 0)

  -- 3: the adjustment is in its range
  abbrev pub Rule3 : Type 0
  Rule3 = FromToℤ l.least l.greatest adjustment

  -- 4: the sigma coefficients are zero after the first
  abbrev pub Rule4 : ℕ → Type 0
  Rule4 k = (i : ℕ) → 0 < i → i < 32 → sigma_at d k i ≡ pos 0

  -- 5: the first sigma coefficient is 1 to the most
  abbrev pub Rule5 : ℕ → Type 0
  Rule5 k = FromToℤ (pos 1) l.sigma (sigma_at d k 0)

  -- 6: the X and B coefficients are all zero
  abbrev pub Rule6 : ℕ → Type 0
  Rule6 k = (i : ℕ) → i < 32 → (x_at d k i ≡ pos 0) × (b_at d k i ≡ pos 0)

  pub record SplineMeets (k : ℕ) : Type 0 where
    pub deltas : Rule2 k
    pub later : Rule4 k
    pub first : Rule5 k
    pub colours : Rule6 k

  -- it meets all six
  pub record MeetsRules : Type 0 where
    pub splines : Rule1
    pub adjusted : Rule3
    pub each : (k : ℕ) → k < length d.counts → SplineMeets k

  -- the first broken rule of the spline k, in the order 2, 4, 5, 6
  pub data SplineBreaks (k : ℕ) : Rule → Type 0 where
    second : (Rule2 k → ⊥) → SplineBreaks k Rule.Deltas
    fourth : Rule2 k → (Rule4 k → ⊥) → SplineBreaks k Rule.SigmaTail
    fifth : Rule2 k → Rule4 k → (Rule5 k → ⊥) → SplineBreaks k Rule.FirstSigma
    sixth : Rule2 k → Rule4 k → Rule5 k → (Rule6 k → ⊥) → SplineBreaks k Rule.Colour

  -- the first broken rule and its spline: rules 1 and 3 first, with place 0, then spline by spline
  pub data FirstBroken : Rule → ℕ → Type 0 where
    first : (Rule1 → ⊥) → FirstBroken Rule.Splines 0
    third : Rule1 → (Rule3 → ⊥) → FirstBroken Rule.Adjustment 0
    spline : {rule : Rule} {k : ℕ} → Rule1 → Rule3 → k < length d.counts → ((j : ℕ) → j < k → SplineMeets j) → SplineBreaks k rule → FirstBroken rule k

-- ---- the editions

-- what an edition allows
pub data Allows : ℕ → Limits → Type 0 where
  one : Allows 1 edition1
  two : Allows 2 edition2

-- neither edition
abbrev pub NoEdition : ℕ → Type 0
NoEdition e = (e ≡ 1 → ⊥) × (e ≡ 2 → ⊥)

module _ (d : Description) (adjustment : ℤ) (e : ℕ) where
  -- the lengths agree, and the description meets the rules of the edition
  pub record Meeting : Type 0 where
    pub shape : Shaped d
    pub limits : Limits
    pub allowed : Allows e limits
    pub rules : MeetsRules limits d adjustment

  -- the lengths agree, and of the edition's rules this one is the first that is broken, at the spline k
  pub record Breaking (rule : Rule) (k : ℕ) : Type 0 where
    pub shape : Shaped d
    pub limits : Limits
    pub allowed : Allows e limits
    pub broken : FirstBroken limits d adjustment rule k

  -- the codes of a check, and when each is given
  pub data ProfileRefusal : Code → ℕ → Type 0 where
    -- 9: lengths disagree
    shape : (Shaped d → ⊥) → ProfileRefusal Code.Shape 0
    -- 22: an edition other than 1 or 2
    edition : Shaped d → NoEdition e → ProfileRefusal Code.Edition 0

  -- the answer, when
  pub data Says : ProfileAnswer → Type 0 where
    meets : Meeting → Says Meets
    breaks : {rule : Rule} {k : ℕ} → Breaking rule k → Says (Broken rule k)
    refuses : {c : Code} {p : ℕ} → ProfileRefusal c p → Says (Refused c p)
