-- The codes of building by profile, and when each is given. Definitions only.
-- That a build by profile refuses exactly so is `build_refused_exactly` of proofs/Builds.antt.
use Rattle.std.specs.Prelude.{◌≡◌, ◌⊎◌, ℕ, ◌^◌, ◌≤◌, ◌<◌}
use Rattle.codes.specs.declared.Code.{Code}
use Rattle.dequantize.specs.Judge.{Description, Shaped}
use Rattle.table.specs.Table.{Setting, BuildRooms, build_of}
use Rattle.build_answer.specs.BuildAnswer as BuildAnswer
use Rattle.table.specs.Refusals.{BuildRefusal}
use Rattle.profile_rules.specs.declared.Rule.{Rule}
use Rattle.profile_laws.specs.Rules.{NoEdition, Meeting, Breaking}

-- width and height of at most 2^23
pub record Sized (i : Setting) : Type 0 where
  pub narrow : i.width ≤ 2 ^ 23
  pub low : i.height ≤ 2 ^ 23

module _ (d : Description) (i : Setting) (e : ℕ) (r : BuildRooms) where
  -- a build by profile gets as far as building: SIZE has passed, and the description meets the profile
  pub record Plain : Type 0 where
    pub sized : Sized i
    pub meets : Meeting d i.adjustment e

  -- a build is done, of a description that meets the profile
  pub record DoneByBuild (s n t f : ℕ) : Type 0 where
    pub fits : Plain
    pub built : (build_of d i r).answer ≡ BuildAnswer.Done s n t f

  -- 22: SIZE and SHAPE have passed, and the edition is neither 1 nor 2; the place is 0
  pub record UnknownEdition (p : ℕ) : Type 0 where
    pub first_place : p ≡ 0
    pub sized : Sized i
    pub shape : Shaped d
    pub none : NoEdition e

  -- 21: SIZE, SHAPE and EDITION have passed, and this rule is the first that is broken
  pub record BreaksRule (rule : Rule) (k : ℕ) : Type 0 where
    pub sized : Sized i
    pub breaks : Breaking d i.adjustment e rule k

  -- the other codes and their places, when
  pub data ProfileBuildRefusal : Code → ℕ → Type 0 where
    -- 8: width or height above 2^23
    size : (2 ^ 23 < i.width) ⊎ (2 ^ 23 < i.height) → ProfileBuildRefusal Code.Size 0
    -- 9: lengths disagree
    shape : Sized i → (Shaped d → ⊥) → ProfileBuildRefusal Code.Shape 0
    -- 22: an edition other than 1 or 2
    edition : Sized i → Shaped d → NoEdition e → ProfileBuildRefusal Code.Edition 0
    -- any that a build gives to a description that meets the profile
    building : {c : Code} {p : ℕ} → Plain → BuildRefusal d i r c p → ProfileBuildRefusal c p
