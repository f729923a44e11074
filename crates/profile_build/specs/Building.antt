-- Building by profile: SIZE, SHAPE, EDITION, PROFILE, then as building. Definitions only.
use Rattle.std.specs.Prelude.{cond, Ok, Err, List, ℕ, ℤ, replicate, Float}
use Rattle.codes.specs.declared.Code.{Code}
use Rattle.shape.specs.Description.{Description}
use Rattle.build_answer.specs.BuildAnswer.{BuildAnswer}
use Rattle.build_answer.specs.BuildAnswer as plainly
use Rattle.table.specs.Table.{BuildRooms, Setting, BuildOutcome, zeros, build_of}
use Rattle.verdict.specs.Verdict.{sized}
use Rattle.profile.specs.Answers.{ProfileAnswer, Meets}
use Rattle.profile.specs.Profile.{answer_of}
use Rattle.profile_told.specs.Answers.{ProfileBuildAnswer, Refused}
use Rattle.profile_told.specs.Told.{ProfileBuildTold, told_of}

-- what a build answers, as an answer of building by profile
abbrev pub of_build : BuildAnswer → ProfileBuildAnswer
of_build (Ok built) = Ok built
of_build (plainly.Refused c p) = Refused c p

-- the answer, what it tells, and the six lent buffers
pub record ProfileBuildOutcome : Type 0 where
  pub answer : ProfileBuildAnswer
  pub told : ProfileBuildTold
  pub path : List Float
  pub walk : List Float
  pub segments : List Float
  pub owners : List ℕ
  pub starts : List ℕ
  pub entries : List ℕ

abbrev pub leaves : ProfileBuildAnswer → List Float → List Float → List Float → List ℕ → List ℕ → List ℕ → ProfileBuildOutcome
leaves r path walk segments owners starts entries = record {
  answer = r;
  told = told_of r;
  path = path;
  walk = walk;
  segments = segments;
  owners = owners;
  starts = starts;
  entries = entries;
}

-- every lent cell zero
unfoldable pub stopped_with : BuildRooms → ProfileBuildAnswer → ProfileBuildOutcome
stopped_with r answer =
    leaves answer (zeros r.path) (zeros r.walk) (zeros r.segments) (replicate r.owners 0) (replicate r.starts 0) (replicate r.entries 0)

-- what a build answers and leaves, every cell
abbrev pub as_built : BuildOutcome → ProfileBuildOutcome
as_built o = leaves (of_build o.answer) o.path o.walk o.segments o.owners o.starts o.entries

-- SIZE, then the check of the profile
unfoldable pub check_profile_of : Description → ℤ → ℕ → ℕ → ℕ → ProfileAnswer
check_profile_of d adjustment width height edition = cond (sized width height) (answer_of d adjustment edition) (Refused Code.Size 0)

abbrev pub after_check : BuildRooms → ProfileAnswer → BuildOutcome → ProfileBuildOutcome
after_check r (Err unmet) o = stopped_with r (Err unmet)
after_check r Meets o = as_built o

-- SIZE, SHAPE, EDITION, PROFILE, then as building
unfoldable pub build_profile_of : Description → Setting → ℕ → BuildRooms → ProfileBuildOutcome
build_profile_of d i edition r = after_check r (check_profile_of d i.adjustment i.width i.height edition) (build_of d i r)
