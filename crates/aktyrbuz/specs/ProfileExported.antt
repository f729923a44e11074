-- What the two exports for the profile return and leave, as in Exported.antt. Definitions only.
use Rattle.std.specs.Prelude.{List, ℕ, ℤ}
use Rattle.profile.specs.Profile.{ProfileOutcome}
use Rattle.profile_build.specs.Building.{ProfileBuildOutcome}
use Rattle.told.specs.Told.{told_profile, told_profile_build, told_in}
use Rattle.aktyrbuz.specs.Exported.{BuildExport, build_leaves}

pub record ProfileExport : Type 0 where
  pub number : ℕ
  pub answer : List ℤ

abbrev pub profile_leaves : ℕ → List ℤ → ProfileExport
profile_leaves r five = record { number = r; answer = five }

abbrev pub profile_export : ProfileOutcome → ProfileExport
profile_export o = profile_leaves (told_profile o.answer).number (told_in (told_profile o.answer))

abbrev pub profile_build_export : ProfileBuildOutcome → BuildExport
profile_build_export t =
    build_leaves (told_profile_build t.answer).number (told_in (told_profile_build t.answer)) t.path t.walk t.segments t.owners t.starts t.entries
