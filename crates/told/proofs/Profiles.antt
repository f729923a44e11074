-- What C is told of a check of the profile and of a build by it is what their definitions tell, in C's numbers.
use mathlib.Core.Path.{◌≡◌, refl}
use lib.IntN.{pos}
use Rattle.std.specs.Prelude.{Ok}
use Rattle.profile.specs.Answers.{ProfileAnswer, Meets, Broken, Refused}
use Rattle.profile.specs.Profile as checking
use Rattle.profile_told.specs.Answers.{ProfileBuildAnswer}
use Rattle.profile_told.specs.Told as building
use Rattle.told.specs.declared.Told.{Told}
use Rattle.told.specs.Told.{signed_of, one_count, told_profile, told_profile_build}

pub check_told : (r : ProfileAnswer) → ◌≡◌ {A = Told} (told_profile r)
    (record { number = (checking.told_of r).number; place = signed_of (checking.told_of r).place; counts = one_count (pos (checking.told_of r).first) })
check_told Meets = refl
check_told (Broken rule spline) = refl
check_told (Refused c p) = refl

pub build_told : (r : ProfileBuildAnswer) → ◌≡◌ {A = Told} (told_profile_build r)
    (record {
      number = (building.told_of r).number;
      place = signed_of (building.told_of r).place;
      counts = record {
        first = pos (building.told_of r).first;
        second = pos (building.told_of r).second;
        third = signed_of (building.told_of r).third;
        fourth = pos (building.told_of r).fourth;
      };
    })
build_told (Ok b) = refl
build_told (Broken rule spline) = refl
build_told (Refused c p) = refl

-- Assumes nothing.
