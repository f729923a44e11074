-- The contracts of the two calls for the profile are equations, and their outcomes are what the exports leave.
use mathlib.Core.Path.{◌≡◌}
use mathlib.Core.List.{List}
use Prim.Native.Nat.{ℕ}
use lib.IntN.{ℤ}
use lib.Ieee.{Float}
use Rattle.dequantize.specs.Judge.{Description}
use Rattle.table.specs.Table.{Setting, BuildRooms}
use Rattle.profile.specs.Answers.{ProfileAnswer}
use Rattle.profile.specs.Profile.{ProfileOutcome, tells, profile_of}
use Rattle.profile_told.specs.Answers.{ProfileBuildAnswer}
use Rattle.profile_build.specs.Building.{ProfileBuildOutcome, leaves, build_profile_of}
use Rattle.told.specs.Told.{told_profile, told_profile_build, told_in}
use Rattle.aktyrbuz.specs.Exported.{build_leaves}
use Rattle.aktyrbuz.specs.ProfileExported.{profile_leaves, profile_export, profile_build_export}
use Rattle.aktyrbuz.specs.ProfileCalls.{ProfileCall, checks, ProfileBuildCall, builds}

pub profile_exported : {o : ProfileOutcome} (r : ProfileAnswer) (k : ℕ) (five : List ℤ)
    → tells r ≡ o → k ≡ (told_profile r).number → five ≡ told_in (told_profile r)
    → profile_leaves k five ≡ profile_export o
profile_exported r k five p q s = rw (← p, s, q)

pub profile_build_exported : {o : ProfileBuildOutcome} (r : ProfileBuildAnswer) (k : ℕ) (five : List ℤ) (path walk segments : List Float) (owners starts entries : List ℕ)
    → leaves r path walk segments owners starts entries ≡ o → k ≡ (told_profile_build r).number → five ≡ told_in (told_profile_build r)
    → build_leaves k five path walk segments owners starts entries ≡ profile_build_export o
profile_build_exported r k five path walk segments owners starts entries p q s = rw (← p, s, q)

pub profile_equation : (d : Description) (a : ℤ) (e : ℕ) (o : ProfileOutcome) → ProfileCall d a e o → o ≡ profile_of d a e
profile_equation d a e o (checks κs _ _ _ _ _ _ _ p) = p

pub profile_build_equation : (d : Description) (i : Setting) (e : ℕ) (r : BuildRooms) (o : ProfileBuildOutcome) → ProfileBuildCall d i e r o → o ≡ build_profile_of d i e r
profile_build_equation d i e r o (builds κs _ _ _ _ _ _ _ _ _ _ _ _ _ _ _ _ _ _ _ p) = p

-- Assumes nothing.
