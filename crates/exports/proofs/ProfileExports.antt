-- The exports for the profile tell the calls: a contract's equation gives back the answer, and with the lent cells it is an outcome that the call's own contract allows.
use mathlib.Core.Path.{◌≡◌, refl, sym, ap, ◌∙◌}
use Prim.Native.Nat.{ℕ}
use lib.IntN.{ℤ}
use Rattle.dequantize.specs.Judge.{Description}
use Rattle.table.specs.Table.{Setting, BuildRooms, BuildOutcome, build_of}
use Rattle.profile.specs.Answers.{ProfileAnswer}
use Rattle.profile.specs.Answers as ProfileAnswer
use Rattle.profile.specs.Profile.{profile_of}
use Rattle.profile.specs.Profile as profiling
use Rattle.profile_build.specs.Building.{ProfileBuildOutcome, stopped_with, check_profile_of, after_check, build_profile_of}
use Rattle.profile_build.specs.Building as building
use Rattle.aktyrbuz.specs.Exported.{BuildExport}
use Rattle.aktyrbuz.specs.ProfileExported.{ProfileExport, profile_export, profile_build_export}
use Rattle.aktyrbuz.specs.ProfileCalls as calls
use Rattle.exports.specs.Exports.{Tells}
use Rattle.exports.specs.ProfileExports.{ProfileExportCall, checks, ProfileBuildExportCall, builds, ProfileExportsTellTheCalls, ProfileOneOutcomeExported}
use Rattle.exports.proofs.Lending.{lent_description, setting}

check_whole : (d : Description) (a : ℤ) (e : ℕ) → profiling.tells (profile_of d a e).answer ≡ profile_of d a e
unfolding profile_of
check_whole d a e = refl

abbrev BuildWhole : ProfileBuildOutcome → Type 0
BuildWhole o = building.leaves o.answer o.path o.walk o.segments o.owners o.starts o.entries ≡ o

decided_whole : (r : BuildRooms) (x : ProfileAnswer) (o : BuildOutcome) → BuildWhole (after_check r x o)
unfolding stopped_with
decided_whole r (ProfileAnswer.Refused c p) o = refl
decided_whole r (ProfileAnswer.Broken rule k) o = refl
decided_whole r ProfileAnswer.Meets o = refl

build_whole : (d : Description) (i : Setting) (e : ℕ) (r : BuildRooms) → BuildWhole (build_profile_of d i e r)
unfolding build_profile_of
build_whole d i e r = decided_whole r (check_profile_of d i.adjustment i.width i.height e) (build_of d i r)

tells_check : (d : Description) (a : ℤ) (e : ℕ) (x : ProfileExport) → ProfileExportCall d a e x → Tells (calls.ProfileCall d a e) profile_export x
tells_check d a e x (checks κs counts starts deltas coefficients _ _ answer r counts' starts' deltas' coefficients' adjustment' edition' answer' p) =
    let same = check_whole d a e in
    record {
      outcome = profiling.tells (profile_of d a e).answer;
      called = calls.checks κs.1.1.1 (lent_description counts starts deltas coefficients) a e (profile_of d a e).answer (lent_description counts' starts' deltas' coefficients') adjustment' edition' same;
      is = p ∙ ap profile_export (sym same);
    }

tells_build : (d : Description) (i : Setting) (e : ℕ) (r : BuildRooms) (x : BuildExport) → ProfileBuildExportCall d i e r x → Tells (calls.ProfileBuildCall d i e r) profile_build_export x
tells_build d i e rooms x
    (builds κs counts starts deltas coefficients adjustment width height ytox ytob high level10 edition path walk segments owners row_starts entries answer r
    counts' starts' deltas' coefficients' adjustment' width' height' ytox' ytob' high' level10' edition' path' walk' segments' owners' rowStarts' entries' answer' p) =
    let o = build_profile_of d i e rooms in
    let same : building.leaves o.answer path'.now walk'.now segments'.now owners'.now rowStarts'.now entries'.now ≡ o
    = rw (ap (λ (u : BuildExport). u.path) p, ap (λ (u : BuildExport). u.walk) p, ap (λ (u : BuildExport). u.segments) p, ap (λ (u : BuildExport). u.owners) p, ap (λ (u : BuildExport). u.starts) p, ap (λ (u : BuildExport). u.entries) p)
    (build_whole d i e rooms) in
    record {
      outcome = building.leaves o.answer path'.now walk'.now segments'.now owners'.now rowStarts'.now entries'.now;
      called = calls.builds κs.1.1.1 (lent_description counts starts deltas coefficients) (setting adjustment width height ytox ytob high level10) e path walk segments owners row_starts entries o.answer
          (lent_description counts' starts' deltas' coefficients') (setting adjustment' width' height' ytox' ytob' high' level10') edition' path' walk' segments' owners' rowStarts' entries' same;
      is = p ∙ ap profile_build_export (sym same);
    }

pub profile_exports_tell_the_calls : ProfileExportsTellTheCalls
profile_exports_tell_the_calls = record { check = tells_check; build = tells_build }

check_equation : (d : Description) (a : ℤ) (e : ℕ) (x : ProfileExport) → ProfileExportCall d a e x → x ≡ profile_export (profile_of d a e)
check_equation d a e x (checks κs _ _ _ _ _ _ _ _ _ _ _ _ _ _ _ p) = p

build_equation : (d : Description) (i : Setting) (e : ℕ) (r : BuildRooms) (x : BuildExport) → ProfileBuildExportCall d i e r x → x ≡ profile_build_export (build_profile_of d i e r)
build_equation d i e r x (builds κs _ _ _ _ _ _ _ _ _ _ _ _ _ _ _ _ _ _ _ _ _ _ _ _ _ _ _ _ _ _ _ _ _ _ _ _ _ _ _ p) = p

pub profile_one_outcome_exported : ProfileOneOutcomeExported
profile_one_outcome_exported = record {
  check = λ d a e x z p q. check_equation d a e x p ∙ sym (check_equation d a e z q);
  build = λ d i e r x z p q. build_equation d i e r x p ∙ sym (build_equation d i e r z q);
}

-- Assumes nothing.
