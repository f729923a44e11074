-- The two exports for the profile by their contracts, as in Exports.antt: which outcomes a contract allows, that each is an outcome of its call told in C's terms, and that any two are equal. Definitions only.
use Rattle.std.specs.Prelude.{◌≡◌, ℕ, ℤ}
use contract.Lifetimes.{Lfts}
use Rattle.dequantize.specs.Judge.{Description, description_of}
use Rattle.table.specs.Table.{Setting, setting_of, BuildRooms, rooms_of}
use Rattle.aktyrbuz.specs.Exported.{BuildExport, build_leaves}
use Rattle.aktyrbuz.specs.ProfileExported.{ProfileExport, profile_leaves, profile_export, profile_build_export}
use Rattle.aktyrbuz.specs.ProfileCalls.{ProfileCall, ProfileBuildCall}
use Rattle.aktyrbuz.proofs.profiles.aktyrbuz_profile.Reads as profile-contract
use Rattle.aktyrbuz.proofs.profiles.aktyrbuz_build_profile.Reads as build-contract
use Rattle.exports.specs.Exports.{Tells}

-- of a description, for an adjustment and an edition
pub data ProfileExportCall : Description → ℤ → ℕ → ProfileExport → Type 0 where
  checks : (κs : Lfts 5) (counts : _) (starts : _) (deltas : _) (coefficients : _) (adjustment : _) (edition : _) (answer : _) (r : _)
      (counts' : _) (starts' : _) (deltas' : _) (coefficients' : _) (adjustment' : _) (edition' : _) (answer' : _)
      → profile-contract.Post κs (counts, (starts, (deltas, (coefficients, (adjustment, (edition, (answer, tt))))))) r
      (counts', (starts', (deltas', (coefficients', (adjustment', (edition', (answer', tt)))))))
      → ProfileExportCall (description_of counts.now starts.now deltas.now coefficients.now) adjustment edition (profile_leaves r answer'.now)

-- of a description, for an image and an edition, with so many cells lent
pub data ProfileBuildExportCall : Description → Setting → ℕ → BuildRooms → BuildExport → Type 0 where
  builds : (κs : Lfts 11) (counts : _) (starts : _) (deltas : _) (coefficients : _) (adjustment : _) (width : _) (height : _) (ytox : _) (ytob : _) (high : _) (level10 : _) (edition : _) (path : _) (walk : _) (segments : _) (owners : _) (row_starts : _) (entries : _) (answer : _) (r : _)
      (counts' : _) (starts' : _) (deltas' : _) (coefficients' : _) (adjustment' : _) (width' : _) (height' : _) (ytox' : _) (ytob' : _) (high' : _) (level10' : _) (edition' : _) (path' : _) (walk' : _) (segments' : _) (owners' : _) (rowStarts' : _) (entries' : _) (answer' : _)
      → build-contract.Post κs (counts, (starts, (deltas, (coefficients, (adjustment, (width, (height, (ytox, (ytob, (high, (level10, (edition, (path, (walk, (segments, (owners, (row_starts, (entries, (answer, tt))))))))))))))))))) r
      (counts', (starts', (deltas', (coefficients', (adjustment', (width', (height', (ytox', (ytob', (high', (level10', (edition', (path', (walk', (segments', (owners', (rowStarts', (entries', (answer', tt)))))))))))))))))))
      → ProfileBuildExportCall (description_of counts.now starts.now deltas.now coefficients.now) (setting_of adjustment width height ytox ytob high level10) edition
      (rooms_of path.now walk.now segments.now owners.now row_starts.now entries.now)
      (build_leaves r answer'.now path'.now walk'.now segments'.now owners'.now rowStarts'.now entries'.now)

-- whatever an export's contract allows is an outcome that its call's contract allows, the five numbers included
pub record ProfileExportsTellTheCalls : Type 0 where
  pub check : (d : Description) (a : ℤ) (e : ℕ) (x : ProfileExport) → ProfileExportCall d a e x → Tells (ProfileCall d a e) profile_export x
  pub build : (d : Description) (i : Setting) (e : ℕ) (r : BuildRooms) (x : BuildExport) → ProfileBuildExportCall d i e r x → Tells (ProfileBuildCall d i e r) profile_build_export x

-- any two outcomes that an export's contract allows are equal
pub record ProfileOneOutcomeExported : Type 0 where
  pub check : (d : Description) (a : ℤ) (e : ℕ) (x z : ProfileExport) → ProfileExportCall d a e x → ProfileExportCall d a e z → x ≡ z
  pub build : (d : Description) (i : Setting) (e : ℕ) (r : BuildRooms) (x z : BuildExport) → ProfileBuildExportCall d i e r x → ProfileBuildExportCall d i e r z → x ≡ z
