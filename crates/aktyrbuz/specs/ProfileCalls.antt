-- The two calls for the profile by their contracts: which outcomes a contract allows. Definitions only.
-- `Post` is a contract as it was proved, as in Calls.antt.
use Rattle.std.specs.Prelude.{ℕ, ℤ}
use contract.Lifetimes.{Lfts}
use Rattle.shape.specs.Description.{Description, description_in}
use Rattle.table.specs.Table.{Setting, setting_in, BuildRooms, rooms_of}
use Rattle.profile.specs.Profile.{ProfileOutcome, tells}
use Rattle.profile.proofs.profile.Reads as profile
use Rattle.profile_build.specs.Building.{ProfileBuildOutcome, leaves}
use Rattle.profile_build.proofs.build_profile.Reads as build

-- of a description, for an adjustment and an edition
pub data ProfileCall : Description → ℤ → ℕ → ProfileOutcome → Type 0 where
  checks : (κs : Lfts 2) (description : _) (adjustment : _) (edition : _) (r : _)
      (description' : _) (adjustment' : _) (edition' : _)
      → profile.Post κs (description, (adjustment, (edition, tt))) r
      (description', (adjustment', (edition', tt)))
      → ProfileCall (description_in description.now) adjustment edition (tells r)

-- of a description, for an image and an edition, with so many cells lent
pub data ProfileBuildCall : Description → Setting → ℕ → BuildRooms → ProfileBuildOutcome → Type 0 where
  builds : (κs : Lfts 8) (description : _) (setting : _) (edition : _) (path : _) (walk : _) (segments : _) (owners : _) (row_starts : _) (entries : _) (r : _)
      (description' : _) (setting' : _) (edition' : _) (path' : _) (walk' : _) (segments' : _) (owners' : _) (row_starts' : _) (entries' : _)
      → build.Post κs (description, (setting, (edition, (path, (walk, (segments, (owners, (row_starts, (entries, tt))))))))) r
      (description', (setting', (edition', (path', (walk', (segments', (owners', (row_starts', (entries', tt)))))))))
      → ProfileBuildCall (description_in description.now) (setting_in setting) edition
      (rooms_of path.now walk.now segments.now owners.now row_starts.now entries.now)
      (leaves r path'.now walk'.now segments'.now owners'.now row_starts'.now entries'.now)
