-- `aktyrbuz_build_profile` meets its contract: what `build_profile` leaves, and its answer told in five numbers.
use mir.Syntax.{w32}
use mir.Facts.{to_z-of_z}
use Rattle.aktyrbuz.proofs.ProfileNumbers.{profile_build_exported}
use Rattle.aktyrbuz.proofs.profiles.aktyrbuz_build_profile.Goals as goal

pub returns : goal.returns
returns c =
    let e = to_z-of_z {w = w32} {z = c.args.adjustment} c.ranges.adjustment in
    profile_build_exported _ _ _ _ _ _ _ _ _ (rw e at c.build_profile.ensures) c.tell.ensures.number c.tell.ensures.five
