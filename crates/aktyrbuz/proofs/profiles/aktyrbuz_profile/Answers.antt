-- `aktyrbuz_profile` meets its contract: the answer of `profile`, told in five numbers.
use mir.Syntax.{w32}
use mir.Facts.{to_z-of_z}
use Rattle.aktyrbuz.proofs.ProfileNumbers.{profile_exported}
use Rattle.aktyrbuz.proofs.profiles.aktyrbuz_profile.Goals as goal

pub returns : goal.returns
returns c =
    let e = to_z-of_z {w = w32} {z = c.args.adjustment} c.ranges.adjustment in
    profile_exported _ _ _ (rw e at c.profile.ensures) c.tell.ensures.number c.tell.ensures.five
