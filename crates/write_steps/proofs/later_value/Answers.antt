-- `write_steps::later_value` meets its contract: both starts are small whole numbers, so their difference fits.
use native.Mathlib.Omega.{arith}
use lib.IntN.{◌-ℤ◌}
use mir.Syntax.{w32}
use mir.Facts.{to_z-of_z}
use Rattle.write_steps.specs.Steps.{whole_of}
use Rattle.write_judge.proofs.Starts.{fit_signed}
use Rattle.write_steps.proofs.Values.{fit_fits, apart_fits}
use Rattle.write_steps.proofs.later_value.Goals as goal

pub float_to_int-x : goal.float_to_int-x
float_to_int-x c = fit_signed 31 (omega arith) c.args.x c.requires.1

pub float_to_int-last : goal.float_to_int-last
float_to_int-last c = fit_signed 31 (omega arith) c.args.last c.requires.0

pub overflow_sub-x : goal.overflow_sub-x
overflow_sub-x c =
    let a = c.args in
    let h = c.requires in
    rw (to_z-of_z {w = w32} {z = whole_of a.x} (fit_fits a.x h.1), to_z-of_z {w = w32} {z = whole_of a.last} (fit_fits a.last h.0))
    (apart_fits a.x a.last h.1 h.0)

pub returns : goal.returns
returns c =
    let a = c.args in
    let h = c.requires in
    let d = whole_of a.x -ℤ whole_of a.last in
    rw (
      to_z-of_z {w = w32} {z = whole_of a.x} (fit_fits a.x h.1),
      to_z-of_z {w = w32} {z = whole_of a.last} (fit_fits a.last h.0),
      to_z-of_z {w = w32} {z = d} (apart_fits a.x a.last h.1 h.0),
    )
    at c.pack_signed.ensures
