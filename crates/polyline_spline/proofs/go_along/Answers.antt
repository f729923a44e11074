use mathlib.Core.Path.{◌∙◌}
use borrow.Author.Rules.{rules}
use native.Mathlib.Omega.{arith}
use Rattle.polyline_spline.proofs.Goes.{along_begin, from_first, along_more, along_stop, along_end}
use Rattle.polyline_spline.proofs.go_along.Goals as goal

pub loop-k-init : goal.loop-k-init
loop-k-init c = along_begin _ _ _ c.at-place.ensures c.requires

pub of-requires : goal.of-requires
of-requires c = omega arith

pub go_on-requires : goal.go_on-requires
go_on-requires c = c.loop-k.invariant.placed

pub returns-in_err-place : goal.returns-in_err-place
returns-in_err-place c = along_stop _ _ _ _ _ c.loop-k.invariant (omega arith) _ c.of.ensures _ c.go_on.ensures _ _ c.in_err-place.was (search rules) ∙ from_first _ _ _ c.at-place.ensures

pub loop-k-preserved : goal.loop-k-preserved
loop-k-preserved c = along_more _ _ _ _ _ c.loop-k.invariant (omega arith) _ c.of.ensures _ c.go_on.ensures _ _ c.in_ok-place.was

pub returns : goal.returns
returns c = along_end _ _ _ _ _ c.loop-k.invariant (omega arith) ∙ from_first _ _ _ c.at-place.ensures
