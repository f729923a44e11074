-- A start that was not refused is a place.
use Rattle.std.proofs.Common.{◌≡◌, ℕ, Ok, sym, ap, ◌∙◌, arith}
use Rattle.std.specs.Option.{ok_or}
use Rattle.codes.specs.declared.Code.TheVariants.{Position}
use Rattle.control_points.specs.Answers.{Start, At, Out}
use Rattle.control_points.specs.declared.Pair.{Pair}
use Rattle.control_points.proofs.Starts.{start_valid}
use Rattle.dequantize.proofs.dequantize.Goals as goal

was_at : (s : Start) (p : Pair) → ok_or s Position ≡ Ok p → s ≡ At p
was_at (At q) p h = let e : q ≡ p = cc in ap At e
was_at Out p h = absurd (let z : ◌≡◌ {A = ℕ} 0 1 = cc in omega arith)

pub trace-requires : goal.trace-requires
trace-requires c = start_valid _ _ _ (sym c.starting_point.ensures ∙ was_at _ _ (sym c.ok_or.ensures.value ∙ c.in_ok-start.was))
