-- `judge_all`: lengths that agree are what judging asks for. The ways out are decided by the tests that led there.
use Rattle.verdict.proofs.Checks.{agreed}
use Rattle.verdict.proofs.judge_all.Goals as goal

pub judge-requires : goal.judge-requires
judge-requires c = agreed _ cc
