-- The law `answers`.
use Rattle.ramp.proofs.BeastLaws.{answers}
use Rattle.ramp.proofs.theorems.answers.Goals as goal

pub returns : goal.returns
returns c = answers
