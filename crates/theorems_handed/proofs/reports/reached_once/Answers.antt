-- Every world that is reached is good.
use Rattle.theorems_handed.proofs.StartedLaws.{reached_once}
use Rattle.theorems_handed.proofs.reports.reached_once.Goals as goal

pub returns : goal.returns
returns c = reached_once
