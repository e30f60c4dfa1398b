-- The law `kept_or_reported`.
use Rattle.theorems_salvage.proofs.NotedLaws.{kept_or_reported}
use Rattle.theorems_salvage.proofs.salvaged.kept_or_reported.Goals as goal

pub returns : goal.returns
returns c = kept_or_reported
