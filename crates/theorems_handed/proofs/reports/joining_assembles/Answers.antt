-- By induction over the segments, with what the tablet has of the record under way.
use Rattle.theorems_handed.proofs.JoinedLaws.{joining_assembles}
use Rattle.theorems_handed.proofs.reports.joining_assembles.Goals as goal

pub returns : goal.returns
returns c = joining_assembles
