-- `entry` is its definition.
use Rattle.salvage_report.specs.Report.{entry}
use Rattle.salvage_report.proofs.entry.entry.Goals as goal

pub returns : goal.returns
unfolding entry
returns c = rw (c.bytes2-at.ensures, c.bytes6-was.ensures, c.bytes6-is.ensures)
