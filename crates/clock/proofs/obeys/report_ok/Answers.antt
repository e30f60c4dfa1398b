-- `report_ok` is `report_b`: each part by its rule.
use Rattle.clock.specs.Obeys.{report_b, counter_b}
use Rattle.clock.proofs.obeys.report_ok.Goals as goal

pub returns : goal.returns
unfolding report_b counter_b
returns c = simp (c.both.ensures, c.opcode_ok.ensures)
