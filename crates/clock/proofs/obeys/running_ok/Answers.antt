-- `running_ok` is `running_b`: no report, or the report's rule.
use mathlib.Core.Path.{sym, ap, ◌∙◌}
use Rattle.clock.specs.Obeys.{running_b}
use Rattle.clock.proofs.obeys.running_ok.Goals as goal

pub returns-in-None : goal.returns-in-None
unfolding running_b
returns-in-None c = rw c.in-None.is

pub returns-in-Some : goal.returns-in-Some
unfolding running_b
returns-in-Some c = c.report_ok.ensures ∙ sym (ap running_b c.in-Some.is)
