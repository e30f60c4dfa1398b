-- `switches` is `switches_of`: one law for each answer.
use mathlib.Core.Path.{sym, ◌∙◌}
use Rattle.clock.proofs.EventLaws.{switches_2, switches_done}
use Rattle.clock.proofs.events.switches.Goals as goal

pub returns-then-not-clock_ok : goal.returns-then-not-clock_ok
returns-then-not-clock_ok c = sym (switches_2 _ _ _ _ (sym c.clock_ok.ensures ∙ c.if-not-clock_ok.true))

pub returns : goal.returns
returns c = sym (switches_done _ _ _ _ (sym c.clock_ok.ensures ∙ c.if-not-clock_ok.false))
