-- `disconnect` is `disconnect_of`: one law for each answer.
use mathlib.Core.Path.{sym, ◌∙◌}
use Rattle.clock.specs.Events.{disconnected}
use Rattle.clock.proofs.EventLaws.{disconnect_2, disconnect_done}
use Rattle.clock.proofs.events.disconnect.Goals as goal

pub returns-then-not-clock_ok : goal.returns-then-not-clock_ok
returns-then-not-clock_ok c = sym (disconnect_2 _ (sym c.clock_ok.ensures ∙ c.if-not-clock_ok.true))

pub returns : goal.returns
unfolding disconnected
returns c = rw c.all_off-c.ensures (sym (disconnect_done _ (sym c.clock_ok.ensures ∙ c.if-not-clock_ok.false)))
