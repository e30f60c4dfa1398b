-- `room` is `room_b`.
use mathlib.Core.Path.{◌∙◌}
use Rattle.racp_notify.specs.Notify.{room_b}
use Rattle.racp_notify.proofs.notify.room.Goals as goal

pub returns : goal.returns
unfolding room_b
returns c = c.both-2.ensures ∙ rw c.both.ensures
