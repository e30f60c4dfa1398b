-- `switches_of` of the clock that the state stands for, and the state settled by it.
use mir.Syntax.{w32}
use mir.Facts.{to_z-of_z}
use Rattle.clock.specs.Events.{switches_of}
use Rattle.clock.specs.declared.state.Clock.{Clock}
use Rattle.clock.proofs.EventLaws.{switches_2}
use Rattle.server_bytes.specs.Events.{on_b, switches_at}
use Rattle.server_bytes.proofs.CallLaws.{event_sized, event_settled}
use Rattle.server_bytes.proofs.events.switches_at.Goals as goal

pub settle_event-requires : goal.settle_event-requires
settle_event-requires c =
    let a = c.args in
    event_sized a.state.now c.clock_of-clock.ensures (λ (k : Clock). switches_of k (on_b a.dtcp) (on_b a.racp) (on_b a.log)) c.switches-answer.ensures (λ (k : Clock). switches_2 k (on_b a.dtcp) (on_b a.racp) (on_b a.log))

pub returns : goal.returns
unfolding switches_at
returns c =
    let a = c.args in
    event_settled a.state.now c.clock_of-clock.ensures (λ (k : Clock). switches_of k (on_b a.dtcp) (on_b a.racp) (on_b a.log)) c.switches-answer.ensures (to_z-of_z {w = w32} (record { sfits = c.settle_event.type_inv })) c.settle_event.ensures
