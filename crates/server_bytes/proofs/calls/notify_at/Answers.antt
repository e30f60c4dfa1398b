-- `notify_of` of the clock that the state stands for, and the state settled by what was said.
use mir.Syntax.{w32}
use mir.Facts.{to_z-of_z}
use Rattle.clock.specs.declared.state.Clock.{Clock}
use Rattle.racp_notify.specs.Notify.{notify_of}
use Rattle.racp_notify.proofs.ReplyLaws.{notify_replies}
use Rattle.server_bytes.specs.Calls.{notify_at}
use Rattle.server_bytes.proofs.CallLaws.{notice_short, notice_sized, notice_settled}
use Rattle.server_bytes.proofs.calls.notify_at.Goals as goal

pub length_of-requires : goal.length_of-requires
length_of-requires c =
    let a = c.args in
    notice_short a.state.now c.clock_of-clock.ensures (λ (k : Clock). notify_of k a.table.now a.p a.out.now) c.notify-said.ensures (notify_replies a.table.now a.p a.out.now)

pub settle-requires : goal.settle-requires
settle-requires c =
    let a = c.args in
    notice_sized a.state.now c.clock_of-clock.ensures (λ (k : Clock). notify_of k a.table.now a.p a.out.now) c.notify-said.ensures (notify_replies a.table.now a.p a.out.now) (c.length_of.ensures _)

pub returns : goal.returns
unfolding notify_at
returns c =
    let a = c.args in
    notice_settled a.state.now c.clock_of-clock.ensures (λ (k : Clock). notify_of k a.table.now a.p a.out.now) c.notify-said.ensures (c.length_of.ensures _) a.table.now (to_z-of_z {w = w32} (record { sfits = c.settle.type_inv })) c.settle.ensures
