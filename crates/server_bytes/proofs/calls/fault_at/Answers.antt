-- `fault_of` of the clock that the state stands for, and the state settled by its reply.
use mir.Syntax.{w32}
use mir.Facts.{to_z-of_z}
use Rattle.clock.specs.declared.state.Clock.{Clock}
use Rattle.update.specs.Fault.{fault_of}
use Rattle.update.proofs.ReplyLaws.{fault_replies}
use Rattle.server_bytes.specs.Calls.{fault_at}
use Rattle.server_bytes.proofs.CallLaws.{reply_sized, reply_settled}
use Rattle.server_bytes.proofs.calls.fault_at.Goals as goal

pub settle-requires : goal.settle-requires
settle-requires c =
    let a = c.args in
    reply_sized a.state.now c.clock_of-clock.ensures (λ (k : Clock). fault_of k a.table.now a.out.now) c.fault-answer.ensures (fault_replies a.table.now a.out.now)

pub returns : goal.returns
unfolding fault_at
returns c =
    let a = c.args in
    reply_settled a.state.now c.clock_of-clock.ensures (λ (k : Clock). fault_of k a.table.now a.out.now) c.fault-answer.ensures (to_z-of_z {w = w32} (record { sfits = c.settle.type_inv })) c.settle.ensures
