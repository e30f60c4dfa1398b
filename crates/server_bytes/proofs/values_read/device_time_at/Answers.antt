-- `device_time_of` of the clock that the state stands for, with its result.
use mathlib.Core.Path.{ap, ◌∙◌}
use mir.Syntax.{w32}
use mir.Facts.{to_z-of_z}
use native.Mathlib.Omega.{arith}
use Rattle.clock.specs.declared.state.Clock.{Clock}
use Rattle.characteristics.specs.Value.{device_time_of}
use Rattle.characteristics.proofs.ReplyLaws.{device_time_replies}
use Rattle.server_bytes.specs.ValuesRead.{device_time_at}
use Rattle.server_bytes.proofs.CallLaws.{reply_short}
use Rattle.server_bytes.proofs.ValueLaws.{reply_told}
use Rattle.server_bytes.proofs.values_read.device_time_at.Goals as goal

pub result_of-requires : goal.result_of-requires
result_of-requires c =
    let a = c.args in
    omega (arith, reply_short a.state.now c.clock_of.ensures (λ (k : Clock). device_time_of k a.table.now a.out.now) c.device_time.ensures (device_time_replies a.table.now a.out.now))

pub returns : goal.returns
unfolding device_time_at
returns c =
    let a = c.args in
    reply_told (c.device_time.ensures ∙ ap (λ (k : Clock). device_time_of k a.table.now a.out.now) c.clock_of.ensures) (to_z-of_z {w = w32} (record { sfits = c.result_of.type_inv }) ∙ c.result_of.ensures)
