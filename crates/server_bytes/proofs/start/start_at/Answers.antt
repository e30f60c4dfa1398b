-- Another length: 1 or 2. Else the new reader, and the state settled by the answer.
use mathlib.Core.Path.{◌∙◌}
use mir.Syntax.{w32}
use mir.Facts.{to_z-of_z}
use Rattle.server_bytes.proofs.StartLaws.{start_short, start_settled}
use Rattle.server_bytes.proofs.start.start_at.Goals as goal

pub returns-then-state-ne-STATE_BYTES : goal.returns-then-state-ne-STATE_BYTES
returns-then-state-ne-STATE_BYTES c = start_short _ _ c.if-state-ne-STATE_BYTES.true (to_z-of_z {w = w32} (record { sfits = c.short.type_inv }) ∙ c.short.ensures)

pub settle_event-requires : goal.settle_event-requires
settle_event-requires c = λ _. c.if-state-ne-STATE_BYTES.false

pub returns : goal.returns
returns c = start_settled _ _ c.if-state-ne-STATE_BYTES.false (to_z-of_z {w = w32} (record { sfits = c.settle_event.type_inv })) c.start-answer.ensures c.settle_event.ensures
