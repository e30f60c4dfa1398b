-- By the length: refused, 11 and the numbers as they were; else the fields, taken from where they stand.
use mathlib.Core.Path.{sym, ◌∙◌}
use Rattle.record_read.proofs.FormLaws.{formed_none}
use Rattle.tablet_bytes.proofs.TabletLaws.{read_none, read_update, read_fault}
use Rattle.tablet_bytes.proofs.calls.read_at.Goals as goal

pub returns-then-not-update_formed : goal.returns-then-not-update_formed
returns-then-not-update_formed c = read_none _ _ (sym c.update_formed.ensures ∙ c.if-not-update_formed.true)

pub returns-then-bytes-eq-UPDATE_BYTES : goal.returns-then-bytes-eq-UPDATE_BYTES
returns-then-bytes-eq-UPDATE_BYTES c = read_update _ _ c.if-bytes-eq-UPDATE_BYTES.true (sym c.update_formed.ensures ∙ c.if-not-update_formed.false) c.update_fields.ensures

pub returns-then-bytes-ne-FAULT_BYTES : goal.returns-then-bytes-ne-FAULT_BYTES
returns-then-bytes-ne-FAULT_BYTES c = read_none _ _ (formed_none _ c.if-bytes-eq-UPDATE_BYTES.false c.if-bytes-ne-FAULT_BYTES.true)

pub returns-then-not-fault_formed : goal.returns-then-not-fault_formed
returns-then-not-fault_formed c = read_none _ _ (sym c.fault_formed.ensures ∙ c.if-not-fault_formed.true)

pub returns : goal.returns
returns c = read_fault _ _ c.if-bytes-ne-FAULT_BYTES.false (sym c.fault_formed.ensures ∙ c.if-not-fault_formed.false) c.fault_fields.ensures
