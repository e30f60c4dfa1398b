-- `decide_operand` is `operandOf`: one law for each answer.
use mathlib.Core.Path.{sym}
use Rattle.update_decide.proofs.DecideLaws.{operand_short, operand_taken, operand_rejected}
use Rattle.update_decide.proofs.decide.decide_operand.Goals as goal

pub returns-then-write-ne-UPDATE_WRITE_BYTES : goal.returns-then-write-ne-UPDATE_WRITE_BYTES
returns-then-write-ne-UPDATE_WRITE_BYTES c = sym (operand_short _ _ _ c.if-write-ne-UPDATE_WRITE_BYTES.true)

pub returns-then-flags-eq0 : goal.returns-then-flags-eq0
returns-then-flags-eq0 c = sym (operand_taken _ _ _ _ _ c.if-write-ne-UPDATE_WRITE_BYTES.false c.proposal_at-p.ensures c.grounds-flags.ensures c.if-flags-eq0.true)

pub returns : goal.returns
returns c = sym (operand_rejected _ _ _ _ _ c.if-write-ne-UPDATE_WRITE_BYTES.false c.proposal_at-p.ensures c.grounds-flags.ensures c.if-flags-eq0.false)
