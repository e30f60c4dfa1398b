-- By the opcode.
use Rattle.racp_notify.proofs.SegmentLaws.{closing_combined, closing_report}
use Rattle.racp_notify.proofs.notify.closing.Goals as goal

pub returns-then-r-eq-COMBINED_OPCODE : goal.returns-then-r-eq-COMBINED_OPCODE
returns-then-r-eq-COMBINED_OPCODE c =
    let a = c.args in
    closing_combined a.t.now a.r _ _ c.if-r-eq-COMBINED_OPCODE.true c.count_bytes.ensures c.count_matching.ensures

pub returns : goal.returns
returns c = closing_report _ _ _ c.if-r-eq-COMBINED_OPCODE.false c.code_bytes.ensures
