-- The call's answer tells how much of either buffer there is to write.
use Rattle.salvage_text.proofs.ToldLaws.{done_within, both_told}
use native.Mathlib.Omega.{arith}
use Rattle.std.proofs.Common.{rules}
use Rattle.salvage_text.proofs.told.tell.Goals as goal

pub put_told-told-requires : goal.put_told-told-requires
put_told-told-requires c =
    let a = c.args in
    (search rules, search rules, λ n e. let small = done_within a.input.now a.table.now c.salvage-answer.ensures n e in omega arith)

pub returns : goal.returns
returns c =
    let a = c.args in
    both_told a.input.now a.table.now c.salvage-answer.ensures a.out.now c.back.ensures c.put_told-told.ensures
