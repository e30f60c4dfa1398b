-- The difference of two times fits signed 64 bits, by IntLaws.
use mathlib.Core.Path.{◌∙◌}
use mir.Facts.{to_z-of_z}
use native.Mathlib.Omega.{arith}
use Rattle.carry.proofs.IntLaws.{difference_is, difference_fits}
use Rattle.carry.proofs.stamp.minus.Goals as goal
use Rattle.carry.proofs.stamp.minus.Goals.{Start}

pub overflow_sub-result : goal.overflow_sub-result
overflow_sub-result c =
    let a = c.args in
    rw (difference_is a.received a.old (omega arith) (omega arith))
    (difference_fits a.received a.old (omega arith) (omega arith))

pub returns : goal.returns
returns c = let a = c.args in to_z-of_z (overflow_sub-result (goal.at.returns c).Start) ∙ difference_is a.received a.old (omega arith) (omega arith)
