-- Zero less the number.
use mathlib.Core.Path.{◌≡◌, ◌∙◌}
use lib.IntN.{pos, neg_ℤ, ◌-ℤ◌, +ℤ_idl}
use mir.Syntax.{w32}
use mir.Val.{to_z}
use mir.Facts.{to_z-of_z, to_z_pos}
use Rattle.carry.proofs.IntLaws.{size_difference, fits}
use native.Mathlib.Omega.{arith}
use Rattle.ramp_bytes.proofs.calls.refused.Goals as goal
use Rattle.ramp_bytes.proofs.calls.refused.Goals.{Start}

same : (c : Start) → to_z w32 0 -ℤ to_z w32 c.args.number ≡ pos 0 -ℤ pos c.args.number
same c = rw (to_z_pos w32 {n = c.args.number} (omega arith))

pub overflow_sub-result : goal.overflow_sub-result
overflow_sub-result c = let n = c.args.number in rw (same (goal.at.overflow_sub-result c).Start) (fits w32 (pos 0 -ℤ pos n) (let s = size_difference 0 n 255 (omega arith) (omega arith) in omega arith))

pub returns : goal.returns
returns c = to_z-of_z (overflow_sub-result (goal.at.returns c).Start) ∙ same (goal.at.returns c).Start ∙ +ℤ_idl (neg_ℤ (pos c.args.number))
