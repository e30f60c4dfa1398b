-- An age fits signed 64 bits, as a carried stamp is small.
use mathlib.Core.Path.{◌≡◌, ◌∙◌}
use lib.IntN.{pos, ◌-ℤ◌}
use mir.Syntax.{w64}
use mir.Val.{to_z, of_z}
use mir.Facts.{to_z-of_z, to_z_pos}
use Rattle.ramp.specs.Beast.{age_of}
use Rattle.ramp.proofs.AgeLaws.{age_fits}
use native.Mathlib.Omega.{arith}
use Rattle.ramp.proofs.beast.age.Goals as goal
use Rattle.ramp.proofs.beast.age.Goals.{Start}

-- the machine's numbers are the two that were handed over
same : (c : Start) → to_z w64 c.args.base -ℤ to_z w64 (of_z w64 c.args.carried) ≡ pos c.args.base -ℤ c.args.carried
same c = rw (to_z_pos w64 {n = c.args.base} (omega arith), to_z-of_z c.ranges.carried)

pub overflow_sub-result : goal.overflow_sub-result
overflow_sub-result c = rw (same (goal.at.overflow_sub-result c).Start) (age_fits c.args.base c.args.carried (omega arith) c.requires)

pub returns : goal.returns
unfolding age_of
returns c = to_z-of_z (overflow_sub-result (goal.at.returns c).Start) ∙ same (goal.at.returns c).Start
