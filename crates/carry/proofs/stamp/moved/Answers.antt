-- A Time_Update gives its difference, any other record 0.
use mathlib.Core.Path.{◌≡◌, sym, ap, ◌∙◌}
use lib.IntN.{pos, ◌-ℤ◌}
use mir.Facts.{to_z-of_z}
use mir.Syntax.{w64}
use Rattle.carry.specs.Stamp.{moved_by}
use Rattle.carry.proofs.stamp.moved.Goals as goal

pub returns-in_default : goal.returns-in_default
unfolding moved_by
returns-in_default c = sym (ap moved_by c.in_default.is)

pub returns : goal.returns
unfolding moved_by
returns c =
    let u = c.in-TimeUpdate.u in
    let d : c.minus.result ≡ pos u.base -ℤ pos u.oldbase = c.minus.ensures in
    to_z-of_z {w = w64} (record { sfits = c.minus.type_inv }) ∙ d ∙ sym (ap moved_by c.in-TimeUpdate.is)
