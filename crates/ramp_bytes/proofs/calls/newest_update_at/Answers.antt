-- The later update's number and its part.
use mathlib.Core.Path.{◌∙◌}
use mir.Syntax.{w32}
use mir.Facts.{to_z-of_z}
use Rattle.ramp_bytes.specs.Calls.{newest_update_at}
use Rattle.ramp_bytes.proofs.calls.newest_update_at.Goals as goal

pub returns : goal.returns
unfolding newest_update_at
returns c =
    let z = to_z-of_z {w = w32} (record { sfits = c.refused.type_inv }) ∙ c.refused.ensures in
    rw (z, c.later_number.ensures, c.part_numbers.ensures, c.later_update-later.ensures)
