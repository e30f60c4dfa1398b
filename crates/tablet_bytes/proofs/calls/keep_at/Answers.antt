-- Whatever keeping answers, by its number.
use mathlib.Core.Path.{ap, ◌∙◌}
use mir.Facts.{to_z-of_z}
use mir.Syntax.{w32}
use Rattle.keep.specs.Keep.{keeping_number}
use Rattle.tablet_bytes.specs.Calls.{kept_bytes}
use Rattle.tablet_bytes.proofs.TabletLaws.{keep_told}
use Rattle.tablet_bytes.proofs.calls.keep_at.Goals as goal

pub returns-in-Ok : goal.returns-in-Ok
unfolding keeping_number
returns-in-Ok c = keep_told _ _ c.keep.ensures c.in-Ok.is

pub returns-in-Err : goal.returns-in-Err
returns-in-Err c =
    let r = c.keep_refusal in
    rw (to_z-of_z {w = w32} (record { sfits = r.type_inv }) ∙ r.ensures) (keep_told _ _ c.keep.ensures c.in-Err.is)
