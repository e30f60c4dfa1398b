-- A number below 0 is before 2000, any other is its own size.
use mathlib.Core.Path.{◌≡◌}
use mathlib.Core.Bool.{true, false}
use lib.IntN.{pos}
use lib.Signed.{lt_z}
use mir.Facts.{to_z-of_z, Fits-nat_abs}
use Rattle.day_sheet.proofs.SheetLaws.{below, not_below_lem, at_size}
use Rattle.day_sheet.proofs.sheet.signed.Goals as goal

pub returns-then-z-lt0 : goal.returns-then-z-lt0
returns-then-z-lt0 c =
    let t : lt_z c.args.z (pos 0) ≡ true = rw (to_z-of_z c.ranges.z) at c.if-z-lt0.true in
    below c.args.z t

pub overflow_cast-result : goal.overflow_cast-result
overflow_cast-result c =
    let t : lt_z c.args.z (pos 0) ≡ false = rw (to_z-of_z c.ranges.z) at c.if-z-lt0.false in
    rw (to_z-of_z c.ranges.z) (not_below_lem c.args.z t, Fits-nat_abs tt c.ranges.z)

pub returns : goal.returns
returns c =
    let t : lt_z c.args.z (pos 0) ≡ false = rw (to_z-of_z c.ranges.z) at c.if-z-lt0.false in
    rw (to_z-of_z c.ranges.z) (at_size c.args.z t)
