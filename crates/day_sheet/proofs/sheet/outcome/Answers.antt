-- A carried stamp is shown by its time, a refusal by its number.
use mir.Syntax.{w64}
use mir.Facts.{to_z-of_z}
use native.Mathlib.Omega.{arith}
use mathlib.Core.Path.{sym, ap, ◌∙◌}
use Rattle.day_sheet.specs.Sheet.{outcome_of}
use Rattle.day_sheet.proofs.SheetLaws.{refused_is}
use Rattle.day_sheet.proofs.sheet.outcome.Goals as goal

pub returns-in_default : goal.returns-in_default
returns-in_default c =
    refused_is c.args.c
    (λ z e. c.in_default.not-Ok z e)
    c.carrying_number.ensures

pub returns : goal.returns
unfolding outcome_of
returns c =
    c.signed.ensures
    ∙ rw (to_z-of_z {w = w64} {z = c.in-Ok.z} (record { sfits = omega arith }))
    (sym (ap outcome_of c.in-Ok.is))
