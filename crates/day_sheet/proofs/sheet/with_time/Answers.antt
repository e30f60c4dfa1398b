-- Hours, minutes and seconds, with `:` between.
use mathlib.Core.List.{[], ◌∷◌, ◌++◌}
use Prim.Native.Nat.{◌/◌, ◌%◌}
use Rattle.text.specs.Line.{text_of, two_digits}
use Rattle.text.proofs.TextLaws.{fitted_then}
use Rattle.day_sheet.specs.Sheet.{time_of_day}
use Rattle.day_sheet.proofs.sheet.with_time.Goals as goal

pub returns : goal.returns
unfolding time_of_day two_digits
returns c =
    let t = text_of c.args.line in
    let base = c.args.base in
    let hours = two_digits (base / 3600 % 24) in
    let minutes = two_digits (base / 60 % 60) in
    let one = fitted_then t hours (58 ∷ []) c.with_two.ensures c.with_byte-hours.ensures in
    let two = fitted_then t (hours ++ (58 ∷ [])) minutes one c.with_two-2.ensures in
    let three = fitted_then t ((hours ++ (58 ∷ [])) ++ minutes) (58 ∷ []) two c.with_byte-minutes.ensures in
    fitted_then t (((hours ++ (58 ∷ [])) ++ minutes) ++ (58 ∷ [])) (two_digits (base % 60)) three c.with_two-3.ensures
