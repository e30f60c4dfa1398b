-- The gap of two times, else `-`.
use mathlib.Core.Path.{ap}
use Rattle.text.specs.Line.{text_of, decimal}
use Rattle.day_sheet.specs.Sheet.{gap, apart_text}
use Rattle.day_sheet.proofs.SheetLaws.{first_no_time, second_no_time, as_put}
use Rattle.day_sheet.proofs.sheet.with_apart.Goals as goal

pub returns-in_default : goal.returns-in_default
returns-in_default c = as_put (text_of c.args.line) (first_no_time c.args.x c.args.y (λ n e. c.in_default.not-At n e)) c.with_byte.ensures

pub returns-in_default-y : goal.returns-in_default-y
returns-in_default-y c =
    as_put (text_of c.args.line)
    (rw c.in-At.is (second_no_time c.in-At.a c.args.y (λ n e. c.in_default-y.not-At n e)))
    c.with_byte-in_default-y.ensures

pub returns : goal.returns
unfolding apart_text gap
returns c = as_put (text_of c.args.line) (rw (c.in-At.is, c.in-At-y.is) (ap decimal c.abs_diff.ensures)) c.with_number.ensures
