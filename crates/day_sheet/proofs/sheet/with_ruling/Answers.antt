-- A verdict by its words, `-` where there is none.
use mathlib.Core.Path.{sym, ap}
use Rattle.text.specs.Line.{text_of}
use Rattle.day_sheet.specs.Sheet.{ruling_text}
use Rattle.day_sheet.proofs.SheetLaws.{as_put}
use native.Mathlib.Omega.{arith}
use Rattle.day_sheet.proofs.sheet.with_ruling.Goals as goal

pub returns-in-None : goal.returns-in-None
unfolding ruling_text
returns-in-None c =
    let e = sym (ap ruling_text c.in-None.is) in
    (as_put (text_of c.args.line) e c.with_byte.ensures, rw c.in-None.is (omega arith))

pub returns-in-Some : goal.returns-in-Some
unfolding ruling_text
returns-in-Some c =
    let e = sym (ap ruling_text c.in-Some.is) in
    (as_put (text_of c.args.line) e c.with_verdict.ensures.0, rw c.in-Some.is c.with_verdict.ensures.1)
