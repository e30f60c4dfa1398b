-- Each kind of entry by its own text.
use mathlib.Core.Path.{sym, ap}
use Rattle.text.specs.Line.{text_of}
use Rattle.text.proofs.TextLaws.{fitted_then}
use Rattle.day_sheet.specs.Sheet.{refused_word, shown_text}
use Rattle.day_sheet.proofs.SheetLaws.{as_put}
use Rattle.day_sheet.proofs.sheet.with_shown.Goals as goal

pub returns-in-Nothing : goal.returns-in-Nothing
unfolding shown_text
returns-in-Nothing c = as_put (text_of c.args.line) (sym (ap shown_text c.in-Nothing.is)) c.with_byte.ensures

pub returns-in-At : goal.returns-in-At
unfolding shown_text
returns-in-At c = as_put (text_of c.args.line) (sym (ap shown_text c.in-At.is)) c.with_time.ensures

pub returns-in-Before : goal.returns-in-Before
unfolding shown_text
returns-in-Before c = as_put (text_of c.args.line) (sym (ap shown_text c.in-Before.is)) c.with_word.ensures

pub returns-in-Refused : goal.returns-in-Refused
unfolding shown_text
returns-in-Refused c =
    let t = text_of c.args.line in
    as_put t (sym (ap shown_text c.in-Refused.is)) (fitted_then t refused_word _ c.with_word-refused.ensures c.with_number.ensures)
