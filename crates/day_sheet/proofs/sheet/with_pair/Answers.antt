-- Its six pieces in a row.
use Rattle.text.specs.Line.{text_of}
use Rattle.day_sheet.specs.Sheet.{shown_text, apart_text, pair_text}
use Rattle.day_sheet.proofs.SheetLaws.{pair_joined}
use Rattle.day_sheet.proofs.sheet.with_pair.Goals as goal

pub returns : goal.returns
unfolding pair_text
returns c =
    let a = c.args in
    pair_joined (text_of a.line) (shown_text a.x) (shown_text a.y) (apart_text a.x a.y)
    c.with_byte.ensures
    c.with_shown-left.ensures
    c.with_byte-2.ensures
    c.with_shown-right.ensures
    c.with_byte-3.ensures
    c.with_apart.ensures
