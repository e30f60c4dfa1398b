-- Its three pieces in a row.
use Rattle.salvage_text.specs.Told.{slot_word}
use Rattle.salvage_text.proofs.LineLaws.{begun_with, slot_joined}
use Rattle.salvage_text.proofs.lines.slot_line.Goals as goal

pub returns : goal.returns
returns c = slot_joined c.args.place (begun_with slot_word c.empty.ensures c.with_word.ensures) c.with_number-named.ensures c.with_word-2.ensures
