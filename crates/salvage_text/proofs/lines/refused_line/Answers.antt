-- The word, the number and the line's end in a row.
use Rattle.salvage_text.specs.Told.{refused_word}
use Rattle.salvage_text.proofs.LineLaws.{begun_with, refused_joined, refused_short}
use Rattle.salvage_text.proofs.lines.refused_line.Goals as goal

pub returns : goal.returns
returns c =
    let number = c.args.number in
    (refused_joined number (begun_with refused_word c.empty.ensures c.with_word.ensures) c.with_number.ensures c.with_byte.ensures, refused_short number)
