-- Its five pieces in a row.
use Rattle.salvage_report.specs.Kinds.{byte_of}
use Rattle.salvage_text.proofs.LineLaws.{field_joined}
use Rattle.salvage_text.proofs.lines.field_line.Goals as goal

pub returns : goal.returns
returns c =
    let a = c.args in
    field_joined (byte_of a.kind) a.old a.new
    c.field_word.ensures c.with_number-was.ensures c.with_word.ensures c.with_number.ensures c.with_byte.ensures
