-- The refusal's line, or the lines of the report's first bytes.
use mathlib.Core.Path.{ap, ◌∙◌}
use Rattle.text.specs.Laid.{laid}
use Rattle.text.specs.Line.{text_of}
use Rattle.text.proofs.LaidLaws.{laid_once}
use Rattle.salvage_text.specs.Told.{refused_line, told_by}
use Rattle.salvage_text.proofs.told.put_told.Goals as goal

pub returns-in-Ok : goal.returns-in-Ok
unfolding told_by
returns-in-Ok c = c.put_lines.ensures ∙ rw c.in-Ok.is

pub returns-in-Err : goal.returns-in-Err
unfolding told_by
returns-in-Err c =
    let a = c.args in
    laid_once a.out.now (text_of c.refused_line.result) 0 c.put_line.ensures.0 c.put_line.ensures.1
    ∙ ap (laid a.out.now 0) (c.refused_line.ensures.0 ∙ ap refused_line c.salvage_number.ensures ∙ rw c.in-Err.is)
