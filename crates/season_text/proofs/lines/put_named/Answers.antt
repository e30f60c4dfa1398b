-- The word, and the number from its end on.
use mathlib.Core.Path.{◌∙◌}
use Rattle.text.specs.Line.{decimal}
use Rattle.text.proofs.LaidLaws.{end_of, laid_on}
use Rattle.season_text.specs.Lines.{named}
use native.Mathlib.Omega.{arith}
use Rattle.season_text.proofs.lines.put_named.Goals as goal

pub put_number-requires : goal.put_number-requires
put_number-requires c =
    let a = c.args in
    omega (arith, end_of a.out.now a.word.now a.at c.put_word-end.ensures)

pub returns : goal.returns
unfolding named
returns c =
    let a = c.args in
    c.put_number.ensures ∙ laid_on a.out.now a.word.now a.at c.put_word-end.ensures (decimal a.n) (omega arith)
