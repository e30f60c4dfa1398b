-- The position, and the word from its end on.
use mathlib.Core.Path.{◌∙◌}
use Rattle.text.specs.Line.{decimal}
use Rattle.text.proofs.DecimalLaws.{decimal_short_any}
use Rattle.text.proofs.LaidLaws.{end_of, laid_on}
use Rattle.season_text.specs.Lines.{refused_word, refused_line}
use native.Mathlib.Omega.{arith}
use Rattle.season_text.proofs.lines.put_refused.Goals as goal

pub put_word-requires : goal.put_word-requires
put_word-requires c =
    let a = c.args in
    omega (arith, end_of a.out.now (decimal a.position) 0 c.put_number-end.ensures, decimal_short_any a.position)

pub returns : goal.returns
unfolding refused_line
returns c =
    let a = c.args in
    c.put_word.ensures
    ∙ laid_on a.out.now (decimal a.position) 0 c.put_number-end.ensures refused_word (omega (arith, decimal_short_any a.position))
