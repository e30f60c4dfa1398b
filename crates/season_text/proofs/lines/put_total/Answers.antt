-- The word, and the figures from its end on.
use mathlib.Core.Path.{◌∙◌}
use Rattle.text.proofs.LaidLaws.{end_of, laid_on}
use Rattle.season_text.specs.Lines.{total_word, figures_text, total_line}
use native.Mathlib.Omega.{arith}
use Rattle.season_text.proofs.lines.put_total.Goals as goal

pub put_figures-requires : goal.put_figures-requires
put_figures-requires c =
    let a = c.args in
    omega (arith, end_of a.out.now total_word a.at c.put_word-end.ensures)

pub returns : goal.returns
unfolding total_line
returns c =
    let a = c.args in
    c.put_figures.ensures ∙ laid_on a.out.now total_word a.at c.put_word-end.ensures (figures_text a.f) (omega arith)
