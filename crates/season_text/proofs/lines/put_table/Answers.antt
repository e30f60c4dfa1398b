-- The position, and the figures from its end on.
use mathlib.Core.Path.{◌∙◌}
use Rattle.text.specs.Line.{decimal}
use Rattle.text.proofs.DecimalLaws.{decimal_short_any}
use Rattle.text.proofs.LaidLaws.{end_of, laid_on}
use Rattle.season_text.specs.Lines.{figures_text, table_line}
use native.Mathlib.Omega.{arith}
use Rattle.season_text.proofs.lines.put_table.Goals as goal

pub put_figures-requires : goal.put_figures-requires
put_figures-requires c =
    let a = c.args in
    omega (arith, end_of a.out.now (decimal a.position) 0 c.put_number-end.ensures, decimal_short_any a.position)

pub returns : goal.returns
unfolding table_line
returns c =
    let a = c.args in
    c.put_figures.ensures
    ∙ laid_on a.out.now (decimal a.position) 0 c.put_number-end.ensures (figures_text a.f) (omega (arith, decimal_short_any a.position))
