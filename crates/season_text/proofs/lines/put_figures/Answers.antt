-- The first figures, and the last from where they end.
use mathlib.Core.Path.{◌∙◌}
use Rattle.text.proofs.LaidLaws.{end_of, laid_on}
use Rattle.season_text.specs.Lines.{first_figures, last_figures, figures_text}
use Rattle.season_text.proofs.LineLaws.{first_short}
use native.Mathlib.Omega.{arith}
use Rattle.season_text.proofs.lines.put_figures.Goals as goal

pub put_last-requires : goal.put_last-requires
put_last-requires c =
    let a = c.args in
    omega (arith, end_of a.out.now (first_figures a.f) a.at c.put_first-first.ensures, first_short a.f)

pub returns : goal.returns
unfolding figures_text
returns c =
    let a = c.args in
    c.put_last.ensures
    ∙ laid_on a.out.now (first_figures a.f) a.at c.put_first-first.ensures (last_figures a.f) (omega (arith, first_short a.f))
