-- What was summed and the figures of the records left are the table's together. So no sum is larger than the table's, which fits.
use Rattle.std.proofs.Common.{ap, ◌∙◌, arith}
use Rattle.table.specs.Table.{held}
use Rattle.season_figures.specs.Figures.{sum_of, figures_in, in_widths}
use Rattle.season_figures.specs.declared.figures.Figures.{Figures}
use Rattle.season_figures.proofs.TableLaws.{turn_sums, turns_end}
use Rattle.season_figures.proofs.FigureLaws.{nothing_and}
use Rattle.season_figures.proofs.figures.figures_in.Goals as goal

pub loop-age-init : goal.loop-age-init
loop-age-init c = rw c.no_figures-sum.ensures (nothing_and (figures_in (held c.args.t.now)))

pub loop-age-preserved : goal.loop-age-preserved
loop-age-preserved c =
    let next = c.together-sum.ensures ∙ ap (λ (f : Figures). in_widths (sum_of c.loop-age.sum f)) c.figures_of.ensures in
    turn_sums c.args.t.now c.loop-age.age c.loop-age.sum _ c.requires c.record_at.ensures c.loop-age.invariant _ next

pub returns : goal.returns
returns c = turns_end c.args.t.now c.loop-age.age c.loop-age.sum (omega (arith, c.held_count-among.ensures)) c.loop-age.invariant
