-- What was summed and the figures of the records left are the table's together. So no sum is larger than the table's, which fits.
use Rattle.std.proofs.Common.{◌≡◌, drop}
use Rattle.table.specs.Table.{held}
use Rattle.season_figures.specs.Figures.{sum_of, figures_in}
use Rattle.season_figures.proofs.figures.figures_in.Given as goal

abbrev pub invariant-loop-age : goal.invariant-loop-age
invariant-loop-age l = sum_of l.sum (figures_in (drop l.age (held l.t))) ≡ figures_in (held l.t)
