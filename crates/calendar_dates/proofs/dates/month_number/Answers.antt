-- Year and month are in range.
use mathlib.Core.Path.{refl}
use Rattle.calendar_dates.proofs.DateLaws.{month_reads, number_small}
use native.Mathlib.Omega.{arith}
use Rattle.calendar_dates.proofs.dates.month_number.Goals as goal

pub overflow_sub-result : goal.overflow_sub-result
overflow_sub-result c = let m = month_reads c.args.date c.requires in omega (arith, m.year_from)

pub overflow_sub-result-2 : goal.overflow_sub-result-2
overflow_sub-result-2 c = let m = month_reads c.args.date c.requires in omega (arith, m.month_from)

pub returns : goal.returns
returns c = (refl, number_small c.args.date (month_reads c.args.date c.requires))
