-- The table is the one that the rule makes: antt works it out, month by month.
use mathlib.Core.Path.{refl}
use Rattle.calendar_months.specs.Months.{leap_b, thirty_b, days_in, month_length, starts_from, month_starts}
use Rattle.calendar_months.proofs.months.starts.Goals as goal

pub returns : goal.returns
unfolding leap_b thirty_b days_in month_length starts_from month_starts
returns c = refl
