-- The month that is found is the one in which the day lies.
use mathlib.Core.Path.{sym}
use Prim.Native.Nat.{◌-◌, ◌/◌, ◌<◌}
use Rattle.calendar_months.proofs.MonthLaws.{length_between}
use Rattle.calendar_dates.specs.Dates.{date_on}
use Rattle.calendar_dates.proofs.DayLaws.{days_next}
use Rattle.calendar_dates.proofs.DateLaws.{dated, dated_outside}
use native.Mathlib.Omega.{arith}
use Rattle.calendar_dates.proofs.dates.date_of_seconds.Goals as goal
use Rattle.calendar_dates.proofs.dates.date_of_seconds.Goals.{After-days_before}

-- a day of the month that was found
short : (c : After-days_before) → c.args.seconds / 86400 - c.days_before.result < 31
short c =
    let m = c.month_of-month in
    omega (arith, c.days_before.ensures, m.ensures, days_next m.result, (length_between m.result).1)

pub returns-then-seconds : goal.returns-then-seconds
returns-then-seconds c = sym (dated_outside c.args.seconds (omega arith))

pub month_of-month-requires : goal.month_of-month-requires
month_of-month-requires c = omega arith

pub overflow_cast-result-3 : goal.overflow_cast-result-3
overflow_cast-result-3 c = omega (arith, short (goal.at.overflow_cast-result-3 c).After-days_before)

pub overflow_add-result-3 : goal.overflow_add-result-3
overflow_add-result-3 c = omega (arith, short (goal.at.overflow_add-result-3 c).After-days_before)

pub returns : goal.returns
unfolding date_on
returns c =
    let s = c.args.seconds in
    let found = c.month_of-month.ensures in
    rw c.days_before.ensures
    (sym (dated s c.month_of-month.result (omega arith) found.0 (record { from = found.1; before = found.2 })))
