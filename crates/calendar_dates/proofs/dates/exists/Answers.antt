-- The three tests one after the other; a month's length is the step of the table there.
use mathlib.Core.Path.{◌≡◌, sym, ◌∙◌}
use mathlib.Core.Bool.{true}
use Rattle.calendar_dates.specs.Dates.{month_b, exists_b, time_of_day_b}
use Rattle.calendar_dates.proofs.DayLaws.{days_next}
use Rattle.calendar_dates.proofs.DateLaws.{no_month, exists_by_length, step_length}
use native.Mathlib.Omega.{arith}
use Rattle.calendar_dates.proofs.dates.exists.Goals as goal
use Rattle.calendar_dates.proofs.dates.exists.Goals.{Else-not-month_exists, After-days_before-2}
use Rattle.std.proofs.Common.{rules, leb, ◌-◌}
use Rattle.octets.specs.Choice.{both}

good : (c : Else-not-month_exists) → month_b c.args.date ≡ true
good c = sym c.month_exists.ensures ∙ c.if-not-month_exists.false

pub returns-then-not-month_exists : goal.returns-then-not-month_exists
returns-then-not-month_exists c = sym (no_month c.args.date (sym c.month_exists.ensures ∙ c.if-not-month_exists.true))

pub month_number-month-requires : goal.month_number-month-requires
month_number-month-requires c = good (goal.at.month_number-month-requires c).Else-not-month_exists

pub overflow_sub-days : goal.overflow_sub-days
overflow_sub-days c = let k = c.month_number-month.result in omega (arith, c.days_before.ensures, c.days_before-2.ensures, days_next k)

-- the day's test, by the month's true length
by_length : (c : After-days_before-2) → both (both (leb 1 c.args.date.day) (leb c.args.date.day (c.days_before.result - c.days_before-2.result))) (time_of_day_b c.args.date) ≡ exists_b c.args.date
by_length c = let g = sym c.month_exists.ensures ∙ c.if-not-month_exists.false in exists_by_length c.args.date g (step_length c.args.date g c.month_number-month.ensures.0 c.days_before.ensures c.days_before-2.ensures)

pub returns-then-contains : goal.returns-then-contains
returns-then-contains c = let e = by_length (goal.at.returns-then-contains c).After-days_before-2 in rw (sym e) (search rules)

pub returns-else-contains : goal.returns-else-contains
returns-else-contains c = let e = by_length (goal.at.returns-else-contains c).After-days_before-2 in rw (sym e) (search rules)
