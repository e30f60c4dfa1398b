-- A date that exists is its days and the second of its day.
use mathlib.Core.Path.{◌≡◌, sym, ◌∙◌}
use mathlib.Core.Bool.{true}
use Rattle.octets.proofs.Tests.{both_reads}
use Rattle.calendar_dates.specs.Dates.{month_b, exists_b, seconds_to}
use Rattle.calendar_dates.proofs.DateLaws.{exists_reads, reckoned, no_such_date}
use native.Mathlib.Omega.{arith}
use Rattle.calendar_dates.proofs.dates.seconds_of_date.Goals as goal
use Rattle.calendar_dates.proofs.dates.seconds_of_date.Goals.{Else-not-exists}

good : (c : Else-not-exists) → exists_b c.args.date ≡ true
good c = sym c.exists.ensures ∙ c.if-not-exists.false

pub returns-then-not-exists : goal.returns-then-not-exists
returns-then-not-exists c = sym (no_such_date c.args.date (sym c.exists.ensures ∙ c.if-not-exists.true))

pub month_number-month-requires : goal.month_number-month-requires
unfolding exists_b
month_number-month-requires c = (both_reads (month_b c.args.date) _ (good (goal.at.month_number-month-requires c).Else-not-exists)).0

pub overflow_sub-days : goal.overflow_sub-days
overflow_sub-days c = let d = c.args.date in omega (arith, (exists_reads d (good (goal.at.overflow_sub-days c).Else-not-exists)).of_day.from)

pub returns : goal.returns
unfolding seconds_to
returns c =
    let d = c.args.date in
    rw (c.days_before.ensures, c.month_number-month.ensures.0) (sym (reckoned d (good (goal.at.returns c).Else-not-exists)))
