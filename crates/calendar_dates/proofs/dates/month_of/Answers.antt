-- The month that division finds, or the one before it, by DayLaws.
use mathlib.Core.Path.{refl}
use Prim.Native.Nat.{ℕ, ◌+◌, ◌*◌, ◌/◌, ◌<◌}
use Rattle.calendar_dates.proofs.DayLaws.{near_some, near_before, near_here}
use native.Mathlib.Omega.{arith}
use Rattle.calendar_dates.proofs.dates.month_of.Goals as goal
use Rattle.calendar_dates.proofs.dates.month_of.Goals.{After-days_before}

abbrev day : After-days_before → ℕ
day b = b.args.day

abbrev near : After-days_before → ℕ
near b = 48 * (day b + 2) / 1461

few : (b : After-days_before) → day b < 36525
few b = b.requires

pub overflow_sub-result : goal.overflow_sub-result
overflow_sub-result c = omega (arith, near_some (day (goal.at.overflow_sub-result c).After-days_before) (near (goal.at.overflow_sub-result c).After-days_before) (few (goal.at.overflow_sub-result c).After-days_before) refl (rw c.days_before.ensures at c.if-day-days_before.true))

pub returns-then-day-days_before : goal.returns-then-day-days_before
returns-then-day-days_before c = near_before (day (goal.at.returns-then-day-days_before c).After-days_before) (near (goal.at.returns-then-day-days_before c).After-days_before) (few (goal.at.returns-then-day-days_before c).After-days_before) refl (rw c.days_before.ensures at c.if-day-days_before.true)

pub returns-else-day-days_before : goal.returns-else-day-days_before
returns-else-day-days_before c = near_here (day (goal.at.returns-else-day-days_before c).After-days_before) (near (goal.at.returns-else-day-days_before c).After-days_before) (few (goal.at.returns-else-day-days_before c).After-days_before) refl (rw c.days_before.ensures at c.if-day-days_before.false)
