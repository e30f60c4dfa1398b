-- A date that exists, as facts that omega reads; a second and its date turn into each other.
-- Assumes nothing.
use mathlib.Core.Path.{◌≡◌, ap, ◌∙◌}
use mathlib.Core.Bool.{true, false}
use Prim.Native.Nat.{ℕ, ◌+◌, ◌-◌, ◌*◌, ◌/◌, ◌%◌, ◌≤◌, ◌<◌}
use native.Mathlib.Omega.{arith}
use borrow.Author.Tests.{leb-true, le-leb, lt-leb}
use lib.Dec.{leb}
use Rattle.octets.specs.Choice.{both}
use Rattle.octets.proofs.Tests.{both_reads, both_no}
use Rattle.rules.specs.Fields.{last_base_time}
use Rattle.calendar_months.specs.Months.{days_in, month_length, days_before}
use Rattle.calendar_dates.specs.Dates.{MonthDay, month_day, day_after, date_on, date_of_seconds, month_b, day_b, time_of_day_b, exists_b, month_number, seconds_to, seconds_of_date}
use Rattle.calendar_dates.specs.declared.dates.Date.{Date}
use Rattle.std.proofs.Common.{Some, None}
use Rattle.calendar_dates.proofs.DayLaws.{LiesIn, near, days_next, found}

pub record Month (d : Date) : Type 0 where
  pub year_from : 2000 ≤ d.year
  pub year_to : d.year ≤ 2099
  pub month_from : 1 ≤ d.month
  pub month_to : d.month ≤ 12

pub record Day (d : Date) : Type 0 where
  pub from : 1 ≤ d.day
  pub to : d.day ≤ days_in d.year d.month

pub record Time (d : Date) : Type 0 where
  pub hour : d.hour ≤ 23
  pub minute : d.minute ≤ 59
  pub second : d.second ≤ 59

pub month_reads : (d : Date) → month_b d ≡ true → Month d
unfolding month_b
month_reads d h =
    let a = both_reads _ _ h in
    let y = both_reads _ _ a.0 in
    let m = both_reads _ _ a.1 in
    record {
      year_from = leb-true _ _ y.0;
      year_to = leb-true _ _ y.1;
      month_from = leb-true _ _ m.0;
      month_to = leb-true _ _ m.1;
    }

pub record Exists (d : Date) : Type 0 where
  pub of_month : Month d
  pub of_day : Day d
  pub of_time : Time d

pub exists_reads : (d : Date) → exists_b d ≡ true → Exists d
unfolding exists_b day_b time_of_day_b
exists_reads d h =
    let a = both_reads (month_b d) _ h in
    let b = both_reads _ _ a.1 in
    let e = both_reads _ _ b.0 in
    let f = both_reads _ _ b.1 in
    let g = both_reads _ _ f.1 in
    record {
      of_month = month_reads d a.0;
      of_day = record { from = leb-true _ _ e.0; to = leb-true _ _ e.1 };
      of_time = record { hour = leb-true _ _ f.0; minute = leb-true _ _ g.0; second = leb-true _ _ g.1 };
    }

pub exists_makes : (d : Date) → Exists d → exists_b d ≡ true
unfolding exists_b month_b day_b time_of_day_b
exists_makes d e =
    let m = e.of_month in
    let y = e.of_day in
    let t = e.of_time in
    simp (
      le-leb _ _ m.year_from,
      le-leb _ _ m.year_to,
      le-leb _ _ m.month_from,
      le-leb _ _ m.month_to,
      le-leb _ _ y.from,
      le-leb _ _ y.to,
      le-leb _ _ t.hour,
      le-leb _ _ t.minute,
      le-leb _ _ t.second,
    )

-- the month's number says which month of which year it is
module _ (d : Date) (m : Month d) where
  pub number_small : month_number d < 1200
  number_small = omega arith

  pub number_year : 2000 + month_number d / 12 ≡ d.year
  number_year = omega arith

  pub number_month : month_number d % 12 + 1 ≡ d.month
  number_month = omega arith

  pub number_length : month_length (month_number d) ≡ days_in d.year d.month
  unfolding month_length
  number_length = rw (number_year, number_month)

-- `exists` step by step: no month of these years; else the day by the step of the table there
pub no_month : (d : Date) → month_b d ≡ false → exists_b d ≡ false
unfolding exists_b
no_month d h = both_no (month_b d) _ h

module _ (d : Date) (m : month_b d ≡ true) where
  pub step_length : {k after before : ℕ} → k ≡ month_number d → after ≡ days_before (k + 1) → before ≡ days_before k
      → after - before ≡ days_in d.year d.month
  step_length {k} e a b =
      let long : month_length k ≡ days_in d.year d.month = ap month_length e ∙ number_length d (month_reads d m) in
      omega (arith, a, b, long, days_next k)

  pub exists_by_length : {n : ℕ} → n ≡ days_in d.year d.month → both (both (leb 1 d.day) (leb d.day n)) (time_of_day_b d) ≡ exists_b d
  unfolding exists_b day_b
  exists_by_length e = rw (e, m)

pub dated_in : (s : ℕ) → s ≤ last_base_time → date_of_seconds s ≡ Some (date_on (day_after (s / 86400)) (s % 86400))
unfolding date_of_seconds
dated_in s h = rw (le-leb s last_base_time h)

pub dated_outside : (s : ℕ) → last_base_time < s → date_of_seconds s ≡ None
unfolding date_of_seconds
dated_outside s h = rw (lt-leb s last_base_time h)

pub reckoned : (d : Date) → exists_b d ≡ true → seconds_of_date d ≡ Some (seconds_to d)
unfolding seconds_of_date
reckoned d h = rw h

pub no_such_date : (d : Date) → exists_b d ≡ false → seconds_of_date d ≡ None
unfolding seconds_of_date
no_such_date d h = rw h

-- hours, minutes and seconds make up the rest of a day
rest_again : (r : ℕ) → 3600 * (r / 3600) + (60 * (r % 3600 / 60) + r % 60) ≡ r
rest_again r = omega arith

number_again : (k : ℕ) → 12 * (2000 + k / 12 - 2000) + (k % 12 + 1 - 1) ≡ k
number_again k = omega arith

seconds_again : (s m n r : ℕ) → m ≡ n → n ≤ s / 86400 → r ≡ s % 86400 → 86400 * (m + (s / 86400 - n + 1 - 1)) + r ≡ s
seconds_again s m n r e h f = omega arith

-- a second s of the years, and the month k in which its day lies
module _ (s k : ℕ) (few : s ≤ last_base_time) (h : k < 1200) (l : LiesIn (s / 86400) k) where
  abbrev pub its_date : Date
  its_date = date_on (month_day k (s / 86400 - days_before k + 1)) (s % 86400)

  pub dated : date_of_seconds s ≡ Some its_date
  dated =
      dated_in s few ∙ ap (λ (m : MonthDay). Some (date_on m (s % 86400))) (found (s / 86400) k h l.from l.before)

  day_of_month : s / 86400 - days_before k < month_length k
  day_of_month = omega (arith, days_next k)

  pub date_exists : Exists its_date
  unfolding date_on month_length
  date_exists =
      record {
        of_month = record { year_from = omega arith; year_to = omega arith; month_from = omega arith; month_to = omega arith };
        of_day = record { from = omega arith; to = omega (arith, day_of_month) };
        of_time = record { hour = omega arith; minute = omega arith; second = omega arith };
      }

  pub date_back : seconds_to its_date ≡ s
  unfolding seconds_to date_on
  date_back =
      seconds_again s _ (days_before k) _ (ap days_before (number_again k)) l.from (rest_again (s % 86400))

-- the fields of a date make it
date_is : (d : Date) {year month day hour minute second : ℕ} → year ≡ d.year → month ≡ d.month → day ≡ d.day → hour ≡ d.hour → minute ≡ d.minute
    → second ≡ d.second → record { year = year; month = month; day = day; hour = hour; minute = minute; second = second } ≡ d
date_is d a b e f g h = rw (a, b, e, f, g, h)

-- a date that exists, and its month's number
module _ (d : Date) (e : Exists d) where
  days : days_before (month_number d) + (d.day - 1) < days_before (month_number d + 1)
  days = omega (arith, e.of_day.from, e.of_day.to, number_length d e.of_month, days_next (month_number d))

  day_back : seconds_to d / 86400 ≡ days_before (month_number d) + (d.day - 1)
  unfolding seconds_to
  day_back = omega (arith, e.of_time)

  rest_back : seconds_to d % 86400 ≡ 3600 * d.hour + (60 * d.minute + d.second)
  unfolding seconds_to
  rest_back = omega (arith, e.of_time)

  pub seconds_in_lem : seconds_to d ≤ last_base_time
  seconds_in_lem =
      omega (arith, day_back, days, (near (month_number d + 1) (omega (arith, number_small d e.of_month))).within)

  lies : LiesIn (seconds_to d / 86400) (month_number d)
  lies = record { from = omega (arith, day_back); before = omega (arith, day_back, days) }

  pub seconds_back : date_of_seconds (seconds_to d) ≡ Some d
  unfolding date_on
  seconds_back =
      let k = month_number d in
      let m = e.of_month in
      let t = e.of_time in
      let r = rest_back in
      dated (seconds_to d) k seconds_in_lem (number_small d m) lies
      ∙ ap Some
      (date_is d (number_year d m) (number_month d m) (omega (arith, day_back, e.of_day.from)) (omega (arith, r, t)) (omega (arith, r, t)) (omega (arith, r, t)))
