-- A second of the years 2000 to 2099 and its date (change request E4): "Turning seconds to a date and back must lose nothing over the clock's whole
-- range." Seconds are counted from 2000-01-01 00:00:00 on, as Base_Time is, and each day has 86,400 of them.
use Rattle.std.specs.Prelude.{◌≡◌, Bool, true, false, Option, Some, None, ℕ, zero, suc, ◌+◌, ◌-◌, ◌*◌, ◌/◌, ◌%◌, ◌≤◌, ◌<◌, leb, ltb}
use Rattle.octets.specs.Choice.{both, pick}
use Rattle.rules.specs.Fields.{last_base_time, base_b}
use Rattle.calendar_months.specs.Months.{days_in, month_length, days_before}
use Rattle.calendar_dates.specs.declared.dates.Date.{Date}

-- a day of a month; months are counted from January 2000, which is month 0, days from 1
pub record MonthDay : Type 0 where
  pub month : ℕ
  pub day : ℕ

abbrev pub month_day : ℕ → ℕ → MonthDay
month_day month day = record { month = month; day = day }

-- the day that is `days` days after the first of month k: month by month its length is taken away while it fits, through n months. (The `let`
-- keeps the checker from going through months that `pick` passes over.)
unfoldable pub day_from : ℕ → ℕ → ℕ → MonthDay
day_from zero k days = month_day k (days + 1)
day_from (suc n) k days =
    let later = day_from n (suc k) (days - month_length k) in
    pick (ltb days (month_length k)) (month_day k (days + 1)) later

-- the day that is so many days after 2000-01-01
unfoldable pub day_after : ℕ → MonthDay
day_after days = day_from 1200 0 days

-- a day of a month, and a second of that day
unfoldable pub date_on : MonthDay → ℕ → Date
date_on d s =
    record {
      year = 2000 + d.month / 12;
      month = d.month % 12 + 1;
      day = d.day;
      hour = s / 3600;
      minute = s % 3600 / 60;
      second = s % 60;
    }

-- the date of a second; after 2099 there is none
unfoldable pub date_of_seconds : ℕ → Option Date
date_of_seconds s = pick (leb s last_base_time) (Some (date_on (day_after (s / 86400)) (s % 86400))) None

-- Does the date exist? A month of the years 2000 to 2099, a day of that month, a second of that day.
unfoldable pub month_b : Date → Bool
month_b d = both (both (leb 2000 d.year) (leb d.year 2099)) (both (leb 1 d.month) (leb d.month 12))

unfoldable pub day_b : Date → Bool
day_b d = both (leb 1 d.day) (leb d.day (days_in d.year d.month))

unfoldable pub time_of_day_b : Date → Bool
time_of_day_b d = both (leb d.hour 23) (both (leb d.minute 59) (leb d.second 59))

unfoldable pub exists_b : Date → Bool
exists_b d = both (month_b d) (both (day_b d) (time_of_day_b d))

-- how many months after January 2000
abbrev pub month_number : Date → ℕ
month_number d = 12 * (d.year - 2000) + (d.month - 1)

unfoldable pub seconds_to : Date → ℕ
seconds_to d =
    86400 * (days_before (month_number d) + (d.day - 1)) + (3600 * d.hour + (60 * d.minute + d.second))

-- the second of a date; a date that does not exist is refused
unfoldable pub seconds_of_date : Date → Option ℕ
seconds_of_date d = pick (exists_b d) (Some (seconds_to d)) None

-- Theorem Nothing lost
pub record NothingLost : Type 0 where
  -- every second of the years has a date, among them all of Base_Time's range
  pub every_second : (s : ℕ) → s ≤ last_base_time → (d : Date) × (date_of_seconds s ≡ Some d)
  pub every_base : (s : ℕ) → base_b s ≡ true → (d : Date) × (date_of_seconds s ≡ Some d)
  -- it turns back to that second, so no two seconds have one date
  pub there_and_back : (s : ℕ) (d : Date) → date_of_seconds s ≡ Some d → seconds_of_date d ≡ Some s
  pub one_second : (s t : ℕ) (d : Date) → date_of_seconds s ≡ Some d → date_of_seconds t ≡ Some d → s ≡ t
  -- every date of these years has a second
  pub every_date : (d : Date) → exists_b d ≡ true → (s : ℕ) × (seconds_of_date d ≡ Some s)
  -- that turns back to it, so no two dates have one second
  pub back_and_there : (s : ℕ) (d : Date) → seconds_of_date d ≡ Some s → date_of_seconds s ≡ Some d
  pub one_date : (s : ℕ) (d e : Date) → seconds_of_date d ≡ Some s → seconds_of_date e ≡ Some s → d ≡ e
  -- the day of the month is never 0, never past its month's end
  pub in_month : (s : ℕ) (d : Date) → date_of_seconds s ≡ Some d → (1 ≤ d.day) × (d.day ≤ days_in d.year d.month)
  -- what is not of these years has no date, what does not exist no second
  pub outside : (s : ℕ) → last_base_time < s → date_of_seconds s ≡ None
  pub no_such : (d : Date) → exists_b d ≡ false → seconds_of_date d ≡ None
