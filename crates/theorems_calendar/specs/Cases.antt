-- Dates and lines worked out by hand (change request E4), computed on the definitions that the promises cite.
use Rattle.std.specs.Prelude.{◌≡◌, Option, Some, None, List, [], ◌∷◌, ◌++◌, ℕ}
use Rattle.record.specs.Fields.{sequence_of, type_of, base_of}
use Rattle.record.specs.declared.kinds.Record.{Record}
use Rattle.record.specs.declared.kinds.Record.TheVariants.{TimeUpdate, TimeFault}
use Rattle.text.specs.Line.{digits_up_to, decimal, two_digits}
use Rattle.list_text.specs.Listing.{refused_line, head_line}
use Rattle.calendar_months.specs.Months.{leap_b, thirty_b, days_in, month_length, days_before}
use Rattle.calendar_dates.specs.Dates.{day_from, day_after, date_on, date_of_seconds, month_b, day_b, time_of_day_b, exists_b, seconds_to, seconds_of_date}
use Rattle.calendar_dates.specs.declared.dates.Date.{Date}
use Rattle.calendar_local.specs.Local.{in_zone, local_time, local_of, local_date}
use Rattle.calendar_text.specs.Written.{date_text, dated_text, number_text}
use Rattle.calendar_text.specs.Lines.{numbers_text, times_text, calendar_line}
use Rattle.calendar_list.specs.Calendar.{calendar_lines, calendar_of}
use Rattle.theorems_reports.specs.Open.{calls_open}
use Rattle.theorems_paper.specs.Twelve.{set_back_write}

abbrev date : ℕ → ℕ → ℕ → ℕ → ℕ → ℕ → Date
date year month day hour minute second =
    record { year = year; month = month; day = day; hour = hour; minute = minute; second = second }

-- the definitions laid open for the checker to compute
unfoldable pub dated_open : ℕ → Option Date
unfolding leap_b thirty_b days_in month_length day_from day_after date_on date_of_seconds
dated_open s = date_of_seconds s

unfoldable pub reckoned_open : Date → Option ℕ
unfolding leap_b thirty_b days_in month_length days_before month_b day_b time_of_day_b exists_b seconds_to seconds_of_date
reckoned_open d = seconds_of_date d

pub record Dates : Type 0 where
  -- the paper's time, and the ends of the years and of Base_Time's range
  pub paper : dated_open 800000000 ≡ Some (date 2025 5 8 6 13 20)
  pub first : dated_open 0 ≡ Some (date 2000 1 1 0 0 0)
  pub first_base : dated_open 631152000 ≡ Some (date 2020 1 1 0 0 0)
  pub last : dated_open 3155759999 ≡ Some (date 2099 12 31 23 59 59)
  pub after : dated_open 3155760000 ≡ None
  -- 2000 is a leap year, 2001 none
  pub leap_day : dated_open 5097600 ≡ Some (date 2000 2 29 0 0 0)
  pub no_leap_day : dated_open 36720000 ≡ Some (date 2001 3 1 0 0 0)
  pub before_it : dated_open 36719999 ≡ Some (date 2001 2 28 23 59 59)
  -- and back
  pub paper_back : reckoned_open (date 2025 5 8 6 13 20) ≡ Some 800000000
  pub last_back : reckoned_open (date 2099 12 31 23 59 59) ≡ Some 3155759999
  pub leap_back : reckoned_open (date 2000 2 29 0 0 0) ≡ Some 5097600
  -- dates that do not exist
  pub february_29 : reckoned_open (date 2001 2 29 0 0 0) ≡ None
  pub february_30 : reckoned_open (date 2000 2 30 0 0 0) ≡ None
  pub april_31 : reckoned_open (date 2025 4 31 0 0 0) ≡ None
  pub day_0 : reckoned_open (date 2025 5 0 0 0 0) ≡ None
  pub month_0 : reckoned_open (date 2025 0 8 0 0 0) ≡ None
  pub month_13 : reckoned_open (date 2025 13 8 0 0 0) ≡ None
  pub year_1999 : reckoned_open (date 1999 12 31 23 59 59) ≡ None
  pub year_2100 : reckoned_open (date 2100 1 1 0 0 0) ≡ None
  pub hour_24 : reckoned_open (date 2025 5 8 24 0 0) ≡ None
  pub minute_60 : reckoned_open (date 2025 5 8 6 60 0) ≡ None
  pub second_60 : reckoned_open (date 2025 5 8 6 13 60) ≡ None

-- a record's line, and a table's
unfoldable pub line_open : Record → List ℕ
unfolding dated_open digits_up_to decimal two_digits sequence_of type_of base_of in_zone local_time local_of local_date date_text dated_text number_text numbers_text times_text calendar_line
line_open r = calendar_line r

unfoldable pub calendar_open : List ℕ → List ℕ
unfolding line_open calls_open head_line calendar_lines calendar_of
calendar_open t = calendar_of t

-- an update with this time, zone and DST, and a fault
abbrev update : ℕ → ℕ → ℕ → ℕ → Record
update sequence base zone dst =
    TimeUpdate (record {
      sequence = sequence;
      status = 0x16;
      oldstatus = 0x16;
      faults = 0;
      zone = zone;
      dst = dst;
      source = 2;
      accuracy = 1;
      base = base;
      oldbase = 631152000;
    })

abbrev fault : Record
fault = TimeFault (record { sequence = 2; status = 0x19; oldstatus = 0x16; faults = 0; base = 800000000; oldbase = 800000000 })

-- `0 1 2025-05-08 06:13:20`, the space before its local time, and `2025-05-08 07:13:20` with the line's end
abbrev pub clock0 : List ℕ
clock0 = 48 ∷ 32 ∷ 49 ∷ 32 ∷ 50 ∷ 48 ∷ 50 ∷ 53 ∷ 45 ∷ 48 ∷ 53 ∷ 45 ∷ 48 ∷ 56 ∷ 32 ∷ 48 ∷ 54 ∷ 58 ∷ 49 ∷ 51 ∷ 58 ∷ 50 ∷ 48 ∷ 32 ∷ []

abbrev pub local0 : List ℕ
local0 = 50 ∷ 48 ∷ 50 ∷ 53 ∷ 45 ∷ 48 ∷ 53 ∷ 45 ∷ 48 ∷ 56 ∷ 32 ∷ 48 ∷ 55 ∷ 58 ∷ 49 ∷ 51 ∷ 58 ∷ 50 ∷ 48 ∷ 10 ∷ []

-- `1 1 2025-05-08 06:14:30 2025-05-08 07:14:30`
abbrev pub line1 : List ℕ
line1 =
    49 ∷ 32 ∷ 49 ∷ 32 ∷ 50 ∷ 48 ∷ 50 ∷ 53 ∷ 45 ∷ 48 ∷ 53 ∷ 45 ∷ 48 ∷ 56 ∷ 32 ∷ 48 ∷ 54 ∷ 58 ∷ 49 ∷ 52 ∷ 58 ∷ 51 ∷ 48 ∷ 32
    ∷ 50 ∷ 48 ∷ 50 ∷ 53 ∷ 45 ∷ 48 ∷ 53 ∷ 45 ∷ 48 ∷ 56 ∷ 32 ∷ 48 ∷ 55 ∷ 58 ∷ 49 ∷ 52 ∷ 58 ∷ 51 ∷ 48 ∷ 10 ∷ []

-- `?` and the line's end
abbrev pub unknown : List ℕ
unknown = 63 ∷ 10 ∷ []

-- `7 1 2099-12-31 23:59:59 `; the time again with the line's end
abbrev last7 : List ℕ
last7 = 55 ∷ 32 ∷ 49 ∷ 32 ∷ 50 ∷ 48 ∷ 57 ∷ 57 ∷ 45 ∷ 49 ∷ 50 ∷ 45 ∷ 51 ∷ 49 ∷ 32 ∷ 50 ∷ 51 ∷ 58 ∷ 53 ∷ 57 ∷ 58 ∷ 53 ∷ 57 ∷ 32 ∷ []

abbrev last_local : List ℕ
last_local = 50 ∷ 48 ∷ 57 ∷ 57 ∷ 45 ∷ 49 ∷ 50 ∷ 45 ∷ 51 ∷ 49 ∷ 32 ∷ 50 ∷ 51 ∷ 58 ∷ 53 ∷ 57 ∷ 58 ∷ 53 ∷ 57 ∷ 10 ∷ []

-- `8 1 2020-01-01 00:00:00 2019-12-31 12:00:00`
abbrev line8 : List ℕ
line8 =
    56 ∷ 32 ∷ 49 ∷ 32 ∷ 50 ∷ 48 ∷ 50 ∷ 48 ∷ 45 ∷ 48 ∷ 49 ∷ 45 ∷ 48 ∷ 49 ∷ 32 ∷ 48 ∷ 48 ∷ 58 ∷ 48 ∷ 48 ∷ 58 ∷ 48 ∷ 48 ∷ 32
    ∷ 50 ∷ 48 ∷ 49 ∷ 57 ∷ 45 ∷ 49 ∷ 50 ∷ 45 ∷ 51 ∷ 49 ∷ 32 ∷ 49 ∷ 50 ∷ 58 ∷ 48 ∷ 48 ∷ 58 ∷ 48 ∷ 48 ∷ 10 ∷ []

-- `2 0 2025-05-08 06:13:20 ?`
abbrev line2 : List ℕ
line2 = 50 ∷ 32 ∷ 48 ∷ 32 ∷ 50 ∷ 48 ∷ 50 ∷ 53 ∷ 45 ∷ 48 ∷ 53 ∷ 45 ∷ 48 ∷ 56 ∷ 32 ∷ 48 ∷ 54 ∷ 58 ∷ 49 ∷ 51 ∷ 58 ∷ 50 ∷ 48 ∷ 32 ∷ 63 ∷ 10 ∷ []

-- `records 2 next 2`
abbrev pub head : List ℕ
head = 114 ∷ 101 ∷ 99 ∷ 111 ∷ 114 ∷ 100 ∷ 115 ∷ 32 ∷ 50 ∷ 32 ∷ 110 ∷ 101 ∷ 120 ∷ 116 ∷ 32 ∷ 50 ∷ 10 ∷ []

pub record Lines : Type 0 where
  -- an hour east without DST, and UTC with an hour of it
  pub paper : line_open (update 0 800000000 4 0) ≡ clock0 ++ local0
  pub summer : line_open (update 0 800000000 0 4) ≡ clock0 ++ local0
  pub no_zone : line_open (update 0 800000000 128 0) ≡ clock0 ++ unknown
  pub no_dst : line_open (update 0 800000000 4 255) ≡ clock0 ++ unknown
  pub no_fields : line_open fault ≡ line2
  -- the last second, in UTC and a quarter hour east; the first, twelve hours west
  pub last : line_open (update 7 3155759999 0 0) ≡ last7 ++ last_local
  pub too_late : line_open (update 7 3155759999 1 0) ≡ last7 ++ unknown
  pub early : line_open (update 8 631152000 208 0) ≡ line8
  -- the table that the server's own calls leave in the paper's case 6, and inputs that are no table
  pub table : calendar_open set_back_write.table ≡ head ++ (clock0 ++ (local0 ++ line1))
  pub too_long : calendar_open (set_back_write.table ++ (10 ∷ [])) ≡ refused_line
  pub nothing : calendar_open [] ≡ refused_line
