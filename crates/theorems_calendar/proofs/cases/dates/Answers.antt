-- Each computed on the definitions.
use mathlib.Core.Path.{refl}
use Rattle.theorems_calendar.specs.Cases.{dated_open, reckoned_open}
use Rattle.theorems_calendar.proofs.cases.dates.Goals as goal

pub returns : goal.returns
unfolding dated_open reckoned_open
returns c =
    record {
      paper = refl;
      first = refl;
      first_base = refl;
      last = refl;
      after = refl;
      leap_day = refl;
      no_leap_day = refl;
      before_it = refl;
      paper_back = refl;
      last_back = refl;
      leap_back = refl;
      february_29 = refl;
      february_30 = refl;
      april_31 = refl;
      day_0 = refl;
      month_0 = refl;
      month_13 = refl;
      year_1999 = refl;
      year_2100 = refl;
      hour_24 = refl;
      minute_60 = refl;
      second_60 = refl;
    }
