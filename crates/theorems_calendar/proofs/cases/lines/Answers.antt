-- Each computed on the definitions.
use mathlib.Core.Path.{refl}
use Rattle.theorems_paper.specs.Twelve.{set_back_write}
use Rattle.theorems_calendar.specs.Cases.{line_open, calendar_open}
use Rattle.theorems_calendar.proofs.cases.lines.Goals as goal

pub returns : goal.returns
unfolding line_open calendar_open set_back_write
returns c =
    record {
      paper = refl;
      summer = refl;
      no_zone = refl;
      no_dst = refl;
      no_fields = refl;
      last = refl;
      too_late = refl;
      early = refl;
      table = refl;
      too_long = refl;
      nothing = refl;
    }
