-- What the dates program prints (change request E4): for each Base_Time its date, and the seconds that this date turns back to,
-- `2025-05-08 06:13:20 800000000`; `?` past the end of 2099. 32 is a space, 10 the line's end.
use Rattle.std.specs.Prelude.{None, List, ◌++◌, ℕ, leb}
use Rattle.octets.specs.Choice.{pick}
use Rattle.rules.specs.Fields.{last_base_time}
use Rattle.calendar_dates.specs.Dates.{date_of_seconds}
use Rattle.calendar_text.specs.Written.{dated_text, number_text}

-- what the date turns back to is the second itself
unfoldable pub moment_line : ℕ → List ℕ
moment_line s = pick (leb s last_base_time) (dated_text (date_of_seconds s) 32 ++ number_text s 10) (dated_text None 10)
