-- A date and time as it is written (change request E4), `2025-05-08 06:13:20`. Text is ASCII: 48 is `0`, 45 is `-`, 32 a space, 58 is `:`, 63 is `?`.
use Rattle.std.specs.Prelude.{Option, Some, None, List, [], ◌∷◌, ◌++◌, ℕ, ◌/◌}
use Rattle.text.specs.Line.{decimal, two_digits}
use Rattle.calendar_dates.specs.declared.dates.Date.{Date}

unfoldable pub date_text : Date → List ℕ
date_text d =
    two_digits (d.year / 100) ++ (two_digits d.year
    ++ (45 ∷ two_digits d.month
    ++ (45 ∷ two_digits d.day
    ++ (32 ∷ two_digits d.hour
    ++ (58 ∷ two_digits d.minute
    ++ (58 ∷ two_digits d.second))))))

-- the same with a byte after it, a space or the line's end; `?` for a second that has no date
unfoldable pub dated_text : Option Date → ℕ → List ℕ
dated_text (Some d) after = date_text d ++ (after ∷ [])
dated_text None after = 63 ∷ after ∷ []

-- a number with a byte after it
unfoldable pub number_text : ℕ → ℕ → List ℕ
number_text n after = decimal n ++ (after ∷ [])
