-- The drivers' sheet: a line for each ear tag, with the stamps that both antennas noted, the seconds between them, the same stamps carried over
-- the clock changes logged after them, the seconds between those, and whether it was one beast. Text is ASCII: 10 ends a line, 32 is a space,
-- 45 is `-`, 58 is `:`, 124 is `|`.
use Rattle.std.specs.Prelude.{List, [], ◌∷◌, ◌++◌, ℕ, ◌+◌, ◌-◌, ◌/◌, ◌%◌, ℤ, pos, negsuc, Option, Some, None, Ok, Err, Result}
use Rattle.text.specs.Line.{decimal, two_digits}
use Rattle.carry.specs.Stamp.{carrying_number}
use Rattle.ramp.specs.Beast.{Verdict, verdict_number}
use Rattle.ramp.specs.declared.beast.Beasts.TheVariants.{One, Two}
use Rattle.ramp.specs.declared.beast.RampError.TheVariants.{WindowTooWide, LeftRefused, RightRefused}
use Rattle.day_sheet.specs.declared.sheet.Shown.{Shown}
use Rattle.day_sheet.specs.declared.sheet.Shown.TheVariants.{Nothing, At, Before, Refused}
use Rattle.day_sheet.specs.declared.sheet.Sight.{Sight}
use Rattle.carry.specs.declared.stamp.CarryError.{CarryError}
use Rattle.carry.specs.declared.stamp.CarryError.TheVariants.{FaultAmong, NotHeld, TableNotSound}

-- what an antenna that saw a tag has of it: the stamp that it noted, and what carrying made of it
abbrev pub seen : ℕ → Result ℤ CarryError → Option Sight
seen stamp carried = Some (record { stamp = stamp; carried = carried })

-- The time of day of a Base_Time, hh:mm:ss. Base_Time counts from a midnight, and a day has 86,400 seconds.
unfoldable pub time_of_day : ℕ → List ℕ
time_of_day base = two_digits (base / 3600 % 24) ++ (58 ∷ (two_digits (base / 60 % 60) ++ (58 ∷ two_digits (base % 60))))

-- what is shown of a stamp as it was noted, and of the stamp carried; "The result is signed", and a time before 2000 is no reader's
unfoldable pub noted_of : Option Sight → Shown
noted_of None = Nothing
noted_of (Some s) = At s.stamp

unfoldable pub signed_of : ℤ → Shown
signed_of (pos n) = At n
signed_of (negsuc n) = Before

unfoldable pub outcome_of : Result ℤ CarryError → Shown
outcome_of (Ok z) = signed_of z
outcome_of (Err TableNotSound) = Refused (carrying_number (Err TableNotSound))
outcome_of (Err NotHeld) = Refused (carrying_number (Err NotHeld))
outcome_of (Err FaultAmong) = Refused (carrying_number (Err FaultAmong))

unfoldable pub carried_of : Option Sight → Shown
carried_of None = Nothing
carried_of (Some s) = outcome_of s.carried

-- `before`
abbrev pub before_word : List ℕ
before_word = 98 ∷ 101 ∷ 102 ∷ 111 ∷ 114 ∷ 101 ∷ []

-- `refused `
abbrev pub refused_word : List ℕ
refused_word = 114 ∷ 101 ∷ 102 ∷ 117 ∷ 115 ∷ 101 ∷ 100 ∷ 32 ∷ []

unfoldable pub shown_text : Shown → List ℕ
shown_text Nothing = 45 ∷ []
shown_text (At n) = time_of_day n
shown_text Before = before_word
shown_text (Refused number) = refused_word ++ decimal number

-- the time in a column as a number, 0 where there is none
unfoldable pub seconds_in : Shown → ℕ
seconds_in Nothing = 0
seconds_in (At n) = n
seconds_in Before = 0
seconds_in (Refused number) = 0

-- the seconds between two times, either way round
unfoldable pub gap : ℕ → ℕ → ℕ
gap a b = (a - b) + (b - a)

unfoldable pub apart_text : Shown → Shown → List ℕ
apart_text (At a) (At b) = decimal (gap a b)
apart_text (At a) Nothing = 45 ∷ []
apart_text (At a) Before = 45 ∷ []
apart_text (At a) (Refused number) = 45 ∷ []
apart_text Nothing y = 45 ∷ []
apart_text Before y = 45 ∷ []
apart_text (Refused number) y = 45 ∷ []

-- left, right, and the seconds apart, a space before each
unfoldable pub pair_text : Shown → Shown → List ℕ
pair_text x y = 32 ∷ (shown_text x ++ (32 ∷ (shown_text y ++ (32 ∷ apart_text x y))))

-- `one`
abbrev pub one_word : List ℕ
one_word = 111 ∷ 110 ∷ 101 ∷ []

-- `two`
abbrev pub two_word : List ℕ
two_word = 116 ∷ 119 ∷ 111 ∷ []

-- `left `
abbrev pub left_word : List ℕ
left_word = 108 ∷ 101 ∷ 102 ∷ 116 ∷ 32 ∷ []

-- `right `
abbrev pub right_word : List ℕ
right_word = 114 ∷ 105 ∷ 103 ∷ 104 ∷ 116 ∷ 32 ∷ []

-- "one", "two", or "the side and number of the refusal"; 18 has no side
unfoldable pub verdict_text : Verdict → List ℕ
verdict_text (Ok One) = one_word
verdict_text (Ok Two) = two_word
verdict_text (Err WindowTooWide) = decimal (verdict_number (Err WindowTooWide))
verdict_text (Err (LeftRefused number)) = left_word ++ decimal number
verdict_text (Err (RightRefused number)) = right_word ++ decimal number

-- where an antenna missed the tag there is nothing to compare
unfoldable pub ruling_text : Option Verdict → List ℕ
ruling_text None = 45 ∷ []
ruling_text (Some v) = verdict_text v

-- a tag's line: the stamps as they were noted, ` |`, the stamps carried, ` | `, and one beast or two
unfoldable pub tag_line : ℕ → Option Sight → Option Sight → Option Verdict → List ℕ
tag_line tag left right ruling =
    decimal tag
    ++ (pair_text (noted_of left) (noted_of right)
    ++ (32 ∷ 124 ∷ (pair_text (carried_of left) (carried_of right)
    ++ (32 ∷ 124 ∷ 32 ∷ (ruling_text ruling
    ++ (10 ∷ []))))))

-- the line above them: `tag left right apart | carried left right apart | beasts`
abbrev pub title_line : List ℕ
title_line = 116 ∷ 97 ∷ 103 ∷ 32 ∷ 108 ∷ 101 ∷ 102 ∷ 116 ∷ 32 ∷ 114 ∷ 105 ∷ 103 ∷ 104 ∷ 116 ∷ 32 ∷ 97 ∷ 112 ∷ 97 ∷ 114 ∷ 116 ∷ 32 ∷ 124 ∷ 32 ∷ 99 ∷ 97 ∷ 114 ∷ 114 ∷ 105 ∷ 101 ∷ 100 ∷ 32 ∷ 108 ∷ 101 ∷ 102 ∷ 116 ∷ 32 ∷ 114 ∷ 105 ∷ 103 ∷ 104 ∷ 116 ∷ 32 ∷ 97 ∷ 112 ∷ 97 ∷ 114 ∷ 116 ∷ 32 ∷ 124 ∷ 32 ∷ 98 ∷ 101 ∷ 97 ∷ 115 ∷ 116 ∷ 115 ∷ 10 ∷ []
