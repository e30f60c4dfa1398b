-- The paper's number and values for each answer of the server (document 01, "Refusal numbers, tested in this order").
use Rattle.std.specs.Prelude.{ℕ, Result, Err, Ok}
use Rattle.clock.specs.declared.answers.Refusal.{Refusal}
use Rattle.clock.specs.declared.answers.Refusal.TheVariants.{ClockBroken, NothingRunning, OutputShort, PastTheEnd, ReportRunning, SwitchedOff, TableNotSound, WriteLength}

-- what a call answers: done, or a refusal
abbrev pub Answer : Type 0
Answer = Result (Unit {0}) Refusal

-- of a call that answers how many bytes it wrote: what it answers, and how many they are, none of a refusal
abbrev pub answer_in : Result ℕ Refusal → Answer
answer_in (Ok n) = Ok tt
answer_in (Err why) = Err why

abbrev pub len_in : Result ℕ Refusal → ℕ
len_in (Ok n) = n
len_in (Err why) = 0

-- "0 means done"; the others by the table's rows 1 to 8
unfoldable pub number_of : Answer → ℕ
number_of (Ok done) = 0
number_of (Err TableNotSound) = 1
number_of (Err ClockBroken) = 2
number_of (Err OutputShort) = 3
number_of (Err WriteLength) = 4
number_of (Err SwitchedOff) = 5
number_of (Err ReportRunning) = 6
number_of (Err PastTheEnd) = 7
number_of (Err NothingRunning) = 8

-- the table's column "Answer": ATT error 0x0D, 0xFD, 0xFE for 4, 5, 6; the others are "number only", here 0
unfoldable pub att_error_of : Answer → ℕ
att_error_of (Ok done) = 0
att_error_of (Err TableNotSound) = 0
att_error_of (Err ClockBroken) = 0
att_error_of (Err OutputShort) = 0
att_error_of (Err WriteLength) = 0x0d
att_error_of (Err SwitchedOff) = 0xfd
att_error_of (Err ReportRunning) = 0xfe
att_error_of (Err PastTheEnd) = 0
att_error_of (Err NothingRunning) = 0
