-- What a client reads of the three characteristics (document 002, Sections 3.1 to 3.3), for our feature bits: document 01 has "time change
-- logging and epoch 2000" on, and E2E-CRC, second fractions, drift tracking, user timeline and displayed formats off.
use Rattle.std.specs.Prelude.{List, [], ◌∷◌, ◌++◌, ℕ, leb, length, Result, Err, Ok}
use Rattle.octets.specs.Choice.{pick}
use Rattle.octets.specs.Numbers.{bytes2, bytes4}
use Rattle.octets.specs.Parts.{over}
use Rattle.table.specs.Table.{next}
use Rattle.clock.specs.declared.state.Clock.{Clock}
use Rattle.rows.specs.Reply.{Outcome, done_b, refused, answered}
use Rattle.rows.specs.Rows.{least_output, first_failed, table_rows}
use Rattle.clock.specs.Answers.{Answer, answer_in, len_in}
use Rattle.clock.specs.declared.answers.Refusal.{Refusal}
use Rattle.clock.specs.declared.answers.Refusal.TheVariants.{OutputShort}

-- Table 3.2: E2E_CRC, which is 0xFFFF "if the Server does not support the E2E-CRC feature" (Section 3.1.1.1), and DT_Features: bit 1 time
-- change logging, bit 10 epoch 2000
abbrev pub feature_bytes : List ℕ
feature_bytes = 0xff ∷ 0xff ∷ 0x02 ∷ 0x04 ∷ []

-- Table 3.4: RTC_Resolution, which is 0xFFFF for a clock of whole seconds (Section 3.2.1.2), and Non_Logged_Time_Adjustment_Limit: "The
-- non-logged limit is 0"
abbrev pub parameters_bytes : List ℕ
parameters_bytes = 0xff ∷ 0xff ∷ 0 ∷ 0 ∷ []

-- Table 3.6: Base_Time 4, Time_Zone 1, DST_Offset 1, DT_Status 2, Next_Sequence_Number 2
unfoldable pub device_time_bytes : Clock → ℕ → List ℕ
device_time_bytes c n = bytes4 c.time.base ++ (c.time.zone ∷ c.time.dst ∷ (bytes2 c.time.status ++ bytes2 n))

-- rows 1, 2, 3; clock and table stay
unfoldable pub device_time_of : Clock → List ℕ → List ℕ → Outcome
device_time_of c t o =
    let a = first_failed (table_rows c t (leb least_output (length o))) in
    pick (done_b a) (answered c t (device_time_bytes c (next t)) o) (refused a c t o)

-- a value that hangs on no clock: the answer, and so many bytes of the output are the value
pub record Value : Type 0 where
  pub answer : Answer
  pub len : ℕ

-- these, and the output after it
pub record Told : Type 0 where
  pub value : Value
  pub output : List ℕ

abbrev pub told : Value → List ℕ → Told
told v o = record { value = v; output = o }

abbrev pub value : Answer → ℕ → Value
value a n = record { answer = a; len = n }

-- how many bytes the value has, or a refusal, which has none
abbrev pub value_by : Result ℕ Refusal → Value
value_by r = value (answer_in r) (len_in r)

-- row 3: "output shorter than 20 bytes"; "output past a response .. keeps its old bytes"
unfoldable pub told_of : List ℕ → List ℕ → Told
told_of v o = pick (leb least_output (length o)) (told (value (Ok tt) (length v)) (over o 0 v)) (told (value (Err OutputShort) 0) o)

unfoldable pub feature_of : List ℕ → Told
feature_of o = told_of feature_bytes o

unfoldable pub parameters_of : List ℕ → Told
parameters_of o = told_of parameters_bytes o
