-- Document 01, "Refusal numbers, tested in this order", for the calls that take the table.
use Rattle.std.specs.Prelude.{Bool, true, false, List, [], ◌∷◌, ℕ, leb, ltb, length, drop, None, Option, Some, Err, Ok}
use Rattle.octets.specs.Choice.{both, pick}
use Rattle.filter.specs.Filter.{matches_b}
use Rattle.filter.specs.declared.filter.Filter.{Filter}
use Rattle.record_write.specs.Layout.{bytes_of}
use Rattle.record.specs.declared.kinds.Record.{Record}
use Rattle.table.specs.Table.{count, held, age_of, sound_b}
use Rattle.clock.specs.Obeys.{clock_b}
use Rattle.clock.specs.declared.state.Clock.{Clock}
use Rattle.rows.specs.Reply.{done_b}
use Rattle.clock.specs.declared.state.Report.{Report}
use Rattle.clock.specs.Answers.{Answer}
use Rattle.clock.specs.declared.answers.Refusal.TheVariants.{ClockBroken, OutputShort, ReportRunning, SwitchedOff, TableNotSound, WriteLength}

-- a row: what must hold, and the refusal where it does not
pub record Row : Type 0 where
  pub holds : Bool
  pub refusal : Answer

abbrev pub row : Bool → Answer → Row
row b a = record { holds = b; refusal = a }

-- the first row that fails decides; none: done
unfoldable pub first_failed : List Row → Answer
first_failed [] = Ok tt
first_failed (r ∷ rs) = let rest = first_failed rs in pick r.holds rest r.refusal

-- of two answers in their order, the first that is a refusal
unfoldable pub then_of : Answer → Answer → Answer
then_of a b = pick (done_b a) b a

-- "its next record, if one is left, is held, matches and has bytes unsent (tested only by calls that take the table)":
-- the first of the held records from its age on has more bytes than were sent
abbrev pub unsent_b : ℕ → List Record → Bool
unsent_b sent [] = false
unsent_b sent (r ∷ l) = ltb sent (length (bytes_of r))

unfoldable pub left_b : List ℕ → Filter → Option (ℕ × ℕ) → Bool
left_b t f None = true
left_b t f (Some (number, sent)) =
    both (ltb (age_of t number) (count t))
    (both (matches_b f (count t) (age_of t number) number)
    (unsent_b sent (drop (age_of t number) (held t))))

unfoldable pub running_whole_b : List ℕ → Option Report → Bool
running_whole_b t None = true
running_whole_b t (Some r) = left_b t r.filter r.left

-- row 2 whole: the clock alone, and its report with the table
unfoldable pub whole_b : Clock → List ℕ → Bool
whole_b c t = both (clock_b c) (running_whole_b t c.running)

abbrev pub idle_b : Option Report → Bool
idle_b None = true
idle_b (Some r) = false

-- row 3: "output shorter than 20 bytes"
abbrev pub least_output : ℕ
least_output = 20

-- row 4: "control point write of 0 bytes or over 20"
abbrev pub most_write : ℕ
most_write = 20

-- rows 1, 2, 3: "log table not sound", "clock state breaks a rule above", "output shorter than 20 bytes"
unfoldable pub table_rows : Clock → List ℕ → Bool → List Row
table_rows c t room = row (sound_b t) (Err TableNotSound) ∷ row (whole_b c t) (Err ClockBroken) ∷ row room (Err OutputShort) ∷ []

-- rows 4, 5, 6: "control point write of 0 bytes or over 20", "indications off for that point", "a report is running"
unfoldable pub write_rows : ℕ → Bool → Bool → List Row
write_rows n on free = row (both (leb 1 n) (leb n most_write)) (Err WriteLength) ∷ row on (Err SwitchedOff) ∷ row free (Err ReportRunning) ∷ []
