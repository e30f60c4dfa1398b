-- A run over the logs of a season (change request E12): "one program over a concatenation of tables, each preceded by its size in four
-- bytes". An entry is a size with its table; here is what the run does at one of them, from its position, the totals so far and the
-- entry's bytes.
use Rattle.std.specs.Prelude.{Bool, true, false, List, ◌++◌, ℕ, ◌+◌, leb, eqb, length, drop}
use Rattle.std.specs.declared.ops.ControlFlow.{ControlFlow}
use Rattle.std.specs.declared.ops.ControlFlow.TheVariants.{Continue, Break}
use Rattle.octets.specs.Choice.{both, pick}
use Rattle.octets.specs.Numbers.{le32}
use Rattle.text.specs.Laid.{Filled, filled, laid}
use Rattle.table.specs.Table.{size_b, held, sound_b}
use Rattle.season_figures.specs.Figures.{nothing, sum_of, figures_in, in_widths}
use Rattle.season_figures.specs.declared.figures.Figures.{Figures}
use Rattle.season_text.specs.Lines.{table_line, refused_line, ended_line, total_line}
use Rattle.season_step.specs.declared.step.Progress.{Progress}
use Rattle.season_step.specs.declared.step.Run.{Run}

-- "its size in four bytes"
abbrev pub size_length : ℕ
size_length = 4

-- "a table after the 65,535th ends the run"
abbrev pub most_tables : ℕ
most_tables = 65535

-- a run before its first entry: the first position is 1
unfoldable pub beginning : Run
beginning = record { position = 1; totals = nothing }

-- how many bytes of a table follow an entry's first four: as many as they say, where that is a permitted size. None follow another size, nor
-- where the input ends before the fourth.
unfoldable pub table_bytes : List ℕ → ℕ
table_bytes head = pick (both (leb size_length (length head)) (size_b (le32 head 0))) (le32 head 0) 0

-- the entry is all there: a permitted size, and a table of that many bytes
unfoldable pub whole_b : List ℕ → Bool
whole_b entry = both (size_b (le32 entry 0)) (eqb (length entry) (size_length + le32 entry 0))

-- one step: the lines to write, whether the run goes on, the next entry's position, and the totals
pub record Stepped : Type 0 where
  pub text : List ℕ
  pub more : Bool
  pub position : ℕ
  pub totals : Figures

-- the run ends here with these lines
unfoldable pub ends_with : ℕ → Figures → List ℕ → Stepped
ends_with position totals text = record { text = text; more = false; position = position; totals = totals }

-- a table is taken: its line, and its figures added to the totals
unfoldable pub taken : ℕ → Figures → List ℕ → Stepped
taken position totals table =
    record {
      text = table_line position (figures_in (held table));
      more = true;
      position = position + 1;
      totals = in_widths (sum_of totals (figures_in (held table)));
    }

-- "A refused table is named by position, adds nothing and is passed over"
unfoldable pub passed_over : ℕ → Figures → Stepped
passed_over position totals = record { text = refused_line position; more = true; position = position + 1; totals = totals }

-- No byte of an entry: the input ended after a table. Otherwise "a size outside the permitted ones, input that stops inside a size or table,
-- or a table after the 65,535th ends the run with its position and the totals so far".
unfoldable pub step_of : ℕ → Figures → List ℕ → Stepped
step_of position totals entry =
    pick (eqb (length entry) 0)
    (ends_with position totals (total_line totals))
    (pick (both (leb position most_tables) (whole_b entry))
    (pick (sound_b (drop size_length entry))
    (taken position totals (drop size_length entry))
    (passed_over position totals))
    (ends_with position totals (ended_line position ++ total_line totals)))

-- the whole outcome of a step: its lines laid over the lent buffer from the start, the bytes after them as they were; and the rest
pub record Outcome : Type 0 where
  pub lines : Filled
  pub more : Bool
  pub position : ℕ
  pub totals : Figures

-- whether a run goes on, and where it stands
abbrev pub goes_on : ControlFlow Run Run → Bool
goes_on (Continue run) = true
goes_on (Break run) = false

abbrev pub stands : ControlFlow Run Run → Run
stands (Continue run) = run
stands (Break run) = run

abbrev pub outcome : Progress → List ℕ → Outcome
outcome s buffer =
    record { lines = filled s.len buffer; more = goes_on s.run; position = (stands s.run).position; totals = (stands s.run).totals }

unfoldable pub stepped : List ℕ → Stepped → Outcome
stepped buffer s = record { lines = laid buffer 0 s.text; more = s.more; position = s.position; totals = s.totals }
