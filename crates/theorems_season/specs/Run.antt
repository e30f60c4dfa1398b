-- The whole run over the logs of a season (change request E12): "one program over a concatenation of tables, each preceded by its size in four
-- bytes". First the run as its step, one entry of the input after the other; then what a driver says of it, without steps.
use Rattle.std.specs.Prelude.{Bool, true, not, List, [], ◌∷◌, ◌++◌, ℕ, zero, suc, ◌+◌, leb, length, take, drop}
use Rattle.octets.specs.Choice.{both, either, pick}
use Rattle.record.specs.declared.kinds.Record.{Record}
use Rattle.table.specs.Table.{held, sound_b}
use Rattle.season_figures.specs.Figures.{nothing, figures_in}
use Rattle.season_figures.specs.declared.figures.Figures.{Figures}
use Rattle.season_text.specs.Lines.{table_line, refused_line}
use Rattle.season_step.specs.Step.{size_length, most_tables, table_bytes, whole_b, step_of}

-- the entry with which an input begins: four bytes, and as many more as they ask for, as far as the input has them
unfoldable pub entry_in : List ℕ → List ℕ
entry_in input = take (size_length + table_bytes (take size_length input)) input

-- at most k steps over an input, from a position and totals on: what they write, one after the other. (The `let`s keep the checker from
-- working out what `pick` passes over.)
unfoldable pub run_from : ℕ → ℕ → Figures → List ℕ → List ℕ
run_from zero position totals input = []
run_from (suc k) position totals input =
    let entry = entry_in input in
    let s = step_of position totals entry in
    let rest = run_from k s.position s.totals (drop (length entry) input) in
    s.text ++ pick s.more rest []

-- what the program writes: never more than 65,536 steps (theorem Ends)
unfoldable pub season_of : List ℕ → List ℕ
season_of input = run_from 65536 1 nothing input

-- entries in a row, as they stand in the input
unfoldable pub joined : List (List ℕ) → List ℕ
joined [] = []
joined (e ∷ es) = e ++ joined es

-- every entry is all there
unfoldable pub all_whole_b : List (List ℕ) → Bool
all_whole_b [] = true
all_whole_b (e ∷ es) = both (whole_b e) (all_whole_b es)

-- an entry's table: what follows its size
abbrev pub table_of : List ℕ → List ℕ
table_of entry = drop size_length entry

-- a table's line: its figures where it is sound; "A refused table is named by position"
unfoldable pub line_of : ℕ → List ℕ → List ℕ
line_of position table = pick (sound_b table) (table_line position (figures_in (held table))) (refused_line position)

-- the lines of entries in a row, from a position on
unfoldable pub lines_from : ℕ → List (List ℕ) → List ℕ
lines_from position [] = []
lines_from position (e ∷ es) = line_of position (table_of e) ++ lines_from (position + 1) es

-- the records that a table adds: those that it holds, where it is sound; a refused table "adds nothing and is passed over"
unfoldable pub added_by : List ℕ → List Record
added_by table = pick (sound_b table) (held table) []

-- all records that the tables of entries in a row add, in order
unfoldable pub records_in : List (List ℕ) → List Record
records_in [] = []
records_in (e ∷ es) = added_by (table_of e) ++ records_in es

-- the figures "in total .. all exact": sums over all these records, of numbers that have no width
unfoldable pub totals_of : List (List ℕ) → Figures
totals_of es = figures_in (records_in es)

-- After n entries something is left that can't be taken: it is "a table after the 65,535th", or it does not begin with a whole entry ("a size
-- outside the permitted ones, input that stops inside a size or table").
unfoldable pub stops_b : ℕ → List ℕ → Bool
stops_b n rest = both (leb 1 (length rest)) (either (leb most_tables n) (not (whole_b (entry_in rest))))
