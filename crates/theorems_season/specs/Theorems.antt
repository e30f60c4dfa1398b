-- What is promised of a whole run over the logs of a season (change request E12): what it writes, of every input; that its sums are exact;
-- that it ends; and what each refusal and each ending leaves.
use Rattle.std.specs.Prelude.{◌≡◌, ◌⊎◌, Bool, true, false, List, [], ◌++◌, ℕ, ◌+◌, ◌≤◌, ◌<◌, length}
use Rattle.table.specs.Table.{sound_b}
use Rattle.season_figures.specs.Figures.{nothing, in_widths}
use Rattle.season_figures.specs.declared.figures.Figures.{Figures}
use Rattle.season_text.specs.Lines.{refused_line, ended_line, total_line}
use Rattle.season_step.specs.Step.{whole_b, Stepped, step_of}
use Rattle.theorems_season.specs.Run.{run_from, season_of, joined, all_whole_b, table_of, lines_from, totals_of, stops_b}

-- Theorem Prints. Of whole entries the run writes the tables' lines and the total. Of whole entries and something that can't be taken it writes
-- besides where it ended: "its position and the totals so far". The totals are the true sums, so no sum went round.
pub record Prints : Type 0 where
  pub whole : (es : List (List ℕ)) → all_whole_b es ≡ true → length es ≤ 65535 → season_of (joined es) ≡ lines_from 1 es ++ total_line (totals_of es)
  pub ended : (es : List (List ℕ)) (rest : List ℕ) → all_whole_b es ≡ true → length es ≤ 65535 → stops_b (length es) rest ≡ true
      → season_of (joined es ++ rest) ≡ lines_from 1 es ++ (ended_line (length es + 1) ++ total_line (totals_of es))

-- an input as Prints takes it apart: whole entries, and then nothing or something that can't be taken
pub record Parted (input : List ℕ) : Type 0 where
  pub entries : List (List ℕ)
  pub rest : List ℕ
  pub parted : input ≡ joined entries ++ rest
  pub whole : all_whole_b entries ≡ true
  pub few : length entries ≤ 65535
  pub ends : (rest ≡ []) ⊎ (stops_b (length entries) rest ≡ true)

-- Theorem Every input: Prints says what is written of any bytes.
abbrev pub EveryInput : Type 0
EveryInput = (input : List ℕ) → Parted input

-- figures as 65,535 tables can have them, of which each holds at most 1,023 records and none of these moves the clock by more than
-- 2,524,607,999 seconds: 32 bits hold the updates and the faults, 64 bits the seconds
pub record Fitting (f : Figures) : Type 0 where
  pub records : f.updates + f.faults ≤ 67042305
  pub seconds : f.forward + f.back ≤ 169255539474397695
  pub move : f.largest ≤ 2524607999
  pub widths : in_widths f ≡ f

-- Theorem Exact: the totals fit, so that what a run counts in those widths is what the tables come to.
abbrev pub Exact : Type 0
Exact = (es : List (List ℕ)) → length es ≤ 65535 → Fitting (totals_of es)

-- Theorem Ends: however many more steps are allowed, nothing more is written.
abbrev pub Ends : Type 0
Ends = (n : ℕ) (input : List ℕ) → run_from (65536 + n) 1 nothing input ≡ season_of input

-- a step that writes this, goes on or not, and leaves this position and these totals
abbrev pub leaving : List ℕ → Bool → ℕ → Figures → Stepped
leaving text more position totals = record { text = text; more = more; position = position; totals = totals }

-- Theorem Leaves: what a step leaves, at any position, with any totals and any entry.
pub record Leaves : Type 0 where
  -- where the run ends, position and totals are as they were
  pub ended : (position : ℕ) (totals : Figures) (entry : List ℕ) → (step_of position totals entry).more ≡ false
      → ((step_of position totals entry).position ≡ position) × ((step_of position totals entry).totals ≡ totals)
  -- a refused table adds nothing and is passed over
  pub refused : (position : ℕ) (totals : Figures) (entry : List ℕ) → position ≤ 65535 → whole_b entry ≡ true → sound_b (table_of entry) ≡ false
      → step_of position totals entry ≡ leaving (refused_line position) true (position + 1) totals
  -- where the run goes on, a table was taken or passed over, which is not after the 65,535th
  pub goes_on : (position : ℕ) (totals : Figures) (entry : List ℕ) → (step_of position totals entry).more ≡ true
      → (position ≤ 65535) × ((step_of position totals entry).position ≡ position + 1)
  -- the input ends after a table: the total alone
  pub empty : (position : ℕ) (totals : Figures) → step_of position totals [] ≡ leaving (total_line totals) false position totals
  -- an entry that is not all there, or one after the 65,535th: the ending's position and the total
  pub cut : (position : ℕ) (totals : Figures) (entry : List ℕ) → 1 ≤ length entry → (65535 < position) ⊎ (whole_b entry ≡ false)
      → step_of position totals entry ≡ leaving (ended_line position ++ total_line totals) false position totals
