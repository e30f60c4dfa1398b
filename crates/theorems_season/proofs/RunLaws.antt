-- Runs of several steps: more steps than enough write nothing more (theorem Ends); whole entries are taken one after the other, and the end of
-- the input or what can't be taken ends the run (theorem Prints).
-- Assumes nothing.
use mathlib.Core.Path.{◌≡◌, refl, sym, ap, ◌∙◌}
use mathlib.Core.Bool.{Bool, true, false}
use mathlib.Core.List.{List, [], ◌∷◌, ◌++◌, append-nil, append_assoc}
use Prim.Native.Nat.{ℕ, zero, suc, ◌+◌, ◌*◌, ◌-◌, ◌≤◌}
use native.Mathlib.Nat.{add-zero, add-suc}
use native.Mathlib.Omega.{arith}
use lib.ListN.{length, drop}
use lib.Seq.{drop-append_seam}
use Rattle.octets.specs.Choice.{pick}
use Rattle.octets.proofs.Tests.{both_reads}
use Rattle.record.specs.declared.kinds.Record.{Record}
use Rattle.table.specs.Table.{held, sound_b}
use Rattle.season_figures.specs.Figures.{nothing, figures_in}
use Rattle.season_figures.specs.declared.figures.Figures.{Figures}
use Rattle.season_text.specs.Lines.{table_line, refused_line, ended_line, total_line}
use Rattle.season_step.specs.Step.{whole_b, Stepped, taken, step_of}
use Rattle.season_step.proofs.StepLaws.{step_more}
use Rattle.theorems_season.specs.Run.{entry_in, run_from, season_of, joined, all_whole_b, table_of, line_of, lines_from, added_by, records_in, totals_of, stops_b}
use Rattle.theorems_season.specs.Theorems.{Prints, Ends, leaving}
use Rattle.theorems_season.proofs.StepLaws.{refused, sound, cut, empty}
use Rattle.theorems_season.proofs.TotalLaws.{Kept, none_kept, append_kept, added_kept, added_sound, added_refused}
use Rattle.theorems_season.proofs.EntryLaws.{entry_first, entry_none, entry_some, stops_reads}

-- two runs write the same where they do after a step that goes on
module _ (k m position : ℕ) (totals : Figures) (input : List ℕ) where
  abbrev first : Stepped
  first = step_of position totals (entry_in input)

  abbrev left : List ℕ
  left = drop (length (entry_in input)) input

  same_after : (first.more ≡ true → run_from k first.position first.totals left ≡ run_from m first.position first.totals left)
      → run_from (suc k) position totals input ≡ run_from (suc m) position totals input
  unfolding run_from
  same_after h = ap (λ (l : List ℕ). first.text ++ l) (go first.more refl)
    where
      go : (b : Bool) → first.more ≡ b
          → pick b (run_from k first.position first.totals left) [] ≡ pick b (run_from m first.position first.totals left) []
      go true e = h e
      go false e = refl

-- steps enough to pass position 65,536, which no run does
enough : (k m position : ℕ) (totals : Figures) (input : List ℕ) → 65537 ≤ position + k → 65537 ≤ position + m → position ≤ 65536
    → run_from k position totals input ≡ run_from m position totals input
enough zero m p f i h g b = absurd (omega arith)
enough (suc k) zero p f i h g b = absurd (omega arith)
enough (suc k) (suc m) p f i h g b =
    same_after k m p f i (λ e. let on = step_more p f (entry_in i) e in enough k m _ _ _ (omega arith) (omega arith) (omega arith))

pub ends : Ends
unfolding season_of
ends n input = enough _ _ 1 nothing input (omega arith) (omega arith) (omega arith)

-- a whole entry in front of an input, not after the 65,535th, when the records l were taken before it
module _ (position n : ℕ) (l : List Record) (entry : List ℕ) (w : whole_b entry ≡ true) (h : position ≤ 65535) (k : Kept n l)
    (few : n + 1023 ≤ 67042305) where
  whole_step : step_of position (figures_in l) entry
      ≡ leaving (line_of position (table_of entry)) true (position + 1) (figures_in (l ++ added_by (table_of entry)))
  unfolding line_of taken
  whole_step = go (sound_b (table_of entry)) refl
    where
      go : (b : Bool) → sound_b (table_of entry) ≡ b → step_of position (figures_in l) entry
          ≡ leaving (pick b (table_line position (figures_in (held (table_of entry)))) (refused_line position)) true (position + 1)
          (figures_in (l ++ added_by (table_of entry)))
      go true s = sound position (figures_in l) entry h w s
          ∙ ap (leaving (table_line position (figures_in (held (table_of entry)))) true (position + 1)) (added_sound (table_of entry) l n s k few)
      go false s = refused position (figures_in l) entry h w s
          ∙ ap (leaving (refused_line position) true (position + 1)) (added_refused (table_of entry) l s)

  run_whole : (steps : ℕ) (rest : List ℕ) → run_from (suc steps) position (figures_in l) (entry ++ rest)
      ≡ line_of position (table_of entry) ++ run_from steps (position + 1) (figures_in (l ++ added_by (table_of entry))) rest
  unfolding run_from
  run_whole steps rest = rw (entry_first entry rest w, whole_step, drop-append_seam entry rest)

-- whole entries in front of an input
run_entries : (es : List (List ℕ)) (steps position n : ℕ) (l : List Record) (rest : List ℕ) → all_whole_b es ≡ true
    → position + length es ≤ 65536 → Kept n l → n + 1023 * length es ≤ 67042305
    → run_from (steps + length es) position (figures_in l) (joined es ++ rest)
    ≡ lines_from position es ++ run_from steps (position + length es) (figures_in (l ++ records_in es)) rest
unfolding all_whole_b joined lines_from records_in
run_entries [] steps p n l rest w h k few = rw (add-zero steps, add-zero p, append-nil l)
run_entries (e ∷ es) steps p n l rest w h k few =
    let b = both_reads (whole_b e) (all_whole_b es) w in
    let t = table_of e in
    let kept = append_kept n 1023 l (added_by t) k (added_kept t) in
    let turn = run_whole p n l e b.0 (omega arith) k (omega arith) (steps + length es) (joined es ++ rest) in
    let turns = run_entries es steps (p + 1) (n + 1023) (l ++ added_by t) rest b.1 (omega arith) kept (omega arith) in
    let past : p + 1 + length es ≡ p + suc (length es) = omega arith in
    rw (add-suc steps (length es), append_assoc e (joined es) rest, turn, turns, past, append_assoc l (added_by t) (records_in es))
    (sym (append_assoc (line_of p t) (lines_from (p + 1) es) _))

-- the input ended; and it did not, but what is left can't be taken
run_empty : (k position : ℕ) (totals : Figures) → run_from (suc k) position totals [] ≡ total_line totals
unfolding run_from
run_empty k position totals = rw (entry_none, empty position totals) (append-nil (total_line totals))

run_stops : (k n : ℕ) (totals : Figures) (rest : List ℕ) → stops_b n rest ≡ true
    → run_from (suc k) (n + 1) totals rest ≡ ended_line (n + 1) ++ total_line totals
unfolding run_from
run_stops k n totals rest h =
    let s = stops_reads n rest h in
    rw (cut (n + 1) totals (entry_in rest) (entry_some rest s.some) s.why) (append-nil _)

-- 65,536 steps: one for each entry, and at least one more
module _ (es : List (List ℕ)) (w : all_whole_b es ≡ true) (few : length es ≤ 65535) where
  season_entries : (rest : List ℕ) → season_of (joined es ++ rest)
      ≡ lines_from 1 es ++ run_from (suc (65535 - length es)) (length es + 1) (totals_of es) rest
  unfolding season_of totals_of figures_in
  season_entries rest =
      let steps : 65536 ≡ suc (65535 - length es) + length es = omega arith in
      let past : 1 + length es ≡ length es + 1 = omega arith in
      ap (λ (k : ℕ). run_from k 1 nothing (joined es ++ rest)) steps
      ∙ run_entries es (suc (65535 - length es)) 1 0 [] rest w (omega arith) none_kept (omega arith)
      ∙ rw past

  whole : season_of (joined es) ≡ lines_from 1 es ++ total_line (totals_of es)
  whole =
      ap season_of (sym (append-nil (joined es)))
      ∙ season_entries []
      ∙ ap (λ (t : List ℕ). lines_from 1 es ++ t) (run_empty (65535 - length es) (length es + 1) (totals_of es))

  ended : (rest : List ℕ) → stops_b (length es) rest ≡ true
      → season_of (joined es ++ rest) ≡ lines_from 1 es ++ (ended_line (length es + 1) ++ total_line (totals_of es))
  ended rest s =
      season_entries rest
      ∙ ap (λ (t : List ℕ). lines_from 1 es ++ t) (run_stops (65535 - length es) (length es) (totals_of es) rest s)

pub prints : Prints
prints = record { whole = λ es w few. whole es w (omega arith); ended = λ es rest w few. ended es w (omega arith) rest }
