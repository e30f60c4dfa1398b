-- The three ways of `step_of`: no byte left, an entry that can't be taken, a table.
use mathlib.Core.Path.{◌≡◌, sym, ap, ◌∙◌}
use mathlib.Core.List.{List, ◌++◌}
use Prim.Native.Nat.{ℕ, ◌-◌}
use lib.ListN.{length, take, drop, length-drop}
use lib.Seq.{take_all}
use Rattle.octets.specs.Choice.{pick}
use Rattle.text.proofs.LaidLaws.{end_of, laid_on}
use Rattle.table.specs.Table.{sound_b}
use Rattle.season_text.specs.Lines.{ended_line, total_line}
use Rattle.season_step.specs.Step.{ends_with, taken, passed_over, step_of, stepped}
use Rattle.season_text.proofs.LineLaws.{ended_short}
use Rattle.season_step.proofs.StepLaws.{outcome_is, whole_long, step_empty, step_late, step_partial, can, step_table}
use native.Mathlib.Omega.{arith}
use Rattle.season_step.proofs.step.step.Goals as goal
use Rattle.season_step.proofs.step.step.Goals.{then-run-gt-MOST_TABLES-via-then-run-gt-MOST_TABLES, then-run-gt-MOST_TABLES-via-else-run-gt-MOST_TABLES+then-not-whole}

pub returns-then-entry-eq0 : goal.returns-then-entry-eq0
unfolding ends_with
returns-then-entry-eq0 c =
    let a = c.args in
    outcome_is a.out.now _ _ (ends_with a.run.position a.run.totals (total_line a.run.totals)) c.put_total.ensures
    ∙ ap (stepped a.out.now) (sym (step_empty a.run.position a.run.totals a.entry.now c.if-entry-eq0.true))

pub put_total-requires-then-run-gt-MOST_TABLES : goal.put_total-requires-then-run-gt-MOST_TABLES
put_total-requires-then-run-gt-MOST_TABLES c =
    let a = c.args in
    omega (arith, end_of a.out.now (ended_line a.run.position) 0 c.put_ended-ended.ensures, ended_short a.run.position)

pub returns-then-run-gt-MOST_TABLES : goal.returns-then-run-gt-MOST_TABLES
unfolding ends_with
returns-then-run-gt-MOST_TABLES c =
    let a = c.args in
    let p = a.run.position in
    let f = a.run.totals in
    let t = a.entry.now in
    let line = laid_on a.out.now (ended_line p) 0 c.put_ended-ended.ensures (total_line f) (omega (arith, ended_short p)) in
    let cut : step_of p f t ≡ ends_with p f (ended_line p ++ total_line f) =
    elim c.then-run-gt-MOST_TABLES.branch [
      | then-run-gt-MOST_TABLES-via-then-run-gt-MOST_TABLES w ↦ step_late p f t c.if-entry-eq0.false w.if-run-gt-MOST_TABLES.true
      | then-run-gt-MOST_TABLES-via-else-run-gt-MOST_TABLES+then-not-whole w ↦
          step_partial p f t c.if-entry-eq0.false (sym w.whole.ensures ∙ w.if-not-whole.true)
    ] in
    outcome_is a.out.now _ _ (ends_with p f (ended_line p ++ total_line f)) (c.put_total-then-run-gt-MOST_TABLES.ensures ∙ line)
    ∙ ap (stepped a.out.now) (sym cut)

pub slice_bounds-table_step-count : goal.slice_bounds-table_step-count
slice_bounds-table_step-count c = whole_long c.args.entry.now (sym c.whole.ensures ∙ c.if-not-whole.false)

pub slice_bounds-table_step-start : goal.slice_bounds-table_step-start
slice_bounds-table_step-start c = omega (arith, whole_long c.args.entry.now (sym c.whole.ensures ∙ c.if-not-whole.false))

pub returns : goal.returns
returns c =
    let a = c.args in
    let p = a.run.position in
    let f = a.run.totals in
    let t = a.entry.now in
    let rest : take (length t - 4) (drop 4 t) ≡ drop 4 t = take_all (length t - 4) (drop 4 t) (omega (arith, length-drop 4 t)) in
    c.table_step.ensures
    ∙ ap (λ (x : List ℕ). stepped a.out.now (pick (sound_b x) (taken p f x) (passed_over p f))) rest
    ∙ ap (stepped a.out.now) (sym (step_table p f t c.if-entry-eq0.false (can p f t c.if-run-gt-MOST_TABLES.false (sym c.whole.ensures ∙ c.if-not-whole.false))))
