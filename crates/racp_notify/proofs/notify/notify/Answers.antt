-- By the rows, then what is said of the report that runs.
use mathlib.Core.Path.{◌≡◌, sym, ap, ◌∙◌}
use mathlib.Core.Bool.{true}
use lib.ListN.{length}
use Rattle.rows.specs.Reply.{done_b}
use Rattle.rows.proofs.RowLaws.{table_all, ok_done}
use Rattle.racp_notify.proofs.NotifyLaws.{tables, notify_stops, notify_idle, notify_said, Ready, ready}
use native.Mathlib.Omega.{arith}
use Rattle.std.proofs.Common.{rules, Err}
use Rattle.racp_notify.proofs.notify.notify.Goals as goal
use Rattle.racp_notify.proofs.notify.notify.Goals.{In_ok-table_rows, In-Some}

-- none of rows 1, 2, 3 failed
passed : (c : In_ok-table_rows) → let a = c.args in done_b (tables a.c.now a.t.now a.p a.out.now) ≡ true
passed c = ok_done _ _ (rw (← c.room.ensures) (sym c.table_rows.ensures ∙ c.in_ok-table_rows.was))

-- and a report runs
runs : (c : In-Some)
    → (let a = c.args in done_b (tables a.c.now a.t.now a.p a.out.now) ≡ true)
    → let a = c.args in
    Ready a.t.now a.p (length a.out.now) c.in-Some.report
runs c d = ready _ _ _ _ _ c.in-Some.is (table_all _ _ _ d)

pub returns-in_err-table_rows : goal.returns-in_err-table_rows
returns-in_err-table_rows c =
    let e : c.from_residual.result ≡ Err c.in_err-table_rows.field-0.0 = search rules in
    notify_stops _ _ _ _ _ _ (rw (← c.room.ensures) (sym c.table_rows.ensures ∙ c.in_err-table_rows.was)) e

pub returns-in_default : goal.returns-in_default
returns-in_default c = sym (notify_idle _ _ _ _ (passed (goal.at.returns-in_default c).In_ok-table_rows) c.in_default.is)

pub overflow_sub-p : goal.overflow_sub-p
overflow_sub-p c = let k = runs (goal.at.overflow_sub-p c).In-Some (passed (goal.at.overflow_sub-p c).In_ok-table_rows) in omega arith

pub say-requires : goal.say-requires
say-requires c = let k = runs (goal.at.say-requires c).In-Some (passed (goal.at.say-requires c).In_ok-table_rows) in (k.sound, omega arith, omega arith, omega arith, k.counter, k.left)

pub returns : goal.returns
returns c = c.say.ensures ∙ sym (notify_said _ _ _ _ _ c.in-Some.is (passed (goal.at.returns c).In_ok-table_rows))
