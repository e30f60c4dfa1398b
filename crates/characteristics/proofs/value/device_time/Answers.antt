-- By the rows, then the ten bytes.
use mathlib.Core.Path.{◌≡◌, sym, ◌∙◌}
use mathlib.Core.Bool.{true}
use borrow.Author.Tests.{leb-true}
use lib.Dec.{leb}
use lib.ListN.{length}
use Rattle.rows.specs.Reply.{done_b, answered}
use Rattle.rows.specs.Rows.{first_failed, table_rows}
use Rattle.rows.proofs.RowLaws.{TableRows, table_all, ok_done}
use Rattle.characteristics.specs.Value.{device_time_bytes}
use Rattle.characteristics.proofs.ValueLaws.{device_time_stops, device_time_done}
use native.Mathlib.Omega.{arith}
use Rattle.std.proofs.Common.{rules, Err}
use Rattle.characteristics.proofs.value.device_time.Goals as goal
use Rattle.characteristics.proofs.value.device_time.Goals.{In_ok-table_rows}

passed : (c : In_ok-table_rows)
    → let a = c.args in
    done_b (first_failed (table_rows a.c a.t.now (leb 20 (length a.out.now)))) ≡ true
passed c = ok_done _ _ (sym c.table_rows.ensures ∙ c.in_ok-table_rows.was)

held : (c : In_ok-table_rows) → let a = c.args in TableRows a.c a.t.now (leb 20 (length a.out.now))
held c = table_all _ _ _ (passed c)

pub returns-in_err-table_rows : goal.returns-in_err-table_rows
returns-in_err-table_rows c =
    let e : c.from_residual.result ≡ Err c.in_err-table_rows.field-0.0 = search rules in
    device_time_stops _ _ _ _ _ _ c.table_rows.ensures c.in_err-table_rows.was e

pub next_number-requires : goal.next_number-requires
next_number-requires c = (held (goal.at.next_number-requires c).In_ok-table_rows).sound

pub put-requires : goal.put-requires
unfolding device_time_bytes
put-requires c =
    let e = c.device_time_bytes-value.ensures in
    let o = c.args.out.now in
    rw e (omega (arith, leb-true 20 (length o) (held (goal.at.put-requires c).In_ok-table_rows).output))

pub returns : goal.returns
unfolding answered device_time_bytes
returns c =
    rw (c.put.ensures, c.device_time_bytes-value.ensures, c.next_number.ensures)
    (sym (device_time_done _ _ _ (passed (goal.at.returns c).In_ok-table_rows)))
