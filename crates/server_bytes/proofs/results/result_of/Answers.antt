-- Minus the number, which fits, or the length, which does.
use mathlib.Core.Path.{◌≡◌, refl, sym, ap, ◌∙◌}
use mir.Facts.{to_z-of_z, to_z_pos}
use mir.Syntax.{w32}
use lib.IntN.{pos}
use Rattle.carry.proofs.IntLaws.{fits}
use Rattle.rows.proofs.RowLaws.{ok_done, err_refused}
use Rattle.state_bytes.specs.Results.{refusal}
use Rattle.server_bytes.proofs.ResultLaws.{refusal_is, refusal_fits, result_refused, result_done}
use native.Mathlib.Omega.{arith}
use Rattle.std.proofs.Common.{rules}
use Rattle.server_bytes.proofs.results.result_of.Goals as goal
use Rattle.server_bytes.proofs.results.result_of.Goals.{After-number_of}

pub overflow_cast-result : goal.overflow_cast-result
overflow_cast-result c = let l = rw c.in-Ok.is at c.requires in fits w32 (pos c.in-Ok.len) (omega arith)

pub returns-in-Ok : goal.returns-in-Ok
returns-in-Ok c =
    let l = rw c.in-Ok.is at c.requires in
    rw c.in-Ok.is (to_z_pos w32 {n = c.in-Ok.len} (search rules) ∙ sym (result_done _ _ (ok_done _ tt refl)))

pub overflow_sub-result : goal.overflow_sub-result
overflow_sub-result c = refusal_fits c.number_of.result (omega arith)

pub returns-in-Err : goal.returns-in-Err
returns-in-Err c =
    rw c.in-Err.is
    (to_z-of_z (overflow_sub-result (goal.at.returns-in-Err c).After-number_of)
    ∙ refusal_is c.number_of.result (omega arith)
    ∙ ap refusal c.number_of.ensures
    ∙ sym (result_refused _ _ (err_refused _ c.in-Err.why refl)))
