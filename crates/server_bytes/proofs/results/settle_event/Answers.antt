-- A refusal by its number, with the state as it was. What is done is `settle`'s, of no bytes.
use mathlib.Core.Path.{sym, ap, ◌∙◌}
use mir.Facts.{to_z-of_z}
use mir.Syntax.{w32}
use Rattle.clock.specs.Answers.{Answer}
use Rattle.rows.proofs.RowLaws.{err_refused}
use Rattle.server_bytes.specs.Results.{result_of}
use Rattle.server_bytes.proofs.ResultLaws.{settled_refused}
use Rattle.server_bytes.proofs.results.settle_event.Goals as goal

pub returns-in-Err : goal.returns-in-Err
returns-in-Err c =
    let r = c.result_of in
    let told = c.in-Err.is in
    settled_refused _ _ _ _ (to_z-of_z {w = w32} (record { sfits = r.type_inv }) ∙ r.ensures ∙ ap (λ (a : Answer). result_of a 0) (sym told)) (err_refused _ _ told)
