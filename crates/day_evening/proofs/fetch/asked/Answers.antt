-- Field by field, each as its call says.
use mathlib.Core.Path.{ap}
use Rattle.rows.specs.Reply.{Outcome}
use Rattle.day_evening.proofs.FetchLaws.{started, asked_is}
use Rattle.day_evening.proofs.fetch.asked.Goals as goal

pub returns : goal.returns
returns c =
    let a = c.args in
    asked_is a.clock a.table
    (ap (λ (x : Outcome). x.reply.clock) c.record_access.ensures)
    c.restart.ensures
    (started _ _ _ c.start.ensures)
