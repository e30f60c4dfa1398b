-- Clock and table as the time update left them.
use mathlib.Core.Path.{ap, ◌∙◌}
use mathlib.Core.List.{List}
use Prim.Native.Nat.{ℕ}
use Rattle.rows.specs.Reply.{Outcome}
use Rattle.update.specs.TimeUpdate.{update_of}
use Rattle.day_play.specs.Reader.{output, reader_after, set_of}
use Rattle.day_play.proofs.reader.set.Goals as goal

pub returns : goal.returns
unfolding set_of
returns c =
    let r = c.args.r in
    ap (λ (x : Outcome). reader_after r x) c.time_update.ensures
    ∙ ap (λ (b : List ℕ). reader_after r (update_of r.clock r.table b output)) c.proposal-write.ensures
