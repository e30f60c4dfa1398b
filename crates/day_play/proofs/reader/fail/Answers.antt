-- Clock and table as the fault left them.
use mathlib.Core.Path.{ap}
use Rattle.rows.specs.Reply.{Outcome}
use Rattle.day_play.specs.Reader.{reader_after, failed_of}
use Rattle.day_play.proofs.reader.fail.Goals as goal

pub returns : goal.returns
unfolding failed_of
returns c =
    let r = c.args.r in
    ap (λ (x : Outcome). reader_after r x) c.fault.ensures
