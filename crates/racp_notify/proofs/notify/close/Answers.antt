-- The response is laid down, and no report runs.
use Rattle.racp_notify.specs.Notify.{noticed}
use Rattle.racp_notify.proofs.SegmentLaws.{closing_length_lem}
use Rattle.racp_notify.proofs.notify.close.Goals as goal

pub returns : goal.returns
unfolding noticed
returns c = rw (c.put.ensures, c.closing-response.ensures, closing_length_lem _ _)
