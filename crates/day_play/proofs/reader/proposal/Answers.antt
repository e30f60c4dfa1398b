-- Byte by byte; the Base_Time by `bytes4`.
use Rattle.day_play.specs.Reader.{proposal_bytes}
use Rattle.day_play.proofs.reader.proposal.Goals as goal

pub returns : goal.returns
unfolding proposal_bytes
returns c = rw c.bytes4-b.ensures
