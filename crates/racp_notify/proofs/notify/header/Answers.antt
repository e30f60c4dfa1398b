-- The three parts of the header byte.
use Rattle.racp_notify.specs.Notify.{header_of}
use Rattle.std.proofs.Common.{rules}
use Rattle.racp_notify.proofs.notify.header.Goals as goal

pub returns : goal.returns
unfolding header_of
returns c = search rules
