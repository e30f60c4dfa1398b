-- The seven bytes, of which the numbers have four.
use Rattle.fetch_bytes.specs.Request.{request_bytes}
use Rattle.fetch_bytes.proofs.request.request_bytes.Goals as goal

pub returns : goal.returns
unfolding request_bytes
returns c = rw (c.bytes2-a.ensures, c.bytes2-b.ensures)
