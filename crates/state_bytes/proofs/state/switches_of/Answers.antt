-- `switches_of` is `switches_of`.
use Rattle.state_bytes.specs.State.{switches_of}
use Rattle.state_bytes.proofs.state.switches_of.Goals as goal

pub returns : goal.returns
unfolding switches_of
returns c = simp (c.weight_if.ensures.0, c.weight_if-2.ensures.0, c.weight_if-3.ensures.0)
