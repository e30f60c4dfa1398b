-- `parameters` is `parameters_of`: `tell` of its four bytes.
use Rattle.characteristics.specs.Value.{parameters_of}
use Rattle.characteristics.proofs.value.parameters.Goals as goal

pub returns : goal.returns
unfolding parameters_of
returns c = c.tell.ensures
