-- `feature` is `feature_of`: `tell` of its four bytes.
use Rattle.characteristics.specs.Value.{feature_of}
use Rattle.characteristics.proofs.value.feature.Goals as goal

pub returns : goal.returns
unfolding feature_of
returns c = c.tell.ensures
