-- By the steps from the first number.
use mathlib.Core.Path.{ap₂}
use lib.Dec.{leb}
use Rattle.fetch_told.specs.Told.{inside_b}
use Rattle.fetch_told.proofs.told.Span.contains.Goals as goal

pub returns : goal.returns
unfolding inside_b
returns c = ap₂ leb c.steps_to.ensures c.steps_to-2.ensures
