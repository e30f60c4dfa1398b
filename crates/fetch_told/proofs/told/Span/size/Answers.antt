-- The steps from the first number to the last, and one more.
use Prim.Native.Nat.{ℕ, ◌+◌}
use mathlib.Core.Path.{ap}
use Rattle.fetch_told.specs.Told.{range_size}
use Rattle.fetch_told.proofs.told.Span.size.Goals as goal

pub returns : goal.returns
unfolding range_size
returns c = ap (λ (k : ℕ). k + 1) c.steps_to.ensures
