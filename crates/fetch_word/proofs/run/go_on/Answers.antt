-- As many missing numbers more as there are; the run is still ongoing where these are all that were looked at.
use mathlib.Core.Path.{ap}
use Prim.Native.Nat.{ℕ, ◌+◌, ◌≤◌}
use lib.Dec.{eqb}
use Rattle.fetch_word.specs.Bits.{bit_b, row}
use Rattle.fetch_word.specs.Run.{run}
use Rattle.fetch_word.proofs.BitLaws.{row_length}
use Rattle.fetch_word.proofs.RunLaws.{missing_most}
use native.Mathlib.Omega.{arith}
use Rattle.fetch_word.proofs.run.go_on.Goals as goal
use Rattle.fetch_word.proofs.run.go_on.Goals.{After-trailing_gap-gap}

-- no more than n
few : (c : After-trailing_gap-gap) → c.trailing_gap-gap.result ≤ c.args.n
few c =
    let a = c.args in
    omega (arith, c.trailing_gap-gap.ensures, missing_most (row (bit_b a.x) a.n), row_length (bit_b a.x) a.n)

pub overflow_add-result : goal.overflow_add-result
overflow_add-result c = omega (arith, few (goal.at.overflow_add-result c).After-trailing_gap-gap)

pub returns : goal.returns
returns c =
    let a = c.args in
    ap (λ (m : ℕ). run a.before (a.length + m) (eqb m a.n)) c.trailing_gap-gap.ensures
