-- A run that has begun goes on; else the received numbers come before it, and where a missing one is among the bits, it begins there.
use mathlib.Core.Path.{◌∙◌}
use Prim.Native.Nat.{◌≤◌}
use Rattle.fetch_word.specs.Bits.{bit_b, row}
use Rattle.fetch_word.proofs.BitLaws.{row_length}
use Rattle.fetch_word.proofs.RunLaws.{received_most, look_on, look_all_received, look_run_begins}
use native.Mathlib.Omega.{arith}
use Rattle.fetch_word.proofs.run.look.Goals as goal
use Rattle.fetch_word.proofs.run.look.Goals.{After-trailing_ones-received}

pub returns-then-seen-gt0 : goal.returns-then-seen-gt0
returns-then-seen-gt0 c =
    let a = c.args in
    c.go_on.ensures ∙ look_on a.seen a.x a.n c.requires.1 (omega arith)

pub returns-then-received-n : goal.returns-then-received-n
returns-then-received-n c =
    let a = c.args in
    look_all_received a.seen a.x a.n c.requires.1 (omega arith) (omega arith)

-- no more are received than are looked at
few : (c : After-trailing_ones-received) → c.trailing_ones-received.result ≤ c.args.n
few c =
    let a = c.args in
    omega (arith, c.trailing_ones-received.ensures, received_most (row (bit_b a.x) a.n), row_length (bit_b a.x) a.n)

pub overflow_add-seen : goal.overflow_add-seen
overflow_add-seen c = omega (arith, few (goal.at.overflow_add-seen c).After-trailing_ones-received)

pub overflow_shr-x : goal.overflow_shr-x
overflow_shr-x c = omega (arith, few (goal.at.overflow_shr-x c).After-trailing_ones-received)

pub overflow_sub-n : goal.overflow_sub-n
overflow_sub-n c = omega (arith, few (goal.at.overflow_sub-n c).After-trailing_ones-received)

pub returns : goal.returns
returns c =
    let a = c.args in
    c.go_on-2.ensures
    ∙ look_run_begins a.seen a.x a.n c.requires.1 c.trailing_ones-received.result (omega arith) c.trailing_ones-received.ensures (omega (arith, few (goal.at.returns c).After-trailing_ones-received))
