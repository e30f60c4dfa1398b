-- `len_after` is `len_after`: what stands there and the body.
use mathlib.Core.Path.{◌≡◌}
use mathlib.Core.List.{List, []}
use Prim.Native.Nat.{ℕ, ◌+◌, ◌-◌}
use lib.ListN.{length, length-drop}
use Rattle.joining.specs.Joining.{joining, len_after}
use native.Mathlib.Omega.{arith}
use Rattle.std.proofs.Common.{rules}
use Rattle.joining.proofs.joining.len_after.Goals as goal
use Rattle.joining.proofs.joining.len_after.Goals.{After-standing}

sum_is : (c : After-standing) (k : ℕ) (b : List ℕ)
    → let a = c.args in c.standing.result + (length a.note.now - 1) ≡ len_after (joining a.phase k a.len b) a.note.now
sum_is c k b = let a = c.args in omega (arith, c.standing.ensures k b, length-drop 1 a.note.now)

pub overflow_add-result : goal.overflow_add-result
overflow_add-result c = search (rules, sum_is (goal.at.overflow_add-result c).After-standing 0 [])

pub overflow_cast-result : goal.overflow_cast-result
overflow_cast-result c = omega (arith, sum_is (goal.at.overflow_cast-result c).After-standing 0 [])

pub returns : goal.returns
returns c k b = sum_is (goal.at.returns c).After-standing k b
