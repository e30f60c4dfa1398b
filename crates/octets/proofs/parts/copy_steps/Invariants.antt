-- The first k bytes are the source's at each turn, and the last as many as `by` has complete them.
use mathlib.Core.Path.{◌≡◌}
use Prim.Native.Nat.{◌-◌, ◌≤◌}
use lib.ListN.{length, take}
use Rattle.octets.proofs.parts.copy_steps.Given as goal

abbrev pub invariant-loop-k : goal.invariant-loop-k
invariant-loop-k l = (l.k ≤ length l.from) × (length l.to ≡ length l.from) × (length l.by ≡ length l.initial.by) × (take l.k l.to ≡ take l.k l.from)

abbrev pub decreases-loop-k : goal.decreases-loop-k
decreases-loop-k l = l.last - l.k
