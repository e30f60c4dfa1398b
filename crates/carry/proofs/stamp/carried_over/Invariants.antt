-- One pass: what was summed, carried over the records left, is the stamp carried over all; the sum stays within 64 bits by CarryLaws.
use mathlib.Core.Path.{◌≡◌}
use Prim.Native.Nat.{◌-◌, ◌≤◌}
use lib.ListN.{drop}
use lib.IntN.{pos}
use Rattle.table.specs.Table.{count, held}
use Rattle.carry.specs.Stamp.{carried_over}
use Rattle.carry.proofs.CarryLaws.{Within}
use Rattle.carry.proofs.stamp.carried_over.Given as goal

abbrev pub invariant-loop-age : goal.invariant-loop-age
invariant-loop-age l =
    (l.among ≡ count l.t) × Within l.age l.sum
    × (carried_over (pos l.stamp) (drop l.from (held l.t)) ≡ carried_over l.sum (drop l.age (held l.t)))
