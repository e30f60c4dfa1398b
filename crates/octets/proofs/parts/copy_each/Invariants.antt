-- `copy_each` leaves what it copied: after so many turns as many bytes are the source's.
use Rattle.std.proofs.Common.{◌≡◌, ◌++◌, length, take, drop}
use Rattle.octets.proofs.parts.copy_each.Given as goal

abbrev pub invariant-loop-k : goal.invariant-loop-k
invariant-loop-k l = (length l.to ≡ length l.initial.to) × (l.to ≡ take l.k l.from ++ drop l.k l.initial.to)
