-- The ones of the words passed, each with at most 64.
use Prim.Native.Nat.{◌≤◌, ◌*◌}
use mathlib.Core.Path.{◌≡◌}
use lib.ListN.{take}
use Rattle.fetch_map.specs.Map.{ones_of}
use Rattle.fetch_map.proofs.count.all_ones.Given as goal

abbrev pub invariant-loop-x : goal.invariant-loop-x
invariant-loop-x l = (l.sum ≤ 64 * l.x-index) × (l.sum ≡ ones_of (take l.x-index l.words))
