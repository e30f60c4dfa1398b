-- After w words the first w have their bits outside cleared, and the others are as they were.
use Prim.Native.Nat.{◌≤◌}
use mathlib.Core.Path.{◌≡◌}
use mathlib.Core.List.{◌++◌}
use lib.ListN.{length, take, drop}
use Rattle.fetch_map.specs.Map.{inside_from}
use Rattle.fetch_map.proofs.tell.clear_outside.Given as goal

abbrev pub invariant-loop-w : goal.invariant-loop-w
invariant-loop-w l =
    (l.w ≤ length l.initial.words) × (length l.words ≡ length l.initial.words) × (l.words ≡ take l.w (inside_from l.told 0 l.initial.words) ++ drop l.w l.initial.words)
