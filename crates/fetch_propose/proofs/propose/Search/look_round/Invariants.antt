-- After k words the search has gone on by as many, and the rest leads to the same end. Where nothing is left, it has come to it.
use Prim.Native.Nat.{◌≤◌, ◌*◌, ◌-◌, ◌+◌, ◌%◌}
use mathlib.Core.Path.{◌≡◌}
use Rattle.fetch_propose.specs.Search.{left_of, searched_from}
use Rattle.fetch_propose.proofs.propose.Search.look_round.Given as goal

abbrev pub invariant-loop-k : goal.invariant-loop-k
invariant-loop-k l =
    (l.search.size ≡ l.initial.search.size) × (1 ≤ l.k) × (l.k ≤ 1024) × (left_of l.search.seen l.search.size ≤ 64 * (1024 - l.k) + 63)
    × (searched_from l.words ((l.word + l.k) % 1024) l.search.seen l.search.size ≡ searched_from l.words ((l.word + 1) % 1024) l.initial.search.seen l.initial.search.size)
