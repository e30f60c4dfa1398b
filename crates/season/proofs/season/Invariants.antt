-- The buffer stays as long as it is. A run that goes on comes to the next position, which is at most 65,536.
use Rattle.std.proofs.Common.{◌≡◌, ◌+◌, ◌-◌, ℕ, length, Option, Some, None}
use Rattle.season_step.specs.declared.step.Run.{Run}
use Rattle.season.proofs.season.Given as goal

-- how many turns are left at most
abbrev turns_left : Option Run → ℕ
turns_left (Some run) = 1 + (65537 - run.position)
turns_left None = 0

abbrev pub invariant-loop-next : goal.invariant-loop-next
invariant-loop-next l = 65536 ≡ length l.buf

abbrev pub decreases-loop-next : goal.decreases-loop-next
decreases-loop-next l = turns_left l.next
