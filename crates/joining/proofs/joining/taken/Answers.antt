-- `taken` is `taken_of`, by the last bit.
use Rattle.joining.specs.Joining.{standing}
use Rattle.joining.proofs.JoiningLaws.{taken_whole, taken_more}
use native.Mathlib.Omega.{arith}
use Rattle.std.proofs.Common.{rules}
use Rattle.joining.proofs.joining.taken.Goals as goal

pub lay_body-requires : goal.lay_body-requires
unfolding standing
lay_body-requires c = let t = c.requires in (search rules, (omega arith, t.room))

pub len_after-len-requires : goal.len_after-len-requires
unfolding standing
len_after-len-requires c = let t = c.requires in (omega arith, t.room)

pub returns-then-note-eq1 : goal.returns-then-note-eq1
returns-then-note-eq1 c = taken_whole _ _ c.counter_after-counter.ensures (c.len_after-len.ensures _ _) (c.lay_body.ensures _) c.if-note-eq1.true

pub returns : goal.returns
returns c = taken_more _ _ c.counter_after-counter.ensures (c.len_after-len.ensures _ _) (c.lay_body.ensures _) c.if-note-eq1.false
