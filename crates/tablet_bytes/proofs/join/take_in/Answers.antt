-- The body where it belongs, then the three numbers; by the last bit.
use mathlib.Core.Path.{◌≡◌}
use lib.ListN.{drop}
use mir.Facts.{to_z_pos}
use mir.Syntax.{w32}
use Rattle.octets.specs.Numbers.{at}
use Rattle.joining.specs.Joining.{standing, len_after}
use Rattle.state_bytes.specs.JoiningState.{joining_in}
use Rattle.tablet_bytes.proofs.JoinLaws.{in_whole, in_more}
use native.Mathlib.Omega.{arith}
use Rattle.std.proofs.Common.{rules}
use Rattle.tablet_bytes.proofs.join.take_in.Goals as goal
use Rattle.tablet_bytes.proofs.join.take_in.Goals.{After-len_after-len}

len_is : (c : After-len_after-len) → let a = c.args in c.len_after-len.result ≡ len_after (joining_in a.s.now) a.note.now
unfolding joining_in
len_is c = let a = c.args in c.len_after-len.ensures (at a.s.now 1) (drop 3 a.s.now)

pub lay_body-requires : goal.lay_body-requires
unfolding standing joining_in
lay_body-requires c = let t = c.requires.1 in (search rules, (omega arith, t.room))

pub len_after-len-requires : goal.len_after-len-requires
unfolding standing joining_in
len_after-len-requires c = let t = c.requires.1 in (omega arith, t.room)

pub returns-then-note-eq1 : goal.returns-then-note-eq1
returns-then-note-eq1 c = in_whole c.args.s.now c.args.note.now c.requires.0 c.counter_after-counter.ensures (len_is (goal.at.returns-then-note-eq1 c).After-len_after-len) (c.lay_body.ensures _) c.if-note-eq1.true (to_z_pos w32 (search rules)) c.set_head.ensures

pub returns : goal.returns
returns c = in_more c.args.s.now c.args.note.now c.requires.0 c.counter_after-counter.ensures (len_is (goal.at.returns c).After-len_after-len) (c.lay_body.ensures _) c.if-note-eq1.false c.set_head-2.ensures
