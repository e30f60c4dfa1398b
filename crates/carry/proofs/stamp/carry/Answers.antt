-- `carry` is `carry_of`: each way out is one law of CarryLaws.
use mathlib.Core.Path.{◌≡◌, sym, ◌∙◌}
use mathlib.Core.Bool.{true}
use Prim.Native.Nat.{◌-◌}
use Rattle.table.specs.Table.{next, sound_b}
use Rattle.carry.specs.Stamp.{later_of}
use Rattle.carry.proofs.CarryLaws.{carry_unsound, carry_not_held, carry_over}
use native.Mathlib.Omega.{arith}
use Rattle.carry.proofs.stamp.carry.Goals as goal
use Rattle.carry.proofs.stamp.carry.Goals.{After-later-m, Else-not-sound}

pub returns-then-not-sound : goal.returns-then-not-sound
returns-then-not-sound c =
    let a = c.args in
    sym (carry_unsound a.stamp a.q a.t.now (sym c.sound.ensures ∙ c.if-not-sound.true))

sound_table : (c : Else-not-sound) → sound_b c.args.t.now ≡ true
sound_table c = sym c.sound.ensures ∙ c.if-not-sound.false

pub next_number-requires : goal.next_number-requires
next_number-requires c = sound_table (goal.at.next_number-requires c).Else-not-sound

-- m and H, as the table says
later_is : (c : After-later-m) → let a = c.args in c.later-m.result ≡ later_of (next a.t.now) a.q
later_is c = c.later-m.ensures ∙ rw c.next_number.ensures

pub held_count-among-requires : goal.held_count-among-requires
held_count-among-requires c = sound_table (goal.at.held_count-among-requires c).Else-not-sound

pub returns-then-among-m : goal.returns-then-among-m
returns-then-among-m c =
    let a = c.args in
    sym (carry_not_held a.stamp a.q a.t.now (sound_table (goal.at.returns-then-among-m c).Else-not-sound) (omega (arith, later_is (goal.at.returns-then-among-m c).After-later-m)))

pub carried_over-requires : goal.carried_over-requires
carried_over-requires c = (sound_table (goal.at.carried_over-requires c).Else-not-sound, omega arith)

pub returns : goal.returns
returns c =
    let a = c.args in
    let n = c.held_count-among.result - c.later-m.result in
    carry_over a.stamp a.q a.t.now _ n c.carried_over.ensures (sound_table (goal.at.returns c).Else-not-sound) (omega (arith, later_is (goal.at.returns c).After-later-m))
