-- One pass: what was summed, carried over the records left, is the stamp carried over all; the sum stays within 64 bits by CarryLaws.
use mathlib.Core.Path.{◌≡◌, sym, ◌∙◌}
use lib.IntN.{◌+ℤ◌}
use mir.Syntax.{w64}
use mir.Val.{to_z, of_z}
use mir.Facts.{to_z-of_z, to_z_pos}
use Rattle.carry.specs.Stamp.{moved_by}
use Rattle.carry.proofs.CarryLaws.{over_fault, over_update, over_none, turn_within, turn_fits}
use native.Mathlib.Omega.{arith}
use Rattle.std.proofs.Common.{rules}
use Rattle.carry.proofs.stamp.carried_over.Goals as goal
use Rattle.carry.proofs.stamp.carried_over.Goals.{After-moved}

pub loop-age-init : goal.loop-age-init
loop-age-init c =
    let a = c.args in
    let z = to_z_pos w64 {n = a.stamp} (omega arith) in
    (c.held_count-among.ensures, rw z (omega arith), rw z)

pub returns-then-type_of-eq-TIME_FAULT : goal.returns-then-type_of-eq-TIME_FAULT
returns-then-type_of-eq-TIME_FAULT c =
    let l = c.loop-age in
    sym (l.invariant.2 ∙ over_fault _ _ _ _ c.record_at-r.ensures (sym c.type_of.ensures ∙ c.if-type_of-eq-TIME_FAULT.true))

-- after both calls of a turn: the sum with what its record adds
turn : (c : After-moved)
    → let l = c.loop-age in
    to_z w64 l.sum-bits +ℤ to_z w64 (of_z w64 c.moved.result) ≡ to_z w64 l.sum-bits +ℤ moved_by c.record_at-r.result
turn c = rw (to_z-of_z (record { sfits = c.moved.type_inv }), c.moved.ensures)

pub plus-sum-requires : goal.plus-sum-requires
plus-sum-requires c = rw (turn (goal.at.plus-sum-requires c).After-moved) (turn_fits _ c.loop-age.age (to_z w64 c.loop-age.sum-bits) _ c.record_at-r.ensures c.requires.0 c.loop-age.invariant.1 (search rules))

pub loop-age-preserved : goal.loop-age-preserved
loop-age-preserved c =
    let e = c.record_at-r.ensures in
    let z = to_z-of_z {w = w64} (record { sfits = c.plus-sum.type_inv }) ∙ c.plus-sum.ensures ∙ turn (goal.at.loop-age-preserved c).After-moved in (
      c.loop-age.invariant.0,
      rw z (turn_within _ c.loop-age.age (to_z w64 c.loop-age.sum-bits) _ e c.requires.0 c.loop-age.invariant.1),
      c.loop-age.invariant.2 ∙ rw z (over_update _ _ _ _ e (λ h. c.if-type_of-eq-TIME_FAULT.false (c.type_of.ensures ∙ h))),
    )

pub returns : goal.returns
returns c = sym (c.loop-age.invariant.2 ∙ over_none _ c.loop-age.age _ (search rules))
