-- Another length: 10 and zeros. Else what joining in the state leaves.
use mir.Facts.{to_z-of_z}
use Rattle.tablet_bytes.proofs.JoinLaws.{join_short, join_here}
use Rattle.tablet_bytes.proofs.calls.join_at.Goals as goal

pub returns-then-joining-ne-JOINING_BYTES : goal.returns-then-joining-ne-JOINING_BYTES
returns-then-joining-ne-JOINING_BYTES c = join_short _ _ c.if-joining-ne-JOINING_BYTES.true c.clear.ensures

pub returns : goal.returns
returns c =
    let r = c.join_state in
    rw (to_z-of_z (record { sfits = r.type_inv })) (join_here _ _ c.if-joining-ne-JOINING_BYTES.false r.ensures)
