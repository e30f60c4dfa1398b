-- `copy_each` leaves what it copied: after so many turns as many bytes are the source's.
use lib.ListN.{length-set}
use Rattle.octets.proofs.Filling.{fill_more, fill_end}
use Rattle.std.proofs.Common.{refl, arith, rules}
use Rattle.octets.proofs.parts.copy_each.Goals as goal

pub loop-k-init : goal.loop-k-init
loop-k-init c = (refl, refl)

pub loop-k-preserved : goal.loop-k-preserved
loop-k-preserved c =
    let a = c.args in
    let l = c.loop-k in (
      simp length-set (search rules),
      fill_more a.to.now a.from.now l.k l.invariant.1 (omega arith) (omega arith),
    )

pub returns : goal.returns
returns c =
    let a = c.args in
    let l = c.loop-k in fill_end a.to.now a.from.now l.k l.invariant.1 (omega arith) (omega arith)
