-- By whether the record's bytes are all sent then.
use mathlib.Core.Path.{refl}
use Rattle.record_read.proofs.RoundTrip.{length_bytes}
use Rattle.racp_notify.proofs.SegmentLaws.{after_last, after_more}
use native.Mathlib.Omega.{arith}
use Rattle.racp_notify.proofs.notify.left_after.Goals as goal

pub returns-then-length_of-reach : goal.returns-then-length_of-reach
returns-then-length_of-reach c =
    let a = c.args in
    after_last a.f a.t.now a.q a.number a.sent _ _ _ c.left_from.ensures (omega arith) (omega arith)

pub overflow_cast-result : goal.overflow_cast-result
overflow_cast-result c = omega (arith, c.length_of.ensures, length_bytes c.args.r)

pub returns : goal.returns
returns c =
    let a = c.args in
    after_more a.f a.t.now a.q a.number a.sent _ _ _ refl (omega arith) (omega arith)
