-- `ranges_ok` is `ranges_b`: each way out is one part of it.
use borrow.Author.Tests.{le-leb, lt-leb}
use Rattle.joining.specs.Joining.{ranges_b}
use Rattle.joining.proofs.joining.ranges_ok.Goals as goal

pub returns-then-phase-gt-INSIDE : goal.returns-then-phase-gt-INSIDE
unfolding ranges_b
returns-then-phase-gt-INSIDE c _ = rw (lt-leb _ 2 c.if-phase-gt-INSIDE.true)

pub returns-then-counter-gt-LAST_COUNTER : goal.returns-then-counter-gt-LAST_COUNTER
unfolding ranges_b
returns-then-counter-gt-LAST_COUNTER c _ = rw (le-leb _ 2 c.if-phase-gt-INSIDE.false, lt-leb _ 63 c.if-counter-gt-LAST_COUNTER.true)

pub returns-then-len-gt-MOST_BYTES : goal.returns-then-len-gt-MOST_BYTES
unfolding ranges_b
returns-then-len-gt-MOST_BYTES c _ = rw (le-leb _ 2 c.if-phase-gt-INSIDE.false, le-leb _ 63 c.if-counter-gt-LAST_COUNTER.false, lt-leb _ 45 c.if-len-gt-MOST_BYTES.true)

pub returns : goal.returns
unfolding ranges_b
returns c _ = rw (le-leb _ 2 c.if-phase-gt-INSIDE.false, le-leb _ 63 c.if-counter-gt-LAST_COUNTER.false, le-leb _ 45 c.if-len-gt-MOST_BYTES.false) c.begun_ok.ensures
