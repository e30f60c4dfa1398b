-- None where the first number is 0, else the range.
use borrow.Author.Tests.{eq-eqb, ne_eqb}
use Rattle.octets.specs.Numbers.{at}
use Rattle.fetch_bytes.specs.Told.{told_at}
use Rattle.fetch_bytes.proofs.told.told_at.Goals as goal

pub returns-then-held-eq0 : goal.returns-then-held-eq0
unfolding told_at
returns-then-held-eq0 c = rw (eq-eqb (at c.args.numbers 0) 0 c.if-held-eq0.true)

pub returns : goal.returns
unfolding told_at
returns c = rw (ne_eqb (at c.args.numbers 0) 0 c.if-held-eq0.false)
