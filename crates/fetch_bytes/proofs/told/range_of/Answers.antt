-- None where nothing is held, else the range.
use borrow.Author.Tests.{eq-eqb, ne_eqb}
use Rattle.fetch_bytes.specs.Told.{range_of}
use Rattle.fetch_bytes.proofs.told.range_of.Goals as goal

pub returns-then-any-eq0 : goal.returns-then-any-eq0
unfolding range_of
returns-then-any-eq0 c = rw (eq-eqb c.args.any 0 c.if-any-eq0.true)

pub returns : goal.returns
unfolding range_of
returns c = rw (ne_eqb c.args.any 0 c.if-any-eq0.false)
