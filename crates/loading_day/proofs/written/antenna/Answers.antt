-- One antenna after the other.
use borrow.Author.Tests.{ne_eqb}
use Rattle.loading_day.specs.Written.{antenna_of}
use Rattle.loading_day.proofs.written.antenna.Goals as goal

pub returns-in-1 : goal.returns-in-1
unfolding antenna_of
returns-in-1 c = rw c.in-1.is

pub returns-in-2 : goal.returns-in-2
unfolding antenna_of
returns-in-2 c = rw c.in-2.is

pub returns-in_default : goal.returns-in_default
unfolding antenna_of
returns-in_default c = let no = c.in_default.in_default-own.rest in simp (ne_eqb _ 1 no.0.1, ne_eqb _ 2 no.1)
