-- One event after the other.
use borrow.Author.Tests.{ne_eqb}
use Rattle.loading_day.specs.Written.{event_of}
use Rattle.loading_day.proofs.written.event.Goals as goal

pub returns-in-1 : goal.returns-in-1
unfolding event_of
returns-in-1 c = rw c.in-1.is

pub returns-in-2 : goal.returns-in-2
unfolding event_of
returns-in-2 c = rw c.in-2.is

pub returns-in-3 : goal.returns-in-3
unfolding event_of
returns-in-3 c = rw c.in-3.is

pub returns-in-4 : goal.returns-in-4
unfolding event_of
returns-in-4 c = rw c.in-4.is

pub returns-in-5 : goal.returns-in-5
unfolding event_of
returns-in-5 c = rw c.in-5.is

pub returns-in_default : goal.returns-in_default
unfolding event_of
returns-in_default c =
    let no = c.in_default.in_default-own.rest in
    simp (
      ne_eqb _ 1 no.0.0.0.0.1,
      ne_eqb _ 2 no.0.0.0.1,
      ne_eqb _ 3 no.0.0.1,
      ne_eqb _ 4 no.0.1,
      ne_eqb _ 5 no.1,
    )
