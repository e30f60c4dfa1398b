-- `filter_in` is `filter_in`, operator by operator.
use borrow.Author.Tests.{ne_eqb}
use Rattle.state_bytes.specs.State.{filter_in}
use Rattle.state_bytes.proofs.state.filter_in.Goals as goal

pub returns-in-2 : goal.returns-in-2
unfolding filter_in
returns-in-2 c = rw c.in-2.is

pub returns-in-3 : goal.returns-in-3
unfolding filter_in
returns-in-3 c = rw c.in-3.is

pub returns-in-4 : goal.returns-in-4
unfolding filter_in
returns-in-4 c = rw c.in-4.is

pub returns-in-5 : goal.returns-in-5
unfolding filter_in
returns-in-5 c = rw c.in-5.is

pub returns-in-6 : goal.returns-in-6
unfolding filter_in
returns-in-6 c = rw c.in-6.is

pub returns-in_default : goal.returns-in_default
unfolding filter_in
returns-in_default c =
    let no = c.in_default.in_default-own.rest in
    simp (
      ne_eqb _ 2 no.0.0.0.0.1,
      ne_eqb _ 3 no.0.0.0.1,
      ne_eqb _ 4 no.0.0.1,
      ne_eqb _ 5 no.0.1,
      ne_eqb _ 6 no.1,
    )
