-- `bounds_of` is `bounds_of`, operator by operator.
use mathlib.Core.Path.{sym, ap, ◌∙◌}
use Rattle.state_bytes.specs.State.{bounds_of}
use Rattle.state_bytes.proofs.state.bounds_of.Goals as goal

pub returns-in-All : goal.returns-in-All
unfolding bounds_of
returns-in-All c = c.bounds_at.ensures ∙ sym (ap bounds_of c.in-All.is)

pub returns-in-AtMost : goal.returns-in-AtMost
unfolding bounds_of
returns-in-AtMost c = c.bounds_at-in-AtMost.ensures ∙ sym (ap bounds_of c.in-AtMost.is)

pub returns-in-AtLeast : goal.returns-in-AtLeast
unfolding bounds_of
returns-in-AtLeast c = c.bounds_at-in-AtLeast.ensures ∙ sym (ap bounds_of c.in-AtLeast.is)

pub returns-in-Range : goal.returns-in-Range
unfolding bounds_of
returns-in-Range c = c.bounds_at-in-Range.ensures ∙ sym (ap bounds_of c.in-Range.is)

pub returns-in-First : goal.returns-in-First
unfolding bounds_of
returns-in-First c = c.bounds_at-in-First.ensures ∙ sym (ap bounds_of c.in-First.is)

pub returns-in-Last : goal.returns-in-Last
unfolding bounds_of
returns-in-Last c = c.bounds_at-in-Last.ensures ∙ sym (ap bounds_of c.in-Last.is)
