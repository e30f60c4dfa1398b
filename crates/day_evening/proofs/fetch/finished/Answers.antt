-- A report that closed leaves the tablet's table, any other zeros.
use Rattle.day_evening.specs.Fetch.{finished_of}
use Rattle.day_evening.proofs.fetch.finished.Goals as goal

pub returns-then-f : goal.returns-then-f
unfolding finished_of
returns-then-f c = rw c.if-f.true

pub returns : goal.returns
unfolding finished_of
returns c = rw c.if-f.false
