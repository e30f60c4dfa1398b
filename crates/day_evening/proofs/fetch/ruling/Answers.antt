-- Two notes are compared; where one is missing there is no pair.
use mathlib.Core.Path.{ap}
use Rattle.std.proofs.Common.{Some, rules}
use Rattle.day_evening.specs.Fetch.{ruling_of}
use Rattle.day_evening.proofs.fetch.ruling.Goals as goal

pub returns-in_err-left_note : goal.returns-in_err-left_note
unfolding ruling_of
returns-in_err-left_note c = search rules

pub returns-in_err-right_note : goal.returns-in_err-right_note
unfolding ruling_of
returns-in_err-right_note c = rw c.in_ok-left_note.was (search rules)

pub returns : goal.returns
unfolding ruling_of
returns c = rw (c.in_ok-left_note.was, c.in_ok-right_note.was) (ap Some c.one_beast.ensures)
