-- A note that was made is carried.
use mathlib.Core.Path.{ap}
use Rattle.std.proofs.Common.{rules}
use Rattle.day_sheet.specs.Sheet.{seen}
use Rattle.day_evening.specs.Fetch.{sight_of}
use Rattle.day_evening.proofs.fetch.sight.Goals as goal

pub returns-in_err-note : goal.returns-in_err-note
unfolding sight_of
returns-in_err-note c = search rules

pub returns : goal.returns
unfolding sight_of
returns c = rw c.in_ok-note.was (ap (seen c.in_ok-note.note.stamp) c.carry.ensures)
