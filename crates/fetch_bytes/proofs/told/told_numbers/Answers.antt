-- Each kind's three numbers.
use mathlib.Core.Path.{sym, ap}
use Rattle.fetch_bytes.specs.Told.{told_numbers}
use Rattle.fetch_bytes.proofs.told.told_numbers.Goals as goal

pub returns-in-None : goal.returns-in-None
unfolding told_numbers
returns-in-None c = sym (ap told_numbers c.in-None.is)

pub returns-in-Some : goal.returns-in-Some
unfolding told_numbers
returns-in-Some c = sym (ap told_numbers c.in-Some.is)
