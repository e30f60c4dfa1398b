-- A stamp is shown where there is one, and it has 32 bits.
use mathlib.Core.Path.{sym, ap}
use Rattle.day_sheet.specs.Sheet.{noted_of, seconds_in}
use native.Mathlib.Omega.{arith}
use Rattle.day_sheet.proofs.sheet.noted.Goals as goal

pub returns-in-None : goal.returns-in-None
unfolding noted_of seconds_in
returns-in-None c = (sym (ap noted_of c.in-None.is), omega arith)

pub returns-in-Some : goal.returns-in-Some
unfolding noted_of seconds_in
returns-in-Some c = (sym (ap noted_of c.in-Some.is), omega arith)
