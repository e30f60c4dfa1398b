-- What is left to ask for gives what all the askings give.
use mathlib.Core.Path.{◌≡◌}
use Prim.Native.Nat.{◌-◌}
use Rattle.day_evening.specs.Fetch.{heard_all}
use Rattle.day_evening.proofs.fetch.fetched.Given as goal

abbrev pub invariant-loop : goal.invariant-loop
invariant-loop l = heard_all (17 - l.counter) l.table l.f ≡ heard_all 17 l.table l.initial.f
