-- What is left of the day gives what the whole gives.
use mathlib.Core.Path.{◌≡◌}
use lib.ListN.{drop}
use Rattle.day_play.specs.Play.{played_of}
use Rattle.day_play.proofs.play.played.Given as goal

abbrev pub invariant-loop-happening : goal.invariant-loop-happening
invariant-loop-happening l = played_of l.ramp (drop l.happening-index l.happening-items) ≡ played_of l.initial.ramp l.fn.day
