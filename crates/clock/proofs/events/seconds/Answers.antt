-- `seconds` is `seconds_of`: one law for each answer.
use mathlib.Core.Path.{◌≡◌, sym, ◌∙◌}
use mathlib.Core.Bool.{true}
use Rattle.clock.specs.Obeys.{clock_b}
use Rattle.clock.specs.Events.{with_base}
use Rattle.clock.proofs.RuleLaws.{clock_reads}
use Rattle.clock.proofs.EventLaws.{seconds_2, seconds_7, seconds_done}
use native.Mathlib.Omega.{arith}
use Rattle.clock.proofs.events.seconds.Goals as goal
use Rattle.clock.proofs.events.seconds.Goals.{Else-not-clock_ok}

obeys : (c : Else-not-clock_ok) → clock_b c.args.c.now ≡ true
obeys c = sym c.clock_ok.ensures ∙ c.if-not-clock_ok.false

pub returns-then-not-clock_ok : goal.returns-then-not-clock_ok
returns-then-not-clock_ok c = sym (seconds_2 _ _ (sym c.clock_ok.ensures ∙ c.if-not-clock_ok.true))

pub overflow_sub-c : goal.overflow_sub-c
overflow_sub-c c = let r = (clock_reads _ (obeys (goal.at.overflow_sub-c c).Else-not-clock_ok)).time in omega arith

pub returns-then-c-n : goal.returns-then-c-n
returns-then-c-n c = sym (seconds_7 _ _ (obeys (goal.at.returns-then-c-n c).Else-not-clock_ok) (omega arith))

pub returns : goal.returns
unfolding with_base
returns c =
    let ok = obeys (goal.at.returns c).Else-not-clock_ok in
    let r = (clock_reads _ ok).time in
    sym (seconds_done _ _ ok (omega arith))
