-- Each event by the call that it is.
use mathlib.Core.Path.{sym, ap, ◌∙◌}
use Rattle.day_play.specs.Reader.{with_clock, lived_of}
use Rattle.day_play.proofs.reader.lived.Goals as goal
use Rattle.clock.specs.Events.{Event}

pub returns-in-Seconds : goal.returns-in-Seconds
unfolding lived_of
returns-in-Seconds c =
    let r = c.args.r in
    c.with_clock.ensures
    ∙ ap (λ (x : Event). with_clock r x.clock) c.seconds.ensures
    ∙ sym (ap (lived_of r) c.in-Seconds.is)

pub returns-in-Connect : goal.returns-in-Connect
unfolding lived_of
returns-in-Connect c =
    let r = c.args.r in
    c.with_clock-in-Connect.ensures
    ∙ ap (λ (x : Event). with_clock r x.clock) c.switches.ensures
    ∙ sym (ap (lived_of r) c.in-Connect.is)

pub returns-in-Disconnect : goal.returns-in-Disconnect
unfolding lived_of
returns-in-Disconnect c =
    let r = c.args.r in
    c.with_clock-in-Disconnect.ensures
    ∙ ap (λ (x : Event). with_clock r x.clock) c.disconnect.ensures
    ∙ sym (ap (lived_of r) c.in-Disconnect.is)

pub returns-in-Propose : goal.returns-in-Propose
unfolding lived_of
returns-in-Propose c = c.set.ensures ∙ sym (ap (lived_of c.args.r) c.in-Propose.is)

pub returns-in-Fault : goal.returns-in-Fault
unfolding lived_of
returns-in-Fault c = c.fail.ensures ∙ sym (ap (lived_of c.args.r) c.in-Fault.is)

pub returns-in-Read : goal.returns-in-Read
unfolding lived_of
returns-in-Read c = c.read.ensures ∙ sym (ap (lived_of c.args.r) c.in-Read.is)
