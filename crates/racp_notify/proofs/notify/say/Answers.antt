-- By what is left.
use Rattle.racp_notify.specs.Notify.{said_of}
use Rattle.racp_notify.proofs.NotifyLaws.{said_left}
use Rattle.racp_notify.proofs.notify.say.Goals as goal

pub returns-in_default : goal.returns-in_default
unfolding said_of
returns-in_default c =
    let a = c.args in
    said_left a.c.now a.t.now a.q a.r a.out.now _ _ c.in_default.is c.close.ensures

pub send-requires : goal.send-requires
send-requires c = (c.requires.0, c.requires.1, c.requires.3, c.requires.4, rw c.in-Some.is at c.requires.5)

pub returns : goal.returns
returns c =
    let a = c.args in
    said_left a.c.now a.t.now a.q a.r a.out.now _ _ c.in-Some.is c.send.ensures
