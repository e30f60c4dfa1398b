-- Both readers just started.
use Rattle.day_play.specs.Play.{opened_of}
use Rattle.day_play.proofs.play.opened.Goals as goal

pub returns : goal.returns
unfolding opened_of
returns c = rw (c.started.ensures, c.started-2.ensures)
