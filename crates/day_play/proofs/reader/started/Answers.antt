-- What starting answers and writes, and no note.
use mathlib.Core.Path.{ap}
use lib.ListN.{replicate}
use Rattle.std.proofs.Common.{None}
use Rattle.update.specs.Start.{Begun}
use Rattle.day_play.specs.Reader.{reader, started_of}
use Rattle.day_play.proofs.reader.started.Goals as goal

pub returns : goal.returns
unfolding started_of
returns c = ap (λ (b : Begun). reader b.event.clock b.table (replicate 8 None)) c.start.ensures
