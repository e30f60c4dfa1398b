-- The ending of a report by any call: the one definition of `theorems_reports`, and the start call.
use Rattle.octets.specs.Choice.{pick}
use Rattle.rows.specs.Reply.{done_b}
use Rattle.theorems_reports.specs.World.{World}
use Rattle.theorems_reports.specs.Endings.{Ending, ongoing, restarted, ending_by}
use Rattle.theorems_handed.specs.Server.{AnyCall, start, call, Server}

abbrev pub ending_any : AnyCall → Ending
ending_any start = restarted
ending_any (call k) = ending_by k

-- a refused call ends nothing
abbrev pub ending_in : Server → World → AnyCall → Ending
ending_in s v k = pick (done_b (s.answer v k)) (ending_any k) ongoing
