-- A happening written as one number: an antenna's place times 2^35, an event's place times 2^32, and the event's own number.
use Rattle.std.specs.Prelude.{List, map, ℕ, ◌/◌, ◌%◌, eqb}
use Rattle.octets.specs.Choice.{pick}
use Rattle.day_play.specs.declared.play.Antenna.{Antenna}
use Rattle.day_play.specs.declared.play.Antenna.TheVariants.{Left, Right, Both}
use Rattle.day_play.specs.declared.play.Happening.{Happening}
use Rattle.day_play.specs.declared.reader.Event.{Event}
use Rattle.day_play.specs.declared.reader.Event.TheVariants.{Seconds, Connect, Disconnect, Propose, Fault, Read}

unfoldable pub antenna_of : ℕ → Antenna
antenna_of place = pick (eqb place 1) Left (pick (eqb place 2) Right Both)

unfoldable pub event_of : ℕ → ℕ → Event
event_of place n =
    pick (eqb place 1) (Seconds n)
    (pick (eqb place 2) Connect
    (pick (eqb place 3) Disconnect
    (pick (eqb place 4) (Propose n)
    (pick (eqb place 5) Fault
    (Read (n % 256))))))

unfoldable pub happening_of : ℕ → Happening
unfolding antenna_of event_of
happening_of w = record { at = antenna_of (w / 34359738368); event = event_of (w / 4294967296 % 8) (w % 4294967296) }

unfoldable pub happenings_of : List ℕ → List Happening
unfolding happening_of
happenings_of ws = map happening_of ws
