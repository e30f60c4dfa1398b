-- A day on a ramp of two antennas: two readers just started, and what happens at one of them or at both, one thing after the other.
use Rattle.std.specs.Prelude.{List, [], ◌∷◌}
use Rattle.day_play.specs.Reader.{started_of, lived_of}
use Rattle.day_play.specs.declared.play.Antenna.{Antenna}
use Rattle.day_play.specs.declared.play.Antenna.TheVariants.{Left, Right, Both}
use Rattle.day_play.specs.declared.play.Happening.{Happening}
use Rattle.day_play.specs.declared.play.Ramp.{Ramp}
use Rattle.day_play.specs.declared.reader.Event.{Event}
use Rattle.day_play.specs.declared.reader.Reader.{Reader}

abbrev pub ramp : Reader → Reader → Ramp
ramp l r = record { left = l; right = r }

unfoldable pub opened_of : Ramp
opened_of = ramp started_of started_of

abbrev pub happened_at : Ramp → Antenna → Event → Ramp
happened_at v Left e = ramp (lived_of v.left e) v.right
happened_at v Right e = ramp v.left (lived_of v.right e)
happened_at v Both e = ramp (lived_of v.left e) (lived_of v.right e)

unfoldable pub stepped_of : Ramp → Happening → Ramp
stepped_of v h = happened_at v h.at h.event

unfoldable pub played_of : Ramp → List Happening → Ramp
played_of v [] = v
played_of v (h ∷ hs) = played_of (stepped_of v h) hs
