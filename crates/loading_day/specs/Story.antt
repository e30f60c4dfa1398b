-- An ordinary loading day on a ramp of two antennas and what came before it, as data: at which reader, what happens. Times are Base_Time;
-- the day is 2026-10-05.
use Rattle.std.specs.Prelude.{List, [], ◌∷◌, ◌++◌, ℕ}
use Rattle.day_play.specs.declared.play.Antenna.{Antenna}
use Rattle.day_play.specs.declared.play.Antenna.TheVariants.{Left, Right, Both}
use Rattle.day_play.specs.declared.play.Happening.{Happening}
use Rattle.day_play.specs.declared.reader.Event.{Event}
use Rattle.day_play.specs.declared.reader.Event.TheVariants.{Seconds, Connect, Disconnect, Propose, Fault, Read}

abbrev pub at : Antenna → Event → Happening
at a e = record { at = a; event = e }

-- A Monday at six: the tablet sets the right clock, and then a week passes, in which this clock gains three seconds.
unfoldable pub monday : ℕ → List Happening
monday base = at Right Connect ∷ at Right (Propose base) ∷ at Right Disconnect ∷ at Right (Seconds 604803) ∷ []

-- The right reader has been on the ramp since summer, the left one is new. The eight Mondays before the day, from 10 August to 28 September:
-- the right reader's log of eight slots is full then, and the day's records overwrite the oldest.
unfoldable pub the_season : List Happening
unfolding monday
the_season =
    monday 839656800
    ++ (monday 840261600
    ++ (monday 840866400
    ++ (monday 841471200
    ++ (monday 842076000
    ++ (monday 842680800
    ++ (monday 843285600
    ++ (monday 843890400)))))))

-- what came before, then the day
unfoldable pub the_day : List Happening
unfolding the_season
the_day =
    the_season
    ++ (
    -- 5 October, six o'clock: the tablet in the cab sets both clocks. It is ten minutes fast when it sets the left one.
    at Both Connect
    ∷ at Left (Propose 844495800)
    ∷ at Right (Propose 844495200)
    ∷ at Both Disconnect
    -- Half past six: the first beast.
    ∷ at Both (Seconds 1800)
    ∷ at Left (Read 0)
    ∷ at Both (Seconds 3)
    ∷ at Right (Read 0)
    -- The right reader loses its time, and a beast passes before it is set again.
    ∷ at Both (Seconds 57)
    ∷ at Right Fault
    ∷ at Both (Seconds 20)
    ∷ at Left (Read 1)
    ∷ at Both (Seconds 4)
    ∷ at Right (Read 1)
    ∷ at Both (Seconds 36)
    ∷ at Right Connect
    ∷ at Right (Propose 844497120)
    ∷ at Right Disconnect
    -- Two more.
    ∷ at Both (Seconds 30)
    ∷ at Left (Read 2)
    ∷ at Both (Seconds 5)
    ∷ at Right (Read 2)
    ∷ at Both (Seconds 55)
    ∷ at Left (Read 3)
    ∷ at Both (Seconds 4)
    ∷ at Right (Read 3)
    -- The left clock is set back by ten minutes while a beast stands between the antennas.
    ∷ at Both (Seconds 26)
    ∷ at Left (Read 4)
    ∷ at Both (Seconds 2)
    ∷ at Left Connect
    ∷ at Left (Propose 844497242)
    ∷ at Left Disconnect
    ∷ at Both (Seconds 3)
    ∷ at Right (Read 4)
    -- The rest: one that the right antenna misses, and one that goes backwards.
    ∷ at Both (Seconds 55)
    ∷ at Left (Read 5)
    ∷ at Both (Seconds 4)
    ∷ at Right (Read 5)
    ∷ at Both (Seconds 56)
    ∷ at Left (Read 6)
    ∷ at Both (Seconds 60)
    ∷ at Right (Read 7)
    ∷ at Both (Seconds 6)
    ∷ at Left (Read 7)
    -- Half past five in the evening: the tablet comes for the logs.
    ∷ at Both (Seconds 39174)
    ∷ at Both Connect
    ∷ [])

-- the beasts' ear tags, by their places in the list
unfoldable pub the_tags : List ℕ
the_tags = 4101 ∷ 4102 ∷ 4103 ∷ 4104 ∷ 4105 ∷ 4106 ∷ 4107 ∷ 4108 ∷ []
