-- A record's local time (change request E4): its new base, and 15 minutes times zone and 15 minutes times DST. "`?` stands for a local time whose
-- zone or DST is unknown or not in the record, or that falls outside the table's years."
use Rattle.std.specs.Prelude.{Option, Some, None, ℕ, ◌+◌, ◌-◌, ◌*◌, eqb, leb, ltb}
use Rattle.octets.specs.Choice.{either, pick}
use Rattle.record.specs.declared.kinds.Record.{Record}
use Rattle.record.specs.declared.kinds.Record.TheVariants.{TimeUpdate, TimeFault}
use Rattle.calendar_dates.specs.Dates.{date_of_seconds}
use Rattle.calendar_dates.specs.declared.dates.Date.{Date}

-- a second, and so many quarter hours more; the zone is a byte, in which those west of UTC have 256 added. Before 2000 there is no second.
unfoldable pub in_zone : ℕ → ℕ → Option ℕ
in_zone s zone =
    pick (ltb zone 128) (Some (s + 900 * zone))
    (pick (leb (900 * (256 - zone)) s) (Some (s - 900 * (256 - zone))) None)

-- zone 128 stands for -128, unknown; DST 255 is unknown
unfoldable pub local_time : ℕ → ℕ → ℕ → Option ℕ
local_time base zone dst = pick (either (eqb zone 128) (eqb dst 255)) None (in_zone (base + 900 * dst) zone)

-- a Time_Fault has neither zone nor DST
unfoldable pub local_of : Record → Option ℕ
local_of (TimeUpdate u) = local_time u.base u.zone u.dst
local_of (TimeFault f) = None

-- its date: none where it is not known, or falls outside the table's years
unfoldable pub local_date : Option ℕ → Option Date
local_date (Some s) = date_of_seconds s
local_date None = None
