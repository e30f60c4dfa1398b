-- Which times the calendar shows of the records that a sound table holds (change request E4).
use Rattle.std.specs.Prelude.{◌≡◌, true, Some, None, List, ◌∷◌, ℕ, ◌+◌, ◌-◌, ◌*◌, ◌≤◌, ◌<◌, leb, drop}
use Rattle.octets.specs.Choice.{pick}
use Rattle.rules.specs.Fields.{last_base_time}
use Rattle.record.specs.Fields.{base_of}
use Rattle.record.specs.declared.kinds.Update.{Update}
use Rattle.record.specs.declared.kinds.Fault.{Fault}
use Rattle.record.specs.declared.kinds.Record.{Record}
use Rattle.record.specs.declared.kinds.Record.TheVariants.{TimeUpdate, TimeFault}
use Rattle.table.specs.Table.{held, sound_b}
use Rattle.calendar_dates.specs.Dates.{date_of_seconds}
use Rattle.calendar_dates.specs.declared.dates.Date.{Date}
use Rattle.calendar_local.specs.Local.{local_of, local_date}

-- the record at some age
pub record HeldIn (t : List ℕ) (r : Record) : Type 0 where
  pub age : ℕ
  pub newer : List Record
  pub here : drop age (held t) ≡ r ∷ newer

-- quarter hours east of UTC, and west of it: one of the two is 0. West the zone is negative, and its byte 256 more.
abbrev pub east : ℕ → ℕ
east zone = pick (leb zone 56) zone 0

abbrev pub west : ℕ → ℕ
west zone = pick (leb zone 56) 0 (256 - zone)

-- The local time of an update: base + 15 minutes times zone + 15 minutes times DST. No second is below 0, so what lies west is added to the
-- other side.
pub record IsLocal (u : Update) (s : ℕ) : Type 0 where
  pub local : local_of (TimeUpdate u) ≡ Some s
  pub reckoned : s + 900 * west u.zone ≡ u.base + 900 * east u.zone + 900 * u.dst

-- Theorem On the calendar, of every record that a sound table holds
pub record OnTheCalendar : Type 0 where
  -- its clock time is always a date, never `?`
  pub clock_time : (t : List ℕ) (r : Record) → sound_b t ≡ true → HeldIn t r → (d : Date) × (date_of_seconds (base_of r) ≡ Some d)
  -- where zone and DST are known there is a local time
  pub local_time_lem : (t : List ℕ) (u : Update) → sound_b t ≡ true → HeldIn t (TimeUpdate u)
      → (u.zone ≡ 128 → ⊥) → (u.dst ≡ 255 → ⊥) → (s : ℕ) × IsLocal u s
  -- and its date is shown, unless it falls after 2099
  pub shown : (u : Update) (s : ℕ) → IsLocal u s → s ≤ last_base_time
      → (d : Date) × (date_of_seconds s ≡ Some d) × (local_date (local_of (TimeUpdate u)) ≡ Some d)
  pub too_late : (u : Update) (s : ℕ) → IsLocal u s → last_base_time < s → local_date (local_of (TimeUpdate u)) ≡ None
  -- else it is `?`
  pub no_zone : (u : Update) → u.zone ≡ 128 → local_date (local_of (TimeUpdate u)) ≡ None
  pub no_dst : (u : Update) → u.dst ≡ 255 → local_date (local_of (TimeUpdate u)) ≡ None
  pub fault : (f : Fault) → local_date (local_of (TimeFault f)) ≡ None
