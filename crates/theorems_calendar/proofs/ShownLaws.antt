-- On the calendar, by the rules that each held record obeys.
-- Assumes nothing.
use mathlib.Core.Path.{◌≡◌, refl, sym, ap, ◌∙◌}
use mathlib.Core.Bool.{Bool, true, false}
use mathlib.Core.List.{List}
use Prim.Native.Nat.{ℕ, ◌+◌, ◌-◌, ◌*◌, ◌≤◌, ◌<◌}
use native.Mathlib.Omega.{arith}
use borrow.Author.Tests.{leb-true, leb-false, eqb-true, eqb-false, le-leb, lt-leb}
use lib.Dec.{leb, eqb}
use Rattle.octets.specs.Choice.{both, either}
use Rattle.octets.proofs.Tests.{both_reads}
use Rattle.rules.specs.Fields.{first_base_time, last_base_time, base_b, zone_b, dst_b, status_b}
use Rattle.record.specs.Fields.{base_of}
use Rattle.record.specs.declared.kinds.Update.{Update}
use Rattle.record.specs.declared.kinds.Fault.{Fault}
use Rattle.record.specs.declared.kinds.Record.{Record}
use Rattle.record.specs.declared.kinds.Record.TheVariants.{TimeUpdate, TimeFault}
use Rattle.record_read.specs.Reading.{update_b, record_b}
use Rattle.record_read.proofs.RuleLaws.{update_rules, update_times, fault_rules}
use Rattle.table.specs.Table.{sound_b}
use Rattle.table_look.proofs.KindLaws.{held_rules}
use Rattle.calendar_dates.specs.Dates.{date_of_seconds}
use Rattle.calendar_dates.specs.declared.dates.Date.{Date}
use Rattle.calendar_dates.proofs.DateLaws.{dated_outside}
use Rattle.calendar_dates.proofs.LostLaws.{turns}
use Rattle.calendar_local.specs.Local.{in_zone, local_of, local_date}
use Rattle.calendar_local.proofs.LocalLaws.{in_east, in_west, zone_unknown, dst_unknown, both_known}
use Rattle.std.proofs.Common.{Some, None}
use Rattle.theorems_calendar.specs.Shown.{HeldIn, IsLocal}

base_range : (b : ℕ) → base_b b ≡ true → (first_base_time ≤ b) × (b ≤ last_base_time)
unfolding base_b
base_range b h = let a = both_reads (leb first_base_time b) _ h in (leb-true _ _ a.0, leb-true _ _ a.1)

rules_base : (r : Record) → record_b r ≡ true → base_b (base_of r) ≡ true
unfolding record_b base_of
rules_base (TimeUpdate u) h = (update_times u h).0
rules_base (TimeFault f) h =
    let a = both_reads (both (status_b f.status) (status_b f.oldstatus)) _ (sym (fault_rules f) ∙ h) in (both_reads (base_b f.base) _ a.1).0

pub clock_time : (t : List ℕ) (r : Record) → sound_b t ≡ true → HeldIn t r → (d : Date) × (date_of_seconds (base_of r) ≡ Some d)
clock_time t r s h =
    let e = turns (base_of r) (base_range (base_of r) (rules_base r (held_rules t h.age r h.newer s h.here))).1 in (e.date, e.dated)

-- a zone that is allowed and known, and not east of UTC, is west of it
zone_west : (z : ℕ) → zone_b z ≡ true → (z ≡ 128 → ⊥) → 56 < z → 208 ≤ z
unfolding zone_b
zone_west z h n e = by (eqb z 128) refl (rw (lt-leb z 56 e) at h)
  where
    by : (b : Bool) → eqb z 128 ≡ b → either b (leb 208 z) ≡ true → 208 ≤ z
    by true t l = absurd (n (eqb-true z 128 t))
    by false t l = leb-true 208 z l

module _ (u : Update) (known : u.zone ≡ 128 → ⊥) (summer : u.dst ≡ 255 → ⊥) where
  local_is : local_of (TimeUpdate u) ≡ in_zone (u.base + 900 * u.dst) u.zone
  unfolding local_of
  local_is = both_known u.base u.zone u.dst known summer

  local_east : u.zone ≤ 56 → (s : ℕ) × IsLocal u s
  local_east h =
      let s = u.base + 900 * u.dst + 900 * u.zone in (
        s,
        record { local = local_is ∙ in_east _ u.zone (omega arith); reckoned = rw (le-leb u.zone 56 h) (omega arith) },
      )

  local_west : first_base_time ≤ u.base → 56 < u.zone → 208 ≤ u.zone → (s : ℕ) × IsLocal u s
  local_west first e h =
      let s = u.base + 900 * u.dst - 900 * (256 - u.zone) in (
        s,
        record {
          local = local_is ∙ in_west _ u.zone (omega arith) (omega arith);
          reckoned = rw (lt-leb u.zone 56 e) (omega arith);
        },
      )

  pub local_known : update_b u ≡ true → (s : ℕ) × IsLocal u s
  local_known h = by (leb u.zone 56) refl
    where
      rules : (base_b u.base ≡ true) × (zone_b u.zone ≡ true)
      rules =
          let a = both_reads (both (status_b u.status) (status_b u.oldstatus)) _ (sym (update_rules u) ∙ h) in
          let b = both_reads (both (zone_b u.zone) (dst_b u.dst)) _ a.1 in
          ((update_times u h).0, (both_reads (zone_b u.zone) _ b.0).0)

      by : (b : Bool) → leb u.zone 56 ≡ b → (s : ℕ) × IsLocal u s
      by true e = local_east (leb-true _ _ e)
      by false e =
          let past = leb-false u.zone 56 e in local_west (base_range u.base rules.0).0 past (zone_west u.zone rules.1 known past)

module _ (u : Update) (s : ℕ) (l : IsLocal u s) where
  pub shown : s ≤ last_base_time → (d : Date) × (date_of_seconds s ≡ Some d) × (local_date (local_of (TimeUpdate u)) ≡ Some d)
  unfolding local_date
  shown h = let e = turns s h in (e.date, e.dated, ap local_date l.local ∙ e.dated)

  pub too_late : last_base_time < s → local_date (local_of (TimeUpdate u)) ≡ None
  unfolding local_date
  too_late h = ap local_date l.local ∙ dated_outside s h

module _ (u : Update) where
  pub no_zone : u.zone ≡ 128 → local_date (local_of (TimeUpdate u)) ≡ None
  unfolding local_date local_of
  no_zone h = ap local_date (zone_unknown u.base u.zone u.dst h)

  pub no_dst : u.dst ≡ 255 → local_date (local_of (TimeUpdate u)) ≡ None
  unfolding local_date local_of
  no_dst h = by (eqb u.zone 128) refl
    where
      by : (b : Bool) → eqb u.zone 128 ≡ b → local_date (local_of (TimeUpdate u)) ≡ None
      by true e = no_zone (eqb-true _ _ e)
      by false e = ap local_date (dst_unknown u.base u.zone u.dst (eqb-false _ _ e) h)

pub no_fields : (f : Fault) → local_date (local_of (TimeFault f)) ≡ None
unfolding local_date local_of
no_fields f = refl
