-- Local time case by case.
-- Assumes nothing.
use mathlib.Core.Path.{◌≡◌}
use Prim.Native.Nat.{ℕ, ◌+◌, ◌-◌, ◌*◌, ◌≤◌, ◌<◌}
use borrow.Author.Tests.{lt-ltb, le-ltb, le-leb, eq-eqb, ne_eqb}
use Rattle.calendar_local.specs.Local.{in_zone, local_time}
use Rattle.std.proofs.Common.{Some, None}

module _ (s zone : ℕ) where
  pub in_east : zone < 128 → in_zone s zone ≡ Some (s + 900 * zone)
  unfolding in_zone
  in_east h = rw (lt-ltb zone 128 h)

  module _ (h : 128 ≤ zone) where
    pub in_west : 900 * (256 - zone) ≤ s → in_zone s zone ≡ Some (s - 900 * (256 - zone))
    unfolding in_zone
    in_west l = rw (le-ltb zone 128 h, le-leb (900 * (256 - zone)) s l)

module _ (base zone dst : ℕ) where
  pub zone_unknown : zone ≡ 128 → local_time base zone dst ≡ None
  unfolding local_time
  zone_unknown h = rw (eq-eqb zone 128 h)

  module _ (h : zone ≡ 128 → ⊥) where
    pub dst_unknown : dst ≡ 255 → local_time base zone dst ≡ None
    unfolding local_time
    dst_unknown l = rw (ne_eqb zone 128 h, eq-eqb dst 255 l)

    pub both_known : (dst ≡ 255 → ⊥) → local_time base zone dst ≡ in_zone (base + 900 * dst) zone
    unfolding local_time
    both_known l = rw (ne_eqb zone 128 h, ne_eqb dst 255 l)
