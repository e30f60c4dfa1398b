-- Reports by number (change request E1) as the C side sees them: which held records an accepted one hands over, told by their ages and not by
-- matching.
use Rattle.std.specs.Prelude.{◌≡◌, true, List, map, ℕ, ◌+◌, ◌-◌, ◌≤◌, ◌<◌, length, take, drop, replicate}
use Rattle.octets.specs.Parts.{Bytes}
use Rattle.filter.specs.declared.filter.Filter.TheVariants.{AtMost, AtLeast, Range}
use Rattle.record.specs.declared.kinds.Record.{Record}
use Rattle.table.specs.Table.{count, held, age_of, size_b}
use Rattle.state_bytes.specs.State.{state_bytes}
use Rattle.state_bytes.specs.JoiningState.{joining_bytes}
use Rattle.theorems_bytes.specs.World.{ByteWorld, ByteCall, racp_write, step_at, EntryCall, history_at, started_at}
use Rattle.theorems_bytes.specs.Reports.{hearing_at, join_all_at, shown_of, AcceptedAt, all_quiet_at}

-- Once it has closed, among calls that end no report, what `dts_read` gave are the numbers of exactly these records, oldest first.
abbrev pub HandsOver : ByteWorld → (w o : List ℕ) → Bytes w → List Record → Type 0
HandsOver b w o hw l = (e : List ℕ) (ks : List ByteCall) → all_quiet_at (step_at b (racp_write w o hw)) ks ≡ true
    → (hearing_at (step_at b (racp_write w o hw)) ks).closed ≡ true
    → (join_all_at e (replicate joining_bytes 0) (hearing_at (step_at b (racp_write w o hw)) ks).notes).numbers ≡ map shown_of l

-- "'Greater or equal' takes the named record and all newer, 'less or equal' it and all older, a range runs forward from minimum to maximum."
-- A record named is held, and a maximum is not older than its minimum: else nothing matches, and no report is accepted.
pub record ByNumberAt (b : ByteWorld) (w o : List ℕ) (hw : Bytes w) : Type 0 where
  pub at_least : (min : ℕ) → AcceptedAt b w o hw (AtLeast min)
      → (age_of b.table min < count b.table) × HandsOver b w o hw (drop (age_of b.table min) (held b.table))
  pub at_most : (max : ℕ) → AcceptedAt b w o hw (AtMost max)
      → (age_of b.table max < count b.table) × HandsOver b w o hw (take (age_of b.table max + 1) (held b.table))
  pub range : (min max : ℕ) → AcceptedAt b w o hw (Range min max)
      → (age_of b.table min ≤ age_of b.table max)
      × (age_of b.table max < count b.table)
      × HandsOver b w o hw (take (age_of b.table max + 1 - age_of b.table min) (drop (age_of b.table min) (held b.table)))

-- Theorem Reported by number, over bytes, from start: whatever was logged before, also where the numbers have rolled.
abbrev pub ReportedByNumber : Type 0
ReportedByNumber = (s t : List ℕ) (before : List EntryCall) (w o : List ℕ) (hw : Bytes w) → length s ≡ state_bytes → size_b (length t) ≡ true
    → ByNumberAt (history_at (started_at s t) before) w o hw
