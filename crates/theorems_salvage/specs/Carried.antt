-- "What is carried over a salvaged table is what would have been carried over the reader's own only where its records and its next number are those that
-- the reader wrote last" (docs/RULES.md, "Salvage").
use Rattle.std.specs.Prelude.{◌≡◌, true, List, map, ℕ, ◌≤◌}
use Rattle.table.specs.Table.{next, held, record_in, sound_b}
use Rattle.table_write.specs.Append.{newest}
use Rattle.carry.specs.Stamp.{later_of, carry_of}
use Rattle.salvage_run.specs.Runs.{run_of, kept_slots}
use Rattle.salvage_table.specs.Salvaged.{next_after, salvaged_table}
use Rattle.theorems_salvage.specs.Result.{Holds}

-- The kept records are the newest of those that the reader's table w holds, and the number after the last of them is its next number.
pub record WroteLast (t w : List ℕ) : Type 0 where
  pub sound : sound_b w ≡ true
  pub records : map record_in (kept_slots t) ≡ newest (run_of t).count (held w)
  pub next : next_after (kept_slots t) ≡ next w

-- Then carrying over the salvaged table answers as over the reader's, wherever as many records as came later are held.
abbrev pub CarriesAlike : Type 0
CarriesAlike = (t w : List ℕ) (stamp q : ℕ) → Holds t → WroteLast t w → later_of (next w) q ≤ (run_of t).count
    → carry_of stamp q (salvaged_table t) ≡ carry_of stamp q w
