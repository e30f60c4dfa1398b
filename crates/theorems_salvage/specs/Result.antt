-- What a driver may take from salvage (docs/RULES.md, "Salvage"): the table that comes back is sound, its records are the run's, unaltered and in the
-- order of reading; and salvaging it again changes nothing.
use Rattle.std.specs.Prelude.{◌≡◌, true, List, map, ℕ, ◌≤◌, length, take, Ok}
use Rattle.octets.specs.Parts.{over, Bytes}
use Rattle.table.specs.Table.{size_b, sound_b, count, next, ring, held, bytes_in, record_in}
use Rattle.salvage_run.specs.Runs.{run_of, kept_slots}
use Rattle.salvage_table.specs.Salvaged.{next_after, salvaged_table}
use Rattle.salvage_call.specs.Salvage.{salvaged, salvage_of}

-- a table of a permitted size in which a slot counts
pub record Holds (t : List ℕ) : Type 0 where
  pub bytes : Bytes t
  pub size : size_b (length t) ≡ true
  pub some : 1 ≤ (run_of t).count

-- The table that is made of it: sound, as long as it was; what its held slots hold are the bytes and the records of the slots that are kept, which
-- are a part of the input's slots in the order of reading (`kept_slots`); its next number is one after the last.
pub record Comes (t : List ℕ) : Type 0 where
  pub sound : sound_b (salvaged_table t) ≡ true
  pub size : length (salvaged_table t) ≡ length t
  pub count : count (salvaged_table t) ≡ (run_of t).count
  pub unaltered : map bytes_in (ring (salvaged_table t)) ≡ map bytes_in (kept_slots t)
  pub held : held (salvaged_table t) ≡ map record_in (kept_slots t)
  pub next : next (salvaged_table t) ≡ next_after (kept_slots t)
  pub bytes : Bytes (salvaged_table t)

abbrev pub ComesBack : Type 0
ComesBack = (t : List ℕ) → Holds t → Comes t

-- Whatever a call that was done wrote as a table comes back from a second one as it is, with an empty report.
abbrev pub Twice : Type 0
Twice = (t table report : List ℕ) (n : ℕ) → Bytes t → (salvage_of t table report).answer ≡ Ok n
    → let back = take (length t) (salvage_of t table report).table in
    (second told : List ℕ) → length back ≤ length second → salvage_of back second told ≡ salvaged (Ok 0) (over second 0 back) told
