-- The theorem One beast as the C side sees it: of buffers, results and outputs alone.
use Rattle.std.specs.Prelude.{◌≡◌, true, List, ℕ, ◌≤◌, ◌<◌, length}
use Rattle.table.specs.Table.{size_b}
use Rattle.state_bytes.specs.State.{state_bytes}
use Rattle.ramp_bytes.specs.Calls.{Ruled, result_of, one_beast_at}
use Rattle.theorems_bytes.specs.World.{ByteWorld, ByteCall, run_at, EntryCall, history_at, started_at}
use Rattle.theorems_bytes.specs.Stamps.{base_read, number_read, ran_at, logged_at, faultless_b, all_held_at}
use Rattle.theorems_ramp.specs.OneBeast.{refusal_by, truth_of}

-- a reader started in a state s and a table t, and the calls up to the moment of the read
pub record Reader : Type 0 where
  pub state : List ℕ
  pub table : List ℕ
  pub before : List EntryCall
  pub after : List ByteCall
  -- the buffers that Device Time is read into, at the read and now
  pub then : List ℕ
  pub now : List ℕ

abbrev pub at_read : Reader → ByteWorld
at_read r = history_at (started_at r.state r.table) r.before

pub record Started (r : Reader) : Type 0 where
  pub state : length r.state ≡ state_bytes
  pub table : size_b (length r.table) ≡ true
  pub then : 20 ≤ length r.then
  pub now : 20 ≤ length r.now
  pub few : length (logged_at (at_read r) r.after) < 65536

-- what `dts_one_beast` gives, from what `dts_device_time` wrote at the read and now, and the table now
abbrev pub ruled_after : Reader → Reader → ℕ → Ruled
ruled_after l r window =
    one_beast_at
    (run_at (at_read l) l.after).table (base_read (run_at (at_read l) l.after) l.now) (base_read (at_read l) l.then) (number_read (at_read l) l.then)
    (run_at (at_read r) r.after).table (base_read (run_at (at_read r) r.after) r.now) (base_read (at_read r) r.then) (number_read (at_read r) r.then)
    window

abbrev pub refusal_at : Reader → ℕ
refusal_at r = refusal_by (all_held_at (at_read r) r.after) (faultless_b (logged_at (at_read r) r.after))

abbrev pub ran_since : Reader → ℕ
ran_since r = ran_at (at_read r) r.after

-- Theorem One beast, over bytes.
abbrev pub OneBeastAt : Type 0
OneBeastAt = (l r : Reader) (window : ℕ) → Started l → Started r
    → ruled_after l r window ≡ result_of (truth_of window (refusal_at l) (ran_since l) (refusal_at r) (ran_since r))
