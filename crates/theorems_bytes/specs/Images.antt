-- What holds of every history of entry-point calls from `dts_start` on. `dts_start` is one of its calls.
use Rattle.std.specs.Prelude.{◌≡◌, true, List, [], ℕ, pos, length}
use Rattle.octets.specs.Parts.{Bytes}
use Rattle.table.specs.Table.{size_b}
use Rattle.state_bytes.specs.State.{state_bytes, image_b}
use Rattle.state_images.specs.Theorems.{Fits}
use Rattle.server_bytes.specs.Start.{start_at}
use Rattle.theorems_reports.specs.World.{World, new_world, run_of}
use Rattle.theorems_reports.specs.Reach.{Good}
use Rattle.theorems_bytes.specs.World.{EntryCall, entered_at, history_at, started_at, calls_of, image_in, history_of, entered_of, outcomes_at, outcomes_of, since_start}

-- Theorem Images: from start, over any calls, the two buffers are the image of clock and table by value, and every entry point gives what
-- the call by value gives.
pub record Images : Type 0 where
  pub starts : (s t : List ℕ) → length s ≡ state_bytes → size_b (length t) ≡ true
      → ((start_at s t).result ≡ pos 0) × (started_at s t ≡ image_in (new_world t))
  pub one : (v : World) (k : EntryCall) → Good v → Fits v.clock → entered_at (image_in v) k ≡ entered_of v k
  pub worlds : (s t : List ℕ) (ks : List EntryCall) → length s ≡ state_bytes → size_b (length t) ≡ true
      → history_at (started_at s t) ks ≡ image_in (history_of (new_world t) ks)
  pub outcomes : (s t : List ℕ) (ks : List EntryCall) → length s ≡ state_bytes → size_b (length t) ≡ true
      → outcomes_at (started_at s t) ks ≡ outcomes_of (new_world t) ks
  pub next : (s t : List ℕ) (ks : List EntryCall) (k : EntryCall) → length s ≡ state_bytes → size_b (length t) ≡ true
      → entered_at (history_at (started_at s t) ks) k ≡ entered_of (history_of (new_world t) ks) k
  -- no entry point refuses the state that the one before it left
  pub state : (s t : List ℕ) (ks : List EntryCall) → length s ≡ state_bytes → size_b (length t) ≡ true
      → image_b (history_at (started_at s t) ks).state ≡ true
  -- every element of both buffers is a byte
  pub bytes : (s t : List ℕ) (ks : List EntryCall) → length s ≡ state_bytes → size_b (length t) ≡ true
      → Bytes (history_at (started_at s t) ks).state × Bytes (history_at (started_at s t) ks).table
  -- by value it is the run of the server's calls since the last start, so what is proved of any run from start holds of it
  pub since : (s t : List ℕ) (ks : List EntryCall) → length s ≡ state_bytes → size_b (length t) ≡ true
      → history_at (started_at s t) ks ≡ image_in (run_of (new_world t) (calls_of (since_start [] ks)))

-- Theorem Restarted: `dts_start` over the buffers of a reader that was reached is `dts_start` over those that it began with.
pub record Restarted : Type 0 where
  pub state_size : (s t : List ℕ) (ks : List EntryCall) → length s ≡ state_bytes → size_b (length t) ≡ true
      → length (history_at (started_at s t) ks).state ≡ state_bytes
  pub table_size : (s t : List ℕ) (ks : List EntryCall) → length s ≡ state_bytes → size_b (length t) ≡ true
      → length (history_at (started_at s t) ks).table ≡ length t
  pub again : (s t : List ℕ) (ks : List EntryCall) → length s ≡ state_bytes → size_b (length t) ≡ true
      → start_at (history_at (started_at s t) ks).state (history_at (started_at s t) ks).table ≡ start_at s t
