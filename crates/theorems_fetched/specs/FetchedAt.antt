-- The same as the tablet's C code sees it: what `dts_join` and `dts_read` give goes to `dts_fetch_take`, by the three numbers of what was told.
use Rattle.std.specs.Prelude.{◌≡◌, true, List, [], ◌∷◌, ℕ, ◌<◌, pos, length, replicate}
use Rattle.octets.specs.Choice.{pick}
use Rattle.octets.specs.Numbers.{at}
use Rattle.octets.specs.Parts.{Bytes}
use Rattle.table.specs.Table.{count, first, size_b}
use Rattle.fetch_map.specs.Map.{map_words}
use Rattle.state_bytes.specs.State.{state_bytes}
use Rattle.state_bytes.specs.JoiningState.{joining_bytes}
use Rattle.tablet_bytes.specs.Calls.{ReadNumbers}
use Rattle.fetch_bytes.specs.Calls.{ToldResult, tell_at, Proposed, propose_at, take_at}
use Rattle.theorems_bytes.specs.World.{ByteWorld, ByteCall, racp_write, called_at, step_at, EntryCall, history_at, started_at}
use Rattle.theorems_bytes.specs.Reports.{hearing_at, join_all_at, all_quiet_at}
use Rattle.theorems_copies.specs.CopiesAt.{zero_b}
use Rattle.theorems_fetched.specs.Fetched.{newest_number, FirstReceived}

-- each record that `dts_read` read, its result 0, is taken in by the first of its eleven numbers, the sequence number
abbrev pub take_read_at : List ℕ → List ℕ → ReadNumbers → List ℕ
take_read_at told m x = pick (zero_b x.result) (take_at m told (at x.fields 0)).map m

unfoldable pub take_all_at : List ℕ → List ℕ → List ReadNumbers → List ℕ
take_all_at told m [] = m
take_all_at told m (x ∷ l) = take_all_at told (take_read_at told m x) l

-- the map after the notifications of a report, from a joining state of zeros; `dts_read` is lent the eleven numbers e
abbrev pub fetched_at : List ℕ → List ℕ → List ℕ → List (List ℕ) → List ℕ
fetched_at e told m notes = take_all_at told m (join_all_at e (replicate joining_bytes 0) notes).numbers

-- At b the run p was proposed, of the map m and what was told: it asks for something. Once it is written to the reader, accepted, and the report heard
-- among calls that end no report, up to the closing response, nothing is missing.
pub record RestAt (b : ByteWorld) (m told : List ℕ) (p : Proposed) : Type 0 where
  pub asks : p.result ≡ pos 7
  pub bytes : Bytes p.request
  pub nothing : (e o r : List ℕ) (ks : List ByteCall) → let asked = step_at b (racp_write p.request o bytes) in
      (called_at b (racp_write p.request o bytes)).result ≡ pos 0 → all_quiet_at asked ks ≡ true → (hearing_at asked ks).closed ≡ true
      → (propose_at (fetched_at e told m (hearing_at asked ks).notes) told r).result ≡ pos 0

-- At b the tool was told what the reader holds.
pub record ToldRestAt (b : ByteWorld) (request : List ℕ) (x : ToldResult) : Type 0 where
  pub done : x.result ≡ pos 0
  pub fetched : RestAt b x.map x.told (propose_at x.map x.told request)

-- Theorem Fetched rest, over bytes, from start: any entry points, then the tool is told, with any value but 0, that records are held, and which.
abbrev pub FetchesRestAt : Type 0
FetchesRestAt = (s t : List ℕ) (before : List EntryCall) (m told request : List ℕ) (any g : ℕ) → length s ≡ state_bytes → size_b (length t) ≡ true
    → length m ≡ map_words → 0 < any
    → let b = history_at (started_at s t) before in
    g < count b.table → FirstReceived g b.table m
    → ToldRestAt b request (tell_at m told any (first b.table) (newest_number b.table))
