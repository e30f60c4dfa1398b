-- The same as the tablet's C code sees it: `dts_join` over its 48 bytes, `dts_keep` over the copy's table, `dts_carry` over either table.
use Rattle.std.specs.Prelude.{◌≡◌, Bool, true, false, List, [], ◌∷◌, ℕ, suc, ◌≤◌, ◌<◌, eqb, ℤ, pos, negsuc, length, replicate}
use Rattle.octets.specs.Choice.{both, pick}
use Rattle.octets.specs.Parts.{part, Bytes}
use Rattle.filter.specs.declared.filter.Filter.TheVariants.{All, AtLeast}
use Rattle.table.specs.Table.{next, slots_in, size_b, sound_b}
use Rattle.carry.specs.Stamp.{later_of}
use Rattle.state_bytes.specs.State.{state_bytes}
use Rattle.state_bytes.specs.JoiningState.{joining_bytes}
use Rattle.server_bytes.specs.Start.{start_at}
use Rattle.tablet_bytes.specs.Calls.{join_at, KeptBytes, keep_at, carry_at}
use Rattle.theorems_bytes.specs.World.{ByteWorld, ByteCall, racp_write, step_at, run_at, EntryCall, history_at, started_at}
use Rattle.theorems_bytes.specs.Reports.{hearing_at, AcceptedAt, all_quiet_at}
use Rattle.theorems_bytes.specs.Stamps.{logged_at, base_read, number_read, carried_at, CarriesAt}
use Rattle.theorems_copies.specs.Copies.{Copy, copy, CopyOf, WentOn}

-- the result 0
abbrev pub zero_b : ℤ → Bool
zero_b (pos n) = eqb n 0
zero_b (negsuc n) = false

abbrev pub after_keeping_at : Bool → KeptBytes → Copy
after_keeping_at f k = copy k.table (both f (zero_b k.result))

-- "0 more to come, 1 to 45: a whole record of that length stands in joining", from its byte 3 on: it is kept
abbrev pub keep_heard_at : Copy → List ℕ → ℤ → Copy
keep_heard_at c j (pos n) = pick (eqb n 0) c (after_keeping_at c.fine (keep_at c.table (part j 3 n)))
keep_heard_at c j (negsuc n) = copy c.table false

unfoldable pub keep_all_at : Copy → List ℕ → List (List ℕ) → Copy
keep_all_at c j [] = c
keep_all_at c j (n ∷ ns) = keep_all_at (keep_heard_at c (join_at j n).joining (join_at j n).result) (join_at j n).joining ns

-- a report's notifications, kept in the table u, from a joining state of zeros; a copy in the buffer u, which `dts_start` makes a new table of
abbrev pub kept_at : List ℕ → List (List ℕ) → Copy
kept_at u notes = keep_all_at (copy u true) (replicate joining_bytes 0) notes

abbrev pub copy_at : List ℕ → List ℕ → List (List ℕ) → Copy
copy_at z u notes = kept_at (start_at z u).table notes

-- At b a report of all records is asked for and accepted, and heard among calls that end no report, up to the closing response.
pub record Fetched (w o : List ℕ) (hw : Bytes w) (ks : List ByteCall) (b : ByteWorld) : Type 0 where
  pub accepted : AcceptedAt b w o hw All
  pub quiet : all_quiet_at (step_at b (racp_write w o hw)) ks ≡ true
  pub closed : (hearing_at (step_at b (racp_write w o hw)) ks).closed ≡ true

-- Theorem Fetched copy, over bytes, from start: any entry points, then a report that is fetched.
abbrev pub FetchedCopyAt : Type 0
FetchedCopyAt = (s t : List ℕ) (before : List EntryCall) (w o : List ℕ) (hw : Bytes w) (ks : List ByteCall) (z u : List ℕ)
    → length s ≡ state_bytes → size_b (length t) ≡ true → length z ≡ state_bytes → size_b (length u) ≡ true
    → let b = history_at (started_at s t) before in
    Fetched w o hw ks b
    → let c = copy_at z u (hearing_at (step_at b (racp_write w o hw)) ks).notes in (c.fine ≡ true) × CopyOf (slots_in (length u)) b.table c.table

-- Theorem Fetched on, over bytes, from start: any entry points, then a report of the copy's next number and all newer.
abbrev pub FetchedOnAt : Type 0
FetchedOnAt = (s t : List ℕ) (before : List EntryCall) (w o : List ℕ) (hw : Bytes w) (ks : List ByteCall) (u : List ℕ)
    → length s ≡ state_bytes → size_b (length t) ≡ true → Bytes u → sound_b u ≡ true
    → let b = history_at (started_at s t) before in
    AcceptedAt b w o hw (AtLeast (next u)) → all_quiet_at (step_at b (racp_write w o hw)) ks ≡ true → (hearing_at (step_at b (racp_write w o hw)) ks).closed ≡ true
    → let c = kept_at u (hearing_at (step_at b (racp_write w o hw)) ks).notes in (c.fine ≡ true) × WentOn b.table u c.table

-- `dts_carry` over a copy leaves the result and the stamp that it leaves over the reader's own table, wherever the copy has a slot for each later record.
abbrev pub CarriedOverCopyAt : Type 0
CarriedOverCopyAt = (n : ℕ) (t u : List ℕ) → sound_b t ≡ true → CopyOf n t u → (stamp q : ℕ) (y : ℤ) → later_of (next t) q ≤ n
    → carry_at stamp q u y ≡ carry_at stamp q t y

-- Theorem Carried stamp over a fetched copy: at b a stamp is noted with the next number, as read; the calls `after` come; then the tablet fetches the log
-- into the buffer u. Wherever u has a slot for each later record, as the numbers tell, `dts_carry` over the copy gives what it gives over the reader's own
-- table, and that is what Carried stamp says.
abbrev pub CarriedCopyAt : Type 0
CarriedCopyAt = (s t : List ℕ) (before : List EntryCall) (after : List ByteCall) (w x : List ℕ) (hw : Bytes w) (ks : List ByteCall) (z u o p : List ℕ) (y : ℤ)
    → length s ≡ state_bytes → size_b (length t) ≡ true → length z ≡ state_bytes → size_b (length u) ≡ true → 20 ≤ length o → 20 ≤ length p
    → let b = history_at (started_at s t) before in
    length (logged_at b after) < 65536 → Fetched w x hw ks (run_at b after)
    → later_of (next (run_at b after).table) (number_read b o) ≤ slots_in (length u)
    → (carry_at (base_read b o) (number_read b o) (copy_at z u (hearing_at (step_at (run_at b after) (racp_write w x hw)) ks).notes).table y ≡ carried_at b after o y)
    × CarriesAt b after o p y
