-- The same over bytes, the whole way: a reader is started in three slots, set, fails, is set twice more, so that its log has wrapped; a report of all
-- records is asked for with sizes that change, while its clock goes on and a fault is refused; what `dts_join` gives goes to `dts_keep`, and `dts_carry`
-- carries stamps over the copy. And the same copy later on, with what is new then.
use Rattle.std.specs.Prelude.{◌≡◌, Bool, true, List, [], ◌∷◌, ◌++◌, map, ℕ, ℤ, pos, negsuc}
use Rattle.octets.specs.Parts.{Bytes}
use Rattle.record.specs.Fields.{sequence_of}
use Rattle.table.specs.Table.{next, held}
use Rattle.keep.specs.Keep.{numbered, record_kept, keep_of, keeping_number}
use Rattle.server_bytes.specs.Start.{start_at}
use Rattle.tablet_bytes.specs.Calls.{keep_at, CarriedTo, carrying, carry_at}
use Rattle.theorems_stamps.specs.Cases.{buffer, output, Writable}
use Rattle.theorems_bytes.specs.World.{ByteWorld, ByteCall, seconds, fault, racp_write, notify, EntryCall, call, called_at, step_at, run_at, history_at, started_at, call_of}
use Rattle.theorems_reports.specs.Hearing.{calm_b, all_calm_b}
use Rattle.theorems_bytes.specs.Reports.{all_quiet_at, hearing_at}
use Rattle.theorems_bytes.specs.Cases.{set, on, heard_of}
use Rattle.theorems_copies.specs.Copies.{Copy}
use Rattle.theorems_copies.specs.CopiesAt.{keep_all_at, kept_at}

-- what came of it: the result of asking; that no call ended the report; that it closed; that every record was kept; the copy's next number and its
-- records' numbers; and what `dts_carry` leaves of the stamp 800,000,195 with each of some numbers, where -1 stood
pub record Copied : Type 0 where
  pub accepted : ℤ
  pub quiet : Bool
  pub closed : Bool
  pub fine : Bool
  pub next : ℕ
  pub numbers : List ℕ
  pub carried : List CarriedTo

-- records 0 to 3: set, a fault, set 200 s on, set 110 s back
abbrev before : Writable → List EntryCall
before h =
    call on
    ∷ call (set h 800000000)
    ∷ call (seconds 100)
    ∷ call (fault output)
    ∷ call (set h 800000200)
    ∷ call (seconds 100)
    ∷ call (set h 800000190)
    ∷ []

-- 20 bytes in two bodies, 24 in one, 24 in two; a fault without room for its response is refused
abbrev askings : List ByteCall
askings =
    notify 20 output
    ∷ seconds 1
    ∷ notify 21 output
    ∷ fault []
    ∷ notify 25 output
    ∷ notify 20 output
    ∷ notify 244 output
    ∷ notify 20 output
    ∷ []

-- a report asked for at b and kept in the table u; and what came of it, for the numbers qs
abbrev kept_of : ByteWorld → ByteCall → List ByteCall → List ℕ → Copy
kept_of b ask ks u = kept_at u (hearing_at (step_at b ask) ks).notes

abbrev came_of : ByteWorld → ByteCall → List ByteCall → List ℕ → List ℕ → Copied
came_of b ask ks u qs =
    let c = kept_of b ask ks u in
    record {
      accepted = (called_at b ask).result;
      quiet = all_quiet_at (step_at b ask) ks;
      closed = (hearing_at (step_at b ask) ks).closed;
      fine = c.fine;
      next = next c.table;
      numbers = map sequence_of (held c.table);
      carried = map (λ (q : ℕ). carry_at 800000195 q c.table (negsuc 0)) qs;
    }

abbrev pub reader : Writable → ByteWorld
reader h = history_at (started_at (buffer 32) (buffer 208)) (before h)

abbrev Asks : Type 0
Asks = (n : ℕ) → Bytes (1 ∷ 1 ∷ [])

abbrev ask_all : Asks → ByteCall
ask_all a = racp_write (1 ∷ 1 ∷ []) output (a 0)

abbrev started : ℕ → List ℕ
started size = (start_at (buffer 32) (buffer size)).table

unfoldable pub copied_in : Writable → Asks → ℕ → Copied
unfolding heard_of call_of calm_b all_calm_b all_quiet_at keep_all_at keep_at keep_of record_kept numbered keeping_number
copied_in h a size = came_of (reader h) (ask_all a) askings (started size) (4 ∷ 3 ∷ 2 ∷ 1 ∷ [])

-- The report is over, and the reader is set twice more: records 4, 109 s on, and 5, 95 s on. Record 4 and all newer are asked for, and kept in the
-- copy that was fetched before.
abbrev AsksNewer : Type 0
AsksNewer = (n : ℕ) → Bytes (1 ∷ 3 ∷ 1 ∷ 4 ∷ 0 ∷ [])

unfoldable pub went_on_in : Writable → Asks → AsksNewer → ℕ → Copied
unfolding copied_in
went_on_in h a n size =
    let after = run_at (step_at (reader h) (ask_all a)) (askings ++ (set h 800000300 ∷ seconds 5 ∷ set h 800000400 ∷ [])) in
    came_of after (racp_write (1 ∷ 3 ∷ 1 ∷ 4 ∷ 0 ∷ []) output (n 0)) (notify 244 output ∷ notify 20 output ∷ notify 20 output ∷ notify 20 output ∷ [])
    (kept_of (reader h) (ask_all a) askings (started size)).table (6 ∷ 4 ∷ 2 ∷ 1 ∷ [])

-- A copy of five slots: over the last record 110 s back, over the two before 90 s on, and 13 for the fault. One of two slots: 12 where it needs three.
abbrev InFive : Writable → Asks → Type 0
InFive h a = copied_in h a 336
    ≡ record {
      accepted = pos 0;
      quiet = true;
      closed = true;
      fine = true;
      next = 4;
      numbers = 1 ∷ 2 ∷ 3 ∷ [];
      carried = carrying (pos 0) (pos 800000195) ∷ carrying (pos 0) (pos 800000085) ∷ carrying (pos 0) (pos 800000285) ∷ carrying (negsuc 12) (negsuc 0) ∷ [];
    }

abbrev InTwo : Writable → Asks → Type 0
InTwo h a = copied_in h a 144
    ≡ record {
      accepted = pos 0;
      quiet = true;
      closed = true;
      fine = true;
      next = 4;
      numbers = 2 ∷ 3 ∷ [];
      carried = carrying (pos 0) (pos 800000195) ∷ carrying (pos 0) (pos 800000085) ∷ carrying (pos 0) (pos 800000285) ∷ carrying (negsuc 11) (negsuc 0) ∷ [];
    }

-- In five slots there is room for all that came, more than the reader still holds.
abbrev OnInFive : Writable → Asks → AsksNewer → Type 0
OnInFive h a n = went_on_in h a n 336
    ≡ record {
      accepted = pos 0;
      quiet = true;
      closed = true;
      fine = true;
      next = 6;
      numbers = 1 ∷ 2 ∷ 3 ∷ 4 ∷ 5 ∷ [];
      carried = carrying (pos 0) (pos 800000195) ∷ carrying (pos 0) (pos 800000399) ∷ carrying (pos 0) (pos 800000489) ∷ carrying (negsuc 12) (negsuc 0) ∷ [];
    }

pub record ComputedAt : Type 0 where
  pub writable : Writable
  pub asks : Asks
  pub asks_newer : AsksNewer
  pub in_five : InFive writable asks
  pub in_two : InTwo writable asks
  pub on_in_five : OnInFive writable asks asks_newer
