-- Cases over bytes, run by the checker on the definitions that the entry points' promises cite.
use Rattle.std.specs.Prelude.{◌≡◌, Bool, true, false, List, [], ◌∷◌, ◌++◌, ℕ, ℤ, pos, negsuc, replicate, Option, Some}
use Rattle.octets.specs.Numbers.{bytes2, bytes4}
use Rattle.octets.specs.Parts.{Bytes, same_b}
use Rattle.filter.specs.declared.filter.Filter.TheVariants.{AtMost}
use Rattle.clock.specs.Answers.{number_of}
use Rattle.update.specs.TimeUpdate.{after_decision}
use Rattle.characteristics.specs.Value.{device_time_bytes, device_time_of}
use Rattle.state_bytes.specs.JoiningState.{joining_image, joining_in}
use Rattle.carry.specs.Stamp.{later_of, carried_over, carried_from, carry_of, moved_by}
use Rattle.carry.specs.Stamp as carry
use Rattle.state_bytes.specs.State.{switches_of as switchesIn, bounds_of, unsent_of, fields_of, field_bytes, image_of, filter_in, left_in, running_in, clock_in, image_b, clock_of}
use Rattle.server_bytes.specs.Results.{result_of, state_after}
use Rattle.server_bytes.specs.Results as results
use Rattle.server_bytes.specs.Start.{start_at}
use Rattle.server_bytes.specs.Events.{seconds_at, switches_at, disconnect_at}
use Rattle.server_bytes.specs.Calls.{fault_at as faultCall, dtcp_at, racp_at, notify_at}
use Rattle.server_bytes.specs.ValuesRead.{device_time_at}
use Rattle.tablet_bytes.specs.Calls.{carry_at, join_at, read_at, reading, fields_in}
use Rattle.theorems_stamps.specs.Cases.{buffer, output, force, Writable}
use Rattle.theorems_reports.specs.World.{new_world, Call, run_of}
use Rattle.theorems_reports.specs.World as calls
use Rattle.theorems_reports.specs.Open.{calls_open, joining_open}
use Rattle.theorems_bytes.specs.World.{ByteCall, seconds, switches, disconnect, fault, dtcp_write, racp_write, notify, device_time, called_at, step_at, run_at, EntryCall, start, call, entered_at, enter_at, history_at, started_at}
use Rattle.theorems_bytes.specs.Reports.{heard_at, hearing_at, GotAt, got_at, join_all_at}
use Rattle.theorems_bytes.specs.Stamps.{ran_in, ran_at, logged_in, logged_at, faultless_b, held_in, same_rows_b, base_read, number_read, carried_at, all_held_at}
use Rattle.clock.specs.declared.state.Report.{Report}

-- the stamp and its number as read, the records that were logged after it, the theorem's two tests, what `dts_carry` gives where -1 stood;
-- the clock then as read, and the seconds that ran
pub record Result : Type 0 where
  pub stamp : ℕ
  pub number : ℕ
  pub logged : List (List ℕ)
  pub all_held : Bool
  pub faultless : Bool
  pub result : ℤ
  pub carried : ℤ
  pub clock : ℕ
  pub ran : ℕ

unfoldable pub seen_of : List ℕ → List EntryCall → List ByteCall → Result
unfolding calls_open later_of moved_by carried_over carried_from carry_of carry.carrying_number device_time_bytes device_time_of switchesIn bounds_of unsent_of fields_of field_bytes image_of filter_in left_in running_in clock_in image_b clock_of same_b result_of state_after results.settled_of start_at seconds_at switches_at disconnect_at faultCall dtcp_at racp_at notify_at device_time_at carry_at called_at step_at run_at entered_at enter_at history_at ran_in ran_at logged_in logged_at faultless_b held_in same_rows_b all_held_at
seen_of t before after =
    let b = history_at (started_at (buffer 32) t) before in
    record {
      stamp = base_read b output;
      number = number_read b output;
      logged = logged_at b after;
      all_held = all_held_at b after;
      faultless = faultless_b (logged_at b after);
      result = (carried_at b after output (negsuc 0)).result;
      carried = (carried_at b after output (negsuc 0)).carried;
      clock = base_read (run_at b after) output;
      ran = ran_at b after;
    }

abbrev pub set : Writable → ℕ → ByteCall
set h b = dtcp_write (force b) output (h b)

abbrev pub on : ByteCall
on = switches 1 2 255

-- A Time_Update and a Time_Fault with the number n, as bytes: number, type, flags, status after and before, fault count; of the first zone, DST,
-- source and accuracy; the time after and before.
abbrev pub update_from : ℕ → ℕ → ℕ → ℕ → List ℕ
update_from before n base old =
    bytes2 n ++ (1 ∷ 0 ∷ 0 ∷ 0 ∷ 0x16 ∷ 0 ∷ before ∷ 0 ∷ 0 ∷ 0 ∷ 4 ∷ 0 ∷ 2 ∷ 1 ∷ (bytes4 base ++ bytes4 old))

abbrev pub update : ℕ → ℕ → ℕ → List ℕ
update = update_from 0x16

abbrev failed : ℕ → ℕ → ℕ → List ℕ
failed n base old = bytes2 n ++ (0 ∷ 0 ∷ 0 ∷ 0 ∷ 0x19 ∷ 0 ∷ 0x16 ∷ 0 ∷ 0 ∷ 0 ∷ (bytes4 base ++ bytes4 old))

-- The paper's case 6: "Stamp 800,000,050, q 1; at 800,000,100 record 1 sets 800,000,070: carried 800,000,020. After 40 more seconds the
-- clock shows 800,000,110, and 90 ran." Device Time is read between, a seconds event is refused with 7.
abbrev Case6 : Writable → Type 0
Case6 h = seen_of (buffer 144) (call on ∷ call (set h 800000000) ∷ call (seconds 50) ∷ [])
    (seconds 50 ∷ set h 800000070 ∷ device_time output ∷ seconds 4000000000 ∷ disconnect ∷ seconds 40 ∷ [])
    ≡ record {
      stamp = 800000050;
      number = 1;
      logged = update 1 800000070 800000100 ∷ [];
      all_held = true;
      faultless = true;
      result = pos 0;
      carried = pos 800000020;
      clock = 800000110;
      ran = 90;
    }

-- A fault among the later records while a report runs: 13, and the number that stood there stays.
abbrev Faulted : Writable → ((n : ℕ) → Bytes (1 ∷ 1 ∷ [])) → Type 0
Faulted h a = seen_of (buffer 208) (call on ∷ call (set h 800000000) ∷ [])
    (set h 800000100 ∷ seconds 3 ∷ racp_write (1 ∷ 1 ∷ []) output (a 0) ∷ notify 20 output ∷ fault output ∷ [])
    ≡ record {
      stamp = 800000000;
      number = 1;
      logged = update 1 800000100 800000000 ∷ failed 2 800000100 800000103 ∷ [];
      all_held = true;
      faultless = false;
      result = negsuc 12;
      carried = negsuc 0;
      clock = 800000100;
      ran = 3;
    }

-- `dts_start` in mid-history: clock and log are a new reader's, and the record logged before it is gone. Two records logged in one slot then:
-- the first is overwritten, and the stamp is refused with 12.
abbrev Again : Writable → Type 0
Again h = seen_of (buffer 80) (call on ∷ call (set h 800000000) ∷ start ∷ call on ∷ []) (set h 800000000 ∷ seconds 1 ∷ set h 800000000 ∷ [])
    ≡ record {
      stamp = 631152000;
      number = 0;
      logged = update_from 0x19 0 800000000 631152000 ∷ update 1 800000000 800000001 ∷ [];
      all_held = false;
      faultless = true;
      result = negsuc 11;
      carried = negsuc 0;
      clock = 800000000;
      ran = 1;
    }

-- A combined report of one record in two bodies, heard among other calls, joined over 48 bytes and read over eleven zeros.
pub record Heard : Type 0 where
  pub accepted : ℤ
  pub closed : Bool
  pub response : List ℕ
  pub got : GotAt

unfoldable pub heard_of : List ℕ → List ByteCall → ByteCall → List ByteCall → Heard
unfolding seen_of joining_open hearing_at heard_at join_all_at join_at joining_in joining_image read_at fields_in
heard_of t before ask ks =
    let b = run_at (started_at (buffer 32) t) before in
    let h = hearing_at (step_at b ask) ks in
    record {
      accepted = (called_at b ask).result;
      closed = h.closed;
      response = h.response;
      got = join_all_at (replicate 11 0) (replicate 48 0) h.notes;
    }

abbrev Reported : Writable → ((n : ℕ) → Bytes (7 ∷ 1 ∷ [])) → Type 0
Reported h a = heard_of (buffer 144) (on ∷ set h 800000000 ∷ []) (racp_write (7 ∷ 1 ∷ []) output (a 0))
    (notify 20 output ∷ seconds 1 ∷ notify 19 output ∷ notify 244 output ∷ device_time output ∷ notify 20 output ∷ [])
    ≡ record {
      accepted = pos 0;
      closed = true;
      response = 8 ∷ 0 ∷ 1 ∷ 0 ∷ [];
      got = got_at (reading (pos 0) (0 ∷ 1 ∷ 0x16 ∷ 0x19 ∷ 0 ∷ 4 ∷ 0 ∷ 2 ∷ 1 ∷ 800000000 ∷ 631152000 ∷ []) ∷ []) true;
    }

-- A report by number: of the records 1, 2 and 3, which a log of three slots holds after four updates, record 2 and all newer.
abbrev Named : Writable → ((n : ℕ) → Bytes (1 ∷ 3 ∷ 1 ∷ 2 ∷ 0 ∷ [])) → Type 0
Named h a = heard_of (buffer 208) (on ∷ set h 800000000 ∷ set h 800000001 ∷ set h 800000002 ∷ set h 800000003 ∷ [])
    (racp_write (1 ∷ 3 ∷ 1 ∷ 2 ∷ 0 ∷ []) output (a 0)) (notify 244 output ∷ notify 20 output ∷ notify 20 output ∷ notify 244 output ∷ [])
    ≡ record {
      accepted = pos 0;
      closed = true;
      response = 6 ∷ 0 ∷ 1 ∷ 1 ∷ [];
      got = got_at
          (reading (pos 0) (2 ∷ 1 ∷ 0x16 ∷ 0x16 ∷ 0 ∷ 4 ∷ 0 ∷ 2 ∷ 1 ∷ 800000002 ∷ 800000001 ∷ [])
          ∷ reading (pos 0) (3 ∷ 1 ∷ 0x16 ∷ 0x16 ∷ 0 ∷ 4 ∷ 0 ∷ 2 ∷ 1 ∷ 800000003 ∷ 800000002 ∷ [])
          ∷ [])
          true;
    }

-- A write to the RACP that is no bytes, AtMost 65,536, makes a report whose filter does not fit its width: `WritesBytes` is needed.
unfoldable pub running_after : List ℕ → List Call → Option Report
unfolding calls_open run_of
running_after t ks = (run_of (new_world t) ks).clock.running

abbrev wide : Writable → List Call
wide h =
    calls.switches true true true
    ∷ calls.time_update (force 800000000) output (h 800000000)
    ∷ calls.record_access (1 ∷ 2 ∷ 1 ∷ 0 ∷ 256 ∷ []) output
    ∷ []

abbrev NeedsBytes : Writable → Type 0
NeedsBytes h =
    running_after (buffer 80) (wide h) ≡ Some (record { opcode = 1; filter = AtMost 65536; counter = 0; left = Some (0, 0) })

pub record Computed : Type 0 where
  pub writable : Writable
  pub asks : (n : ℕ) → Bytes (1 ∷ 1 ∷ [])
  pub combines : (n : ℕ) → Bytes (7 ∷ 1 ∷ [])
  pub names : (n : ℕ) → Bytes (1 ∷ 3 ∷ 1 ∷ 2 ∷ 0 ∷ [])
  pub case6 : Case6 writable
  pub faulted : Faulted writable asks
  pub again : Again writable
  pub reported : Reported writable combines
  pub named : Named writable names
  pub needs_bytes : NeedsBytes writable
