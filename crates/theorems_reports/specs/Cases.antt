-- Computed cases of the theorems about reports: their premises can hold, and what they say is then no empty word.
use Rattle.std.specs.Prelude.{◌≡◌, Bool, true, false, List, [], ◌∷◌, map, ℕ, length, take, drop, replicate, None, Ok, Result, Some}
use Rattle.octets.specs.Parts.{Bytes}
use Rattle.filter.specs.declared.filter.Filter.TheVariants.{All, Range}
use Rattle.record.specs.declared.kinds.Record.{Record}
use Rattle.record.specs.declared.kinds.Record.TheVariants.{TimeUpdate, TimeFault}
use Rattle.table_write.specs.Start.{fresh}
use Rattle.table_write.specs.Append.{log_all}
use Rattle.clock.specs.Answers.{number_of}
use Rattle.clock.specs.Events.{on_off}
use Rattle.clock.specs.declared.state.Clock.{Clock}
use Rattle.racp_request.specs.Request.{request_of}
use Rattle.racp_access.specs.Access.{access_of}
use Rattle.racp_notify.specs.Notify.{notify_of}
use Rattle.joining.specs.Joining.{empty_joining}
use Rattle.theorems_reports.specs.World.{World, world, Call, seconds, switches, fault, record_access, notify, Notifying}
use Rattle.theorems_reports.specs.Hearing.{heard_in, heard_by, hearing_by, hearing_of, undisturbed_b, all_calm_b}
use Rattle.theorems_reports.specs.Joined.{Got, got, join_all}
use Rattle.theorems_reports.specs.Open.{calls_open, joining_open}
use Rattle.theorems_reports.specs.Reports.{Accepted, report_begun, segments}
use Rattle.theorems_reports.specs.Closing.{all_quiet_b, answered_in}
use Rattle.codes.specs.declared.response.Code.{Code}
use Rattle.racp_request.specs.declared.request.Request.{Request}
use Rattle.racp_request.specs.declared.request.Request.TheVariants.{Report}

-- what came of a write and the calls after it: what it asks for, the number that answers it and the length of its response; that no call ended the report; each
-- segment's header byte and the length of its body; the closing response; what the joining gives
pub record Outcome : Type 0 where
  pub request : Result Request Code
  pub number : ℕ
  pub len : ℕ
  pub undisturbed : Bool
  pub segments : List ℕ
  pub closed : Bool
  pub response : List ℕ
  pub got : Got

abbrev heads_of : List (List ℕ) → List ℕ
heads_of [] = []
heads_of ([] ∷ l) = heads_of l
heads_of ((h ∷ b) ∷ l) = h ∷ length b ∷ heads_of l

-- four records logged in three slots: the last three are held
unfoldable pub set : ℕ → ℕ → ℕ → Record
set n b old =
    TimeUpdate (record {
      sequence = n;
      status = 0x16;
      oldstatus = 0x16;
      faults = 1;
      zone = 4;
      dst = 0;
      source = 2;
      accuracy = 1;
      base = b;
      oldbase = old;
    })

unfoldable pub failed : ℕ → ℕ → ℕ → Record
failed n b old = TimeFault (record { sequence = n; status = 0x19; oldstatus = 0x16; faults = 0; base = b; oldbase = old })

unfoldable pub records : List Record
records =
    failed 1 800000000 800000100
    ∷ set 2 800000200 800000050
    ∷ set 3 800000190 800000300
    ∷ []

unfoldable pub table : List ℕ
unfolding calls_open log_all set failed records
table = log_all (fresh 3) (set 0 800000000 631152000 ∷ records)

-- its reader, all switches on
unfoldable pub reader : Clock
reader =
    record {
      time = record { base = 800000190; zone = 4; dst = 0; source = 2; accuracy = 1; status = 0x16; faults = 1; aligned = 800000190 };
      switches = on_off true true true;
      running = None;
    }

abbrev pub output : List ℕ
output = replicate 244 0xaa

abbrev pub ask : ℕ → Call
ask p = notify p output

unfoldable pub result_by : Notifying → List ℕ → List Call → Outcome
unfolding table reader calls_open joining_open heard_in heard_by hearing_by undisturbed_b
result_by n w ks =
    let v = world reader table in
    let a = access_of reader table w output in
    let h = hearing_by n (report_begun v w output) ks in
    record {
      request = request_of w;
      number = number_of a.reply.answer;
      len = a.reply.len;
      undisturbed = undisturbed_b (report_begun v w output) ks;
      segments = heads_of h.notes;
      closed = h.closed;
      response = h.response;
      got = join_all empty_joining h.notes;
    }

abbrev pub result_of : List ℕ → List Call → Outcome
result_of = result_by notify_of

-- Report of all records, with payload sizes that change inside a record: 20 bytes in two bodies, 24 in one, 24 in two.
abbrev pub asks : List Call
asks = ask 20 ∷ ask 21 ∷ ask 25 ∷ ask 20 ∷ ask 244 ∷ ask 20 ∷ []

abbrev AllReported : Type 0
AllReported = result_of (1 ∷ 1 ∷ []) asks
    ≡ record {
      request = Ok (Report All);
      number = 0;
      len = 0;
      undisturbed = true;
      segments = 0x01 ∷ 19 ∷ 0x06 ∷ 1 ∷ 0x0b ∷ 24 ∷ 0x0d ∷ 19 ∷ 0x12 ∷ 5 ∷ [];
      closed = true;
      response = 6 ∷ 0 ∷ 1 ∷ 1 ∷ [];
      got = got (map Some records) true;
    }

-- Combined report of the numbers 2 to 3 among other calls: seconds, switches, an Abort without operator, a notification of 19 bytes, a fault
-- without room for its response, another report.
abbrev Combined : Type 0
Combined = result_of (7 ∷ 4 ∷ 1 ∷ 2 ∷ 0 ∷ 3 ∷ 0 ∷ [])
    (ask 20 ∷ seconds 5 ∷ record_access (3 ∷ []) output ∷ ask 19 ∷ fault (replicate 19 0) ∷ ask 244 ∷ record_access (1 ∷ 1 ∷ []) output
    ∷ switches false false false ∷ ask 60 ∷ ask 20 ∷ [])
    ≡ record {
      request = Ok (Report (Range 2 3));
      number = 0;
      len = 0;
      undisturbed = true;
      segments = 0x01 ∷ 19 ∷ 0x06 ∷ 5 ∷ 0x0b ∷ 24 ∷ [];
      closed = true;
      response = 8 ∷ 0 ∷ 2 ∷ 0 ∷ [];
      got = got (map Some (drop 1 records)) true;
    }

-- A fault ends the report: the rest of it never comes.
abbrev Faulted : Type 0
Faulted = result_of (1 ∷ 1 ∷ []) (ask 21 ∷ ask 20 ∷ fault output ∷ ask 20 ∷ ask 20 ∷ [])
    ≡ record {
      request = Ok (Report All);
      number = 0;
      len = 0;
      undisturbed = false;
      segments = 0x03 ∷ 20 ∷ 0x05 ∷ 19 ∷ [];
      closed = false;
      response = [];
      got = got (map Some (take 1 records)) true;
    }

-- Report of all records with P fixed at 20, its 24 bytes in two bodies: six segments among a refused fault, a refused Abort, seconds and an asking of
-- 19 bytes. The seventh asking closes.
abbrev pub among : List Call
among = ask 20 ∷ fault (replicate 19 0) ∷ ask 20 ∷ record_access (3 ∷ 0 ∷ []) (replicate 19 0) ∷ ask 20 ∷ seconds 5 ∷ ask 20 ∷ ask 19 ∷ ask 20 ∷ ask 20
    ∷ ask 20 ∷ []

pub record Among (v : World) (ks : List Call) : Type 0 where
  pub quiet : all_quiet_b v ks ≡ true
  pub not_calm : all_calm_b ks ≡ false
  pub answered : answered_in v ks ≡ replicate 7 20
  pub segments : segments 19 records ≡ 6
  pub closed : (hearing_of v ks).closed ≡ true

abbrev ClosedAmong : Type 0
ClosedAmong = Among (report_begun (world reader table) (1 ∷ 1 ∷ []) output) among

pub record Computed : Type 0 where
  pub bytes : Bytes table
  pub accepted : Accepted (world reader table) (1 ∷ 1 ∷ []) output All
  pub all : AllReported
  pub combined : Combined
  pub faulted : Faulted
  pub among : ClosedAmong
