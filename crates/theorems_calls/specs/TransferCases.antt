-- Cases of notifications and of record access, run by the checker on the definitions that the calls' promises cite. NO1 to NO21 and RA32 to
-- RA63 are test vectors worked out from document 01, those of RN1 to RN77 from change request E1, apart from these definitions.
use Rattle.std.specs.Prelude.{◌≡◌, Bool, true, false, List, [], ◌∷◌, ◌++◌, map, ℕ, ◌-◌, length, replicate, None, Option, Some, Err, Ok}
use Rattle.octets.specs.Numbers.{bytes2}
use Rattle.octets.specs.Parts.{zeros_b, over}
use Rattle.rules.specs.Fields.{base_b, zone_b, dst_b, source_b, status_b, bits_b}
use Rattle.filter.specs.Filter.{matches_b}
use Rattle.filter.specs.declared.filter.Filter.{Filter}
use Rattle.filter.specs.declared.filter.Filter.TheVariants.{All, AtMost, AtLeast, Range, First, Last}
use Rattle.record.specs.Fields.{sequence_of}
use Rattle.record_write.specs.Layout.{update_bytes, fault_bytes, bytes_of, update_read, fault_read, record_of, sized_b, shape_b}
use Rattle.record_read.specs.Reading.{update_b, fault_b, record_b, well_formed_b}
use Rattle.record.specs.declared.kinds.Record.{Record}
use Rattle.record.specs.declared.kinds.Record.TheVariants.{TimeUpdate, TimeFault}
use Rattle.table.specs.Table.{size_b, start_b, empty_b, fields_b, head_b, slot, record_in, slots, ring, held, slot_b, row_b, sound_b, steps}
use Rattle.table.specs.Table as log
use Rattle.table_look.specs.Matching.{matching_from, matching, first_from, next_match}
use Rattle.table_write.specs.Start.{fresh}
use Rattle.table_write.specs.Append.{place_of, slot_of, header_after, append_of, log_all}
use Rattle.clock.specs.Events.{on_off}
use Rattle.clock.specs.State.{with_running}
use Rattle.clock.specs.Answers.{number_of, Answer}
use Rattle.clock.specs.Obeys.{opcode_b, counter_b, report_b, clock_b, time_b}
use Rattle.clock.specs.Obeys as rules
use Rattle.clock.specs.declared.state.Clock.{Clock}
use Rattle.rows.specs.Reply.{Outcome, outcome, reply, done_b, refused, answered}
use Rattle.rows.specs.Rows.{first_failed, left_b, running_whole_b, whole_b, table_rows, write_rows}
use Rattle.codes.specs.Response.{code_of, code_bytes, count_bytes}
use Rattle.racp_request.specs.Request.{operand_bytes, typed_b, filter_at, filter_operand, asked_of, abort_of, request_of}
use Rattle.racp_access.specs.Report.{report, first_number, first_bytes, left_at, left_from}
use Rattle.racp_access.specs.Access.{access_rows, accessed, begun_of, aborted_of, accessed_of, access_of}
use Rattle.racp_notify.specs.Notify.{Notice, notice, unsaid, room_b, notify_rows, header_of, segment_of, left_after, closing_of, said_of, noticed, running_notice, notify_of}
use Rattle.clock.specs.declared.state.Report.{Report}
use Rattle.clock.specs.declared.answers.Refusal.TheVariants.{ClockBroken, NothingRunning, OutputShort, ReportRunning, SwitchedOff, WriteLength}

-- the records of the paper's cases 1 and 6, and of a fault 40 seconds later
abbrev update : ℕ → ℕ → ℕ → ℕ → Record
update n oldstatus base oldbase =
    TimeUpdate (record {
      sequence = n;
      status = 0x16;
      oldstatus = oldstatus;
      faults = 0;
      zone = 4;
      dst = 0;
      source = 2;
      accuracy = 1;
      base = base;
      oldbase = oldbase;
    })

abbrev fault : Record
fault = TimeFault (record { sequence = 2; status = 0x19; oldstatus = 0x16; faults = 0; base = 800000070; oldbase = 800000110 })

-- a new table of four slots, then with records 0 and 1, then with the fault
unfoldable pub t0 : List ℕ
t0 = fresh 4

unfoldable pub t3 : List ℕ
t3 = log_all (fresh 4) (update 0 0x19 800000000 631152000 ∷ update 1 0x16 800000070 800000100 ∷ [])

unfoldable pub t4 : List ℕ
t4 = log_all (fresh 4) (update 0 0x19 800000000 631152000 ∷ update 1 0x16 800000070 800000100 ∷ fault ∷ [])

-- and a log whose numbers have rolled: 65,534, 65,535, 0 and 1
unfoldable pub rolled : List ℕ
rolled =
    log_all (over (fresh 4) 8 (bytes2 65534))
    (update 65534 0x16 800000010 800000000
    ∷ update 65535 0x16 800000011 800000010
    ∷ update 0 0x16 800000012 800000011
    ∷ update 1 0x16 800000013 800000012
    ∷ [])

-- the clock after record 1, by its switches and its report
abbrev on : Bool → Bool → Bool → Option Report → Clock
on dtcp racp log r =
    record {
      time = record { base = 800000070; zone = 0x04; dst = 0; source = 2; accuracy = 1; status = 0x16; faults = 0; aligned = 800000070 };
      switches = on_off dtcp racp log;
      running = r;
    }

-- all switches on; all off; log notifications alone off
abbrev s3 : Option Report → Clock
s3 r = on true true true r

abbrev off : Option Report → Clock
off r = on false false false r

abbrev quiet : Option Report → Clock
quiet r = on true true false r

-- in fault, and new: all switches on
abbrev faulty : ℕ → ℕ → ℕ → ℕ → ℕ → Option Report → Clock
faulty base zone dst faults aligned r =
    record {
      time = record { base = base; zone = zone; dst = dst; source = 0; accuracy = 255; status = 0x19; faults = faults; aligned = aligned };
      switches = on_off true true true;
      running = r;
    }

abbrev s4 : Option Report → Clock
s4 r = faulty 800000070 0x04 0 1 800000070 r

abbrev sx : Clock
sx = faulty 631152000 0x80 255 0 631152000 None

abbrev runs : ℕ → Filter → ℕ → Option (ℕ × ℕ) → Option Report
runs opcode f counter left = Some (report opcode f counter left)

-- an output of n bytes as it is lent, and with bytes laid down at its start
abbrev lent : ℕ → List ℕ
lent n = replicate n 0xaa

abbrev laid : ℕ → List ℕ → List ℕ
laid n b = b ++ replicate (n - length b) 0xaa

-- a notification: clock, table, P, the output's length, and what comes of it
pub record Asking : Type 0 where
  pub clock : Clock
  pub table : List ℕ
  pub payload : ℕ
  pub room : ℕ
  pub notice : Notice

abbrev says : Bool → Clock → List ℕ → ℕ → ℕ → Clock → List ℕ → Asking
says closes c t p n after b =
    record {
      clock = c;
      table = t;
      payload = p;
      room = n;
      notice = notice (record { answer = Ok tt; closes = closes; clock = after; len = length b }) (laid n b);
    }

abbrev segment : Clock → List ℕ → ℕ → ℕ → Clock → List ℕ → Asking
segment c t p n after b = says false c t p n after b

abbrev closing : Clock → List ℕ → ℕ → ℕ → List ℕ → Asking
closing c t p n b = says true c t p n (with_running c None) b

abbrev silent : Clock → List ℕ → ℕ → ℕ → Answer → Asking
silent c t p n a = record { clock = c; table = t; payload = p; room = n; notice = unsaid a c (lent n) }

-- a write, with an output of 20 bytes, and what comes of it
pub record Writing : Type 0 where
  pub clock : Clock
  pub table : List ℕ
  pub write : List ℕ
  pub outcome : Outcome

abbrev answers : Clock → List ℕ → List ℕ → Clock → List ℕ → Writing
answers c t w after b = record { clock = c; table = t; write = w; outcome = outcome (reply (Ok tt) after (length b)) t (laid 20 b) }

abbrev denies : Clock → List ℕ → List ℕ → Answer → Writing
denies c t w a = record { clock = c; table = t; write = w; outcome = refused a c t (lent 20) }

-- what soundness cites laid open, for the checker to compute; `notified` and `access_done` open the rest
unfoldable pub sound_open : List ℕ → Bool
unfolding sound_b head_b size_b fields_b start_b empty_b row_b slot_b slot ring slots log.bytes_in record_in record_of update_read fault_read well_formed_b shape_b sized_b zeros_b record_b update_b fault_b base_b zone_b dst_b source_b status_b bits_b sequence_of
sound_open t = sound_b t

unfoldable pub notified : Asking → Notice
unfolding notify_of notify_rows table_rows first_failed done_b number_of room_b whole_b running_whole_b left_b clock_b time_b rules.running_b report_b opcode_b counter_b matches_b sound_open held running_notice noticed said_of left_after left_from left_at next_match first_from first_number first_bytes bytes_of update_bytes fault_bytes segment_of header_of closing_of matching matching_from count_bytes code_bytes code_of over
notified k = notify_of k.clock k.table k.payload (lent k.room)

unfoldable pub access_done : Writing → Outcome
unfolding access_of access_rows table_rows write_rows first_failed done_b number_of whole_b running_whole_b left_b clock_b time_b rules.running_b report_b opcode_b counter_b matches_b sound_open held answered accessed_of accessed begun_of aborted_of left_from left_at next_match first_from first_number matching matching_from count_bytes code_bytes code_of request_of asked_of abort_of filter_operand filter_at typed_b operand_bytes over
access_done k = access_of k.clock k.table k.write (lent 20)

-- the tables laid open
unfoldable pub tables_open : List (List ℕ)
unfolding t0 t3 t4 rolled fresh log_all append_of place_of steps slot_of header_after over bytes_of update_bytes fault_bytes
tables_open = t0 ∷ t3 ∷ t4 ∷ rolled ∷ []

abbrev pub expected_notice : Asking → Notice
expected_notice k = k.notice

abbrev pub expected_outcome : Writing → Outcome
expected_outcome k = k.outcome

unfoldable pub askings : List Asking
askings =
    -- NO1 to NO5: rows 8 and 3, and 3 before 8
    silent (s3 None) t3 20 20 (Err NothingRunning)
    ∷ silent (s3 (runs 1 All 0 (Some (0, 0)))) t3 19 50 (Err OutputShort)
    ∷ silent (s3 (runs 1 All 0 (Some (0, 0)))) t3 245 300 (Err OutputShort)
    ∷ silent (s3 (runs 1 All 0 (Some (0, 0)))) t3 25 24 (Err OutputShort)
    ∷ silent (s3 None) t3 19 50 (Err OutputShort)
    -- NO6 to NO10: a report of both records with P 20, 244, 20, 20, 20
    ∷ segment (s3 (runs 1 All 0 (Some (0, 0)))) t3 20 20 (s3 (runs 1 All 1 (Some (0, 19))))
    (0x01 ∷ 0x00 ∷ 0x00 ∷ 0x01 ∷ 0x00 ∷ 0x00 ∷ 0x00 ∷ 0x16 ∷ 0x00 ∷ 0x19 ∷ 0x00 ∷ 0x00 ∷ 0x00 ∷ 0x04 ∷ 0x00 ∷ 0x02 ∷ 0x01 ∷ 0x00 ∷ 0x08 ∷ 0xaf ∷ [])
    ∷ segment (s3 (runs 1 All 1 (Some (0, 19)))) t3 244 244 (s3 (runs 1 All 2 (Some (1, 0))))
    (0x06 ∷ 0x2f ∷ 0x80 ∷ 0x9d ∷ 0x9e ∷ 0x25 ∷ [])
    ∷ segment (s3 (runs 1 All 2 (Some (1, 0)))) t3 20 20 (s3 (runs 1 All 3 (Some (1, 19))))
    (0x09 ∷ 0x01 ∷ 0x00 ∷ 0x01 ∷ 0x00 ∷ 0x00 ∷ 0x00 ∷ 0x16 ∷ 0x00 ∷ 0x16 ∷ 0x00 ∷ 0x00 ∷ 0x00 ∷ 0x04 ∷ 0x00 ∷ 0x02 ∷ 0x01 ∷ 0x46 ∷ 0x08 ∷ 0xaf ∷ [])
    ∷ segment (s3 (runs 1 All 3 (Some (1, 19)))) t3 20 20 (s3 (runs 1 All 4 None))
    (0x0e ∷ 0x2f ∷ 0x64 ∷ 0x08 ∷ 0xaf ∷ 0x2f ∷ [])
    ∷ closing (s3 (runs 1 All 4 None)) t3 20 20 (0x06 ∷ 0x00 ∷ 0x01 ∷ 0x01 ∷ [])
    -- NO11: 63 then 0
    ∷ segment (s3 (runs 1 All 63 (Some (0, 0)))) t3 25 25 (s3 (runs 1 All 0 (Some (1, 0))))
    (0xff ∷ 0x00 ∷ 0x00 ∷ 0x01 ∷ 0x00 ∷ 0x00 ∷ 0x00 ∷ 0x16 ∷ 0x00 ∷ 0x19 ∷ 0x00 ∷ 0x00 ∷ 0x00 ∷ 0x04 ∷ 0x00 ∷ 0x02 ∷ 0x01 ∷ 0x00 ∷ 0x08 ∷ 0xaf ∷ 0x2f ∷ 0x80 ∷ 0x9d ∷ 0x9e ∷ 0x25 ∷ [])
    -- NO12: one byte left
    ∷ segment (s3 (runs 1 All 0 (Some (1, 23)))) t3 20 20 (s3 (runs 1 All 1 None))
    (0x02 ∷ 0x2f ∷ [])
    -- NO13 to NO15: the next record has no byte unsent, is not held, does not match
    ∷ silent (s3 (runs 1 All 0 (Some (1, 24)))) t3 20 20 (Err ClockBroken)
    ∷ silent (s3 (runs 1 All 0 (Some (7, 0)))) t3 20 20 (Err ClockBroken)
    ∷ silent (s3 (runs 1 First 0 (Some (1, 0)))) t3 20 20 (Err ClockBroken)
    -- NO16 to NO18: the closing response of a Combined Report, which tests P too
    ∷ closing (s3 (runs 7 All 0 None)) t3 20 20 (0x08 ∷ 0x00 ∷ 0x02 ∷ 0x00 ∷ [])
    ∷ silent (s3 (runs 7 All 0 None)) t3 19 20 (Err OutputShort)
    ∷ closing (s3 (runs 7 Last 0 None)) t3 20 20 (0x08 ∷ 0x00 ∷ 0x01 ∷ 0x00 ∷ [])
    -- NO19: the switches do not hold a notification back
    ∷ segment (off (runs 1 All 0 (Some (0, 0)))) t3 25 25 (off (runs 1 All 1 (Some (1, 0))))
    (0x03 ∷ 0x00 ∷ 0x00 ∷ 0x01 ∷ 0x00 ∷ 0x00 ∷ 0x00 ∷ 0x16 ∷ 0x00 ∷ 0x19 ∷ 0x00 ∷ 0x00 ∷ 0x00 ∷ 0x04 ∷ 0x00 ∷ 0x02 ∷ 0x01 ∷ 0x00 ∷ 0x08 ∷ 0xaf ∷ 0x2f ∷ 0x80 ∷ 0x9d ∷ 0x9e ∷ 0x25 ∷ [])
    -- NO20, NO21: a Time_Fault of 20 bytes
    ∷ segment (s4 (runs 1 Last 0 (Some (2, 0)))) t4 20 20 (s4 (runs 1 Last 1 (Some (2, 19))))
    (0x01 ∷ 0x02 ∷ 0x00 ∷ 0x00 ∷ 0x00 ∷ 0x00 ∷ 0x00 ∷ 0x19 ∷ 0x00 ∷ 0x16 ∷ 0x00 ∷ 0x00 ∷ 0x00 ∷ 0x46 ∷ 0x08 ∷ 0xaf ∷ 0x2f ∷ 0x6e ∷ 0x08 ∷ 0xaf ∷ [])
    ∷ segment (s4 (runs 1 Last 0 (Some (2, 0)))) t4 21 21 (s4 (runs 1 Last 1 None))
    (0x03 ∷ 0x02 ∷ 0x00 ∷ 0x00 ∷ 0x00 ∷ 0x00 ∷ 0x00 ∷ 0x19 ∷ 0x00 ∷ 0x16 ∷ 0x00 ∷ 0x00 ∷ 0x00 ∷ 0x46 ∷ 0x08 ∷ 0xaf ∷ 0x2f ∷ 0x6e ∷ 0x08 ∷ 0xaf ∷ 0x2f ∷ [])
    -- RN49, RN50: a range over the roll, from the end of 65,535 on to 0
    ∷ segment (s3 (runs 1 (Range 65535 0) 0 (Some (65535, 0)))) rolled 20 20 (s3 (runs 1 (Range 65535 0) 1 (Some (65535, 19))))
    (0x01 ∷ 0xff ∷ 0xff ∷ 0x01 ∷ 0x00 ∷ 0x00 ∷ 0x00 ∷ 0x16 ∷ 0x00 ∷ 0x16 ∷ 0x00 ∷ 0x00 ∷ 0x00 ∷ 0x04 ∷ 0x00 ∷ 0x02 ∷ 0x01 ∷ 0x0b ∷ 0x08 ∷ 0xaf ∷ [])
    ∷ segment (s3 (runs 1 (Range 65535 0) 1 (Some (65535, 19)))) rolled 20 20 (s3 (runs 1 (Range 65535 0) 2 (Some (0, 0))))
    (0x06 ∷ 0x2f ∷ 0x0a ∷ 0x08 ∷ 0xaf ∷ 0x2f ∷ [])
    -- RN69 to RN71: the next record matches by age
    ∷ segment (s3 (runs 1 (Range 65535 0) 0 (Some (0, 0)))) rolled 20 20 (s3 (runs 1 (Range 65535 0) 1 (Some (0, 19))))
    (0x01 ∷ 0x00 ∷ 0x00 ∷ 0x01 ∷ 0x00 ∷ 0x00 ∷ 0x00 ∷ 0x16 ∷ 0x00 ∷ 0x16 ∷ 0x00 ∷ 0x00 ∷ 0x00 ∷ 0x04 ∷ 0x00 ∷ 0x02 ∷ 0x01 ∷ 0x0c ∷ 0x08 ∷ 0xaf ∷ [])
    ∷ silent (s3 (runs 1 (Range 65535 0) 0 (Some (1, 0)))) rolled 20 20 (Err ClockBroken)
    ∷ segment (s3 (runs 1 (AtLeast 65535) 0 (Some (1, 0)))) rolled 20 20 (s3 (runs 1 (AtLeast 65535) 1 (Some (1, 19))))
    (0x01 ∷ 0x01 ∷ 0x00 ∷ 0x01 ∷ 0x00 ∷ 0x00 ∷ 0x00 ∷ 0x16 ∷ 0x00 ∷ 0x16 ∷ 0x00 ∷ 0x00 ∷ 0x00 ∷ 0x04 ∷ 0x00 ∷ 0x02 ∷ 0x01 ∷ 0x0d ∷ 0x08 ∷ 0xaf ∷ [])
    -- a maximum older than its minimum: with none left it closes with 0, a next record can't match
    ∷ closing (s3 (runs 7 (Range 0 65535) 0 None)) rolled 20 20 (0x08 ∷ 0x00 ∷ 0x00 ∷ 0x00 ∷ [])
    ∷ silent (s3 (runs 1 (Range 0 65535) 0 (Some (0, 0)))) rolled 20 20 (Err ClockBroken)
    ∷ []

unfoldable pub writings : List Writing
writings =
    -- RA33 to RA39: Number counts the held records that match
    answers (s3 None) t3 (0x04 ∷ 0x01 ∷ []) (s3 None) (0x05 ∷ 0x00 ∷ 0x02 ∷ 0x00 ∷ [])
    ∷ answers (s3 None) t3 (0x04 ∷ 0x05 ∷ []) (s3 None) (0x05 ∷ 0x00 ∷ 0x01 ∷ 0x00 ∷ [])
    ∷ answers (s3 None) t3 (0x04 ∷ 0x06 ∷ []) (s3 None) (0x05 ∷ 0x00 ∷ 0x01 ∷ 0x00 ∷ [])
    ∷ answers (s3 None) t3 (0x04 ∷ 0x02 ∷ 0x01 ∷ 0x00 ∷ 0x00 ∷ []) (s3 None) (0x05 ∷ 0x00 ∷ 0x01 ∷ 0x00 ∷ [])
    ∷ answers (s3 None) t3 (0x04 ∷ 0x03 ∷ 0x01 ∷ 0x01 ∷ 0x00 ∷ []) (s3 None) (0x05 ∷ 0x00 ∷ 0x01 ∷ 0x00 ∷ [])
    ∷ answers (s3 None) t3 (0x04 ∷ 0x04 ∷ 0x01 ∷ 0x01 ∷ 0x00 ∷ 0x01 ∷ 0x00 ∷ []) (s3 None) (0x05 ∷ 0x00 ∷ 0x01 ∷ 0x00 ∷ [])
    ∷ answers (s3 None) t3 (0x04 ∷ 0x04 ∷ 0x01 ∷ 0x02 ∷ 0x00 ∷ 0x09 ∷ 0x00 ∷ []) (s3 None) (0x05 ∷ 0x00 ∷ 0x00 ∷ 0x00 ∷ [])
    -- RA40 to RA43: nothing matches, and an empty log
    ∷ answers (s3 None) t3 (0x01 ∷ 0x03 ∷ 0x01 ∷ 0x02 ∷ 0x00 ∷ []) (s3 None) (0x06 ∷ 0x00 ∷ 0x01 ∷ 0x06 ∷ [])
    ∷ answers (s3 None) t3 (0x07 ∷ 0x03 ∷ 0x01 ∷ 0x02 ∷ 0x00 ∷ []) (s3 None) (0x06 ∷ 0x00 ∷ 0x07 ∷ 0x06 ∷ [])
    ∷ answers sx t0 (0x07 ∷ 0x05 ∷ []) sx (0x06 ∷ 0x00 ∷ 0x07 ∷ 0x06 ∷ [])
    ∷ answers sx t0 (0x04 ∷ 0x06 ∷ []) sx (0x05 ∷ 0x00 ∷ 0x00 ∷ 0x00 ∷ [])
    -- RA44 to RA46: accepted
    ∷ answers (s3 None) t3 (0x01 ∷ 0x01 ∷ []) (s3 (runs 1 All 0 (Some (0, 0)))) []
    ∷ answers (s3 None) t3 (0x07 ∷ 0x03 ∷ 0x01 ∷ 0x01 ∷ 0x00 ∷ []) (s3 (runs 7 (AtLeast 1) 0 (Some (1, 0)))) []
    ∷ answers (s3 None) t3 (0x01 ∷ 0x06 ∷ []) (s3 (runs 1 Last 0 (Some (1, 0)))) []
    -- RA47, RA48: Abort, with no report and with one
    ∷ answers (s3 None) t3 (0x03 ∷ 0x00 ∷ []) (s3 None) (0x06 ∷ 0x00 ∷ 0x03 ∷ 0x07 ∷ [])
    ∷ answers (s3 (runs 1 All 0 (Some (0, 0)))) t3 (0x03 ∷ 0x00 ∷ []) (s3 None) (0x06 ∷ 0x00 ∷ 0x03 ∷ 0x01 ∷ [])
    -- RA49 to RA51: an Abort that is refused ends nothing
    ∷ answers (s3 (runs 1 All 0 (Some (0, 0)))) t3 (0x03 ∷ 0x01 ∷ []) (s3 (runs 1 All 0 (Some (0, 0)))) (0x06 ∷ 0x00 ∷ 0x03 ∷ 0x03 ∷ [])
    ∷ answers (s3 (runs 1 All 0 (Some (0, 0)))) t3 (0x03 ∷ 0x00 ∷ 0x00 ∷ []) (s3 (runs 1 All 0 (Some (0, 0)))) (0x06 ∷ 0x00 ∷ 0x03 ∷ 0x05 ∷ [])
    ∷ answers (s3 (runs 1 All 0 (Some (0, 0)))) t3 (0x03 ∷ []) (s3 (runs 1 All 0 (Some (0, 0)))) (0x06 ∷ 0x00 ∷ 0x03 ∷ 0x03 ∷ [])
    -- RA52 to RA57: rows 6, 5 and 4
    ∷ denies (s3 (runs 1 All 0 (Some (0, 0)))) t3 (0x04 ∷ 0x01 ∷ []) (Err ReportRunning)
    ∷ denies (s3 (runs 1 All 0 (Some (0, 0)))) t3 (0x02 ∷ []) (Err ReportRunning)
    ∷ denies (quiet (runs 1 All 0 (Some (0, 0)))) t3 (0x03 ∷ 0x00 ∷ []) (Err SwitchedOff)
    ∷ denies (s3 (runs 1 All 0 (Some (0, 0)))) t3 (0x03 ∷ 0x03 ∷ 0x03 ∷ 0x03 ∷ 0x03 ∷ 0x03 ∷ 0x03 ∷ 0x03 ∷ 0x03 ∷ 0x03 ∷ 0x03 ∷ 0x03 ∷ 0x03 ∷ 0x03 ∷ 0x03 ∷ 0x03 ∷ 0x03 ∷ 0x03 ∷ 0x03 ∷ 0x03 ∷ 0x03 ∷ []) (Err WriteLength)
    ∷ denies (quiet None) t3 (0x04 ∷ 0x01 ∷ []) (Err SwitchedOff)
    ∷ answers (on false true true None) t3 (0x04 ∷ 0x01 ∷ []) (on false true true None) (0x05 ∷ 0x00 ∷ 0x02 ∷ 0x00 ∷ [])
    -- RA58 to RA63: by place on a log that has rolled
    ∷ answers (s3 None) rolled (0x04 ∷ 0x03 ∷ 0x01 ∷ 0xff ∷ 0xff ∷ []) (s3 None) (0x05 ∷ 0x00 ∷ 0x03 ∷ 0x00 ∷ [])
    ∷ answers (s3 None) rolled (0x04 ∷ 0x02 ∷ 0x01 ∷ 0x01 ∷ 0x00 ∷ []) (s3 None) (0x05 ∷ 0x00 ∷ 0x04 ∷ 0x00 ∷ [])
    ∷ answers (s3 None) rolled (0x04 ∷ 0x04 ∷ 0x01 ∷ 0x00 ∷ 0x00 ∷ 0xff ∷ 0xff ∷ []) (s3 None) (0x05 ∷ 0x00 ∷ 0x00 ∷ 0x00 ∷ [])
    ∷ answers (s3 None) rolled (0x04 ∷ 0x04 ∷ 0x01 ∷ 0xfe ∷ 0xff ∷ 0x01 ∷ 0x00 ∷ []) (s3 None) (0x05 ∷ 0x00 ∷ 0x04 ∷ 0x00 ∷ [])
    ∷ answers (s3 None) rolled (0x01 ∷ 0x02 ∷ 0x01 ∷ 0x01 ∷ 0x00 ∷ []) (s3 (runs 1 (AtMost 1) 0 (Some (65534, 0)))) []
    ∷ answers (s3 None) rolled (0x01 ∷ 0x04 ∷ 0x01 ∷ 0x00 ∷ 0x00 ∷ 0xff ∷ 0xff ∷ []) (s3 None) (0x06 ∷ 0x00 ∷ 0x01 ∷ 0x06 ∷ [])
    -- RN9, RN4, RN5: at most 0, at least one that is overwritten, at least the next number
    ∷ answers (s3 None) rolled (0x04 ∷ 0x02 ∷ 0x01 ∷ 0x00 ∷ 0x00 ∷ []) (s3 None) (0x05 ∷ 0x00 ∷ 0x03 ∷ 0x00 ∷ [])
    ∷ answers (s3 None) rolled (0x04 ∷ 0x03 ∷ 0x01 ∷ 0xfd ∷ 0xff ∷ []) (s3 None) (0x05 ∷ 0x00 ∷ 0x00 ∷ 0x00 ∷ [])
    ∷ answers (s3 None) rolled (0x04 ∷ 0x03 ∷ 0x01 ∷ 0x02 ∷ 0x00 ∷ []) (s3 None) (0x05 ∷ 0x00 ∷ 0x00 ∷ 0x00 ∷ [])
    -- RN16, RN17, RN22: a range with one end not held, not clipped; over the roll
    ∷ answers (s3 None) rolled (0x04 ∷ 0x04 ∷ 0x01 ∷ 0xfd ∷ 0xff ∷ 0x01 ∷ 0x00 ∷ []) (s3 None) (0x05 ∷ 0x00 ∷ 0x00 ∷ 0x00 ∷ [])
    ∷ answers (s3 None) rolled (0x04 ∷ 0x04 ∷ 0x01 ∷ 0xfe ∷ 0xff ∷ 0x02 ∷ 0x00 ∷ []) (s3 None) (0x05 ∷ 0x00 ∷ 0x00 ∷ 0x00 ∷ [])
    ∷ answers (s3 None) rolled (0x01 ∷ 0x04 ∷ 0x01 ∷ 0xff ∷ 0xff ∷ 0x00 ∷ 0x00 ∷ []) (s3 (runs 1 (Range 65535 0) 0 (Some (65535, 0)))) []
    -- RA32, RN48: a minimum above its maximum, where both are not held and on an empty log
    ∷ answers (s3 None) t3 (0x01 ∷ 0x04 ∷ 0x01 ∷ 0x05 ∷ 0x00 ∷ 0x03 ∷ 0x00 ∷ []) (s3 None) (0x06 ∷ 0x00 ∷ 0x01 ∷ 0x06 ∷ [])
    ∷ answers sx t0 (0x01 ∷ 0x04 ∷ 0x01 ∷ 0x05 ∷ 0x00 ∷ 0x03 ∷ 0x00 ∷ []) sx (0x06 ∷ 0x00 ∷ 0x01 ∷ 0x06 ∷ [])
    ∷ []

pub record Computed : Type 0 where
  pub notify : map notified askings ≡ map expected_notice askings
  pub record_access_lem : map access_done writings ≡ map expected_outcome writings
