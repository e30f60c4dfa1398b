-- Document 01, "Numbers the drivers worked out (to be proved together)": its twelve cases, in its order and with its numbers, run by the checker
-- on the definitions that the public calls' promises cite. On the left of each row what the definitions give, on the right what the paper says.
use Rattle.std.specs.Prelude.{◌≡◌, true, List, [], ◌∷◌, map, ℕ, ◌<◌, ℤ, pos, ◌-ℤ◌, length, drop, Err, None, Ok, Result, Some}
use Rattle.octets.specs.Numbers.{at}
use Rattle.record.specs.declared.kinds.Record.{Record}
use Rattle.record.specs.declared.kinds.Record.TheVariants.{TimeUpdate}
use Rattle.table.specs.Table.{next, held, sound_b}
use Rattle.clock.specs.Events.{on_off}
use Rattle.clock.specs.Answers.{number_of}
use Rattle.clock.specs.declared.state.Clock.{Clock}
use Rattle.codes.specs.Dtcp.{propose_opcode, force_opcode}
use Rattle.update_judge.specs.Grounds.{unrealistic, out_of_range}
use Rattle.rows.specs.Reply.{Outcome}
use Rattle.carry.specs.Stamp.{later_of, moved_by, carried_over, carried_from, carry_of}
use Rattle.theorems_reports.specs.World.{World, world_after}
use Rattle.theorems_reports.specs.Joined.{Got, got}
use Rattle.theorems_paper.specs.Reader.{write, case_flags, propose, force, switched_on, tick, update, access, response, sent, later, first, second, reporting, joined}
use Rattle.carry.specs.declared.stamp.CarryError.{CarryError}
use Rattle.carry.specs.declared.stamp.CarryError.TheVariants.{FaultAmong, NotHeld, TableNotSound}

-- what is seen of a call: the number that answers it, the response, the clock after it, the records held then
pub record Seen : Type 0 where
  pub number : ℕ
  pub response : List ℕ
  pub clock : Clock
  pub held : List Record

unfoldable pub seen : Outcome → Seen
unfolding update
seen u = record { number = number_of u.reply.answer; response = response u; clock = u.reply.clock; held = held u.table }

-- the reader's clock and records in these cases: only times, zone and status change
abbrev clock : ℕ → ℕ → ℕ → ℕ → Clock
clock base aligned zone status =
    record {
      time = record { base = base; zone = zone; dst = 0; source = 2; accuracy = 1; status = status; faults = 0; aligned = aligned };
      switches = on_off true true true;
      running = None;
    }

abbrev logged : ℕ → ℕ → ℕ → ℕ → ℕ → ℕ → Record
logged number status oldstatus zone base oldbase =
    TimeUpdate (record {
      sequence = number;
      status = status;
      oldstatus = oldstatus;
      faults = 0;
      zone = zone;
      dst = 0;
      source = 2;
      accuracy = 1;
      base = base;
      oldbase = oldbase;
    })

abbrev record0 : Record
record0 = logged 0 0x16 0x19 4 800000000 631152000

-- "taken" at 800,000,100: Success, the clock set, record 1 logged
abbrev taken : ℕ → ℕ → ℕ → ℕ → Seen
taken opcode base zone status =
    record {
      number = 0;
      response = 0x09 ∷ opcode ∷ 0x01 ∷ [];
      clock = clock base base zone status;
      held = record0 ∷ logged 1 status 0x16 zone base 800000100 ∷ [];
    }

-- rejected there on a ground: the flag, and nothing changed
abbrev rejected : ℕ → ℕ → Seen
rejected opcode flag =
    record {
      number = 0;
      response = 0x09 ∷ opcode ∷ 0x05 ∷ flag ∷ 0x00 ∷ [];
      clock = clock 800000100 800000000 4 0x16;
      held = record0 ∷ [];
    }

-- a Force that keeps the time of case 1, with a zone
abbrev zoned : ℕ → Seen
zoned zone = seen (update second (write force_opcode case_flags 800000000 zone))

-- the reader of case 4, "At 3,155,759,999": the number that answers n seconds there, and Base_Time after them
unfoldable pub last : World
unfolding update second
last = world_after (update second (force 3155759999))

pub record Ticked : Type 0 where
  pub number : ℕ
  pub base : ℕ

unfoldable pub ticked : World → ℕ → Ticked
unfolding tick number_of
ticked v n = record { number = number_of (tick v n).answer; base = (tick v n).clock.time.base }

-- case 6: the stamp is the clock's 50 seconds after case 1, and q the next number then; 50 seconds later record 1 sets 800,000,070
unfoldable pub noted : World
unfolding tick first
noted = later first 50

unfoldable pub set_back_write : World
unfolding update noted tick
set_back_write = world_after (update (later noted 50) (propose 800000070))

unfoldable pub carried : ℕ → ℕ → World → Result ℤ CarryError
unfolding update carry_of carried_from carried_over moved_by later_of
carried stamp q v = carry_of stamp q v.table

-- the seconds since a carried stamp, by the clock
abbrev since : Result ℤ CarryError → ℕ → ℤ
since (Ok z) base = pos base -ℤ z
since (Err TableNotSound) base = pos 0
since (Err NotHeld) base = pos 0
since (Err FaultAmong) base = pos 0

pub record Carrying : Type 0 where
  pub stamp : ℕ
  pub q : ℕ
  pub held : List Record
  pub carried : Result ℤ CarryError
  pub shows : ℕ
  pub ran : ℤ

unfoldable pub carrying : Carrying
unfolding carried tick set_back_write
carrying =
    let x = carried noted.clock.time.base (next noted.table) set_back_write in
    let base = (later set_back_write 40).clock.time.base in
    record {
      stamp = noted.clock.time.base;
      q = next noted.table;
      held = held set_back_write.table;
      carried = x;
      shows = base;
      ran = since x base;
    }

-- a notification's header and the length of its body
abbrev cut : List ℕ → List ℕ
cut n = at n 0 ∷ length (drop 1 n) ∷ []

-- what comes of n notifications of size p on the reader of case 1 that reports all records, and the records that the tablet joins
pub record Cut : Type 0 where
  pub segments : List (List ℕ)
  pub got : Got

unfoldable pub cut_in : ℕ → ℕ → Cut
unfolding sent reporting joined
cut_in n p = let s = sent n p reporting in record { segments = map cut s; got = joined s }

-- the response to a write to the RACP
abbrev answer : World → List ℕ → List ℕ
answer v w = response (access v w)

-- 1. "New reader, switches on; Propose 800,000,000, ..: record 0, old 631,152,000, status 0x0016."
abbrev pub Case1 : Type 0
Case1 = seen (update switched_on (propose 800000000)) ≡
    record {
      number = 0;
      response = 0x09 ∷ 0x02 ∷ 0x01 ∷ [];
      clock = clock 800000000 800000000 4 0x16;
      held = record0 ∷ [];
    }

-- 2. "After case 1, clock at 800,000,100, other fields as in 1: Propose 800,086,500 taken, 800,086,501 unrealistic."
abbrev pub Case2 : Type 0
Case2 = seen (update second (propose 800086500)) ∷ seen (update second (propose 800086501)) ∷ []
    ≡ taken propose_opcode 800086500 4 0x16 ∷ rejected propose_opcode unrealistic ∷ []

-- 3. "Force 631,151,999 out of range; 631,152,000 taken."
abbrev pub Case3 : Type 0
Case3 = seen (update second (force 631151999)) ∷ seen (update second (force 631152000)) ∷ []
    ≡ rejected force_opcode out_of_range ∷ taken force_opcode 631152000 4 0x16 ∷ []

-- 4. "Force 3,155,759,999 taken; 3,155,760,000 out of range."
abbrev pub Case4 : Type 0
Case4 = seen (update second (force 3155759999)) ∷ seen (update second (force 3155760000)) ∷ []
    ≡ taken force_opcode 3155759999 4 0x16 ∷ rejected force_opcode out_of_range ∷ []

-- 5. "At 3,155,759,999: seconds 0 done, 1 gives 7."
abbrev pub Case5 : Type 0
Case5 = ticked last 0 ∷ ticked last 1 ∷ [] ≡ record { number = 0; base = 3155759999 } ∷ record { number = 7; base = 3155759999 } ∷ []

-- 6. "Stamp 800,000,050, q 1; at 800,000,100 record 1 sets 800,000,070: carried 800,000,020. After 40 more seconds the clock shows
-- 800,000,110, and 90 ran."
abbrev pub Case6 : Type 0
Case6 = carrying ≡
    record {
      stamp = 800000050;
      q = 1;
      held = record0 ∷ logged 1 0x16 0x16 4 800000070 800000100 ∷ [];
      carried = Ok (pos 800000020);
      shows = 800000110;
      ran = pos 90;
    }

-- 7. "q equal to next: stamp unchanged.": any stamp of 32 bits, any sound table
abbrev pub Case7 : Type 0
Case7 = (stamp : ℕ) (t : List ℕ) → stamp < 4294967296 → sound_b t ≡ true → carry_of stamp (next t) t ≡ Ok (pos stamp)

-- 8. "q 65,534, next 1: m is 3."
abbrev pub Case8 : Type 0
Case8 = later_of 1 65534 ≡ 3

-- 9. "24 bytes, P 20: bodies 19 and 5, headers 01 and 06. P 25: header 03."
abbrev pub Case9 : Type 0
Case9 = cut_in 2 20 ∷ cut_in 1 25 ∷ []
    ≡ record { segments = (0x01 ∷ 19 ∷ []) ∷ (0x06 ∷ 5 ∷ []) ∷ []; got = got (Some record0 ∷ []) true }
    ∷ record { segments = (0x03 ∷ 24 ∷ []) ∷ []; got = got (Some record0 ∷ []) true }
    ∷ []

-- 10. "Empty log: 04 01 gives 05 00 00 00; 01 01 gives 06 00 01 06."
abbrev pub Case10 : Type 0
Case10 = answer switched_on (0x04 ∷ 0x01 ∷ []) ∷ answer switched_on (0x01 ∷ 0x01 ∷ []) ∷ []
    ≡ (0x05 ∷ 0x00 ∷ 0x00 ∷ 0x00 ∷ []) ∷ (0x06 ∷ 0x00 ∷ 0x01 ∷ 0x06 ∷ []) ∷ []

-- 11. "01 00 gives 06 00 01 03; 02 01 gives 06 00 02 02", and "the last line .., on an empty log, becomes 05 00 00 00" (change request E1).
abbrev pub Case11 : Type 0
Case11 = answer first (0x01 ∷ 0x00 ∷ []) ∷ answer first (0x02 ∷ 0x01 ∷ [])
    ∷ answer switched_on (0x04 ∷ 0x04 ∷ 0x01 ∷ 0x05 ∷ 0x00 ∷ 0x03 ∷ 0x00 ∷ []) ∷ []
    ≡ (0x06 ∷ 0x00 ∷ 0x01 ∷ 0x03 ∷ []) ∷ (0x06 ∷ 0x00 ∷ 0x02 ∷ 0x02 ∷ []) ∷ (0x05 ∷ 0x00 ∷ 0x00 ∷ 0x00 ∷ []) ∷ []

-- 12. "Force with zone 56, -48, -128 taken; 57, -49 out of range." A zone of -128 makes the grade 2.
abbrev pub Case12 : Type 0
Case12 = zoned 56 ∷ zoned 208 ∷ zoned 128 ∷ zoned 57 ∷ zoned 207 ∷ []
    ≡ taken force_opcode 800000000 56 0x16 ∷ taken force_opcode 800000000 208 0x16 ∷ taken force_opcode 800000000 128 0x12
    ∷ rejected force_opcode out_of_range ∷ rejected force_opcode out_of_range ∷ []

pub record TwelveCases : Type 0 where
  pub case_1 : Case1
  pub case_2 : Case2
  pub case_3 : Case3
  pub case_4 : Case4
  pub case_5 : Case5
  pub case_6 : Case6
  pub case_7 : Case7
  pub case_8 : Case8
  pub case_9 : Case9
  pub case_10 : Case10
  pub case_11 : Case11
  pub case_12 : Case12
