-- Cases of carrying, run by the checker on the definitions that the promises cite. TB1 to TB11 and CA1 to CA14 are test vectors worked out
-- from document 01 apart from these definitions.
use Rattle.std.specs.Prelude.{◌≡◌, List, [], ◌∷◌, ◌++◌, map, ℕ, take, pos, negsuc, Err, Ok, Result, ℤ}
use Rattle.octets.specs.Numbers.{bytes2}
use Rattle.octets.specs.Parts.{zeros_b, over}
use Rattle.rules.specs.Fields.{base_b, zone_b, dst_b, source_b, status_b, bits_b}
use Rattle.record.specs.Fields.{sequence_of}
use Rattle.record_write.specs.Layout.{update_bytes, fault_bytes, bytes_of, update_read, fault_read, record_of, sized_b, shape_b}
use Rattle.record_read.specs.Reading.{update_b, fault_b, record_b, well_formed_b}
use Rattle.record.specs.declared.kinds.Record.{Record}
use Rattle.record.specs.declared.kinds.Record.TheVariants.{TimeUpdate, TimeFault}
use Rattle.table.specs.Table.{size_b, start_b, empty_b, fields_b, head_b, slot, bytes_in, record_in, slots, ring, held, slot_b, row_b, sound_b, steps}
use Rattle.table_write.specs.Start.{fresh}
use Rattle.table_write.specs.Append.{place_of, slot_of, header_after, append_of, log_all}
use Rattle.carry.specs.Stamp.{later_of, carried_over, carried_from, carry_of, moved_by}
use Rattle.carry.specs.declared.stamp.CarryError.{CarryError}
use Rattle.carry.specs.declared.stamp.CarryError.TheVariants.{FaultAmong, NotHeld, TableNotSound}

-- a case: the stamp, its next number, the table, and what comes of it
pub record Case : Type 0 where
  pub stamp : ℕ
  pub q : ℕ
  pub table : List ℕ
  pub carried : Result ℤ CarryError

abbrev case : ℕ → ℕ → List ℕ → Result ℤ CarryError → Case
case s q t c = record { stamp = s; q = q; table = t; carried = c }

-- a record of a time of grade 3: number, status before, faults before, time received and time before
abbrev set : ℕ → ℕ → ℕ → ℕ → ℕ → Record
set n old f b oldbase =
    TimeUpdate (record {
      sequence = n;
      status = 0x16;
      oldstatus = old;
      faults = f;
      zone = 4;
      dst = 0;
      source = 2;
      accuracy = 1;
      base = b;
      oldbase = oldbase;
    })

abbrev failed : ℕ → ℕ → ℕ → Record
failed n b oldbase = TimeFault (record { sequence = n; status = 0x19; oldstatus = 0x16; faults = 0; base = b; oldbase = oldbase })

-- case 1's record; set back 30 seconds; a fault 40 seconds later; a time after it
abbrev pub first : Record
first = set 0 0x19 0 800000000 631152000

abbrev pub back : Record
back = set 1 0x16 0 800000070 800000100

abbrev pub fault : Record
fault = failed 2 800000070 800000110

abbrev pub again : Record
again = set 3 0x19 1 800000000 800000070

-- a table with these bytes from the place p on
abbrev with : List ℕ → ℕ → List ℕ → List ℕ
with t p b = over t p b

abbrev pub t0 : List ℕ
t0 = fresh 4

abbrev pub logged : List Record → List ℕ
logged rs = log_all t0 rs

abbrev pub t1 : List ℕ
t1 = logged (first ∷ [])

abbrev pub t3 : List ℕ
t3 = logged (first ∷ back ∷ [])

-- records 1 to 4 in four slots
abbrev pub tf : List ℕ
tf =
    logged (first
    ∷ set 1 0x16 0 800000001 800000000
    ∷ set 2 0x16 0 800000002 800000001
    ∷ set 3 0x16 0 800000003 800000002
    ∷ set 4 0x16 0 800000004 800000003
    ∷ [])

abbrev pub rolled : List ℕ
rolled =
    log_all (with t0 8 (bytes2 65534))
    (set 65534 0x16 0 800000010 800000000
    ∷ set 65535 0x16 0 800000011 800000010
    ∷ set 0 0x16 0 800000012 800000011
    ∷ set 1 0x16 0 800000013 800000012
    ∷ [])

unfoldable pub table : List Case
table =
    -- TB1 to TB4: an empty table; its next number is free
    case 7 5 (with t0 8 (bytes2 5)) (Ok (pos 7))
    ∷ case 7 0 (with t0 4 (80 ∷ [])) (Err TableNotSound)
    ∷ case 7 0 (with t0 15 (1 ∷ [])) (Err TableNotSound)
    ∷ case 7 0 (with t0 0 (bytes2 5)) (Err TableNotSound)
    -- TB5 to TB10: one record
    ∷ case 7 1 (with t1 2 (bytes2 5)) (Err TableNotSound)
    ∷ case 7 1 (with t1 41 (1 ∷ [])) (Err TableNotSound)
    ∷ case 7 1 (with t1 83 (9 ∷ [])) (Ok (pos 7))
    ∷ case 7 2 (with t1 8 (bytes2 2)) (Err TableNotSound)
    ∷ case 7 1 (with t1 16 (23 ∷ [])) (Err TableNotSound)
    ∷ case 7 1 (t1 ++ (0 ∷ [])) (Err TableNotSound)
    -- TB11: the record stands in slot 3
    ∷ case 7 1 (with (with t0 208 (slot_of first)) 2 (1 ∷ 0 ∷ 208 ∷ 0 ∷ 0 ∷ 0 ∷ 1 ∷ [])) (Ok (pos 7))
    -- CA1 to CA4
    ∷ case 800000050 0 t3 (Ok (pos 968848020))
    ∷ case 10 1 t3 (Ok (negsuc 19))
    ∷ case 4294967295 0 t3 (Ok (pos 4463815265))
    ∷ case 5 3 t3 (Err NotHeld)
    -- CA5, CA6: m one more than H, and all held
    ∷ case 5 0 tf (Err NotHeld)
    ∷ case 5 1 tf (Ok (pos 9))
    -- CA7 to CA10: a fault at the end, before and in the midst of the records after q
    ∷ case 5 2 (logged (first ∷ back ∷ fault ∷ [])) (Err FaultAmong)
    ∷ case 5 3 (logged (first ∷ back ∷ fault ∷ [])) (Ok (pos 5))
    ∷ case 5 3 (logged (first ∷ back ∷ fault ∷ again ∷ [])) (Ok (negsuc 64))
    ∷ case 5 1 (logged (first ∷ back ∷ fault ∷ again ∷ [])) (Err FaultAmong)
    -- CA11, CA12: 12 before 13, 1 before 12
    ∷ case 5 0 (logged (first ∷ back ∷ fault ∷ again ∷ set 4 0x16 1 800000001 800000000 ∷ [])) (Err NotHeld)
    ∷ case 5 9 (take 271 t3) (Err TableNotSound)
    -- CA13, CA14: q equal to next; the numbers went round
    ∷ case 4294967295 0 t0 (Ok (pos 4294967295))
    ∷ case 0 65534 rolled (Ok (pos 13))
    ∷ []

-- `carry_of` of a case with all that it cites laid open, for the checker to compute
unfoldable pub got : Case → Result ℤ CarryError
unfolding carry_of carried_from carried_over moved_by later_of sound_b head_b size_b start_b empty_b fields_b slot bytes_in record_in slots ring held slot_b row_b well_formed_b shape_b sized_b record_b update_b fault_b record_of update_read fault_read sequence_of base_b zone_b dst_b source_b status_b bits_b zeros_b over fresh log_all append_of steps place_of slot_of header_after bytes_of update_bytes fault_bytes
got k = carry_of k.stamp k.q k.table

unfoldable pub expected : Case → Result ℤ CarryError
expected k = k.carried

abbrev pub Computed : Type 0
Computed = map got table ≡ map expected table
