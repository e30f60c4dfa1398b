-- The clock state as bytes, for a caller that keeps it in a buffer between calls. "One encoding per state, unused fields 0."
use Rattle.std.specs.Prelude.{Bool, true, false, List, [], ◌∷◌, ◌++◌, ℕ, ◌+◌, ◌/◌, ◌%◌, eqb, length, None, Option, Some}
use Rattle.octets.specs.Choice.{both, pick}
use Rattle.octets.specs.Numbers.{at, le16, le32, bytes2, bytes4}
use Rattle.octets.specs.Parts.{same_b}
use Rattle.codes.specs.Racp.{all_records, at_most, at_least, within_range, first_record, last_record}
use Rattle.filter.specs.declared.filter.Filter.{Filter}
use Rattle.filter.specs.declared.filter.Filter.TheVariants.{All, AtMost, AtLeast, Range, First, Last}
use Rattle.clock.specs.Events.{with_base}
use Rattle.clock.specs.State.{new_reader}
use Rattle.clock.specs.declared.state.Clock.{Clock}
use Rattle.state_bytes.specs.declared.state.Bounds.{Bounds}
use Rattle.state_bytes.specs.declared.state.Fields.{Fields}
use Rattle.state_bytes.specs.declared.state.Unsent.{Unsent}
use Rattle.clock.specs.declared.state.Report.{Report}

abbrev pub state_bytes : ℕ
state_bytes = 32

-- byte 16, the switches: bit 0 DTCP indications, bit 1 RACP indications, bit 2 log notifications
abbrev pub weight_if : Bool → ℕ → ℕ
weight_if true w = w
weight_if false w = 0

unfoldable pub switches_of : Bool → Bool → Bool → ℕ
switches_of dtcp racp log = weight_if dtcp 1 + weight_if racp 2 + weight_if log 4

-- bytes 18 to 22: the operator (document 002, Table 3.25), the filter's minimum and its maximum; 0 where it has none
abbrev pub bounds : ℕ → ℕ → ℕ → Bounds
bounds operator min max = record { operator = operator; minimum = min; maximum = max }

unfoldable pub bounds_of : Filter → Bounds
bounds_of All = bounds all_records 0 0
bounds_of (AtMost max) = bounds at_most 0 max
bounds_of (AtLeast min) = bounds at_least min 0
bounds_of (Range min max) = bounds within_range min max
bounds_of First = bounds first_record 0 0
bounds_of Last = bounds last_record 0 0

-- bytes 24 to 27: is a record left, its number, how many of its bytes are sent
abbrev pub unsent : ℕ → ℕ → ℕ → Unsent
unsent left next sent = record { left = left; next = next; sent = sent }

unfoldable pub unsent_of : Option (ℕ × ℕ) → Unsent
unsent_of None = unsent 0 0 0
unsent_of (Some (next, sent)) = unsent 1 next sent

-- bytes 17 to 27: the running report; opcode 0 and zeros where none is running
abbrev pub fields : ℕ → Bounds → ℕ → Unsent → Fields
fields opcode b counter u = record { opcode = opcode; bounds = b; counter = counter; unsent = u }

unfoldable pub fields_of : Option Report → Fields
fields_of None = fields 0 (bounds 0 0 0) 0 (unsent 0 0 0)
fields_of (Some r) = fields r.opcode (bounds_of r.filter) r.counter (unsent_of r.left)

unfoldable pub field_bytes : Fields → List ℕ
field_bytes f =
    f.opcode ∷ f.bounds.operator
    ∷ (bytes2 f.bounds.minimum
    ++ (bytes2 f.bounds.maximum
    ++ (f.counter ∷ f.unsent.left
    ∷ (bytes2 f.unsent.next
    ++ (f.unsent.sent ∷ [])))))

-- 0-3 Base_Time, 4 zone, 5 DST, 6 source, 7 accuracy, 8-9 status, 10-11 fault count, 12-15 last UTC-aligned value, 16 switches,
-- 17-27 the running report, 28-31 zero
unfoldable pub image_of : Clock → List ℕ
image_of c =
    bytes4 c.time.base
    ++ (c.time.zone ∷ c.time.dst ∷ c.time.source ∷ c.time.accuracy
    ∷ (bytes2 c.time.status
    ++ (bytes2 c.time.faults
    ++ (bytes4 c.time.aligned
    ++ (switches_of c.switches.dtcp c.switches.racp c.switches.log
    ∷ (field_bytes (fields_of c.running)
    ++ (0 ∷ 0 ∷ 0 ∷ 0 ∷ [])))))))

-- The fields at their places. An operator outside 1 to 6 is read as All, which is written as 1.
unfoldable pub filter_in : ℕ → ℕ → ℕ → Filter
filter_in operator min max =
    pick (eqb operator at_most) (AtMost max)
    (pick (eqb operator at_least) (AtLeast min)
    (pick (eqb operator within_range) (Range min max)
    (pick (eqb operator first_record) First
    (pick (eqb operator last_record) Last
    All))))

unfoldable pub left_in : ℕ → ℕ → ℕ → Option (ℕ × ℕ)
left_in left next sent = pick (eqb left 1) (Some (next, sent)) None

unfoldable pub running_in : List ℕ → Option Report
running_in s =
    pick (eqb (at s 17) 0) None
    (Some (record {
      opcode = at s 17;
      filter = filter_in (at s 18) (le16 s 19) (le16 s 21);
      counter = at s 23;
      left = left_in (at s 24) (le16 s 25) (at s 27);
    }))

unfoldable pub clock_in : List ℕ → Clock
clock_in s =
    record {
      time = record {
        base = le32 s 0;
        zone = at s 4;
        dst = at s 5;
        source = at s 6;
        accuracy = at s 7;
        status = le16 s 8;
        faults = le16 s 10;
        aligned = le32 s 12;
      };
      switches = record {
        dtcp = eqb (at s 16 % 2) 1;
        racp = eqb (at s 16 / 2 % 2) 1;
        log = eqb (at s 16 / 4 % 2) 1;
      };
      running = running_in s;
    }

-- Bytes are an image exactly when they are what the clock read from them is written as.
unfoldable pub image_b : List ℕ → Bool
image_b s = both (eqb (length s) state_bytes) (same_b s (image_of (clock_in s)))

-- "another length or encoding is refusal 2": bytes that are no image stand for a clock that breaks a rule
unfoldable pub no_clock : Clock
no_clock = with_base new_reader 0

-- the clock that bytes stand for
unfoldable pub clock_of : List ℕ → Clock
clock_of s = pick (image_b s) (clock_in s) no_clock
