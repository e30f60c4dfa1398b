-- The tablet's calls: joining over its state's image, reading into eleven numbers, keeping in a table, carrying.
use Rattle.std.specs.Prelude.{List, [], ◌∷◌, ℕ, eqb, ℤ, pos, length, replicate, Err, None, Ok, Option, Result, Some}
use Rattle.octets.specs.Choice.{pick}
use Rattle.record_read.specs.Reading.{read_of}
use Rattle.record_read.specs.Reading as wellFormed
use Rattle.record.specs.declared.kinds.Record.{Record}
use Rattle.record.specs.declared.kinds.Record.TheVariants.{TimeUpdate, TimeFault}
use Rattle.joining.specs.Joining.{join_of, joining_number}
use Rattle.joining.specs.declared.joining.Answer.{Answer}
use Rattle.joining.specs.declared.joining.Answer.TheVariants.{More, Whole, Refused}
use Rattle.joining.specs.declared.joining.Joined.{Joined}
use Rattle.keep.specs.Keep.{keep_of, keeping_number}
use Rattle.carry.specs.Stamp.{carry_of}
use Rattle.carry.specs.Stamp as carry
use Rattle.state_bytes.specs.JoiningState.{joining_bytes, joining_image, joining_in}
use Rattle.state_bytes.specs.Results.{refusal}
use Rattle.carry.specs.declared.stamp.CarryError.{CarryError}
use Rattle.carry.specs.declared.stamp.CarryError.TheVariants.{FaultAmong, NotHeld, TableNotSound}

-- "0 more to come, 1 to 45: a whole record of that length stands in joining"
abbrev pub join_result : Answer → ℕ → ℤ
join_result More n = pos 0
join_result Whole n = pos n
join_result Refused n = refusal (joining_number Refused)

-- the result, and the bytes of the joining state after it
pub record JoinedBytes : Type 0 where
  pub result : ℤ
  pub joining : List ℕ

abbrev pub joined : ℤ → List ℕ → JoinedBytes
joined z j = record { result = z; joining = j }

abbrev pub joined_bytes : Joined → JoinedBytes
joined_bytes u = joined (join_result u.answer u.joining.len) (joining_image u.joining)

-- "another length .. is 10, and every byte lent becomes 0"
unfoldable pub join_at : List ℕ → List ℕ → JoinedBytes
join_at j n =
    pick (eqb (length j) joining_bytes)
    (joined_bytes (join_of (joining_in j) n))
    (joined (refusal (joining_number Refused)) (replicate (length j) 0))

-- "sequence, type, status, old status, fault count, zone byte, DST, source, accuracy, base, old base; 0 where the type has none"
unfoldable pub fields_in : Record → List ℕ
fields_in (TimeUpdate u) =
    u.sequence ∷ 1 ∷ u.status ∷ u.oldstatus ∷ u.faults ∷ u.zone ∷ u.dst ∷ u.source ∷ u.accuracy ∷ u.base ∷ u.oldbase ∷ []
fields_in (TimeFault f) =
    f.sequence ∷ 0 ∷ f.status ∷ f.oldstatus ∷ f.faults ∷ 0 ∷ 0 ∷ 0 ∷ 0 ∷ f.base ∷ f.oldbase ∷ []

-- the result, minus the number that reading answers, and the eleven numbers after it
pub record ReadNumbers : Type 0 where
  pub result : ℤ
  pub fields : List ℕ

abbrev pub reading : ℤ → List ℕ → ReadNumbers
reading z f = record { result = z; fields = f }

-- the record's numbers, or those that stood there
abbrev pub numbers_after : List ℕ → Option Record → List ℕ
numbers_after f (Some r) = fields_in r
numbers_after f None = f

unfoldable pub read_at : List ℕ → List ℕ → ReadNumbers
read_at b f = reading (refusal (wellFormed.reading_number (read_of b))) (numbers_after f (read_of b))

-- the result, minus the number that keeping answers, and the bytes of the table after it
pub record KeptBytes : Type 0 where
  pub result : ℤ
  pub table : List ℕ

abbrev pub kept_bytes : ℤ → List ℕ → KeptBytes
kept_bytes z t = record { result = z; table = t }

unfoldable pub keep_at : List ℕ → List ℕ → KeptBytes
keep_at t b = kept_bytes (refusal (keeping_number (keep_of t b).answer)) (keep_of t b).table

-- the result, minus the number that carrying answers, and the carried stamp after it
pub record CarriedTo : Type 0 where
  pub result : ℤ
  pub carried : ℤ

abbrev pub carrying : ℤ → ℤ → CarriedTo
carrying z y = record { result = z; carried = y }

-- the stamp that was carried, or the number that stood there
abbrev pub stamp_after : ℤ → Result ℤ CarryError → ℤ
stamp_after y (Ok z) = z
stamp_after y (Err why) = y

unfoldable pub carry_at : ℕ → ℕ → List ℕ → ℤ → CarriedTo
carry_at stamp q t y = carrying (refusal (carry.carrying_number (carry_of stamp q t))) (stamp_after y (carry_of stamp q t))
