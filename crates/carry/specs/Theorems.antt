-- What is promised of carrying beyond each call's own equation (document 01, "Carrying a stamp"): which refusal comes when, that every
-- carried stamp fits signed 64 bits, and that a stamp without later records stays.
use Rattle.std.specs.Prelude.{◌≡◌, true, List, [], ◌∷◌, ℕ, ◌≤◌, ◌<◌, leb, length, ℤ, pos, nat_abs, ◌+ℤ◌, Ok}
use Rattle.std.specs.Int.{w64}
use Rattle.std.proofs.Common.{SFits}
use Rattle.octets.specs.Choice.{pick}
use Rattle.record.specs.declared.kinds.Update.{Update}
use Rattle.record.specs.declared.kinds.Fault.{Fault}
use Rattle.record.specs.declared.kinds.Record.{Record}
use Rattle.record.specs.declared.kinds.Record.TheVariants.{TimeUpdate, TimeFault}
use Rattle.table.specs.Table.{count, next, held, sound_b}
use Rattle.table_write.specs.Append.{newest}
use Rattle.carry.specs.Stamp.{later_of, moved_by, no_fault_b, carry_of, carrying_number}

-- Carrying refuses with 1 exactly where the table isn't sound, else with 12 exactly where m exceeds H, else with 13 exactly where a Time_Fault is
-- among the m newest records.
abbrev pub AnswersWhen : Type 0
AnswersWhen = (stamp q : ℕ) (t : List ℕ)
    → let m = later_of (next t) q in
    carrying_number (carry_of stamp q t) ≡ pick (sound_b t) (pick (leb m (count t)) (pick (no_fault_b (newest m (held t))) 0 13) 12) 1

-- the sum of what each record adds
unfoldable pub moved_over : List Record → ℤ
moved_over [] = pos 0
moved_over (r ∷ l) = moved_by r +ℤ moved_over l

-- records of which each Time_Update has a received and an old time of 32 bits
pub data Times32 : List Record → Type 0 where
  none : Times32 []
  updated : {u : Update} {l : List Record} → u.base < 4294967296 → u.oldbase < 4294967296 → Times32 l → Times32 (TimeUpdate u ∷ l)
  failed : {f : Fault} {l : List Record} → Times32 l → Times32 (TimeFault f ∷ l)

-- Carrying refuses no stamp for its size: at most 1,023 differences of 32-bit values stay far inside signed 64 bits. `nat_abs z` is the size
-- of z, n for n and for -n.
pub record Bounded : Type 0 where
  -- 1,023 differences of at most 2^32 - 1 each
  pub sum_small : (l : List Record) → length l ≤ 1023 → Times32 l → nat_abs (moved_over l) ≤ 4393751542785
  -- and a stamp of at most 2^32 - 1
  pub carried_small : (stamp q : ℕ) (t : List ℕ) (z : ℤ) → stamp < 4294967296 → carry_of stamp q t ≡ Ok z → nat_abs z ≤ 4398046510080
  -- so -2^63 ≤ z < 2^63
  pub carried_fits : (stamp q : ℕ) (t : List ℕ) (z : ℤ) → stamp < 4294967296 → carry_of stamp q t ≡ Ok z → SFits w64 z

-- "q equal to next: stamp unchanged"
abbrev pub Unchanged : Type 0
Unchanged = (stamp q : ℕ) (t : List ℕ) → sound_b t ≡ true → q ≡ next t → carry_of stamp q t ≡ Ok (pos stamp)
