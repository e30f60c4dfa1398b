-- The steps of carrying, each over variables, and why no sum leaves signed 64 bits: a sound table's times are below 2^32 and at most
-- 1,023 records are held. Of the table only its held records, their number and its next number are cited.
-- Assumes nothing.
use mathlib.Core.Path.{◌≡◌, refl, sym, ◌∙◌, ap}
use mathlib.Core.Bool.{Bool, true, false}
use mathlib.Core.List.{List, [], ◌∷◌}
use Prim.Native.Nat.{ℕ, suc, ◌+◌, ◌-◌, ◌*◌, ◌≤◌, ◌<◌}
use native.Mathlib.Omega.{arith}
use borrow.Author.Tests.{le-leb, lt-leb}
use lib.Dec.{leb}
use lib.ListN.{length, drop, length-drop}
use lib.Seq.{drop-drop}
use lib.IntN.{ℤ, pos, nat_abs, ◌+ℤ◌, +ℤ_assoc, +ℤ_idr}
use mir.Syntax.{w64}
use mir.Val.{SFits}
use Rattle.octets.specs.Choice.{pick}
use Rattle.rules.proofs.RangeLaws.{base_reads}
use Rattle.record.specs.Fields.{type_of}
use Rattle.record_read.specs.Reading.{update_b, record_b}
use Rattle.record_read.proofs.RuleLaws.{update_times}
use Rattle.record.specs.declared.kinds.Update.{Update}
use Rattle.record.specs.declared.kinds.Record.{Record}
use Rattle.record.specs.declared.kinds.Record.TheVariants.{TimeUpdate, TimeFault}
use Rattle.table.specs.Table.{count, next, held, sound_b}
use Rattle.table_write.specs.Append.{newest}
use Rattle.table.proofs.HeadLaws.{sound_head}
use Rattle.table_write.proofs.HistoryLaws.{length_held}
use Rattle.table_look.proofs.LookLaws.{none_left}
use Rattle.table_look.proofs.KindLaws.{held_rules}
use Rattle.carry.specs.Stamp.{later_of, moved_by, carried_over, carried_from, carry_of, carrying_number, no_fault_b}
use Rattle.carry.specs.Theorems.{AnswersWhen, moved_over, Times32, none, updated, failed, Bounded, Unchanged}
use Rattle.carry.proofs.IntLaws.{size_difference, size_sum, fits}
use Rattle.carry.specs.declared.stamp.CarryError.{CarryError}
use Rattle.carry.specs.declared.stamp.CarryError.TheVariants.{FaultAmong, NotHeld, TableNotSound}
use Rattle.std.proofs.Common.{Err, Ok, Result}

-- the first record and the rest
first_fault : (z : ℤ) (r : Record) (rest : List Record) → type_of r ≡ 0 → carried_over z (r ∷ rest) ≡ Err FaultAmong
unfolding type_of carried_over
first_fault z (TimeUpdate u) rest h = absurd (omega arith)
first_fault z (TimeFault f) rest h = refl

first_update : (z : ℤ) (r : Record) (rest : List Record) → (type_of r ≡ 0 → ⊥) → carried_over z (r ∷ rest) ≡ carried_over (z +ℤ moved_by r) rest
unfolding type_of carried_over moved_by
first_update z (TimeUpdate u) rest h = refl
first_update z (TimeFault f) rest h = absurd (h refl)

module _ (z : ℤ) (l rest : List Record) (r : Record) (e : l ≡ r ∷ rest) where
  pub over_fault : type_of r ≡ 0 → carried_over z l ≡ Err FaultAmong
  over_fault h = ap (carried_over z) e ∙ first_fault z r rest h

  pub over_update : (type_of r ≡ 0 → ⊥) → carried_over z l ≡ carried_over (z +ℤ moved_by r) rest
  over_update h = ap (carried_over z) e ∙ first_update z r rest h

-- no record is left
pub over_none : (t : List ℕ) (k : ℕ) (z : ℤ) → count t ≤ k → carried_over z (drop k (held t)) ≡ Ok z
unfolding carried_over
over_none t k z h = rw (none_left t k h)

-- the held records of a sound table are within the rules, so their times are of 32 bits
times_small : (u : Update) → update_b u ≡ true → (u.base < 4294967296) × (u.oldbase < 4294967296)
times_small u h =
    let e = update_times u h in
    let x = base_reads u.base e.0 in
    let y = base_reads u.oldbase e.1 in
    (omega arith, omega arith)

all_times : (l : List Record) → ((k : ℕ) (r : Record) (rest : List Record) → drop k l ≡ r ∷ rest → record_b r ≡ true) → Times32 l
unfolding record_b
all_times [] right = none
all_times (TimeUpdate u ∷ l) right = let b = times_small u (right 0 (TimeUpdate u) l refl) in updated b.0 b.1 (all_times l (λ k. right (suc k)))
all_times (TimeFault f ∷ l) right = failed (all_times l (λ k. right (suc k)))

held_times : (t : List ℕ) (n : ℕ) → sound_b t ≡ true → Times32 (drop n (held t))
held_times t n sd = all_times _ (λ k r rest e. held_rules t (n + k) r rest sd (sym (drop-drop k n (held t)) ∙ e))

-- such a record moves a stamp by less than 2^32
moved_small : (r : Record) (l : List Record) → Times32 (r ∷ l) → nat_abs (moved_by r) ≤ 4294967295
unfolding moved_by
moved_small (TimeUpdate u) l (updated a b h) = size_difference u.base u.oldbase 4294967295 (omega arith) (omega arith)
moved_small (TimeFault f) l (failed h) = omega arith

-- a sum over n records, each of which moves it by less than 2^32, from a stamp of 32 bits on
abbrev pub Within : ℕ → ℤ → Type 0
Within n z = nat_abs z ≤ 4294967295 * (n + 1)

-- the record at an age of a sound table: what it makes of a sum
module _ (t : List ℕ) (k : ℕ) (z : ℤ) (r : Record) (e : drop k (held t) ≡ r ∷ drop (k + 1) (held t)) (sd : sound_b t ≡ true) (w : Within k z) where
  pub turn_within : Within (k + 1) (z +ℤ moved_by r)
  turn_within = omega (arith, size_sum z (moved_by r), moved_small r _ (rw e at (held_times t k sd)))

  pub turn_fits : k < count t → SFits w64 (z +ℤ moved_by r)
  turn_fits h = let d = sound_head t sd in fits w64 (z +ℤ moved_by r) (omega (arith, turn_within))

-- the ways out of carrying
module _ (stamp q : ℕ) (t : List ℕ) where
  pub carry_unsound : sound_b t ≡ false → carry_of stamp q t ≡ Err TableNotSound
  unfolding carry_of
  carry_unsound h = rw h

  pub carry_not_held : sound_b t ≡ true → count t < later_of (next t) q → carry_of stamp q t ≡ Err NotHeld
  unfolding carry_of carried_from
  carry_not_held sd h = simp (sd, length_held t, lt-leb _ _ h)

  -- carried over the records from the age n on, which are the m newest
  pub carry_over : (c : Result ℤ CarryError) (n : ℕ) → c ≡ carried_over (pos stamp) (drop n (held t)) → sound_b t ≡ true → n + later_of (next t) q ≡ count t
      → c ≡ carry_of stamp q t
  unfolding carry_of carried_from
  carry_over c n e sd h =
      let m : later_of (next t) q ≤ count t = omega arith in
      let from : count t - later_of (next t) q ≡ n = omega arith in
      simp (sd, length_held t, le-leb _ _ m, from, e)

-- a pass over records answers 0 or 13
over_answers : (l : List Record) (z : ℤ) → carrying_number (carried_over z l) ≡ pick (no_fault_b l) 0 13
unfolding carried_over carrying_number no_fault_b
over_answers [] z = refl
over_answers (TimeUpdate u ∷ l) z = over_answers l _
over_answers (TimeFault f ∷ l) z = refl

pub answers : AnswersWhen
unfolding carry_of carried_from carrying_number
answers stamp q t = rw (length_held t) (go (sound_b t) (leb (later_of (next t) q) (count t)) (drop (count t - later_of (next t) q) (held t)))
  where
    go : (a b : Bool) (l : List Record)
        → carrying_number (pick a (pick b (carried_over (pos stamp) l) (Err NotHeld)) (Err TableNotSound)) ≡ pick a (pick b (pick (no_fault_b l) 0 13) 12) 1
    go false b l = refl
    go true false l = refl
    go true true l = over_answers l (pos stamp)

pub unchanged : Unchanged
unfolding later_of
unchanged stamp q t sd e =
    sym (carry_over stamp q t (Ok (pos stamp)) (count t) (sym (over_none t (count t) (pos stamp) (omega arith))) sd (omega arith))

-- a carried stamp is the stamp and the sum of what moved it
over_sum : (l : List Record) (y z : ℤ) → carried_over y l ≡ Ok z → z ≡ y +ℤ moved_over l
unfolding carried_over moved_over
over_sum [] y z h = let e : z ≡ y = cc in e ∙ sym (+ℤ_idr y)
over_sum (TimeUpdate u ∷ l) y z h = over_sum l _ z h ∙ +ℤ_assoc y (moved_by (TimeUpdate u)) (moved_over l)
over_sum (TimeFault f ∷ l) y z h = let n : ◌≡◌ {A = ℕ} 0 1 = cc in absurd (omega arith)

carried_over_lem : (stamp q : ℕ) (t : List ℕ) (z : ℤ) → carry_of stamp q t ≡ Ok z
    → (sound_b t ≡ true) × (carried_over (pos stamp) (newest (later_of (next t) q) (held t)) ≡ Ok z)
unfolding carry_of carried_from
carried_over_lem stamp q t z = go (sound_b t) (leb (later_of (next t) q) (length (held t))) _
  where
    go : (a b : Bool) (c : Result ℤ CarryError) → pick a (pick b c (Err NotHeld)) (Err TableNotSound) ≡ Ok z → (a ≡ true) × (c ≡ Ok z)
    go true true c h = (refl, h)
    go true false c h = let n : ◌≡◌ {A = ℕ} 0 1 = cc in absurd (omega arith)
    go false b c h = let n : ◌≡◌ {A = ℕ} 0 1 = cc in absurd (omega arith)

sum_small : (l : List Record) → Times32 l → nat_abs (moved_over l) ≤ 4294967295 * length l
unfolding moved_by moved_over
sum_small [] none = omega arith
sum_small (TimeUpdate u ∷ l) (updated a b h) =
    let r = TimeUpdate u in
    omega (arith, size_sum (moved_by r) (moved_over l), moved_small r l (updated a b h), sum_small l h)
sum_small (TimeFault f ∷ l) (failed h) = omega (arith, size_sum (pos 0) (moved_over l), sum_small l h)

-- the stamp, and at most 1,023 such moves
carried_size : (stamp q : ℕ) (t : List ℕ) (z : ℤ) → carry_of stamp q t ≡ Ok z → nat_abs z ≤ stamp + 4294967295 * 1023
carried_size stamp q t z e =
    let c = carried_over_lem stamp q t z e in
    let d = sound_head t c.0 in
    let n = length (held t) - later_of (next t) q in
    let l = drop n (held t) in
    rw (over_sum l (pos stamp) z c.1)
    (omega (arith, size_sum (pos stamp) (moved_over l), sum_small l (held_times t n c.0), length-drop n (held t), length_held t))

pub bounded : Bounded
bounded =
    record {
      sum_small = λ l few x. omega (arith, sum_small l x);
      carried_small = λ stamp q t z h e. omega (arith, carried_size stamp q t z e);
      carried_fits = λ stamp q t z h e. fits w64 z (omega (arith, carried_size stamp q t z e));
    }
