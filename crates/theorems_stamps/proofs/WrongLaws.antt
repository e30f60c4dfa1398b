-- Each wrong way of carrying is shut out by a history in which it differs: the paper's case 6 computed, a fault, and so many faults that the
-- next number comes round. Assumes nothing.
use mathlib.Core.Path.{◌≡◌, refl, sym, ◌∙◌, ap}
use mathlib.Core.Bool.{Bool, true, false}
use mathlib.Core.List.{List, [], ◌∷◌}
use Prim.Native.Nat.{ℕ, zero, suc, ◌+◌, ◌-◌, ◌%◌, ◌<◌, ◌≤◌}
use native.Mathlib.Omega.{arith}
use borrow.Author.Tests.{le-leb}
use lib.Dec.{leb, eqb}
use lib.IntN.{ℤ, pos, negsuc}
use lib.ListN.{length, replicate, drop_of_length-le}
use Rattle.octets.proofs.Tests.{clash, both_yes}
use Rattle.record.specs.declared.kinds.Record.{Record}
use Rattle.table.specs.Table.{size_b, next, held}
use Rattle.table_write.specs.Append.{newest}
use Rattle.clock.specs.Answers as clocks
use Rattle.update.specs.Fault.{fault_record}
use Rattle.rows.specs.Reply.{done_b, answered}
use Rattle.rows.specs.Rows.{whole_b}
use Rattle.update.proofs.FaultLaws.{fault_done}
use Rattle.theorems_reports.proofs.GoodLaws.{new_table, new_good}
use Rattle.rows.proofs.RowLaws.{table_0}
use Rattle.carry.specs.Stamp.{later_of, carried_over, carried_from, carry_of, carrying_number, no_fault_b}
use Rattle.theorems_reports.specs.World.{World, new_world, Call, seconds, fault, step_of, run_of}
use Rattle.theorems_reports.specs.Reach.{Good}
use Rattle.theorems_stamps.specs.Stamps.{logged_in, logged_of, Carrying, carried_after, all_held_b, Carries, CarriedBelow, CarriedStamp}
use Rattle.theorems_stamps.specs.Cases.{result_of, buffer, output, set, on}
use Rattle.theorems_stamps.specs.Wrong as wrong
use Rattle.theorems_stamps.specs.Wrong.{carry_by, ShutOut}
use Rattle.theorems_stamps.proofs.OneLaws.{one_carrying}
use Rattle.theorems_reports.proofs.ReachLaws.{reachable, call_good, calls_good}
use Rattle.theorems_stamps.proofs.StampLaws.{carried_stamp}
use Rattle.theorems_stamps.proofs.WentLaws.{went_run}
use Rattle.theorems_stamps.proofs.WriteLaws.{writable}
use Rattle.carry.specs.declared.stamp.CarryError.{CarryError}
use Rattle.carry.specs.declared.stamp.CarryError.TheVariants.{FaultAmong, NotHeld, TableNotSound}
use Rattle.std.proofs.Common.{Err, Ok, Result}

by_parts : (stamp q : ℕ) (t : List ℕ) → carry_by later_of newest carried_over stamp q t ≡ carry_of stamp q t
unfolding carry_by carry_of carried_from
by_parts stamp q t = refl

-- the paper's case 6
abbrev reached : World
reached = run_of (new_world (buffer 144)) (on ∷ set writable 800000000 ∷ seconds 50 ∷ [])

abbrev since : List Call
since = seconds 50 ∷ set writable 800000070 ∷ seconds 40 ∷ []

-- in it every way that keeps the theorem carries 800,000,050 to 800,000,020
six : (carry : Carrying) → CarriedStamp carry → carried_after carry reached since ≡ Ok (pos 800000020)
unfolding result_of
six carry h =
    let few : 1 < 65536 = omega arith in
    one_carrying carry carry_of h carried_stamp (buffer 144) (on ∷ set writable 800000000 ∷ seconds 50 ∷ []) since refl few

abbrev amount : Result ℤ CarryError → ℕ
amount (Ok (pos n)) = n
amount (Ok (negsuc n)) = 0
amount (Err TableNotSound) = 0
amount (Err NotHeld) = 0
amount (Err FaultAmong) = 0

shut : (carry : Carrying) → eqb (amount (carried_after carry reached since)) 800000020 ≡ false → CarriedStamp carry → ⊥
shut carry differs h =
    clash (eqb (amount (carried_after carry reached since)) 800000020) (ap (λ (x : Result ℤ CarryError). eqb (amount x) 800000020) (six carry h)) differs

unchanged_out : (carry : Carrying) → ((stamp q : ℕ) (t : List ℕ) (z : ℤ) → carry stamp q t ≡ Ok z → z ≡ pos stamp) → CarriedStamp carry → ⊥
unfolding result_of
unchanged_out carry same h =
    let e : pos 800000020 ≡ pos 800000050 = same _ _ _ _ (six carry h) in
    let n : ◌≡◌ {A = ℕ} 800000020 800000050 = ap (λ (z : ℤ). amount (Ok z)) e in
    omega arith

refusing_out : (carry : Carrying) → ((stamp q : ℕ) (t : List ℕ) → eqb (carrying_number (carry stamp q t)) 0 ≡ false) → CarriedStamp carry → ⊥
unfolding carrying_number
refusing_out carry refuses h =
    clash (eqb (carrying_number (carried_after carry reached since)) 0) (ap (λ (x : Result ℤ CarryError). eqb (carrying_number x) 0) (six carry h)) (refuses _ _ _)

unreduced_out : CarriedStamp wrong.unreduced → ⊥
unfolding result_of carry_by
unreduced_out = shut wrong.unreduced refl

fewer_out : CarriedStamp wrong.fewer → ⊥
unfolding result_of carry_by
fewer_out = shut wrong.fewer refl

more_out : CarriedStamp wrong.more → ⊥
unfolding result_of carry_by
more_out = shut wrong.more refl

oldest_out : CarriedStamp wrong.oldest → ⊥
unfolding result_of carry_by
oldest_out = shut wrong.oldest refl

stopping_out : CarriedStamp (wrong.summing (wrong.adding wrong.stopping)) → ⊥
unfolding result_of carry_by wrong.adding
stopping_out = shut (wrong.summing (wrong.adding wrong.stopping)) refl

wrapping_out : CarriedStamp (wrong.summing (wrong.adding wrong.wrapping)) → ⊥
unfolding result_of carry_by wrong.adding
wrapping_out = shut (wrong.summing (wrong.adding wrong.wrapping)) refl

turned_out : CarriedStamp (wrong.summing wrong.turned) → ⊥
unfolding result_of carry_by wrong.turned
turned_out = shut (wrong.summing wrong.turned) refl

-- a fault
passing_out : CarriedStamp (wrong.summing wrong.passing) → ⊥
unfolding result_of carry_by wrong.passing carrying_number
passing_out h =
    clash true refl (h (buffer 80) [] (fault output ∷ []) refl (let few : 1 < 65536 = omega arith in few)).exactly

-- many faults: each is logged
abbrev faults : ℕ → List Call
faults n = replicate n (fault output)

fault_logs : (v : World) → Good v → logged_in v (fault output) ≡ fault_record v.clock (next v.table) ∷ []
unfolding logged_in answered done_b clocks.number_of whole_b
fault_logs v g =
    let room : leb 20 (length output) ≡ true = refl in
    let whole : whole_b v.clock v.table ≡ true = both_yes g.clock ∙ g.running in
    let done = ap done_b (table_0 v.clock v.table (leb 20 (length output)) g.sound whole room) in
    rw (fault_done v.clock v.table output done)

logs_all : (n : ℕ) (v : World) → Good v → length (logged_of v (faults n)) ≡ n
unfolding logged_of
logs_all zero v g = refl
logs_all (suc n) v g = rw (fault_logs v g) (ap suc (logs_all n (step_of v (fault output)) (call_good v (fault output) g)))

fault_among : (n : ℕ) (v : World) → Good v → no_fault_b (logged_of v (faults (suc n))) ≡ false
unfolding logged_of no_fault_b fault_record
fault_among n v g = rw (fault_logs v g)

next_after_lem : (n : ℕ) (v : World) → Good v → next (run_of v (faults n)).table ≡ (next v.table + n) % 65536
next_after_lem n v g = (went_run (faults n) v g).number ∙ ap (λ (k : ℕ). (next v.table + k) % 65536) (logs_all n v g)

newest_none : (l : List Record) → newest 0 l ≡ []
newest_none l = let h : length l ≤ length l - 0 = omega arith in drop_of_length-le l h

-- where m comes out as 0 a stamp is carried, whatever was logged
carries_none : (later : ℕ → ℕ → ℕ) (v w : World) → Good w → later (next w.table) (next v.table) ≡ 0
    → eqb (carrying_number (carry_by later newest carried_over v.clock.time.base (next v.table) w.table)) 0 ≡ true
unfolding carry_by carried_over carrying_number
carries_none later v w g e =
    rw (g.sound, e, le-leb 0 (length (held w.table)) (omega arith), newest_none (held w.table))

-- but with a fault among the records it must not be
refuses_fault : (carry : Carrying) (v : World) (after : List Call) → Carries carry v after → no_fault_b (logged_of v after) ≡ false
    → eqb (carrying_number (carried_after carry v after)) 0 ≡ false
refuses_fault carry v after x h = go (all_held_b v after) refl
  where
    go : (a : Bool) → all_held_b v after ≡ a → eqb (carrying_number (carried_after carry v after)) 0 ≡ false
    go true e = simp (e, h) at x.exactly
    go false e = simp (e, h) at x.exactly

-- 65,535 faults, and one more: the next number is 0
round : (x y z n : ℕ) → x ≡ 0 → y ≡ (x + n) % 65536 → z ≡ (y + 1) % 65536 → n ≡ 65535 → z - y ≡ 0
round x y z n a b d e = omega arith

saturated_at : (n : ℕ) (t : List ℕ) → size_b (length t) ≡ true → n ≡ 65535 → CarriedStamp wrong.saturated → ⊥
saturated_at n t h e k =
    let v = run_of (new_world t) (faults n) in
    let g : Good v = reachable t (faults n) h in
    let few : length (logged_of v (faults 1)) < 65536 = omega (arith, logs_all 1 v g) in
    let z = round (next (new_world t).table) (next v.table) (next (run_of v (faults 1)).table) n (new_table t h).next
    (next_after_lem n (new_world t) (new_good t h)) (next_after_lem 1 v g) e in
    clash (eqb (carrying_number (carried_after wrong.saturated v (faults 1))) 0)
    (carries_none ◌-◌ v (run_of v (faults 1)) (calls_good (faults 1) v g) z)
    (refuses_fault wrong.saturated v (faults 1) (k t (faults n) (faults 1) h few) (fault_among 0 v g))

saturated_out : CarriedStamp wrong.saturated → ⊥
unfolding size_b
saturated_out = saturated_at 65535 (buffer 80) refl refl

-- 65,536 faults: the next number is the stamp's again
whole_round : (x y n : ℕ) → x ≡ 0 → y ≡ (x + n) % 65536 → n ≡ 65536 → (y + 65536 - x) % 65536 ≡ 0
whole_round x y n a b e = omega arith

loose : (n bound : ℕ) (t : List ℕ) → size_b (length t) ≡ true → suc n ≡ 65536 → 65536 < bound → CarriedBelow bound carry_of → ⊥
unfolding run_of later_of
loose n bound t h e b k =
    let v = new_world t in
    let g : Good v = new_good t h in
    let few : length (logged_of v (faults (suc n))) < bound = omega (arith, logs_all (suc n) v g) in
    let z = whole_round (next v.table) (next (run_of v (faults (suc n))).table) (suc n) (new_table t h).next (next_after_lem (suc n) v g) e in
    clash (eqb (carrying_number (carried_after carry_of v (faults (suc n)))) 0)
    (ap (λ (x : Result ℤ CarryError). eqb (carrying_number x) 0) (sym (by_parts _ _ _))
    ∙ carries_none later_of v (run_of v (faults (suc n))) (calls_good (faults (suc n)) v g) z)
    (refuses_fault carry_of v (faults (suc n)) (k t [] (faults (suc n)) h few) (fault_among n v g))

loose_out : (bound : ℕ) → 65536 < bound → CarriedBelow bound carry_of → ⊥
unfolding size_b
loose_out bound = loose 65535 bound (buffer 80) refl refl

pub shut_out : ShutOut
shut_out =
    record {
      right = by_parts;
      unchanged = unchanged_out;
      refusing = refusing_out;
      unreduced = unreduced_out;
      saturated = saturated_out;
      fewer = fewer_out;
      more = more_out;
      oldest = oldest_out;
      passing = passing_out;
      stopping = stopping_out;
      wrapping = wrapping_out;
      turned = turned_out;
      one_more = loose_out _ (omega arith);
    }
