-- The carried stamp: the ring and the sequence numbers go by one equation, the sums by induction over what was logged.
-- Assumes nothing.
use mathlib.Core.Path.{◌≡◌, refl, sym, ◌∙◌, ap}
use mathlib.Core.Bool.{Bool, true, false}
use mathlib.Core.List.{List, [], ◌∷◌, ◌++◌}
use Prim.Native.Nat.{ℕ, ◌+◌, ◌-◌, ◌%◌, ◌<◌, ◌≤◌}
use native.Mathlib.Omega.{arith}
use borrow.Author.Tests.{leb-true, leb-false, le-leb, lt-leb}
use lib.Dec.{leb}
use lib.IntN.{ℤ, pos, ◌-ℤ◌, +ℤ_idr}
use lib.ListN.{length, length-append, length-drop}
use lib.Seq.{drop-nil, drop-drop, drop_at}
use Rattle.octets.specs.Choice.{pick}
use Rattle.octets.proofs.Tests.{clash}
use Rattle.record.specs.declared.kinds.Record.{Record}
use Rattle.record.specs.declared.kinds.Record.TheVariants.{TimeUpdate, TimeFault}
use Rattle.table.specs.Table.{slots_in, size_b, capacity, next, held}
use Rattle.table_write.specs.Append.{newest}
use Rattle.table.proofs.HeadLaws.{sound_head}
use Rattle.table_write.proofs.HistoryLaws.{length_held}
use Rattle.theorems_reports.proofs.GoodLaws.{new_table, new_good}
use Rattle.carry.specs.Stamp.{later_of, moved_by, carried_over, carried_from, carry_of, carrying_number, no_fault_b}
use Rattle.theorems_reports.specs.World.{World, new_world, Call, run_of}
use Rattle.theorems_reports.specs.Reach.{Good}
use Rattle.theorems_stamps.specs.Stamps.{ran_of, logged_of, carried_after, same_records_b, all_held_b, HoldsLogged, Carries, CarriedStamp}
use Rattle.theorems_stamps.proofs.Differences.{diff_add, diff_is}
use Rattle.theorems_reports.proofs.ReachLaws.{reachable}
use Rattle.theorems_stamps.proofs.SameLaws.{same_records, same_itself, other_length}
use Rattle.theorems_stamps.proofs.WentLaws.{news, olds, Went, went_run}
use Rattle.carry.specs.declared.stamp.CarryError.{CarryError}
use Rattle.carry.specs.declared.stamp.CarryError.TheVariants.{FaultAmong, NotHeld}
use Rattle.std.proofs.Common.{Result, Err, Ok}

-- the newest of a list: all of it, and of the newest ones those that came last
newest_all : (n : ℕ) (l : List Record) → length l ≤ n → l ≡ newest n l
newest_all n l h = let z : length l - n ≡ 0 = omega arith in rw z

newest_last : (n : ℕ) (past l : List Record) → length l ≤ length (newest n (past ++ l)) → newest (length l) (newest n (past ++ l)) ≡ l
newest_last n past l h =
    let e = length-drop (length (past ++ l) - n) (past ++ l) in
    drop-drop (length (newest n (past ++ l)) - length l) (length (past ++ l) - n) (past ++ l)
    ∙ drop_at past l (length (past ++ l) - n + (length (newest n (past ++ l)) - length l)) (omega (arith, length-append past l))

-- "m = (next - q) mod 65,536" comes back from the two numbers
later_is : (q k n : ℕ) → q < 65536 → k < 65536 → n ≡ (q + k) % 65536 → later_of n q ≡ k
unfolding later_of
later_is q k n hq hk e = ap (λ (x : ℕ). (x + 65536 - q) % 65536) e ∙ go q k hq hk
  where
    go : (q k : ℕ) → q < 65536 → k < 65536 → ((q + k) % 65536 + 65536 - q) % 65536 ≡ k
    go q k hq hk = omega arith

-- the sum over records without a fault, and with one
over_sums : (l : List Record) (a b : ℕ) → no_fault_b l ≡ true
    → carried_over (pos a -ℤ pos b) l ≡ Ok (pos (a + news l) -ℤ pos (b + olds l))
unfolding carried_over moved_by no_fault_b news olds
over_sums [] a b h =
    let x : a + 0 ≡ a = omega arith in
    let y : b + 0 ≡ b = omega arith in
    rw (x, y)
over_sums (TimeUpdate u ∷ l) a b h =
    let x : a + u.base + news l ≡ a + (u.base + news l) = omega arith in
    let y : b + u.oldbase + olds l ≡ b + (u.oldbase + olds l) = omega arith in
    ap (λ (z : ℤ). carried_over z l) (diff_add a b u.base u.oldbase)
    ∙ over_sums l (a + u.base) (b + u.oldbase) h
    ∙ ap (λ (k : ℕ). Ok (pos k -ℤ pos (b + u.oldbase + olds l))) x
    ∙ ap (λ (k : ℕ). Ok (pos (a + (u.base + news l)) -ℤ pos k)) y
over_sums (TimeFault f ∷ l) a b h = absurd (clash false h refl)

over_fault : (l : List Record) (z : ℤ) → no_fault_b l ≡ false → carried_over z l ≡ Err FaultAmong
unfolding carried_over no_fault_b
over_fault [] z h = absurd (clash true refl h)
over_fault (TimeUpdate u ∷ l) z h = over_fault l _ h
over_fault (TimeFault f ∷ l) z h = refl

-- by the theorem's two tests
by_tests : {P : Type 0} (a b : Bool) → (a ≡ false → P) → (a ≡ true → b ≡ false → P) → (a ≡ true → b ≡ true → P) → P
by_tests false b x y z = x refl
by_tests true false x y z = y refl refl
by_tests true true x y z = z refl refl

module _ (v w : World) (l : List Record) (n : ℕ) (g : Good v) (d : Went v w l n) where
  held_all : held v.table ≡ newest (capacity v.table) (held v.table)
  held_all =
      let h = sound_head v.table g.sound in
      newest_all (capacity v.table) (held v.table) (omega (arith, length_held v.table))

  -- what carrying sums over is what was logged
  are_logged : length l ≤ length (held w.table) → newest (length l) (held w.table) ≡ l
  are_logged h =
      let e = d.kept (held v.table) held_all in
      ap (newest (length l)) e ∙ newest_last (capacity w.table) (held v.table) l (rw e at h)

  -- they are all held exactly where there are slots for them
  held_slots : leb (length l) (length (held w.table)) ≡ leb (length l) (capacity w.table)
  held_slots =
      let n = capacity w.table in
      let x = held v.table ++ l in
      let e = ap length (d.kept (held v.table) held_all) ∙ length-drop (length x - n) x in
      let f = length-append (held v.table) l in
      go (leb (length l) n) refl ((λ h. omega arith), omega arith)
    where
      go : (b : Bool) → leb (length l) (capacity w.table) ≡ b
          → (length l ≤ capacity w.table → length l ≤ length (held w.table)) × (length (held w.table) ≤ capacity w.table)
          → leb (length l) (length (held w.table)) ≡ b
      go true e f = le-leb (length l) (length (held w.table)) (f.0 (leb-true (length l) (capacity w.table) e))
      go false e f = lt-leb (length l) (length (held w.table)) (omega (arith, f.1, leb-false (length l) (capacity w.table) e))

  -- so the test by the records is one of the counts
  held_counts : same_records_b (newest (length l) (held w.table)) l ≡ leb (length l) (length (held w.table))
  held_counts = go (leb (length l) (length (held w.table))) refl
    where
      go : (b : Bool) → leb (length l) (length (held w.table)) ≡ b → same_records_b (newest (length l) (held w.table)) l ≡ b
      go true e = rw (are_logged (leb-true _ _ e)) (same_itself l)
      go false e =
          let x = leb-false (length l) (length (held w.table)) e in
          let y = length-drop (length (held w.table) - length l) (held w.table) in
          other_length (newest (length l) (held w.table)) l (λ z. omega arith)

module _ (v w : World) (l : List Record) (n : ℕ) (g : Good v) (d : Went v w l n) (few : length l < 65536) where
  -- the ring and the numbers are gone
  carry_is : (stamp : ℕ) → carry_of stamp (next v.table) w.table
      ≡ pick (leb (length l) (length (held w.table))) (carried_over (pos stamp) l) (Err NotHeld)
  unfolding carry_of carried_from
  carry_is stamp =
      rw (d.good.sound, later_is (next v.table) (length l) (next w.table) g.next few d.number)
      (go (leb (length l) (length (held w.table))) refl)
    where
      go : (b : Bool) → leb (length l) (length (held w.table)) ≡ b
          → pick b (carried_over (pos stamp) (newest (length l) (held w.table))) (Err NotHeld) ≡ pick b (carried_over (pos stamp) l) (Err NotHeld)
      go true e = ap (carried_over (pos stamp)) (are_logged v w l n g d (leb-true _ _ e))
      go false e = refl

  -- the three answers of carrying
  is_not_held : (stamp : ℕ) → leb (length l) (length (held w.table)) ≡ false → carry_of stamp (next v.table) w.table ≡ Err NotHeld
  is_not_held stamp h = rw (carry_is stamp, h)

  is_fault : (stamp : ℕ) → leb (length l) (length (held w.table)) ≡ true → no_fault_b l ≡ false
      → carry_of stamp (next v.table) w.table ≡ Err FaultAmong
  is_fault stamp h k = rw (carry_is stamp, h) (over_fault l (pos stamp) k)

  is_sum : leb (length l) (length (held w.table)) ≡ true → no_fault_b l ≡ true
      → carry_of v.clock.time.base (next v.table) w.table ≡ Ok (pos (v.clock.time.base + news l) -ℤ pos (olds l))
  is_sum h k =
      let x : 0 + olds l ≡ olds l = omega arith in
      rw (carry_is v.clock.time.base, h)
      (ap (λ (z : ℤ). carried_over z l) (sym (+ℤ_idr (pos v.clock.time.base)))
      ∙ over_sums l v.clock.time.base 0 k
      ∙ ap (λ (m : ℕ). Ok (pos (v.clock.time.base + news l) -ℤ pos m)) x)

to_is : (x z : ℤ) → ◌≡◌ {A = Result ℤ CarryError} (Ok x) (Ok z) → x ≡ z
to_is x z h = cc

pub by_counts : (v : World) (after : List Call) → Good v
    → all_held_b v after ≡ leb (length (logged_of v after)) (length (held (run_of v after).table))
unfolding all_held_b
by_counts v after g = held_counts v (run_of v after) (logged_of v after) (ran_of v after) g (went_run after v g)

by_slots : (t : List ℕ) (before after : List Call) → size_b (length t) ≡ true
    → all_held_b (run_of (new_world t) before) after ≡ leb (length (logged_of (run_of (new_world t) before) after)) (slots_in (length t))
by_slots t before after h =
    let v = run_of (new_world t) before in
    let g = reachable t before h in
    let d = went_run after v g in
    by_counts v after g ∙ held_slots v (run_of v after) (logged_of v after) (ran_of v after) g d
    ∙ ap (leb (length (logged_of v after))) (d.capacity ∙ (went_run before (new_world t) (new_good t h)).capacity ∙ (new_table t h).capacity)

pub carries : (v : World) (after : List Call) → Good v → length (logged_of v after) < 65536 → Carries carry_of v after
unfolding carrying_number
carries v after g few =
    let w = run_of v after in
    let l = logged_of v after in
    let d = went_run after v g in
    let c = sym (by_counts v after g) in
    let not_held : all_held_b v after ≡ false → carried_after carry_of v after ≡ (Err NotHeld) =
    λ h. is_not_held v w l (ran_of v after) g d few v.clock.time.base (c ∙ h) in
    let fault : all_held_b v after ≡ true → no_fault_b l ≡ false → carried_after carry_of v after ≡ (Err FaultAmong) =
    λ h. is_fault v w l (ran_of v after) g d few v.clock.time.base (c ∙ h) in
    let sum : all_held_b v after ≡ true → no_fault_b l ≡ true
    → carried_after carry_of v after ≡ Ok (pos (v.clock.time.base + news l) -ℤ pos (olds l)) =
    λ h. is_sum v w l (ran_of v after) g d few (c ∙ h) in
    record {
      exactly = by_tests (all_held_b v after) (no_fault_b l) (λ h. simp (not_held h, h)) (λ h k. simp (fault h k, h, k)) (λ h k. simp (sum h k, h, k));
      difference = λ z e.
          by_tests (all_held_b v after) (no_fault_b l)
          (λ h. let y : ◌≡◌ {A = ℕ} 0 1 = cc (not_held h) in absurd (omega arith))
          (λ h k. let y : ◌≡◌ {A = ℕ} 0 1 = cc (fault h k) in absurd (omega arith))
          (λ h k. rw (← to_is _ z (sym (sum h k) ∙ e)) (diff_is w.clock.time.base (v.clock.time.base + news l) (olds l) (ran_of v after) (d.law k)));
      not_held = not_held;
      fault = fault;
    }

pub carried_stamp : CarriedStamp carry_of
carried_stamp t before after h few = carries (run_of (new_world t) before) after (reachable t before h) (omega (arith, few))

-- What the table then holds of what was logged.
logged_held : (t : List ℕ) (calls : List Call) → size_b (length t) ≡ true
    → held (run_of (new_world t) calls).table ≡ newest (slots_in (length t)) (logged_of (new_world t) calls)
logged_held t calls h =
    let d = went_run calls (new_world t) (new_good t h) in
    let b = new_table t h in
    d.kept [] (b.held ∙ sym (drop-nil (0 - capacity (new_world t).table)))
    ∙ ap (λ (n : ℕ). newest n (logged_of (new_world t) calls)) (d.capacity ∙ b.capacity)

logged_number : (t : List ℕ) (calls : List Call) → size_b (length t) ≡ true
    → next (run_of (new_world t) calls).table ≡ length (logged_of (new_world t) calls) % 65536
logged_number t calls h =
    let z = (new_table t h).next in
    let e : next (new_world t).table + length (logged_of (new_world t) calls) ≡ length (logged_of (new_world t) calls) = omega arith in
    (went_run calls (new_world t) (new_good t h)).number ∙ ap (λ (n : ℕ). n % 65536) e

logged_later : (t : List ℕ) (before after : List Call) → size_b (length t) ≡ true → all_held_b (run_of (new_world t) before) after ≡ true
    → newest (length (logged_of (run_of (new_world t) before) after)) (held (run_of (run_of (new_world t) before) after).table)
    ≡ logged_of (run_of (new_world t) before) after
logged_later t before after h k =
    let v = run_of (new_world t) before in
    let g = reachable t before h in
    are_logged v (run_of v after) (logged_of v after) (ran_of v after) g (went_run after v g) (leb-true _ _ (sym (by_counts v after g) ∙ k))

pub holds_logged : HoldsLogged
holds_logged =
    record {
      holds = logged_held;
      counts = logged_number;
      same = same_records;
      same_back = same_itself;
      by_counts = λ t before after h. by_counts (run_of (new_world t) before) after (reachable t before h);
      by_slots = by_slots;
      later = logged_later;
    }
