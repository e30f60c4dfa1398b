-- What is seen of results and outputs is what is logged and what ran by value; Device Time gives the stamp and its number.
-- Assumes nothing.
use mathlib.Core.Path.{◌≡◌, refl, sym, ap, subst, ◌∙◌}
use mathlib.Core.Bool.{Bool, true, false}
use mathlib.Core.List.{List, [], ◌∷◌, ◌++◌, map, append_assoc}
use Prim.Native.Nat.{ℕ, ◌+◌, ◌-◌, ◌%◌, ◌<◌, ◌≤◌}
use native.Mathlib.Omega.{arith}
use borrow.Author.Tests.{le-leb, leb-false}
use lib.Dec.{leb, eqb}
use lib.IntN.{ℤ, pos, ◌-ℤ◌, pos-ne-negsuc}
use lib.ListN.{length, length-map, length-drop}
use Rattle.octets.specs.Choice.{both, pick}
use Rattle.octets.specs.Numbers.{at, le16, le32}
use Rattle.octets.specs.Parts.{over, Bytes}
use Rattle.octets.proofs.NumberLaws.{two, four}
use Rattle.record_write.specs.Layout.{update_bytes, fault_bytes, bytes_of}
use Rattle.record.specs.declared.kinds.Record.{Record}
use Rattle.record.specs.declared.kinds.Record.TheVariants.{TimeUpdate, TimeFault}
use Rattle.table.specs.Table.{slots_in, size_b, count, next, held}
use Rattle.table_write.specs.Append.{newest}
use Rattle.table_write.proofs.HistoryLaws.{length_held}
use Rattle.clock.specs.Answers.{number_of, Answer}
use Rattle.clock.specs.Events.{seconds_of}
use Rattle.clock.specs.declared.state.Clock.{Clock}
use Rattle.update_decide.specs.Accept.{update_record}
use Rattle.codes.specs.Dtcp.{success}
use Rattle.update_judge.specs.Proposal.{proposal_at}
use Rattle.rows.specs.Reply.{done_b, answered}
use Rattle.rows.specs.Rows.{first_failed, table_rows}
use Rattle.rows.proofs.RowLaws.{table_0, whole_with}
use Rattle.update.specs.Fault.{fault_record, fault_of}
use Rattle.update_logged.specs.Theorems.{success_b}
use Rattle.update.specs.TimeUpdate.{update_of}
use Rattle.characteristics.specs.Value.{device_time_bytes}
use Rattle.characteristics.proofs.ValueLaws.{device_time_done}
use Rattle.carry.specs.Stamp.{carry_of, no_fault_b}
use Rattle.carry.specs.Stamp as carry
use Rattle.state_bytes.specs.State.{state_bytes, image_of, clock_of}
use Rattle.state_bytes.specs.Results.{refusal}
use Rattle.state_images.proofs.RoundTrip.{state_images}
use Rattle.server_bytes.specs.Results.{result_of}
use Rattle.server_bytes.specs.Calls.{Called}
use Rattle.server_bytes.specs.ValuesRead.{Shown, shown, device_time_at}
use Rattle.server_bytes.specs.ValuesRead as values
use Rattle.tablet_bytes.specs.Calls.{CarriedTo, carrying, stamp_after, carry_at}
use Rattle.theorems_entry.proofs.PromiseLaws.{composes}
use Rattle.theorems_reports.specs.World.{World, new_world, Call, step_of, run_of}
use Rattle.theorems_stamps.specs.Stamps.{ran_of, logged_of}
use Rattle.theorems_stamps.specs.Stamps as stamps
use Rattle.theorems_stamps.proofs.SameLaws.{same_records}
use Rattle.theorems_stamps.proofs.StampLaws.{by_counts, carries, holds_logged}
use Rattle.theorems_bytes.specs.World.{ByteWorld, ByteCall, seconds, switches, disconnect, fault, dtcp_write, racp_write, notify, device_time, called_at, step_at, run_at, EntryCall, history_at, started_at, call_of, calls_of, said_of, image_in, called_of, history_of, since_start}
use Rattle.theorems_bytes.specs.Stamps.{done_at, zero_at, ran_in, ran_at, success_at, logged_in, logged_at, faultless_b, held_in, same_rows_b, base_read, number_read, carried_at, all_held_at, HoldsLoggedAt, CarriesAt, CarriedStampAt}
use Rattle.theorems_bytes.proofs.HeldLaws.{held_written, newest_written, same_rows, rows_itself, rows_differ}
use Rattle.theorems_bytes.proofs.ImageLaws.{one_call, Fit, call_fit, new_fit, step_is, run_is, run_fit, reached_fit, reached, images}
use Rattle.carry.specs.declared.stamp.CarryError.{CarryError}
use Rattle.carry.specs.declared.stamp.CarryError.TheVariants as carries
use Rattle.std.proofs.Common.{Err, Ok, Result}
use Rattle.clock.specs.declared.answers.Refusal.TheVariants.{ClockBroken, NothingRunning, OutputShort, PastTheEnd, ReportRunning, SwitchedOff, TableNotSound, WriteLength}

-- a result tells whether it is done
pub done_result : (a : Answer) (n : ℕ) → done_at (result_of a n) ≡ done_b a
unfolding result_of done_b number_of
done_result (Ok done) n = refl
done_result (Err TableNotSound) n = refl
done_result (Err ClockBroken) n = refl
done_result (Err OutputShort) n = refl
done_result (Err WriteLength) n = refl
done_result (Err SwitchedOff) n = refl
done_result (Err ReportRunning) n = refl
done_result (Err PastTheEnd) n = refl
done_result (Err NothingRunning) n = refl

zero_result : (a : Answer) → zero_at (result_of a 0) ≡ done_b a
unfolding result_of done_b number_of
zero_result (Ok done) = refl
zero_result (Err TableNotSound) = refl
zero_result (Err ClockBroken) = refl
zero_result (Err OutputShort) = refl
zero_result (Err WriteLength) = refl
zero_result (Err SwitchedOff) = refl
zero_result (Err ReportRunning) = refl
zero_result (Err PastTheEnd) = refl
zero_result (Err NothingRunning) = refl

-- calls in a row, by value
ran_append : (v : World) (a b : List Call) → ran_of v (a ++ b) ≡ ran_of v a + ran_of (run_of v a) b
unfolding ran_of run_of
ran_append v [] b = omega arith
ran_append v (k ∷ a) b = omega (arith, ran_append (step_of v k) a b)

logged_append : (v : World) (a b : List Call) → logged_of v (a ++ b) ≡ logged_of v a ++ logged_of (run_of v a) b
unfolding logged_of run_of
logged_append v [] b = refl
logged_append v (k ∷ a) b =
    ap (λ (l : List Record). stamps.logged_in v k ++ l) (logged_append (step_of v k) a b)
    ∙ sym (append_assoc (stamps.logged_in v k) (logged_of (step_of v k) a) (logged_of (run_of (step_of v k) a) b))

map_append : (a b : List Record) → map bytes_of (a ++ b) ≡ map bytes_of a ++ map bytes_of b
map_append [] b = refl
map_append (r ∷ a) b = ap (λ (l : List (List ℕ)). bytes_of r ∷ l) (map_append a b)

-- one call
seconds_ran : (v : World) (n : ℕ) → called_at (image_in v) (seconds n) ≡ called_of v (seconds n)
    → pick (zero_at (called_at (image_in v) (seconds n)).result) n 0 ≡ pick (done_b (seconds_of v.clock n).answer) n 0 + 0
unfolding called_of said_of
seconds_ran v n e =
    let z : pick (done_b (seconds_of v.clock n).answer) n 0 ≡ pick (done_b (seconds_of v.clock n).answer) n 0 + 0 = omega arith in
    ap (λ (x : Called). pick (zero_at x.result) n 0) e
    ∙ ap (λ (b : Bool). pick b n 0) (zero_result (seconds_of v.clock n).answer)
    ∙ z

ran_one : (v : World) (k : ByteCall) → Fit v → ran_in (image_in v) k ≡ ran_of v (call_of k)
unfolding ran_in ran_of stamps.ran_in call_of
ran_one v (seconds n) f = seconds_ran v n (one_call v (seconds n) f.good f.fits)
ran_one v (switches x y z) f = refl
ran_one v disconnect f = refl
ran_one v (fault o) f = refl
ran_one v (dtcp_write w o h) f = refl
ran_one v (racp_write w o h) f = refl
ran_one v (notify p o) f = refl
ran_one v (device_time o) f = refl

one_row : (b : Bool) (r : Record) → pick b (bytes_of r ∷ []) [] ≡ map bytes_of (pick b (r ∷ []) [] ++ [])
one_row true r = refl
one_row false r = refl

-- the clock that stands in the image
clock_back : (v : World) → Fit v → clock_of (image_of v.clock) ≡ v.clock
clock_back v f = state_images.read_back v.clock f.fits f.good.clock

fault_logged : (v : World) (o : List ℕ) → Fit v
    → pick (done_at (called_at (image_in v) (fault o)).result) (bytes_of (fault_record (clock_of (image_of v.clock)) (next v.table)) ∷ []) []
    ≡ map bytes_of (pick (done_b (fault_of v.clock v.table o).reply.answer) (fault_record v.clock (next v.table) ∷ []) [] ++ [])
unfolding called_of said_of
fault_logged v o f =
    let u = fault_of v.clock v.table o in
    let e = one_call v (fault o) f.good f.fits in
    ap (λ (c : Clock). pick (done_at (called_at (image_in v) (fault o)).result) (bytes_of (fault_record c (next v.table)) ∷ []) []) (clock_back v f)
    ∙ ap (λ (x : Called). pick (done_at x.result) (bytes_of (fault_record v.clock (next v.table)) ∷ []) []) e
    ∙ ap (λ (b : Bool). pick b (bytes_of (fault_record v.clock (next v.table)) ∷ []) []) (done_result u.reply.answer u.reply.len)
    ∙ one_row (done_b u.reply.answer) (fault_record v.clock (next v.table))

update_logged : (v : World) (w o : List ℕ) (h : Bytes w) → Fit v
    → pick (success_at (called_at (image_in v) (dtcp_write w o h))) (bytes_of (update_record (clock_of (image_of v.clock)) (proposal_at w) (next v.table)) ∷ []) []
    ≡ map bytes_of (pick (success_b (update_of v.clock v.table w o)) (update_record v.clock (proposal_at w) (next v.table) ∷ []) [] ++ [])
unfolding called_of said_of
update_logged v w o h f =
    let u = update_of v.clock v.table w o in
    let e = one_call v (dtcp_write w o h) f.good f.fits in
    ap (λ (c : Clock). pick (success_at (called_at (image_in v) (dtcp_write w o h))) (bytes_of (update_record c (proposal_at w) (next v.table)) ∷ []) [])
    (clock_back v f)
    ∙ ap (λ (x : Called). pick (success_at x) (bytes_of (update_record v.clock (proposal_at w) (next v.table)) ∷ []) []) e
    ∙ ap (λ (b : Bool). pick (both b (eqb (at u.output 2) success)) (bytes_of (update_record v.clock (proposal_at w) (next v.table)) ∷ []) [])
    (done_result u.reply.answer u.reply.len)
    ∙ one_row (success_b u) (update_record v.clock (proposal_at w) (next v.table))

logged_one : (v : World) (k : ByteCall) → Fit v → logged_in (image_in v) k ≡ map bytes_of (logged_of v (call_of k))
unfolding logged_in logged_of stamps.logged_in call_of
logged_one v (seconds n) f = refl
logged_one v (switches x y z) f = refl
logged_one v disconnect f = refl
logged_one v (fault o) f = fault_logged v o f
logged_one v (dtcp_write w o h) f = update_logged v w o h f
logged_one v (racp_write w o h) f = refl
logged_one v (notify p o) f = refl
logged_one v (device_time o) f = refl

-- all calls
ran_is : (ks : List ByteCall) (v : World) → Fit v → ran_at (image_in v) ks ≡ ran_of v (calls_of ks)
unfolding ran_at ran_of calls_of
ran_is [] v f = refl
ran_is (k ∷ ks) v f =
    ap (λ (n : ℕ). n + ran_at (step_at (image_in v) k) ks) (ran_one v k f)
    ∙ ap (λ (b : ByteWorld). ran_of v (call_of k) + ran_at b ks) (step_is v k f)
    ∙ ap (λ (n : ℕ). ran_of v (call_of k) + n) (ran_is ks (run_of v (call_of k)) (call_fit v k f))
    ∙ sym (ran_append v (call_of k) (calls_of ks))

logged_are : (ks : List ByteCall) (v : World) → Fit v → logged_at (image_in v) ks ≡ map bytes_of (logged_of v (calls_of ks))
unfolding logged_at logged_of calls_of
logged_are [] v f = refl
logged_are (k ∷ ks) v f =
    ap (λ (l : List (List ℕ)). l ++ logged_at (step_at (image_in v) k) ks) (logged_one v k f)
    ∙ ap (λ (b : ByteWorld). map bytes_of (logged_of v (call_of k)) ++ logged_at b ks) (step_is v k f)
    ∙ ap (λ (l : List (List ℕ)). map bytes_of (logged_of v (call_of k)) ++ l) (logged_are ks (run_of v (call_of k)) (call_fit v k f))
    ∙ sym (map_append (logged_of v (call_of k)) (logged_of (run_of v (call_of k)) (calls_of ks)))
    ∙ ap (map bytes_of) (sym (logged_append v (call_of k) (calls_of ks)))

-- Event_Log_Type stands in byte 2
faultless_is : (l : List Record) → faultless_b (map bytes_of l) ≡ no_fault_b l
unfolding faultless_b no_fault_b bytes_of update_bytes fault_bytes
faultless_is [] = refl
faultless_is (TimeUpdate u ∷ l) = faultless_is l
faultless_is (TimeFault f ∷ l) = refl

-- Device Time
base_back : (c : Clock) (n : ℕ) (o : List ℕ) → c.time.base < 4294967296 → le32 (over o 0 (device_time_bytes c n)) 0 ≡ c.time.base
unfolding over device_time_bytes
base_back c n o h = four c.time.base h

number_back : (c : Clock) (n : ℕ) (o : List ℕ) → n < 65536 → le16 (over o 0 (device_time_bytes c n)) 8 ≡ n
unfolding over device_time_bytes
number_back c n o h = two n h

module _ (v : World) (o : List ℕ) (f : Fit v) (room : 20 ≤ length o) where
  rows_pass : done_b (first_failed (table_rows v.clock v.table (leb 20 (length o)))) ≡ true
  unfolding done_b number_of
  rows_pass =
      let g = f.good in
      ap done_b (table_0 v.clock v.table (leb 20 (length o)) g.sound (whole_with v.clock v.table g.clock ∙ g.running)
      (le-leb 20 (length o) room))

  time_is : device_time_at (image_of v.clock) v.table o ≡ shown (pos 10) (over o 0 (device_time_bytes v.clock (next v.table)))
  unfolding answered device_time_bytes result_of done_b number_of
  time_is =
      composes.device_time_lem v.clock f.fits f.good.clock v.table o
      ∙ ap values.answered_bytes (device_time_done v.clock v.table o rows_pass)

  base_is : base_read (image_in v) o ≡ v.clock.time.base
  base_is = ap (λ (x : Shown). le32 x.output 0) time_is ∙ base_back v.clock (next v.table) o f.fits.base

  number_is : number_read (image_in v) o ≡ next v.table
  number_is = ap (λ (x : Shown). le16 x.output 8) time_is ∙ number_back v.clock (next v.table) o f.good.next

-- what carrying gives, as its entry point hands it over
abbrev handed : ℤ → Result ℤ CarryError → CarriedTo
handed y r = carrying (refusal (carry.carrying_number r)) (stamp_after y r)

zero_handed : (r : Result ℤ CarryError) → zero_at (refusal (carry.carrying_number r)) ≡ eqb (carry.carrying_number r) 0
unfolding carry.carrying_number
zero_handed (Ok z) = refl
zero_handed (Err carries.TableNotSound) = refl
zero_handed (Err carries.NotHeld) = refl
zero_handed (Err carries.FaultAmong) = refl

-- a result 0 is a stamp that was carried
carried_to : (y : ℤ) (r : Result ℤ CarryError) → refusal (carry.carrying_number r) ≡ pos 0 → r ≡ Ok (stamp_after y r)
unfolding carry.carrying_number
carried_to y (Ok z) h = refl
carried_to y (Err carries.TableNotSound) h = absurd (pos-ne-negsuc 0 _ (sym h))
carried_to y (Err carries.NotHeld) h = absurd (pos-ne-negsuc 0 _ (sym h))
carried_to y (Err carries.FaultAmong) h = absurd (pos-ne-negsuc 0 _ (sym h))

-- the test by the records' bytes is that by value, and one of the counts
module _ (v : World) (after : List ByteCall) (f : Fit v) where
  length_logged : length (logged_at (image_in v) after) ≡ length (logged_of v (calls_of after))
  length_logged = ap length (logged_are after v f) ∙ length-map (logged_of v (calls_of after)) bytes_of

  held_after : held_in (run_at (image_in v) after).table ≡ map bytes_of (held (run_of v (calls_of after)).table)
  held_after =
      let g = (run_fit after v f).good in
      ap (λ (b : ByteWorld). held_in b.table) (run_is after v f) ∙ held_written (run_of v (calls_of after)).table g.bytes g.sound

  rows_are : all_held_at (image_in v) after
      ≡ (let l = logged_of v (calls_of after) in same_rows_b (map bytes_of (newest (length l) (held (run_of v (calls_of after)).table))) (map bytes_of l))
  unfolding all_held_at
  rows_are =
      let l = logged_of v (calls_of after) in
      let h = held (run_of v (calls_of after)).table in
      ap (λ (r : List (List ℕ)). same_rows_b (newest (length r) (held_in (run_at (image_in v) after).table)) r) (logged_are after v f)
      ∙ ap (λ (x : List (List ℕ)). same_rows_b (newest (length (map bytes_of l)) x) (map bytes_of l)) held_after
      ∙ ap (λ (n : ℕ). same_rows_b (newest n (map bytes_of h)) (map bytes_of l)) (length-map l bytes_of)
      ∙ ap (λ (x : List (List ℕ)). same_rows_b x (map bytes_of l)) (sym (newest_written (length l) h))

  pub held_is : all_held_at (image_in v) after ≡ stamps.all_held_b v (calls_of after)
  unfolding stamps.all_held_b
  held_is = rows_are ∙ go (stamps.all_held_b v (calls_of after)) refl
    where
      go : (b : Bool) → stamps.all_held_b v (calls_of after) ≡ b
          → (let l = logged_of v (calls_of after) in same_rows_b (map bytes_of (newest (length l) (held (run_of v (calls_of after)).table))) (map bytes_of l)) ≡ b
      go true e =
          let l = logged_of v (calls_of after) in
          ap (λ (x : List Record). same_rows_b (map bytes_of x) (map bytes_of l)) (same_records _ l e) ∙ rows_itself (map bytes_of l)
      go false e =
          let l = logged_of v (calls_of after) in
          let h = held (run_of v (calls_of after)).table in
          let x = leb-false (length l) (length h) (sym (by_counts v (calls_of after) f.good) ∙ e) in
          let y = length-drop (length h - length l) h in
          rows_differ (map bytes_of (newest (length l) h)) (map bytes_of l)
          (λ z. omega (arith, length-map l bytes_of, length-map (newest (length l) h) bytes_of))

  pub counts_are : all_held_at (image_in v) after ≡ leb (length (logged_at (image_in v) after)) (count (run_at (image_in v) after).table)
  counts_are =
      held_is ∙ by_counts v (calls_of after) f.good
      ∙ ap (λ (n : ℕ). leb n (length (held (run_of v (calls_of after)).table))) (sym length_logged)
      ∙ ap (leb (length (logged_at (image_in v) after))) (length_held (run_of v (calls_of after)).table)
      ∙ ap (λ (b : ByteWorld). leb (length (logged_at (image_in v) after)) (count b.table)) (sym (run_is after v f))

module _ (v : World) (after : List ByteCall) (o p : List ℕ) (y : ℤ) (f : Fit v) (ro : 20 ≤ length o) (rp : 20 ≤ length p) where
  abbrev by_value : Result ℤ CarryError
  by_value = stamps.carried_after carry_of v (calls_of after)

  carried_is : carried_at (image_in v) after o y ≡ handed y by_value
  unfolding carry_at
  carried_is =
      ap (λ (n : ℕ). handed y (carry_of n (number_read (image_in v) o) (run_at (image_in v) after).table)) (base_is v o f ro)
      ∙ ap (λ (n : ℕ). handed y (carry_of v.clock.time.base n (run_at (image_in v) after).table)) (number_is v o f ro)
      ∙ ap (λ (b : ByteWorld). handed y (carry_of v.clock.time.base (next v.table) b.table)) (run_is after v f)

  no_fault_is : faultless_b (logged_at (image_in v) after) ≡ no_fault_b (logged_of v (calls_of after))
  no_fault_is = ap faultless_b (logged_are after v f) ∙ faultless_is (logged_of v (calls_of after))

  carries_image : length (logged_at (image_in v) after) < 65536 → CarriesAt (image_in v) after o p y
  unfolding carry.carrying_number
  carries_image few =
      let w = run_of v (calls_of after) in
      let fw = run_fit after v f in
      let e = length_logged v after f in
      let k = carries v (calls_of after) f.good (omega arith) in
      record {
        noted = ap (λ (x : Shown). x.result) (time_is v o f ro);
        copied =
            ap (λ (b : ByteWorld). (device_time_at b.state b.table p).result) (run_is after v f)
            ∙ ap (λ (x : Shown). x.result) (time_is w p fw rp);
        exactly =
            ap (λ (x : CarriedTo). zero_at x.result) carried_is
            ∙ zero_handed by_value
            ∙ k.exactly
            ∙ ap (λ (b : Bool). both b (no_fault_b (logged_of v (calls_of after)))) (sym (held_is v after f))
            ∙ ap (both (all_held_at (image_in v) after)) (sym no_fault_is);
        difference = λ h.
            let r = carried_to y by_value (ap (λ (x : CarriedTo). x.result) (sym carried_is) ∙ h) in
            ap (λ (b : ByteWorld). pos (base_read b p) -ℤ (carried_at (image_in v) after o y).carried) (run_is after v f)
            ∙ ap (λ (n : ℕ). pos n -ℤ (carried_at (image_in v) after o y).carried) (base_is w p fw rp)
            ∙ ap (λ (x : CarriedTo). pos w.clock.time.base -ℤ x.carried) carried_is
            ∙ k.difference (stamp_after y by_value) r
            ∙ ap pos (sym (ran_is after v f));
        not_held = λ h. carried_is ∙ ap (handed y) (k.not_held (sym (held_is v after f) ∙ h));
        fault = λ h n. carried_is ∙ ap (handed y) (k.fault (sym (held_is v after f) ∙ h) (sym no_fault_is ∙ n));
      }

pub carried_stamp_at : CarriedStampAt
carried_stamp_at s t before after o p y hs ht ro rp few =
    let v = history_of (new_world t) before in
    let e = reached s t hs ht before in
    subst (λ b. CarriesAt b after o p y) (sym e)
    (carries_image v after o p y (reached_fit s t hs ht before) ro rp (subst (λ b. length (logged_at b after) < 65536) e few))

-- What the table holds of what was logged since the last start.
module _ (s t : List ℕ) (ks : List EntryCall) (hs : length s ≡ state_bytes) (ht : size_b (length t) ≡ true) where
  abbrev since : List ByteCall
  since = since_start [] ks

  logged_since : logged_at (started_at s t) since ≡ map bytes_of (logged_of (new_world t) (calls_of since))
  logged_since = ap (λ (b : ByteWorld). logged_at b since) (images.starts s t hs ht).1 ∙ logged_are since (new_world t) (new_fit t ht)

  holds_at : held_in (history_at (started_at s t) ks).table ≡ newest (slots_in (length t)) (logged_at (started_at s t) since)
  holds_at =
      let g = (run_fit since (new_world t) (new_fit t ht)).good in
      ap (λ (b : ByteWorld). held_in b.table) (images.since s t ks hs ht)
      ∙ held_written (run_of (new_world t) (calls_of since)).table g.bytes g.sound
      ∙ ap (map bytes_of) (holds_logged.holds t (calls_of since) ht)
      ∙ newest_written (slots_in (length t)) (logged_of (new_world t) (calls_of since))
      ∙ ap (newest (slots_in (length t))) (sym logged_since)

  counts_at : next (history_at (started_at s t) ks).table ≡ length (logged_at (started_at s t) since) % 65536
  counts_at =
      ap (λ (b : ByteWorld). next b.table) (images.since s t ks hs ht)
      ∙ holds_logged.counts t (calls_of since) ht
      ∙ ap (λ (n : ℕ). n % 65536) (sym (ap length logged_since ∙ length-map (logged_of (new_world t) (calls_of since)) bytes_of))

slots_at : (s t : List ℕ) (before : List EntryCall) (after : List ByteCall) → length s ≡ state_bytes → size_b (length t) ≡ true
    → all_held_at (history_at (started_at s t) before) after ≡ leb (length (logged_at (history_at (started_at s t) before) after)) (slots_in (length t))
slots_at s t before after hs ht =
    let ks = calls_of (since_start [] before) in
    let v = run_of (new_world t) ks in
    let f = run_fit (since_start [] before) (new_world t) (new_fit t ht) in
    rw (images.since s t before hs ht)
    (held_is v after f ∙ holds_logged.by_slots t ks (calls_of after) ht
    ∙ ap (λ (n : ℕ). leb n (slots_in (length t))) (sym (length_logged v after f)))

later_at : (b : ByteWorld) (after : List ByteCall) → all_held_at b after ≡ true
    → newest (length (logged_at b after)) (held_in (run_at b after).table) ≡ logged_at b after
unfolding all_held_at
later_at b after h = same_rows _ _ h

pub holds_logged_at : HoldsLoggedAt
holds_logged_at =
    record {
      holds = λ s t ks hs ht. holds_at s t ks hs ht;
      counts = λ s t ks hs ht. counts_at s t ks hs ht;
      same = same_rows;
      same_back = rows_itself;
      by_counts = λ s t before after hs ht.
          rw (reached s t hs ht before) (counts_are (history_of (new_world t) before) after (reached_fit s t hs ht before));
      by_slots = slots_at;
      later = later_at;
    }
