-- A reply that is done: how many bytes it has, and what became of the output.
-- Assumes nothing.
use mathlib.Core.Path.{◌≡◌, refl, sym, ap, ◌∙◌}
use mathlib.Core.Bool.{Bool, true, false}
use mathlib.Core.List.{List, []}
use Prim.Native.Nat.{ℕ, ◌+◌, ◌-◌, ◌≤◌}
use native.Mathlib.Omega.{arith}
use borrow.Author.Tests.{leb-true}
use lib.Dec.{leb, eqb}
use lib.IntN.{pos, nat_abs, pos-ne-negsuc}
use lib.ListN.{length, take, replicate, length-append, length-take}
use Rattle.octets.specs.Choice.{both, either, pick}
use Rattle.octets.specs.Numbers.{at}
use Rattle.octets.specs.Parts.{over}
use Rattle.octets.proofs.PartLaws.{length_over, drop_over}
use Rattle.octets.proofs.Tests.{clash}
use Rattle.filter.specs.declared.filter.Filter.{Filter}
use Rattle.table.specs.Table.{next}
use Rattle.clock.specs.Answers.{number_of, Answer}
use Rattle.clock.specs.declared.state.Clock.{Clock}
use Rattle.codes.specs.Dtcp.{procedure_rejected}
use Rattle.codes.specs.Response.{code_bytes, count_bytes}
use Rattle.rows.specs.Reply.{Outcome, done_b, refused, answered}
use Rattle.rows.specs.Rows.{first_failed, then_of, idle_b, table_rows, write_rows}
use Rattle.rows.proofs.RowLaws.{table_done, table_all}
use Rattle.update_decide.specs.Decide.{decide_of}
use Rattle.update_decide.specs.Response.{response_bytes}
use Rattle.update.specs.Fault.{ending_of, fault_of}
use Rattle.update.specs.TimeUpdate.{update_rows, effect_of, update_of}
use Rattle.update.proofs.FaultLaws.{fault_refused, fault_done}
use Rattle.update.proofs.UpdateLaws.{update_refused, update_done, response_short}
use Rattle.characteristics.specs.Value.{Told, told, value, device_time_bytes, device_time_of, told_of}
use Rattle.characteristics.proofs.ValueLaws.{device_time_refused, device_time_done}
use Rattle.racp_request.specs.Request.{opcode_in, request_of}
use Rattle.racp_access.specs.Report.{left_from}
use Rattle.racp_access.specs.Access.{access_rows, accessed, begun_of, aborted_of, accessed_of, response_in, access_of}
use Rattle.racp_access.proofs.AccessLaws.{access_refused, access_done_lem}
use Rattle.server_bytes.specs.Results.{result_of}
use Rattle.theorems_entry.specs.Lengths.{Wrote}
use Rattle.clock.specs.declared.state.Report.{Report}
use Rattle.codes.specs.declared.response.Code.{Code}
use Rattle.racp_request.specs.declared.request.Request.{Request}
use Rattle.racp_request.specs.declared.request.Request.TheVariants.{Abort, Number, Report as ReportOf}
use Rattle.std.proofs.Common.{Err, None, Ok, Option, Result, Some}
use Rattle.update_decide.specs.declared.decide.NotTaken.{NotTaken}
use Rattle.update_decide.specs.declared.decide.NotTaken.TheVariants.{Rejected, Unsupported, WrongLength}
use Rattle.update_judge.specs.declared.proposal.Proposal.{Proposal}
use Rattle.clock.specs.declared.answers.Refusal.TheVariants.{ClockBroken, NothingRunning, OutputShort, PastTheEnd, ReportRunning, SwitchedOff, TableNotSound, WriteLength}

-- a result that is a length: the answer was 0, and the length is the reply's
pub pos_is : (m n : ℕ) → pos m ≡ pos n → n ≡ m
pos_is m n h = sym (ap nat_abs h)

pub done_length : (a : Answer) (m n : ℕ) → result_of a m ≡ pos n → (done_b a ≡ true) × (n ≡ m)
unfolding result_of done_b number_of
done_length (Ok done) m n h = (refl, pos_is m n h)
done_length (Err TableNotSound) m n h = absurd (pos-ne-negsuc n _ (sym h))
done_length (Err ClockBroken) m n h = absurd (pos-ne-negsuc n _ (sym h))
done_length (Err OutputShort) m n h = absurd (pos-ne-negsuc n _ (sym h))
done_length (Err WriteLength) m n h = absurd (pos-ne-negsuc n _ (sym h))
done_length (Err SwitchedOff) m n h = absurd (pos-ne-negsuc n _ (sym h))
done_length (Err ReportRunning) m n h = absurd (pos-ne-negsuc n _ (sym h))
done_length (Err PastTheEnd) m n h = absurd (pos-ne-negsuc n _ (sym h))
done_length (Err NothingRunning) m n h = absurd (pos-ne-negsuc n _ (sym h))

short_refused : done_b (Err OutputShort) ≡ false
unfolding done_b number_of
short_refused = refl

-- bytes laid over the front of an output with room for them
pub over_wrote : (o xs : List ℕ) → length xs ≤ length o → Wrote o (length xs) (over o 0 xs)
over_wrote o xs h =
    let k : 0 + length xs ≤ length o = omega arith in
    record { room = h; size = length_over o 0 xs k; past = drop_over o 0 xs k (length xs) (omega arith) }

-- a reply that is done: how many bytes it has, and what became of the output
pub record Replied (o : List ℕ) (xs : List ℕ) (u : Outcome) : Type 0 where
  pub len : u.reply.len ≡ length xs
  pub output : u.output ≡ over o 0 xs
  pub room : length xs ≤ length o

pub replied_wrote : {o xs : List ℕ} {u : Outcome} (n : ℕ) → n ≡ u.reply.len → Replied o xs u → Wrote o n u.output
replied_wrote {o} {xs} n e r =
    rw (r.output, e ∙ r.len) (over_wrote o xs r.room)

is_answered : (o : List ℕ) (c : Clock) (t xs : List ℕ) → length xs ≤ length o → Replied o xs (answered c t xs o)
unfolding answered
is_answered o c t xs h = record { len = refl; output = refl; room = h }

-- where a row failed nothing is done
unless_failed : {P : Type 0} (a : Answer) (c : Clock) (t o : List ℕ) (u : Outcome) → u ≡ refused a c t o → done_b a ≡ false
    → done_b u.reply.answer ≡ true → P
unless_failed a c t o u e h d = absurd (clash (done_b u.reply.answer) d (ap (λ (x : Outcome). done_b x.reply.answer) e ∙ h))

-- a time fault
pub ending_length : (r : Option Report) → length (ending_of r) ≡ pick (idle_b r) 0 4
unfolding ending_of code_bytes
ending_length None = refl
ending_length (Some r) = refl

ending_short : (r : Option Report) → length (ending_of r) ≤ 4
unfolding ending_of code_bytes
ending_short None = omega arith
ending_short (Some r) = omega arith

module _ (c : Clock) (t o : List ℕ) where
  pub fault_replied : done_b (fault_of c t o).reply.answer ≡ true → Replied o (ending_of c.running) (fault_of c t o)
  fault_replied = go (done_b (first_failed (table_rows c t (leb 20 (length o))))) refl
    where
      go : (b : Bool) → done_b (first_failed (table_rows c t (leb 20 (length o)))) ≡ b → done_b (fault_of c t o).reply.answer ≡ true
          → Replied o (ending_of c.running) (fault_of c t o)
      go true h d =
          let r = table_all c t (leb 20 (length o)) h in
          let k = leb-true 20 (length o) r.output in
          rw (fault_done c t o h) (is_answered o _ _ (ending_of c.running) (omega (arith, ending_short c.running)))
      go false h d = unless_failed _ c t o (fault_of c t o) (fault_refused c t o h) h d

-- a write to the DTCP
module _ (c : Clock) (t w o : List ℕ) where
  abbrev response : List ℕ
  response = response_bytes (at w 0) (decide_of c w)

  pub update_replied : done_b (update_of c t w o).reply.answer ≡ true → Replied o (response_bytes (at w 0) (decide_of c w)) (update_of c t w o)
  unfolding update_rows effect_of
  update_replied = go (done_b (first_failed (update_rows c t w o))) refl
    where
      go : (b : Bool) → done_b (first_failed (update_rows c t w o)) ≡ b → done_b (update_of c t w o).reply.answer ≡ true
          → Replied o response (update_of c t w o)
      go true h d =
          let r = (table_done c t (leb 20 (length o)) (write_rows (length w) c.switches.dtcp (idle_b c.running)) h).0 in
          let k = leb-true 20 (length o) r.output in
          rw (update_done c t w o h) (is_answered o _ _ response (omega (arith, response_short (at w 0) (decide_of c w))))
      go false h d = unless_failed _ c t o (update_of c t w o) (update_refused c t w o h) h d

pub response_length : (o : List ℕ) (op : ℕ) (d : Result Proposal NotTaken)
    → length (response_bytes op d) ≡ pick (eqb (at (over o 0 (response_bytes op d)) 2) procedure_rejected) 5 3
unfolding response_bytes over
response_length o op (Err Unsupported) = refl
response_length o op (Err WrongLength) = refl
response_length o op (Err (Rejected flags)) = refl
response_length o op (Ok p) = refl

-- a write to the RACP: no byte, or four
pub data Four (xs : List ℕ) : Type 0 where
  none : xs ≡ [] → Four xs
  four : length xs ≡ 4 → Four xs

accessed_four : (c : Clock) (xs : List ℕ) → length xs ≡ 4 → Four (response_in (accessed c xs))
unfolding accessed
accessed_four c xs h = four (rw length-take (omega (arith, length-append xs (replicate (4 - length xs) 0))))

begun_four : (c : Clock) (op : ℕ) (f : Filter) (l : Option (ℕ × ℕ)) → Four (response_in (begun_of c op f l))
unfolding begun_of accessed code_bytes
begun_four c op f None = four refl
begun_four c op f (Some (n, s)) = none refl

aborted_four : (c : Clock) (r : Option Report) → Four (response_in (aborted_of c r))
unfolding aborted_of accessed code_bytes
aborted_four c None = four refl
aborted_four c (Some r) = four refl

pub request_four : (c : Clock) (t : List ℕ) (op : ℕ) (q : Result Request Code) → Four (response_in (accessed_of c t op q))
unfolding accessed_of accessed code_bytes count_bytes
request_four c t op (Ok (ReportOf f)) = begun_four c op f (left_from f t 0)
request_four c t op (Ok (Number f)) = four refl
request_four c t op (Ok Abort) = aborted_four c c.running
request_four c t op (Err k) = four refl

four_short : {xs : List ℕ} → Four xs → length xs ≤ 4
four_short (none e) = rw e (omega arith)
four_short (four e) = omega arith

pub four_length : {xs : List ℕ} (n : ℕ) → n ≡ length xs → Four xs → either (eqb n 0) (eqb n 4) ≡ true
four_length n e (none z) = rw (e ∙ ap length z) refl
four_length n e (four z) = rw (e ∙ z) refl

pub four_none : {xs : List ℕ} → 0 ≡ length xs → Four xs → xs ≡ []
four_none e (none z) = z
four_none e (four z) = absurd (omega arith)

module _ (c : Clock) (t w o : List ℕ) where
  abbrev told_in : List ℕ
  told_in = response_in (accessed_of c t (opcode_in w) (request_of w))

  pub access_replied : done_b (access_of c t w o).reply.answer ≡ true
      → Replied o (response_in (accessed_of c t (opcode_in w) (request_of w))) (access_of c t w o)
  unfolding access_rows
  access_replied = go (done_b (first_failed (access_rows c t w o))) refl
    where
      go : (b : Bool) → done_b (first_failed (access_rows c t w o)) ≡ b → done_b (access_of c t w o).reply.answer ≡ true
          → Replied o told_in (access_of c t w o)
      go true h d =
          let r = (table_done c t (leb 20 (length o))
          (write_rows (length w) (both c.switches.racp c.switches.log) (either (idle_b c.running) (eqb (opcode_in w) 3))) h).0 in
          let k = leb-true 20 (length o) r.output in
          rw (access_done_lem c t w o h)
          (is_answered o _ _ told_in (omega (arith, four_short (request_four c t (opcode_in w) (request_of w)))))
      go false h d = unless_failed _ c t o (access_of c t w o) (access_refused c t w o h) h d

-- Device Time
module _ (c : Clock) (t o : List ℕ) where
  pub time_replied : done_b (device_time_of c t o).reply.answer ≡ true → Replied o (device_time_bytes c (next t)) (device_time_of c t o)
  unfolding device_time_bytes
  time_replied = go (done_b (first_failed (table_rows c t (leb 20 (length o))))) refl
    where
      go : (b : Bool) → done_b (first_failed (table_rows c t (leb 20 (length o)))) ≡ b → done_b (device_time_of c t o).reply.answer ≡ true
          → Replied o (device_time_bytes c (next t)) (device_time_of c t o)
      go true h d =
          let r = table_all c t (leb 20 (length o)) h in
          let k = leb-true 20 (length o) r.output in
          rw (device_time_done c t o h) (is_answered o c t (device_time_bytes c (next t)) (omega arith))
      go false h d = unless_failed _ c t o (device_time_of c t o) (device_time_refused c t o h) h d

pub time_length : (c : Clock) (n : ℕ) → length (device_time_bytes c n) ≡ 10
unfolding device_time_bytes
time_length c n = refl

-- a value that hangs on no clock
pub told_wrote : (v o : List ℕ) (n : ℕ) → length v ≤ 20 → result_of (told_of v o).value.answer (told_of v o).value.len ≡ pos n
    → (n ≡ length v) × Wrote o n (told_of v o).output
unfolding told_of
told_wrote v o n short = go (leb 20 (length o)) refl
  where
    go : (b : Bool) → leb 20 (length o) ≡ b → let u : Told = pick b (told (value (Ok tt) (length v)) (over o 0 v)) (told (value (Err OutputShort) 0) o) in
        result_of u.value.answer u.value.len ≡ pos n → (n ≡ length v) × Wrote o n u.output
    go true e h =
        let z = (done_length (Ok tt) (length v) n h).1 in
        let k = leb-true 20 (length o) e in
        (z, rw z (over_wrote o v (omega arith)))
    go false e h = absurd (clash (done_b (Err OutputShort)) (done_length (Err OutputShort) 0 n h).0 short_refused)
