-- The lengths that the entry points answer, and the bytes of the output that they count.
-- Assumes nothing.
use mathlib.Core.Path.{◌≡◌, refl, sym, ap, ◌∙◌}
use mathlib.Core.Bool.{Bool, true, false}
use mathlib.Core.List.{List, []}
use Prim.Native.Nat.{ℕ, ◌≤◌}
use native.Mathlib.Omega.{arith}
use lib.Dec.{eqb}
use lib.IntN.{pos, pos-ne-negsuc}
use lib.ListN.{length, replicate}
use Rattle.octets.specs.Choice.{either, pick}
use Rattle.octets.specs.Numbers.{at}
use Rattle.octets.specs.Parts.{over}
use Rattle.record.specs.Fields.{most_bytes}
use Rattle.record_read.specs.Reading.{read_of}
use Rattle.record_read.specs.Reading as wellFormed
use Rattle.table.specs.Table.{size_b, next}
use Rattle.clock.specs.declared.state.Clock.{Clock}
use Rattle.codes.specs.Dtcp.{procedure_rejected}
use Rattle.rows.specs.Rows.{idle_b}
use Rattle.update_decide.specs.Decide.{decide_of}
use Rattle.update.specs.Fault.{fault_of}
use Rattle.update.specs.Start.{new_reader_of}
use Rattle.update.specs.TimeUpdate.{update_of}
use Rattle.characteristics.specs.Value.{feature_bytes, parameters_bytes, feature_of, parameters_of}
use Rattle.racp_request.specs.Request.{opcode_in, request_of}
use Rattle.racp_access.specs.Access.{access_of}
use Rattle.joining.specs.Joining.{join_of, len_after}
use Rattle.joining.specs.declared.joining.Answer.TheVariants.{Refused}
use Rattle.joining.specs.declared.joining.Joined.{Joined}
use Rattle.joining.specs.declared.joining.Joining.{Joining}
use Rattle.joining.proofs.JoiningLaws.{Joins, refuses, goes_on, join_is}
use Rattle.joining.proofs.JoiningLaws as joins
use Rattle.keep.specs.Keep.{keep_of, keeping_number}
use Rattle.carry.specs.Stamp.{carry_of}
use Rattle.carry.specs.Stamp as carry
use Rattle.state_bytes.specs.State.{clock_of}
use Rattle.state_bytes.specs.JoiningState.{joining_bytes, joining_in}
use Rattle.state_bytes.specs.Results.{refusal}
use Rattle.server_bytes.specs.Results.{result_of, settled_of}
use Rattle.server_bytes.specs.Start.{started_bytes, short_of, begun_at, start_at}
use Rattle.server_bytes.specs.Events.{seconds_at, switches_at, disconnect_at}
use Rattle.server_bytes.specs.Calls.{fault_at, dtcp_at, racp_at, notify_at}
use Rattle.server_bytes.specs.ValuesRead.{device_time_at, feature_at, parameters_at}
use Rattle.tablet_bytes.specs.Calls.{join_result, joined_bytes, joined, join_at, read_at, keep_at, carry_at}
use Rattle.theorems_entry.specs.Lengths.{Lengths, Written}
use Rattle.theorems_entry.proofs.ReplyLengths.{pos_is, done_length, replied_wrote, fault_replied, ending_length, update_replied, response_length, access_replied, request_four, four_length, four_none, time_replied, time_length, told_wrote}
use Rattle.theorems_entry.proofs.NoticeLengths.{notify_length, segment_written, closed_written}
use Rattle.carry.specs.declared.stamp.CarryError.{CarryError}
use Rattle.carry.specs.declared.stamp.CarryError.TheVariants as carries
use Rattle.keep.specs.declared.keep.KeepError.{KeepError}
use Rattle.keep.specs.declared.keep.KeepError.TheVariants as keeps
use Rattle.record.specs.declared.kinds.Record.{Record}
use Rattle.std.proofs.Common.{Err, None, Ok, Option, Result, Some, ℤ}
use Rattle.clock.specs.declared.answers.Refusal.TheVariants.{TableNotSound}

-- starting, joining, reading, keeping, carrying
start_length : (s t : List ℕ) (n : ℕ) → (start_at s t).result ≡ pos n → n ≡ 0
unfolding start_at short_of
start_length s t n = go (eqb (length s) 32) (size_b (length t))
  where
    go : (b d : Bool) → (pick b (begun_at s (new_reader_of t)) (started_bytes (refusal (pick d 2 1)) s t)).result ≡ pos n → n ≡ 0
    go true d h = (done_length _ 0 n h).1
    go false true h = absurd (pos-ne-negsuc n _ (sym h))
    go false false h = absurd (pos-ne-negsuc n _ (sym h))

joins_length : {j : Joining} {b : List ℕ} {x : Joined} (n : ℕ) → Joins j b x → join_result x.answer x.joining.len ≡ pos n → n ≤ most_bytes
joins_length n (refuses h) e = absurd (pos-ne-negsuc n _ (sym e))
joins_length n (goes_on t l) e = let z = pos_is 0 n e in omega arith
joins_length {j} {b} n (joins.ends t l) e = let z = pos_is (len_after j b) n e in omega (arith, t.room)

join_length : (j b : List ℕ) (n : ℕ) → (join_at j b).result ≡ pos n → n ≤ most_bytes
unfolding join_at
join_length j b n = go (eqb (length j) joining_bytes)
  where
    go : (x : Bool) → (pick x (joined_bytes (join_of (joining_in j) b)) (joined (refusal 10) (replicate (length j) 0))).result ≡ pos n → n ≤ most_bytes
    go true h = joins_length n (join_is (joining_in j) b) h
    go false h = absurd (pos-ne-negsuc n _ (sym h))

read_length : (r : Option Record) (n : ℕ) → refusal (wellFormed.reading_number r) ≡ pos n → n ≡ 0
read_length (Some r) n h = pos_is 0 n h
read_length None n h = absurd (pos-ne-negsuc n _ (sym h))

keep_length : (k : Result (Unit {0}) KeepError) (n : ℕ) → refusal (keeping_number k) ≡ pos n → n ≡ 0
unfolding keeping_number
keep_length (Ok done) n h = pos_is 0 n h
keep_length (Err keeps.TableNotSound) n h = absurd (pos-ne-negsuc n _ (sym h))
keep_length (Err keeps.NotARecord) n h = absurd (pos-ne-negsuc n _ (sym h))
keep_length (Err keeps.DoesNotFollow) n h = absurd (pos-ne-negsuc n _ (sym h))

carry_length : (r : Result ℤ CarryError) (n : ℕ) → refusal (carry.carrying_number r) ≡ pos n → n ≡ 0
unfolding carry.carrying_number
carry_length (Ok z) n h = pos_is 0 n h
carry_length (Err carries.TableNotSound) n h = absurd (pos-ne-negsuc n _ (sym h))
carry_length (Err carries.NotHeld) n h = absurd (pos-ne-negsuc n _ (sym h))
carry_length (Err carries.FaultAmong) n h = absurd (pos-ne-negsuc n _ (sym h))

-- a reply by its result
fault_length_lem : (c : Clock) (t o : List ℕ) (n : ℕ) → result_of (fault_of c t o).reply.answer (fault_of c t o).reply.len ≡ pos n
    → n ≡ pick (idle_b c.running) 0 4
fault_length_lem c t o n h = let z = done_length _ _ n h in z.1 ∙ (fault_replied c t o z.0).len ∙ ending_length c.running

update_length_lem : (c : Clock) (t w o : List ℕ) (n : ℕ) → result_of (update_of c t w o).reply.answer (update_of c t w o).reply.len ≡ pos n
    → n ≡ pick (eqb (at (update_of c t w o).output 2) procedure_rejected) 5 3
update_length_lem c t w o n h =
    let z = done_length _ _ n h in
    let r = update_replied c t w o z.0 in
    z.1 ∙ r.len ∙ response_length o (at w 0) (decide_of c w)
    ∙ ap (λ (l : List ℕ). pick (eqb (at l 2) procedure_rejected) 5 3) (sym r.output)

access_length : (c : Clock) (t w o : List ℕ) (n : ℕ) → result_of (access_of c t w o).reply.answer (access_of c t w o).reply.len ≡ pos n
    → either (eqb n 0) (eqb n 4) ≡ true
access_length c t w o n h =
    let z = done_length _ _ n h in
    four_length n (z.1 ∙ (access_replied c t w o z.0).len) (request_four c t (opcode_in w) (request_of w))

over_none : (o : List ℕ) → over o 0 [] ≡ o
unfolding over
over_none o = refl

access_begun : (c : Clock) (t w o : List ℕ) → result_of (access_of c t w o).reply.answer (access_of c t w o).reply.len ≡ pos 0
    → (access_of c t w o).output ≡ o
access_begun c t w o h =
    let z = done_length _ _ 0 h in
    let r = access_replied c t w o z.0 in
    r.output ∙ ap (over o 0) (four_none (z.1 ∙ r.len) (request_four c t (opcode_in w) (request_of w))) ∙ over_none o

pub lengths : Lengths
unfolding seconds_at switches_at disconnect_at fault_at dtcp_at racp_at notify_at device_time_at feature_at parameters_at read_at keep_at carry_at settled_of feature_of parameters_of
lengths =
    record {
      start = start_length;
      seconds = λ s k n h. (done_length _ 0 n h).1;
      switches = λ s a b d n h. (done_length _ 0 n h).1;
      disconnect = λ s n h. (done_length _ 0 n h).1;
      fault = λ s t o n h. fault_length_lem (clock_of s) t o n h;
      dtcp_write_lem = λ s t w o n h. update_length_lem (clock_of s) t w o n h;
      racp_write_lem = λ s t w o n h. access_length (clock_of s) t w o n h;
      racp_begun = λ s t w o h. access_begun (clock_of s) t w o h;
      notify = λ s t p o n h. notify_length (clock_of s) t p o n h;
      device_time_lem = λ s t o n h.
          let z = done_length _ _ n h in z.1 ∙ (time_replied (clock_of s) t o z.0).len ∙ time_length (clock_of s) (next t);
      feature = λ o n h. (told_wrote feature_bytes o n (omega arith) h).0;
      parameters = λ o n h. (told_wrote parameters_bytes o n (omega arith) h).0;
      join = join_length;
      read = λ b f n h. read_length (read_of b) n h;
      keep = λ t b n h. keep_length (keep_of t b).answer n h;
      carry = λ stamp q t z n h. carry_length (carry_of stamp q t) n h;
    }

pub written : Written
unfolding fault_at dtcp_at racp_at notify_at device_time_at feature_at parameters_at feature_of parameters_of
written =
    record {
      fault = λ s t o n h. let z = done_length _ _ n h in replied_wrote n z.1 (fault_replied (clock_of s) t o z.0);
      dtcp_write_lem = λ s t w o n h. let z = done_length _ _ n h in replied_wrote n z.1 (update_replied (clock_of s) t w o z.0);
      racp_write_lem = λ s t w o n h. let z = done_length _ _ n h in replied_wrote n z.1 (access_replied (clock_of s) t w o z.0);
      segment = λ s t p o n h few. segment_written (clock_of s) t p o n h few;
      closed = λ s t p o n h. closed_written (clock_of s) t p o n h;
      device_time_lem = λ s t o n h. let z = done_length _ _ n h in replied_wrote n z.1 (time_replied (clock_of s) t o z.0);
      feature = λ o n h. (told_wrote feature_bytes o n (omega arith) h).1;
      parameters = λ o n h. (told_wrote parameters_bytes o n (omega arith) h).1;
    }
