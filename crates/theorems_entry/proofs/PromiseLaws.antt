-- What is promised of the entry points beyond each one's own equation.
-- Assumes nothing.
use mathlib.Core.Path.{◌≡◌, refl, sym, ap, ◌∙◌}
use mathlib.Core.Bool.{Bool, true, false}
use mathlib.Core.List.{List}
use Prim.Native.Nat.{ℕ}
use borrow.Author.Tests.{eq-eqb, eqb-true}
use lib.Dec.{eqb}
use lib.IntN.{ℤ, negsuc, pos-ne-negsuc}
use lib.ListN.{length, replicate}
use Rattle.octets.specs.Choice.{pick}
use Rattle.octets.proofs.Tests.{false_by}
use Rattle.codes.specs.Att.{att_error_at}
use Rattle.record_read.specs.Reading.{read_of}
use Rattle.record_read.specs.Reading as wellFormed
use Rattle.table.specs.Table.{size_b, slots_in}
use Rattle.table_write.specs.Start.{fresh, start_of}
use Rattle.clock.specs.Answers.{number_of, att_error_of, Answer}
use Rattle.clock.specs.State.{new_reader}
use Rattle.clock.specs.Events.{seconds_of, switches_of, disconnect_of, Event}
use Rattle.clock.specs.Obeys.{clock_b}
use Rattle.clock.specs.declared.state.Clock.{Clock}
use Rattle.rows.specs.Reply.{Outcome, done_b}
use Rattle.update.specs.Fault.{fault_of}
use Rattle.update_logged.specs.Theorems.{Untouched}
use Rattle.update.specs.Start.{begun, new_reader_of}
use Rattle.update.specs.TimeUpdate.{update_of}
use Rattle.update_logged.proofs.PromiseLaws.{refused_unchanged}
use Rattle.characteristics.specs.Value.{device_time_of}
use Rattle.characteristics.proofs.ValueLaws as values
use Rattle.racp_access.specs.Access.{access_of}
use Rattle.racp_notify.specs.Notify.{Notice, notify_of}
use Rattle.theorems_calls.specs.OfTransfer.{Silent}
use Rattle.theorems_calls.proofs.AnswerLaws as transfer
use Rattle.joining.specs.Joining.{empty_joining, join_of}
use Rattle.joining.specs.declared.joining.Answer.{Answer as JoinAnswer}
use Rattle.joining.specs.declared.joining.Answer.TheVariants.{More, Whole, Refused}
use Rattle.joining.specs.declared.joining.Joined.{Joined}
use Rattle.joining.specs.declared.joining.Joining.{Joining}
use Rattle.theorems_calls.proofs.JoinedLaws as tablet
use Rattle.keep.proofs.KeepLaws as keep
use Rattle.carry.specs.Stamp.{carry_of}
use Rattle.carry.specs.Stamp as carry
use Rattle.state_bytes.specs.State.{image_of, clock_of}
use Rattle.state_bytes.specs.JoiningState.{joining_bytes, joining_image, joining_in}
use Rattle.state_bytes.specs.Results.{refusal}
use Rattle.state_images.specs.Theorems.{Fits}
use Rattle.state_images.proofs.RoundTrip.{state_images}
use Rattle.state_images.proofs.JoiningLaws.{joining_images}
use Rattle.server_bytes.specs.Results.{result_of, state_after, Ran, ran, settled_of}
use Rattle.server_bytes.specs.Start.{StartedBytes, started_bytes, short_of, begun_at, start_at}
use Rattle.server_bytes.specs.Events.{eventful, on_b, seconds_at, switches_at, disconnect_at}
use Rattle.server_bytes.specs.Calls.{Called, called, replied, notified, fault_at, dtcp_at, racp_at, notify_at}
use Rattle.server_bytes.specs.ValuesRead.{answered_bytes, device_time_at, feature_at, parameters_at}
use Rattle.tablet_bytes.specs.Calls.{JoinedBytes, join_result, joined, joined_bytes, join_at, read_at, numbers_after, keep_at, carry_at, stamp_after}
use Rattle.theorems_entry.specs.Theorems.{RefusedUnchanged, Composes, Errors}
use Rattle.server_bytes.proofs.ResultLaws.{result_done}
use Rattle.carry.specs.declared.stamp.CarryError.{CarryError}
use Rattle.record.specs.declared.kinds.Record.{Record}
use Rattle.std.proofs.Common.{Err, None, Ok, Option, Result, Some}
use Rattle.clock.specs.declared.answers.Refusal.TheVariants.{ClockBroken, NothingRunning, OutputShort, PastTheEnd, ReportRunning, SwitchedOff, TableNotSound, WriteLength}

-- a result below 0 is a refusal, and leaves the state
below : (a : Answer) (n m : ℕ) → result_of a n ≡ negsuc m → done_b a ≡ false
below a n m h = false_by (done_b a) (λ d. pos-ne-negsuc n m (sym (result_done a n d) ∙ h))

stays : (s : List ℕ) (a : Answer) (c : Clock) → done_b a ≡ false → state_after s a c ≡ s
unfolding state_after
stays s a c h = rw h

-- entry points that are lent the state alone
abbrev RanBelow : List ℕ → ℕ → Ran → Type 0
RanBelow s n x = x.result ≡ negsuc n → x ≡ ran (negsuc n) s

event_below : (s : List ℕ) (n : ℕ) (e : Event) → RanBelow s n (eventful s e)
unfolding settled_of
event_below s n e h = λ i. ran (h i) (stays s e.answer e.clock (below e.answer 0 n h) i)

-- entry points that are lent state, table and output
abbrev CalledBelow : List ℕ → List ℕ → List ℕ → ℕ → Called → Type 0
CalledBelow s t o n x = x.result ≡ negsuc n → x ≡ called (negsuc n) s t o

reply_below : (s t o : List ℕ) (n : ℕ) (c : Clock) (u : Outcome) → Untouched c t o u → CalledBelow s t o n (replied s u)
reply_below s t o n c u same h =
    let a = u.reply.answer in
    let no = below a u.reply.len n h in
    λ i. called (h i) (stays s a u.reply.clock no i) (same no i).table (same no i).output

notice_below : (s t o : List ℕ) (n : ℕ) (c : Clock) (u : Notice) → Silent c o u → CalledBelow s t o n (notified s t u)
notice_below s t o n c u same h =
    let a = u.reply.answer in
    let no = below a _ n h in
    λ i. called (h i) (stays s a u.reply.clock no i) t (same no i).output

-- starting
module _ (s t : List ℕ) (n : ℕ) where
  abbrev StartBelow : StartedBytes → Type 0
  StartBelow x = x.result ≡ negsuc n → x ≡ started_bytes (negsuc n) s t

  begun_done : size_b (length t) ≡ true → new_reader_of t ≡ begun (record { answer = Ok tt; clock = new_reader }) (fresh (slots_in (length t)))
  unfolding new_reader_of start_of
  begun_done h = rw h

  begun_refused : size_b (length t) ≡ false → new_reader_of t ≡ begun (record { answer = Err TableNotSound; clock = new_reader }) t
  unfolding new_reader_of start_of
  begun_refused h = rw h

  new_below : StartBelow (begun_at s (new_reader_of t))
  unfolding result_of state_after done_b number_of
  new_below = go (size_b (length t)) refl
    where
      go : (b : Bool) → size_b (length t) ≡ b → StartBelow (begun_at s (new_reader_of t))
      go true e = rw (begun_done e) (λ h. absurd (pos-ne-negsuc 0 n h))
      go false e = rw (begun_refused e) (λ h. ap (λ (z : ℤ). started_bytes z s t) h)

  start_below : StartBelow (start_at s t)
  unfolding start_at
  start_below = go (eqb (length s) 32)
    where
      go : (b : Bool) → StartBelow (pick b (begun_at s (new_reader_of t)) (started_bytes (short_of (length t)) s t))
      go true = new_below
      go false = λ h. ap (λ (z : ℤ). started_bytes z s t) h

-- reading a value
answered_below : (c : Clock) (t o : List ℕ) (n : ℕ) (u : Outcome) → Untouched c t o u → (answered_bytes u).result ≡ negsuc n → (answered_bytes u).output ≡ o
answered_below c t o n u same h = ap (λ (x : Outcome). x.output) (same (below u.reply.answer u.reply.len n h))

-- joining
join_below : (j : List ℕ) (n : ℕ) (u : Joined) → (u.answer ≡ Refused → u.joining ≡ empty_joining) → (joined_bytes u).result ≡ negsuc n
    → (joined_bytes u).joining ≡ replicate joining_bytes 0
join_below j n u empties = go u.answer refl
  where
    go : (a : JoinAnswer) → u.answer ≡ a → join_result a u.joining.len ≡ negsuc n → joining_image u.joining ≡ replicate joining_bytes 0
    go More e h = absurd (pos-ne-negsuc 0 n h)
    go Whole e h = absurd (pos-ne-negsuc u.joining.len n h)
    go Refused e h = ap joining_image (empties e) ∙ joining_images.zeros

joins_below : (j b : List ℕ) (n : ℕ) → (join_at j b).result ≡ negsuc n → (join_at j b).joining ≡ replicate (length j) 0
unfolding join_at
joins_below j b n = go (eqb (length j) joining_bytes) refl
  where
    go : (x : Bool) → eqb (length j) joining_bytes ≡ x
        → let k : JoinedBytes = pick x (joined_bytes (join_of (joining_in j) b)) (joined (refusal 10) (replicate (length j) 0)) in
        k.result ≡ negsuc n → k.joining ≡ replicate (length j) 0
    go true e h =
        join_below j n (join_of (joining_in j) b) ((tablet.refused_empties).empties (joining_in j) b) h
        ∙ ap (λ (m : ℕ). replicate m 0) (sym (eqb-true (length j) joining_bytes e))
    go false e h = refl

-- reading, keeping and carrying
read_below : (f : List ℕ) (n : ℕ) (r : Option Record) → refusal (wellFormed.reading_number r) ≡ negsuc n → numbers_after f r ≡ f
read_below f n (Some r) h = absurd (pos-ne-negsuc 0 n h)
read_below f n None h = refl

keep_below : (t b : List ℕ) (n : ℕ) → (keep_at t b).result ≡ negsuc n → (keep_at t b).table ≡ t
unfolding keep_at
keep_below t b n h = keep.refused_unchanged t b (λ e. pos-ne-negsuc 0 n (sym (ap refusal e) ∙ h))

carry_below : (z : ℤ) (n : ℕ) (r : Result ℤ CarryError) → refusal (carry.carrying_number r) ≡ negsuc n → stamp_after z r ≡ z
unfolding carry.carrying_number
carry_below z n (Ok y) h = absurd (pos-ne-negsuc 0 n h)
carry_below z n (Err why) h = refl

pub unchanged : RefusedUnchanged
unfolding seconds_at switches_at disconnect_at fault_at dtcp_at racp_at notify_at device_time_at feature_at parameters_at read_at carry_at
unchanged =
    record {
      start = start_below;
      seconds = λ s k n. event_below s n (seconds_of (clock_of s) k);
      switches = λ s a b d n. event_below s n (switches_of (clock_of s) (on_b a) (on_b b) (on_b d));
      disconnect = λ s n. event_below s n (disconnect_of (clock_of s));
      fault = λ s t o n. reply_below s t o n (clock_of s) _ (refused_unchanged.fault (clock_of s) t o);
      dtcp_write_lem = λ s t w o n. reply_below s t o n (clock_of s) _ (refused_unchanged.time_update_lem (clock_of s) t w o);
      racp_write_lem = λ s t w o n. reply_below s t o n (clock_of s) _ ((transfer.refused_unchanged).record_access_lem (clock_of s) t w o);
      notify = λ s t p o n. notice_below s t o n (clock_of s) _ ((transfer.refused_unchanged).notify (clock_of s) t p o);
      device_time_lem = λ s t o n. answered_below (clock_of s) t o n _ ((values.refused_unchanged).device_time_lem (clock_of s) t o);
      feature = λ o n h. (values.refused_unchanged).feature o (below _ _ n h);
      parameters = λ o n h. (values.refused_unchanged).parameters o (below _ _ n h);
      join = joins_below;
      read = λ b f n. read_below f n (read_of b);
      keep = keep_below;
      carry = λ stamp q t z n. carry_below z n (carry_of stamp q t);
    }

-- over the image of a clock that obeys its rules the clock is read
over_image : {A : Type 0} (c : Clock) → Fits c → clock_b c ≡ true → (f : Clock → A) → f (clock_of (image_of c)) ≡ f c
over_image c h ok f = ap f (state_images.read_back c h ok)

join_over : (j : Joining) → length j.bytes ≡ 45 → (n : List ℕ) → join_at (joining_image j) n ≡ joined_bytes (join_of j n)
unfolding join_at
join_over j h n =
    rw (eq-eqb (length (joining_image j)) joining_bytes (joining_images.size j h)) (ap (λ (x : Joining). joined_bytes (join_of x n)) (joining_images.read_back j))

pub composes : Composes
unfolding seconds_at switches_at disconnect_at fault_at dtcp_at racp_at notify_at device_time_at
composes =
    record {
      seconds = λ c h ok n. over_image c h ok (λ (k : Clock). eventful (image_of c) (seconds_of k n));
      switches = λ c h ok a b d. over_image c h ok (λ (k : Clock). eventful (image_of c) (switches_of k (on_b a) (on_b b) (on_b d)));
      disconnect = λ c h ok. over_image c h ok (λ (k : Clock). eventful (image_of c) (disconnect_of k));
      fault = λ c h ok t o. over_image c h ok (λ (k : Clock). replied (image_of c) (fault_of k t o));
      dtcp_write_lem = λ c h ok t w o. over_image c h ok (λ (k : Clock). replied (image_of c) (update_of k t w o));
      racp_write_lem = λ c h ok t w o. over_image c h ok (λ (k : Clock). replied (image_of c) (access_of k t w o));
      notify = λ c h ok t p o. over_image c h ok (λ (k : Clock). notified (image_of c) t (notify_of k t p o));
      device_time_lem = λ c h ok t o. over_image c h ok (λ (k : Clock). answered_bytes (device_time_of k t o));
      join = join_over;
    }

pub errors : Errors
unfolding att_error_at number_of att_error_of
errors (Ok done) = refl
errors (Err TableNotSound) = refl
errors (Err ClockBroken) = refl
errors (Err OutputShort) = refl
errors (Err WriteLength) = refl
errors (Err SwitchedOff) = refl
errors (Err ReportRunning) = refl
errors (Err PastTheEnd) = refl
errors (Err NothingRunning) = refl
