-- The two buffers are the image of the world by value, call by call.
-- Assumes nothing.
use mathlib.Core.Path.{◌≡◌, refl, sym, ap, ◌∙◌}
use mathlib.Core.Bool.{Bool, true, false}
use mathlib.Core.List.{List, [], ◌∷◌, ◌++◌, append-nil, append_assoc}
use Prim.Native.Nat.{ℕ}
use native.Mathlib.Omega.{arith}
use borrow.Author.Tests.{eq-eqb}
use lib.Dec.{eqb}
use lib.IntN.{ℤ, pos}
use lib.ListN.{length}
use Rattle.octets.specs.Choice.{pick}
use Rattle.octets.specs.Parts.{Bytes}
use Rattle.octets.proofs.Tests.{clash}
use Rattle.table.specs.Table.{size_b}
use Rattle.table.proofs.HeadLaws.{size_reads, sound_head}
use Rattle.table_write.specs.Start.{start_of}
use Rattle.clock.specs.Answers.{number_of, Answer}
use Rattle.clock.specs.Events.{seconds_of, switches_of, disconnect_of, Event}
use Rattle.theorems_clock.specs.Theorems as clocks
use Rattle.clock.specs.declared.state.Clock.{Clock}
use Rattle.theorems_clock.proofs.PromiseLaws as clockLaws
use Rattle.rows.specs.Reply.{Outcome, done_b}
use Rattle.update.specs.Fault.{fault_of}
use Rattle.update_logged.specs.Theorems.{Untouched}
use Rattle.update.specs.Start.{new_reader_of}
use Rattle.update.specs.TimeUpdate.{update_of}
use Rattle.update_logged.proofs.PromiseLaws.{refused_unchanged}
use Rattle.theorems_reports.proofs.GoodLaws.{sound_size, new_table, new_good}
use Rattle.racp_access.specs.Access.{access_of}
use Rattle.racp_notify.specs.Notify.{Notice, notify_of}
use Rattle.theorems_calls.specs.OfTransfer.{Silent}
use Rattle.theorems_calls.proofs.AnswerLaws as transfer
use Rattle.state_bytes.specs.State.{state_bytes, image_of, image_b}
use Rattle.state_images.specs.Theorems.{Fits}
use Rattle.state_images.proofs.RoundTrip.{state_images}
use Rattle.server_bytes.specs.Results.{result_of, state_after, closing_length, settled_of}
use Rattle.server_bytes.specs.Start.{start_at}
use Rattle.server_bytes.specs.Events.{eventful, on_b}
use Rattle.server_bytes.specs.Calls.{Called, called, replied, notified}
use Rattle.server_bytes.specs.ValuesRead.{Shown}
use Rattle.theorems_entry.proofs.PromiseLaws.{composes}
use Rattle.theorems_reports.specs.World.{World, new_world, Call, step_by, step_of, run_of}
use Rattle.theorems_reports.specs.Reach.{Good}
use Rattle.theorems_reports.specs.World as calls
use Rattle.theorems_reports.proofs.ReachLaws.{call_good}
use Rattle.theorems_stamps.proofs.WentLaws.{went_run}
use Rattle.theorems_bytes.specs.World.{ByteWorld, byte_world, ByteCall, seconds, switches, disconnect, fault, dtcp_write, racp_write, notify, device_time, ran_with, called_at, step_at, run_at, EntryCall, start, call, entered_at, enter_at, history_at, started_at, call_of, calls_of, said_of, image_in, called_of, entry_of, history_of, entered_of, outcomes_at, outcomes_of, since_start}
use Rattle.theorems_bytes.specs.Fitting.{WritesBytes, ByteFields}
use Rattle.theorems_bytes.specs.Images.{Images, Restarted}
use Rattle.theorems_bytes.proofs.ByteLaws.{image_bytes, new_bytes, call_bytes}
use Rattle.theorems_bytes.proofs.FitLaws.{call_fits, new_fits}

-- a refusal leaves the state, and the clock: in either case the state is the image of the clock after
state_is : (c after : Clock) (a : Answer) → (done_b a ≡ false → after ≡ c) → state_after (image_of c) a after ≡ image_of after
unfolding state_after
state_is c after a h = go (done_b a) refl
  where
    go : (b : Bool) → done_b a ≡ b → pick b (image_of after) (image_of c) ≡ image_of after
    go true e = refl
    go false e = ap image_of (sym (h e))

-- the clock events' refusals, by the test
event_same : (c : Clock) (e : Event) → clocks.Untouched c e → done_b e.answer ≡ false → e.clock ≡ c
unfolding done_b
event_same c e h r = h (λ z. clash (eqb (number_of e.answer) 0) (eq-eqb _ _ z) r)

event_is : (c : Clock) (t : List ℕ) (e : Event) → clocks.Untouched c e
    → ran_with t (eventful (image_of c) e) ≡ called (result_of e.answer 0) (image_of e.clock) t []
unfolding settled_of
event_is c t e h = ap (λ (s : List ℕ). called (result_of e.answer 0) s t []) (state_is c e.clock e.answer (event_same c e h))

reply_is : (c : Clock) (t o : List ℕ) (u : Outcome) → Untouched c t o u
    → replied (image_of c) u ≡ called (result_of u.reply.answer u.reply.len) (image_of u.reply.clock) u.table u.output
reply_is c t o u h =
    ap (λ (s : List ℕ). called (result_of u.reply.answer u.reply.len) s u.table u.output)
    (state_is c u.reply.clock u.reply.answer (λ r. ap (λ (x : Outcome). x.reply.clock) (h r)))

notice_is : (c : Clock) (t o : List ℕ) (n : Notice) → Silent c o n
    → notified (image_of c) t n
    ≡ called (result_of n.reply.answer (closing_length n.reply.closes n.reply.len)) (image_of n.reply.clock) t n.output
notice_is c t o n h =
    ap (λ (s : List ℕ). called (result_of n.reply.answer (closing_length n.reply.closes n.reply.len)) s t n.output)
    (state_is c n.reply.clock n.reply.answer (λ r. ap (λ (x : Notice). x.reply.clock) (h r)))

pub one_call : (v : World) (k : ByteCall) → Good v → Fits v.clock → called_at (image_in v) k ≡ called_of v k
unfolding called_at called_of call_of said_of run_of step_by
one_call v (seconds n) g f =
    ap (ran_with v.table) (composes.seconds v.clock f g.clock n)
    ∙ event_is v.clock v.table (seconds_of v.clock n) ((clockLaws.refused_unchanged).seconds v.clock n)
one_call v (switches x y z) g f =
    ap (ran_with v.table) (composes.switches v.clock f g.clock x y z)
    ∙ event_is v.clock v.table (switches_of v.clock (on_b x) (on_b y) (on_b z))
    ((clockLaws.refused_unchanged).switches v.clock (on_b x) (on_b y) (on_b z))
one_call v disconnect g f =
    ap (ran_with v.table) (composes.disconnect v.clock f g.clock)
    ∙ event_is v.clock v.table (disconnect_of v.clock) ((clockLaws.refused_unchanged).disconnect v.clock)
one_call v (fault o) g f =
    composes.fault v.clock f g.clock v.table o
    ∙ reply_is v.clock v.table o (fault_of v.clock v.table o) (refused_unchanged.fault v.clock v.table o)
one_call v (dtcp_write w o h) g f =
    composes.dtcp_write_lem v.clock f g.clock v.table w o
    ∙ reply_is v.clock v.table o (update_of v.clock v.table w o) (refused_unchanged.time_update_lem v.clock v.table w o)
one_call v (racp_write w o h) g f =
    composes.racp_write_lem v.clock f g.clock v.table w o
    ∙ reply_is v.clock v.table o (access_of v.clock v.table w o)
    ((transfer.refused_unchanged).record_access_lem v.clock v.table w o)
one_call v (notify p o) g f =
    composes.notify v.clock f g.clock v.table p o
    ∙ notice_is v.clock v.table o (notify_of v.clock v.table p o)
    ((transfer.refused_unchanged).notify v.clock v.table p o)
one_call v (device_time o) g f =
    ap (λ (r : Shown). called r.result (image_of v.clock) v.table r.output)
    (composes.device_time_lem v.clock f g.clock v.table o)

-- the world by value after a call over bytes: good, and its fields fit
pub record Fit (v : World) : Type 0 where
  pub good : Good v
  pub fits : Fits v.clock
  pub bytes : ByteFields v.clock

-- of a call of the server, whose writes are bytes
server_fit : (v : World) (k : Call) → WritesBytes k → Fit v → Fit (step_of v k)
server_fit v k h f =
    record {
      good = call_good v k f.good;
      fits = call_fits v k h f.good f.fits;
      bytes = call_bytes v k f.good f.bytes;
    }

pub call_fit : (v : World) (k : ByteCall) → Fit v → Fit (run_of v (call_of k))
unfolding call_of run_of
call_fit v (seconds n) f = server_fit v (calls.seconds n) tt f
call_fit v (switches x y z) f = server_fit v (calls.switches (on_b x) (on_b y) (on_b z)) tt f
call_fit v disconnect f = server_fit v calls.disconnect tt f
call_fit v (fault o) f = server_fit v (calls.fault o) tt f
call_fit v (dtcp_write w o h) f = server_fit v (calls.time_update w o h) tt f
call_fit v (racp_write w o h) f = server_fit v (calls.record_access w o) h f
call_fit v (notify p o) f = server_fit v (calls.notify p o) tt f
call_fit v (device_time o) f = f

pub run_append : (v : World) (a b : List Call) → run_of v (a ++ b) ≡ run_of (run_of v a) b
unfolding run_of
run_append v [] b = refl
run_append v (k ∷ a) b = run_append (step_of v k) a b

pub step_is : (v : World) (k : ByteCall) → Fit v → step_at (image_in v) k ≡ image_in (run_of v (call_of k))
unfolding step_at called_of
step_is v k f = ap (λ (x : Called). byte_world x.state x.table) (one_call v k f.good f.fits)

pub run_is : (ks : List ByteCall) (v : World) → Fit v → run_at (image_in v) ks ≡ image_in (run_of v (calls_of ks))
unfolding run_at calls_of run_of
run_is [] v f = refl
run_is (k ∷ ks) v f =
    ap (λ (b : ByteWorld). run_at b ks) (step_is v k f)
    ∙ run_is ks (run_of v (call_of k)) (call_fit v k f)
    ∙ ap image_in (sym (run_append v (call_of k) (calls_of ks)))

pub run_fit : (ks : List ByteCall) (v : World) → Fit v → Fit (run_of v (calls_of ks))
unfolding calls_of run_of
run_fit [] v f = f
run_fit (k ∷ ks) v f = rw (run_append v (call_of k) (calls_of ks)) (run_fit ks (run_of v (call_of k)) (call_fit v k f))

-- what start leaves hangs on the sizes alone
start_of_lem : (s t s' t' : List ℕ) → length s ≡ state_bytes → size_b (length t) ≡ true → length s' ≡ state_bytes → length t' ≡ length t
    → start_at s' t' ≡ start_at s t
unfolding start_at new_reader_of start_of state_after result_of done_b number_of
start_of_lem s t s' t' hs ht h k = rw (eq-eqb (length s') state_bytes h, eq-eqb (length s) state_bytes hs, k, ht)

new_of_lem : (t t' : List ℕ) → size_b (length t) ≡ true → length t' ≡ length t → new_world t' ≡ new_world t
unfolding new_reader_of start_of
new_of_lem t t' ht k = rw (k, ht)

module _ (s t : List ℕ) (hs : length s ≡ state_bytes) (ht : size_b (length t) ≡ true) where
  start_result : (start_at s t).result ≡ pos 0
  unfolding start_at new_reader_of start_of result_of done_b number_of
  start_result = rw (eq-eqb (length s) state_bytes hs, ht)

  start_is : started_at s t ≡ image_in (new_world t)
  unfolding start_at new_reader_of start_of state_after done_b number_of
  start_is = rw (eq-eqb (length s) state_bytes hs, ht)

  start_called : entered_at (byte_world s t) start ≡ called (pos 0) (image_of (new_world t).clock) (new_world t).table []
  unfolding entered_at
  start_called =
      ap (λ (z : ℤ). called z (start_at s t).state (start_at s t).table []) start_result
      ∙ ap (λ (b : ByteWorld). called (pos 0) b.state b.table []) start_is

-- a good world's table has a permitted size
good_size : (v : World) → Good v → size_b (length v.table) ≡ true
good_size v g = sound_size v.table g.sound

pub new_fit : (t : List ℕ) → size_b (length t) ≡ true → Fit (new_world t)
unfolding new_reader_of
new_fit t h = record { good = new_good t h; fits = new_fits t; bytes = new_bytes }

-- one of the calls of a history
call_entered : (v : World) (k : ByteCall) → entered_at (image_in v) (call k) ≡ called_at (image_in v) k
unfolding entered_at
call_entered v k = refl

pub entry_is : (v : World) (k : EntryCall) → Good v → Fits v.clock → entered_at (image_in v) k ≡ entered_of v k
unfolding entered_of
entry_is v start g f = start_called (image_of v.clock) v.table (state_images.size v.clock) (good_size v g)
entry_is v (call k) g f = call_entered v k ∙ one_call v k g f

pub entry_fit : (v : World) (k : EntryCall) → Fit v → Fit (entry_of v k)
unfolding entry_of
entry_fit v start f = new_fit v.table (good_size v f.good)
entry_fit v (call k) f = call_fit v k f

pub enter_is : (v : World) (k : EntryCall) → Fit v → enter_at (image_in v) k ≡ image_in (entry_of v k)
unfolding enter_at entered_of entry_of called_of
enter_is v start f = ap (λ (x : Called). byte_world x.state x.table) (entry_is v start f.good f.fits)
enter_is v (call k) f = ap (λ (x : Called). byte_world x.state x.table) (entry_is v (call k) f.good f.fits)

history_is : (ks : List EntryCall) (v : World) → Fit v → history_at (image_in v) ks ≡ image_in (history_of v ks)
unfolding history_at history_of
history_is [] v f = refl
history_is (k ∷ ks) v f = ap (λ (b : ByteWorld). history_at b ks) (enter_is v k f) ∙ history_is ks (entry_of v k) (entry_fit v k f)

history_fit : (ks : List EntryCall) (v : World) → Fit v → Fit (history_of v ks)
unfolding history_of
history_fit [] v f = f
history_fit (k ∷ ks) v f = history_fit ks (entry_of v k) (entry_fit v k f)

all_are : (ks : List EntryCall) (v : World) → Fit v → outcomes_at (image_in v) ks ≡ outcomes_of v ks
unfolding outcomes_at outcomes_of
all_are [] v f = refl
all_are (k ∷ ks) v f =
    ap (λ (x : Called). x ∷ outcomes_at (enter_at (image_in v) k) ks) (entry_is v k f.good f.fits)
    ∙ ap (λ (b : ByteWorld). entered_of v k ∷ outcomes_at b ks) (enter_is v k f)
    ∙ ap (λ (l : List Called). entered_of v k ∷ l) (all_are ks (entry_of v k) (entry_fit v k f))

-- since the last start: the table keeps its size
calls_append : (a b : List ByteCall) → calls_of (a ++ b) ≡ calls_of a ++ calls_of b
unfolding calls_of
calls_append [] b = refl
calls_append (k ∷ a) b = ap (λ (l : List Call). call_of k ++ l) (calls_append a b) ∙ sym (append_assoc (call_of k) (calls_of a) (calls_of b))

calls_one : (k : ByteCall) → calls_of (k ∷ []) ≡ call_of k
unfolding calls_of
calls_one k = append-nil (call_of k)

run_none : (v : World) → v ≡ run_of v (calls_of [])
unfolding calls_of run_of
run_none v = refl

module _ (t : List ℕ) (ht : size_b (length t) ≡ true) where
  run_size : (ks : List ByteCall) → length (run_of (new_world t) (calls_of ks)).table ≡ length t
  run_size ks =
      let v = run_of (new_world t) (calls_of ks) in
      let g = new_good t ht in
      let a = sound_head (new_world t).table g.sound in
      let b = sound_head v.table (run_fit ks (new_world t) (new_fit t ht)).good.sound in
      let z = size_reads (length t) ht in
      let n = (new_table t ht).capacity in
      let e = (went_run (calls_of ks) (new_world t) g).capacity in
      omega arith

  since_is : (ks : List EntryCall) (all : List ByteCall)
      → history_of (run_of (new_world t) (calls_of all)) ks ≡ run_of (new_world t) (calls_of (since_start all ks))
  unfolding history_of entry_of since_start
  since_is [] all = refl
  since_is (start ∷ ks) all =
      ap (λ (v : World). history_of v ks) (new_of_lem t (run_of (new_world t) (calls_of all)).table ht (run_size all) ∙ run_none (new_world t))
      ∙ since_is ks []
  since_is (call k ∷ ks) all =
      ap (λ (v : World). history_of v ks)
      (ap (run_of (run_of (new_world t) (calls_of all))) (sym (calls_one k))
      ∙ sym (run_append (new_world t) (calls_of all) (calls_of (k ∷ [])))
      ∙ ap (run_of (new_world t)) (sym (calls_append all (k ∷ []))))
      ∙ since_is ks (all ++ (k ∷ []))

  pub since_start_lem : (ks : List EntryCall) → history_of (new_world t) ks ≡ run_of (new_world t) (calls_of (since_start [] ks))
  unfolding calls_of run_of
  since_start_lem ks = since_is ks []

module _ (s t : List ℕ) (hs : length s ≡ state_bytes) (ht : size_b (length t) ≡ true) where
  pub reached_fit : (ks : List EntryCall) → Fit (history_of (new_world t) ks)
  reached_fit ks = history_fit ks (new_world t) (new_fit t ht)

  pub reached : (ks : List EntryCall) → history_at (started_at s t) ks ≡ image_in (history_of (new_world t) ks)
  reached ks = ap (λ (b : ByteWorld). history_at b ks) (start_is s t hs ht) ∙ history_is ks (new_world t) (new_fit t ht)

  reached_next : (ks : List EntryCall) (k : EntryCall) → entered_at (history_at (started_at s t) ks) k ≡ entered_of (history_of (new_world t) ks) k
  reached_next ks k =
      let f = reached_fit ks in
      ap (λ (b : ByteWorld). entered_at b k) (reached ks) ∙ entry_is (history_of (new_world t) ks) k f.good f.fits

  reached_all : (ks : List EntryCall) → outcomes_at (started_at s t) ks ≡ outcomes_of (new_world t) ks
  reached_all ks = ap (λ (b : ByteWorld). outcomes_at b ks) (start_is s t hs ht) ∙ all_are ks (new_world t) (new_fit t ht)

  reached_state : (ks : List EntryCall) → image_b (history_at (started_at s t) ks).state ≡ true
  reached_state ks =
      let f = reached_fit ks in
      ap (λ (b : ByteWorld). image_b b.state) (reached ks) ∙ state_images.is_image _ f.fits f.good.clock

  reached_bytes : (ks : List EntryCall) → Bytes (history_at (started_at s t) ks).state × Bytes (history_at (started_at s t) ks).table
  reached_bytes ks =
      let f = reached_fit ks in
      rw (reached ks) (image_bytes (history_of (new_world t) ks) f.good f.bytes, f.good.bytes)

  reached_since : (ks : List EntryCall) → history_at (started_at s t) ks ≡ image_in (run_of (new_world t) (calls_of (since_start [] ks)))
  reached_since ks = reached ks ∙ ap image_in (since_start_lem t ht ks)

  -- the sizes stay
  reached_size : (ks : List EntryCall) → length (history_at (started_at s t) ks).state ≡ state_bytes
  reached_size ks = ap (λ (b : ByteWorld). length b.state) (reached ks) ∙ state_images.size (history_of (new_world t) ks).clock

  reached_table : (ks : List EntryCall) → length (history_at (started_at s t) ks).table ≡ length t
  reached_table ks = ap (λ (b : ByteWorld). length b.table) (reached_since ks) ∙ run_size t ht (since_start [] ks)

pub restarted : Restarted
restarted =
    record {
      state_size = λ s t ks hs ht. reached_size s t hs ht ks;
      table_size = λ s t ks hs ht. reached_table s t hs ht ks;
      again = λ s t ks hs ht. start_of_lem s t _ _ hs ht (reached_size s t hs ht ks) (reached_table s t hs ht ks);
    }

pub images : Images
images =
    record {
      starts = λ s t hs ht. (start_result s t hs ht, start_is s t hs ht);
      one = entry_is;
      worlds = λ s t ks hs ht. reached s t hs ht ks;
      outcomes = λ s t ks hs ht. reached_all s t hs ht ks;
      next = λ s t ks k hs ht. reached_next s t hs ht ks k;
      state = λ s t ks hs ht. reached_state s t hs ht ks;
      bytes = λ s t ks hs ht. reached_bytes s t hs ht ks;
      since = λ s t ks hs ht. reached_since s t hs ht ks;
    }
