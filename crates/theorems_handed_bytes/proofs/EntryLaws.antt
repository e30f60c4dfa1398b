-- One call over bytes is one call by value: what is heard of it, how it ends a report, whether it begins one, and what it leaves.
-- Assumes nothing.
use mathlib.Core.Path.{◌≡◌, refl, sym, ap, ◌∙◌}
use mathlib.Core.Bool.{Bool, true, false}
use mathlib.Core.List.{List, [], ◌∷◌}
use Prim.Native.Nat.{ℕ}
use lib.Dec.{eqb}
use lib.ListN.{length}
use Rattle.octets.specs.Choice.{both, pick}
use Rattle.octets.specs.Parts.{Bytes}
use Rattle.octets.proofs.Tests.{both_no}
use Rattle.table.specs.Table.{size_b}
use Rattle.table_write.specs.Start.{start_of}
use Rattle.clock.specs.Answers.{number_of, Answer}
use Rattle.clock.specs.declared.state.Clock.{Clock}
use Rattle.rows.specs.Reply.{Outcome, done_b, answered}
use Rattle.rows.specs.Rows.{first_failed}
use Rattle.update.specs.Start.{new_reader_of}
use Rattle.racp_request.specs.Request.{request_of}
use Rattle.racp_access.specs.Access.{access_rows, access_of}
use Rattle.racp_access.proofs.AccessLaws.{access_refused, access_done_lem}
use Rattle.server_bytes.specs.Results.{result_of}
use Rattle.server_bytes.specs.Calls.{Called}
use Rattle.theorems_reports.specs.World.{World, world, run_of}
use Rattle.theorems_reports.specs.World as calls
use Rattle.theorems_reports.specs.Hearing.{nothing, heard_by}
use Rattle.theorems_reports.specs.Reports.{response_to}
use Rattle.theorems_reports.specs.Closing.{answer_of}
use Rattle.theorems_reports.proofs.GoodLaws.{sound_size}
use Rattle.theorems_reports.proofs.AccessLaws.{response_done}
use Rattle.theorems_handed.specs.Server.{AnyCall, right, after_of, answer_to, heard_to}
use Rattle.theorems_handed.specs.Server as any
use Rattle.theorems_reports.specs.Endings.{ongoing}
use Rattle.theorems_handed.specs.Endings.{ending_any, ending_in}
use Rattle.theorems_handed.specs.History.{asks_report_b, begins_b}
use Rattle.theorems_bytes.specs.World.{seconds, switches, disconnect, fault, dtcp_write, racp_write, notify, device_time, EntryCall, start, call, entered_at, call_of, said_of, image_in, called_of, entry_of, entered_of}
use Rattle.theorems_bytes.specs.Reports.{heard_at}
use Rattle.theorems_bytes.specs.Stamps.{done_at, zero_at}
use Rattle.theorems_bytes.proofs.StampLaws.{done_result}
use Rattle.theorems_bytes.proofs.ImageLaws.{one_call, Fit, entry_is}
use Rattle.theorems_bytes.proofs.ReportLaws.{notify_heard}
use Rattle.theorems_handed_bytes.specs.Endings.{entry_by, heard_entry, ending_first, ending_at}
use Rattle.theorems_handed_bytes.specs.Courses.{begins_at}
use Rattle.clock.specs.declared.answers.Refusal.TheVariants.{ClockBroken, NothingRunning, OutputShort, PastTheEnd, ReportRunning, SwitchedOff, TableNotSound, WriteLength}
use Rattle.std.proofs.Common.{Err, Ok}

-- What an entry point does to a report is what its call by value does; where there is none, nothing.
pub data Entered (v : World) (k : EntryCall) : List AnyCall → Type 0 where
  reads : heard_entry (image_in v) k ≡ nothing → ending_at (image_in v) k ≡ ongoing → begins_at (image_in v) k ≡ false → entry_of v k ≡ v → Entered v k []
  does : {c : AnyCall} → heard_entry (image_in v) k ≡ heard_to v c → ending_at (image_in v) k ≡ ending_in right v c
      → begins_at (image_in v) k ≡ begins_b right v c → entry_of v k ≡ after_of v c → Entered v k (c ∷ [])

-- a result by value tells whether the call ends a report
ended : (v : World) (k : EntryCall) (c : AnyCall) (n : ℕ) → Fit v → entry_by k ≡ c ∷ [] → (entered_of v k).result ≡ result_of (answer_to v c) n
    → ending_at (image_in v) k ≡ ending_in right v c
ended v k c n f e r =
    ap (λ (l : List AnyCall). pick (done_at (entered_at (image_in v) k).result) (ending_first l) ongoing) e
    ∙ ap (λ (x : Called). pick (done_at x.result) (ending_any c) ongoing) (entry_is v k f.good f.fits)
    ∙ ap (λ (b : Bool). pick b (ending_any c) ongoing) (ap done_at r ∙ done_result (answer_to v c) n)

-- start refuses no buffer of a permitted size
started : (t : List ℕ) → size_b (length t) ≡ true → (new_reader_of t).event.answer ≡ Ok tt
unfolding new_reader_of start_of
started t h = rw h

start_ended : (v : World) → Fit v → ending_at (image_in v) start ≡ ending_in right v any.start
unfolding entry_by entered_of answer_to result_of done_b number_of
start_ended v f = ended v start any.start 0 f refl (ap (λ (a : Answer). result_of a 0) (sym (started v.table (sound_size v.table f.good.sound))))

-- a call that reads ends nothing, whatever its result
none_ended : (b : Bool) → pick b ongoing ongoing ≡ ongoing
none_ended true = refl
none_ended false = refl

-- a result 0 is a call that is done, without response bytes
zero_result : (a : Answer) (n : ℕ) → zero_at (result_of a n) ≡ both (done_b a) (eqb n 0)
unfolding result_of done_b number_of
zero_result (Ok done) n = refl
zero_result (Err TableNotSound) n = refl
zero_result (Err ClockBroken) n = refl
zero_result (Err OutputShort) n = refl
zero_result (Err WriteLength) n = refl
zero_result (Err SwitchedOff) n = refl
zero_result (Err ReportRunning) n = refl
zero_result (Err PastTheEnd) n = refl
zero_result (Err NothingRunning) n = refl

module _ (c : Clock) (t w o : List ℕ) where
  abbrev answer : Answer
  answer = (access_of c t w o).reply.answer

  silent_is : both (done_b answer) (eqb (access_of c t w o).reply.len 0) ≡ both (done_b answer) (eqb (length (response_to (world c t) w o)) 0)
  unfolding answered
  silent_is = go (done_b (first_failed (access_rows c t w o))) refl
    where
      go : (b : Bool) → done_b (first_failed (access_rows c t w o)) ≡ b
          → both (done_b answer) (eqb (access_of c t w o).reply.len 0) ≡ both (done_b answer) (eqb (length (response_to (world c t) w o)) 0)
      go true h =
          ap (both (done_b answer))
          (ap (λ (u : Outcome). eqb u.reply.len 0) (access_done_lem c t w o h)
          ∙ ap (λ (l : List ℕ). eqb (length l) 0) (sym (response_done c t w o h)))
      go false h =
          let e = ap (λ (u : Outcome). done_b u.reply.answer) (access_refused c t w o h) ∙ h in
          both_no (done_b answer) _ e ∙ sym (both_no (done_b answer) _ e)

access_begins : (v : World) (w o : List ℕ) (h : Bytes w) → Fit v
    → begins_at (image_in v) (call (racp_write w o h)) ≡ begins_b right v (any.call (calls.record_access w o))
unfolding begins_at begins_b answer_to answer_of called_of said_of
access_begins v w o h f =
    let u = access_of v.clock v.table w o in
    ap (λ (x : Called). both (asks_report_b (request_of w)) (zero_at x.result)) (one_call v (racp_write w o h) f.good f.fits)
    ∙ ap (both (asks_report_b (request_of w))) (zero_result u.reply.answer u.reply.len ∙ silent_is v.clock v.table w o)

-- all calls
pub entered : (v : World) (k : EntryCall) → Fit v → Entered v k (entry_by k)
unfolding entry_by call_of heard_entry heard_at heard_to heard_by begins_at begins_b entry_of after_of run_of entered_of called_of said_of answer_to answer_of
entered v start f = does refl (start_ended v f) refl refl
entered v (call (seconds n)) f = does refl (ended v (call (seconds n)) _ 0 f refl refl) refl refl
entered v (call (switches x y z)) f = does refl (ended v (call (switches x y z)) _ 0 f refl refl) refl refl
entered v (call disconnect) f = does refl (ended v (call disconnect) _ 0 f refl refl) refl refl
entered v (call (fault o)) f = does refl (ended v (call (fault o)) _ _ f refl refl) refl refl
entered v (call (dtcp_write w o h)) f = does refl (ended v (call (dtcp_write w o h)) _ _ f refl refl) refl refl
entered v (call (racp_write w o h)) f = does refl (ended v (call (racp_write w o h)) _ _ f refl refl) (access_begins v w o h f) refl
entered v (call (notify p o)) f =
    does (notify_heard v p o (one_call v (notify p o) f.good f.fits)) (ended v (call (notify p o)) _ _ f refl refl) refl refl
entered v (call (device_time o)) f = reads refl (none_ended (done_at (entered_at (image_in v) (call (device_time o))).result)) refl refl
