-- One call in the middle of a report: a notification that is taken, a call that leaves report and table as they are, or one that ends it.
-- Assumes nothing.
use mathlib.Core.Path.{◌≡◌, refl, ◌∙◌, ap}
use mathlib.Core.Bool.{Bool, true, false, not}
use mathlib.Core.List.{List}
use Prim.Native.Nat.{ℕ}
use borrow.Author.Tests.{eqb-true}
use lib.Dec.{leb, eqb}
use lib.ListN.{length}
use Rattle.octets.specs.Parts.{Bytes}
use Rattle.octets.proofs.Tests.{clash}
use Rattle.filter.specs.declared.filter.Filter.{Filter}
use Rattle.record.specs.declared.kinds.Record.{Record}
use Rattle.table.specs.Table.{sound_b}
use Rattle.clock.specs.Answers.{number_of}
use Rattle.clock.specs.Obeys.{opcode_b, clock_b}
use Rattle.clock.specs.Events.{with_base, disconnected, Event}
use Rattle.clock.specs.declared.state.Clock.{Clock}
use Rattle.clock.proofs.EventLaws.{Seconds, refuses_2, refuses_7, rises, Changed, changes, seconds_is, switches_is, disconnect_done}
use Rattle.theorems_clock.proofs.PromiseLaws.{obeys}
use Rattle.update.specs.Fault.{faulted_of}
use Rattle.rows.specs.Reply.{Outcome, done_b, answered}
use Rattle.rows.specs.Rows.{first_failed, idle_b, table_rows}
use Rattle.update.specs.TimeUpdate.{update_rows}
use Rattle.update.proofs.FaultLaws.{fault_refused, fault_done}
use Rattle.update_logged.proofs.PromiseLaws.{passed}
use Rattle.update.proofs.UpdateLaws.{update_refused}
use Rattle.racp_request.specs.Request.{opcode_in, request_of}
use Rattle.racp_access.specs.Access.{access_rows, accessed, aborted_of, accessed_of, access_of}
use Rattle.racp_notify.specs.Notify.{room_b, Notice}
use Rattle.theorems_reports.specs.World.{World, world, Call, seconds, switches, disconnect, fault, time_update, record_access, notify, world_after, step_by, step_of}
use Rattle.theorems_reports.specs.Hearing.{nothing, heard_in, heard_by, heard_of, calm_b}
use Rattle.theorems_reports.specs.Closing.{answer_of, quiet_b}
use Rattle.theorems_reports.proofs.RequestLaws.{Right, reports, numbers, ends, refuses, request_right}
use Rattle.theorems_reports.proofs.AccessLaws.{left_refused, left_done, answer_done, rows_passed}
use Rattle.theorems_reports.proofs.RunLaws.{Runs, Told, told, notify_short, heard_unsaid}
use Rattle.codes.specs.declared.response.Code.{Code}
use Rattle.racp_request.specs.declared.request.Request.{Request}
use Rattle.std.proofs.Common.{Result}

-- seconds and switches leave the report
seconds_running : {c : Clock} {n : ℕ} {e : Event} → Seconds c n e → e.clock.running ≡ c.running
unfolding with_base
seconds_running (refuses_2 h) = refl
seconds_running (refuses_7 h l) = refl
seconds_running (rises h l) = refl

changed_running : {c d : Clock} {e : Event} → Changed c d e → d.running ≡ c.running → e.clock.running ≡ c.running
changed_running (refuses_2 h) s = refl
changed_running (changes h) s = s

module _ (t : List ℕ) (sd : sound_b t ≡ true) (hb : Bytes t) (opcode : ℕ) (f : Filter) where
  pub data Step (c : Clock) (k sent : ℕ) (l : List Record) : Call → Type 0 where
    still : {a : Call} {d : Clock} → heard_of (world c t) a ≡ nothing → step_of (world c t) a ≡ world d t → Runs t sd hb opcode f d k sent l
        → Step c k sent l a
    asked : {p : ℕ} {o : List ℕ} → room_b p (length o) ≡ true → Told t sd hb opcode f c p o k sent l → Step c k sent l (notify p o)
    ended : {a : Call} → heard_of (world c t) a ≡ nothing → idle_b (step_of (world c t) a).clock.running ≡ true → quiet_b (world c t) a ≡ false
        → Step c k sent l a

  -- a call that changes clock fields and not the report
  keeps : {c d : Clock} {k sent : ℕ} {l : List Record} → Runs t sd hb opcode f c k sent l → clock_b d ≡ true → d.running ≡ c.running
      → Runs t sd hb opcode f d k sent l
  keeps r ok e = record { clock = ok; rest = r.rest; running = e ∙ r.running; stands = r.stands }

  module _ {c : Clock} {k sent : ℕ} {l : List Record} (r : Runs t sd hb opcode f c k sent l) where
    busy : idle_b c.running ≡ false
    busy = ap idle_b r.running

    step_seconds : (n : ℕ) → Step c k sent l (seconds n)
    unfolding heard_by step_by
    step_seconds n = still refl refl (keeps r (obeys.seconds c n r.clock) (seconds_running (seconds_is c n)))

    step_switches : (x y z : Bool) → Step c k sent l (switches x y z)
    unfolding heard_by step_by
    step_switches x y z = still refl refl (keeps r (obeys.switches c x y z r.clock) (changed_running (switches_is c x y z) refl))

    step_disconnect : Step c k sent l disconnect
    unfolding heard_by step_by calm_b answer_of done_b number_of disconnected
    step_disconnect =
        let e = disconnect_done c r.clock in
        ended refl (ap (λ (x : Event). idle_b x.clock.running) e) (ap (λ (x : Event). not (done_b x.answer)) e)

    step_fault : (o : List ℕ) → Step c k sent l (fault o)
    unfolding heard_by step_by calm_b answer_of done_b number_of answered faulted_of
    step_fault o = go (done_b (first_failed (table_rows c t (leb 20 (length o))))) refl
      where
        go : (b : Bool) → done_b (first_failed (table_rows c t (leb 20 (length o)))) ≡ b → Step c k sent l (fault o)
        go true h =
            let e = fault_done c t o h in
            ended refl (ap (λ (u : Outcome). idle_b u.reply.clock.running) e) (ap (λ (u : Outcome). not (done_b u.reply.answer)) e)
        go false h = still refl (ap world_after (fault_refused c t o h)) r

    step_update : (w o : List ℕ) (hw : Bytes w) → Step c k sent l (time_update w o hw)
    unfolding heard_by step_by
    step_update w o hw = go (done_b (first_failed (update_rows c t w o))) refl
      where
        go : (b : Bool) → done_b (first_failed (update_rows c t w o)) ≡ b → Step c k sent l (time_update w o hw)
        go true h = absurd (clash (idle_b c.running) (passed c t w o h).1.alone busy)
        go false h = still refl (ap world_after (update_refused c t w o h)) r

    -- an answered Abort ends the report, a wrong one changes nothing
    step_abort : (w o : List ℕ) {q : Result Request Code} → Right (opcode_in w) q → eqb (opcode_in w) 3 ≡ true → request_of w ≡ q
        → world_after (access_of c t w o) ≡ world (accessed_of c t (opcode_in w) q).clock t → done_b (access_of c t w o).reply.answer ≡ true
        → Step c k sent l (record_access w o)
    unfolding heard_by step_by calm_b answer_of opcode_b accessed_of aborted_of accessed
    step_abort w o (reports a) h q e d = let z = eqb-true (opcode_in w) 3 h in absurd (clash (opcode_b (opcode_in w)) a (rw z refl))
    step_abort w o (numbers a) h q e d = let z = eqb-true (opcode_in w) 3 h in absurd (clash (eqb (opcode_in w) 4) a (rw z refl))
    step_abort w o (ends a) h q e d =
        ended {a = record_access w o} refl (ap (λ (v : World). idle_b v.clock.running) e ∙ rw r.running refl) (rw (q, d) refl)
    step_abort w o refuses h q e d = still refl e r

    step_access : (w o : List ℕ) → Step c k sent l (record_access w o)
    unfolding heard_by step_by
    step_access w o = go (done_b (first_failed (access_rows c t w o))) refl
      where
        go : (b : Bool) → done_b (first_failed (access_rows c t w o)) ≡ b → Step c k sent l (record_access w o)
        go true h =
            step_abort w o (request_right w) (rw busy at (rows_passed c t w o h).1) refl (left_done c t w o h) (answer_done c t w o h)
        go false h = still refl (left_refused c t w o h) r

    step_notify : (p : ℕ) (o : List ℕ) → Step c k sent l (notify p o)
    unfolding heard_by step_by
    step_notify p o = go (room_b p (length o)) refl
      where
        go : (b : Bool) → room_b p (length o) ≡ b → Step c k sent l (notify p o)
        go true h = asked h (told t sd hb opcode f p o r h)
        go false h =
            let e = notify_short t sd hb opcode f p o r h in
            still (ap heard_in e ∙ heard_unsaid c o) (ap (λ (n : Notice). world n.reply.clock t) e) r

    pub step : (a : Call) → Step c k sent l a
    step (seconds n) = step_seconds n
    step (switches x y z) = step_switches x y z
    step disconnect = step_disconnect
    step (fault o) = step_fault o
    step (time_update w o hw) = step_update w o hw
    step (record_access w o) = step_access w o
    step (notify p o) = step_notify p o
