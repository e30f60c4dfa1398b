-- Calls while no report runs, and calls that begin or close one.
-- Assumes nothing.
use mathlib.Core.Path.{◌≡◌, refl, ◌∙◌, ap}
use mathlib.Core.Bool.{Bool, true, false}
use mathlib.Core.List.{List, [], ◌∷◌}
use Prim.Native.Nat.{ℕ, ◌-◌}
use lib.Dec.{leb, eqb}
use lib.ListN.{length}
use native.Mathlib.Omega.{arith}
use borrow.Author.Tests.{eqb-true}
use Rattle.octets.specs.Choice.{both}
use Rattle.octets.specs.Parts.{Bytes}
use Rattle.octets.proofs.Tests.{clash, both_reads}
use Rattle.filter.specs.declared.filter.Filter.{Filter}
use Rattle.clock.specs.Answers.{number_of, Answer}
use Rattle.clock.specs.Events.{with_base, disconnected, Event}
use Rattle.clock.specs.Obeys.{opcode_b}
use Rattle.clock.specs.declared.state.Clock.{Clock}
use Rattle.clock.specs.declared.state.Report as states
use Rattle.clock.proofs.EventLaws.{Seconds, refuses_2, refuses_7, rises, Changed, changes, seconds_is, switches_is, disconnect_done}
use Rattle.update_decide.specs.Decide.{decide_of}
use Rattle.update_decide.proofs.AcceptLaws.{accepted_running}
use Rattle.rows.specs.Reply.{Outcome, done_b, answered}
use Rattle.rows.specs.Rows.{first_failed, idle_b, table_rows}
use Rattle.update.specs.Fault.{faulted_of}
use Rattle.update.specs.TimeUpdate.{update_rows, after_decision, effect_of}
use Rattle.update.proofs.FaultLaws.{fault_refused, fault_done}
use Rattle.update.proofs.UpdateLaws.{update_refused, update_done}
use Rattle.racp_request.specs.Request.{opcode_in, request_of}
use Rattle.racp_access.specs.Report.{left_from}
use Rattle.racp_access.specs.Access.{access_rows, accessed, begun_of, accessed_of, response_in}
use Rattle.racp_access.proofs.AccessLaws.{access_refused}
use Rattle.racp_notify.specs.Notify.{notify_rows, said_of, unsaid, noticed, running_notice, notify_of}
use Rattle.theorems_reports.specs.World.{World, world, Call, seconds, switches, disconnect, fault, time_update, record_access, notify, step_by, step_of}
use Rattle.theorems_reports.specs.Hearing.{Heard, nothing, segment, closing, heard_in, heard_by, heard_of}
use Rattle.theorems_reports.specs.Reach.{Good}
use Rattle.theorems_reports.specs.Closing.{answer_of}
use Rattle.theorems_reports.proofs.RequestLaws.{request_report}
use Rattle.theorems_reports.proofs.AccessLaws.{left_refused, left_done, answer_done, response_done, rows_passed}
use Rattle.theorems_handed.specs.Server.{call, right, answer_to, Accepts}
use Rattle.theorems_handed.specs.History.{asks_report_b, begins_b}
use Rattle.theorems_handed.proofs.EndLaws.{aborted_idle}
use Rattle.clock.specs.declared.state.Report.{Report}
use Rattle.codes.specs.declared.response.Code.{Code}
use Rattle.racp_request.specs.declared.request.Request.{Request}
use Rattle.racp_request.specs.declared.request.Request.TheVariants.{Abort, Number, Report as ReportOf}
use Rattle.std.proofs.Common.{Err, None, Ok, Option, Result, Some}
use Rattle.update_decide.specs.declared.decide.NotTaken.{NotTaken}
use Rattle.update_decide.specs.declared.decide.NotTaken.TheVariants.{Rejected, Unsupported, WrongLength}
use Rattle.update_judge.specs.declared.proposal.Proposal.{Proposal}

-- nothing is heard, and no report runs after
pub record Rests (v : World) (a : Call) : Type 0 where
  pub silent : heard_of v a ≡ nothing
  pub idle : idle_b (step_of v a).clock.running ≡ true

heard_refused : (a : Answer) (c : Clock) (o : List ℕ) → done_b a ≡ false → heard_in (unsaid a c o) ≡ nothing
unfolding heard_in
heard_refused a c o h = rw h

seconds_idle : {c : Clock} {n : ℕ} {e : Event} → Seconds c n e → idle_b c.running ≡ true → idle_b e.clock.running ≡ true
unfolding with_base
seconds_idle (refuses_2 h) i = i
seconds_idle (refuses_7 h l) i = i
seconds_idle (rises h l) i = i

changed_idle : {c d : Clock} {e : Event} → Changed c d e → idle_b c.running ≡ true → idle_b d.running ≡ true → idle_b e.clock.running ≡ true
changed_idle (refuses_2 h) i j = i
changed_idle (changes h) i j = j

decided_idle : (c : Clock) (t : List ℕ) (d : Result Proposal NotTaken) → idle_b c.running ≡ true → idle_b (after_decision c t d).clock.running ≡ true
unfolding after_decision
decided_idle c t (Err Unsupported) i = i
decided_idle c t (Err WrongLength) i = i
decided_idle c t (Err (Rejected flags)) i = i
decided_idle c t (Ok p) i = ap idle_b (accepted_running c p).running ∙ i

-- a report that begins answers without response bytes
begun_idle : (c : Clock) (opcode : ℕ) (f : Filter) (l : Option (ℕ × ℕ)) → idle_b c.running ≡ true
    → eqb (length (response_in (begun_of c opcode f l))) 0 ≡ false → idle_b (begun_of c opcode f l).clock.running ≡ true
unfolding begun_of accessed
begun_idle c opcode f None i n = i
begun_idle c opcode f (Some (number, sent)) i n = absurd (clash true refl n)

accessed_idle : (c : Clock) (t : List ℕ) (opcode : ℕ) (q : Result Request Code) → idle_b c.running ≡ true
    → both (asks_report_b q) (eqb (length (response_in (accessed_of c t opcode q))) 0) ≡ false → idle_b (accessed_of c t opcode q).clock.running ≡ true
unfolding accessed_of accessed
accessed_idle c t opcode (Ok (ReportOf f)) i n = begun_idle c opcode f (left_from f t 0) i n
accessed_idle c t opcode (Ok (Number f)) i n = i
accessed_idle c t opcode (Ok Abort) i n = aborted_idle c t c.running refl
accessed_idle c t opcode (Err k) i n = i

module _ (v : World) (g : Good v) (i : idle_b v.clock.running ≡ true) where
  abbrev c : Clock
  c = v.clock

  abbrev t : List ℕ
  t = v.table

  rests_notify : (p : ℕ) (o : List ℕ) → Rests v (notify p o)
  unfolding heard_by step_by notify_of running_notice heard_in done_b number_of
  rests_notify p o = go c.running refl i (done_b (first_failed (notify_rows c t p o))) refl
    where
      go : (r : Option Report) → c.running ≡ r → idle_b r ≡ true → (b : Bool) → done_b (first_failed (notify_rows c t p o)) ≡ b → Rests v (notify p o)
      go (Some r) e j b h = absurd (clash false j refl)
      go None e j true h = record { silent = rw (h, e); idle = rw (h, e) }
      go None e j false h = record { silent = rw h (heard_refused (first_failed (notify_rows c t p o)) c o h); idle = rw h i }

  rests_fault : (o : List ℕ) → Rests v (fault o)
  unfolding heard_by step_by answered faulted_of
  rests_fault o = go (done_b (first_failed (table_rows c t (leb 20 (length o))))) refl
    where
      go : (b : Bool) → done_b (first_failed (table_rows c t (leb 20 (length o)))) ≡ b → Rests v (fault o)
      go true h = record { silent = refl; idle = ap (λ (u : Outcome). idle_b u.reply.clock.running) (fault_done c t o h) }
      go false h = record { silent = refl; idle = ap (λ (u : Outcome). idle_b u.reply.clock.running) (fault_refused c t o h) ∙ i }

  rests_update : (w o : List ℕ) (hw : Bytes w) → Rests v (time_update w o hw)
  unfolding heard_by step_by answered effect_of
  rests_update w o hw = go (done_b (first_failed (update_rows c t w o))) refl
    where
      go : (b : Bool) → done_b (first_failed (update_rows c t w o)) ≡ b → Rests v (time_update w o hw)
      go true h =
          record {
            silent = refl;
            idle = ap (λ (u : Outcome). idle_b u.reply.clock.running) (update_done c t w o h) ∙ decided_idle c t (decide_of c w) i;
          }
      go false h = record { silent = refl; idle = ap (λ (u : Outcome). idle_b u.reply.clock.running) (update_refused c t w o h) ∙ i }

  rests_access : (w o : List ℕ) → begins_b right v (call (record_access w o)) ≡ false → Rests v (record_access w o)
  unfolding heard_by step_by begins_b answer_to answer_of
  rests_access w o n = go (done_b (first_failed (access_rows c t w o))) refl
    where
      go : (b : Bool) → done_b (first_failed (access_rows c t w o)) ≡ b → Rests v (record_access w o)
      go false h = record { silent = refl; idle = ap (λ (u : World). idle_b u.clock.running) (left_refused c t w o h) ∙ i }
      go true h =
          record {
            silent = refl;
            idle = ap (λ (u : World). idle_b u.clock.running) (left_done c t w o h)
                ∙ accessed_idle c t (opcode_in w) (request_of w) i (rw (answer_done c t w o h, response_done c t w o h) at n);
          }

  pub rests : (a : Call) → begins_b right v (call a) ≡ false → Rests v a
  unfolding heard_by step_by disconnected
  rests (seconds n) b = record { silent = refl; idle = seconds_idle (seconds_is c n) i }
  rests (switches x y z) b = record { silent = refl; idle = changed_idle (switches_is c x y z) i i }
  rests disconnect b = record { silent = refl; idle = ap (λ (e : Event). idle_b e.clock.running) (disconnect_done c g.clock) }
  rests (fault o) b = rests_fault o
  rests (time_update w o hw) b = rests_update w o hw
  rests (record_access w o) b = rests_access w o b
  rests (notify p o) b = rests_notify p o

-- a call that begins a report is a record access that is accepted
pub data Beginner (v : World) : Call → Type 0 where
  starts : {w o : List ℕ} (f : Filter) → Accepts right v w o f → Beginner v (record_access w o)

none_reads : (l : List ℕ) → eqb (length l) 0 ≡ true → l ≡ []
none_reads [] h = refl
none_reads (x ∷ l) h = let e = eqb-true (length (x ∷ l)) 0 h in absurd (omega arith)

pub begins_reads : (v : World) (a : Call) → begins_b right v (call a) ≡ true → Beginner v a
unfolding begins_b
begins_reads v (seconds n) b = absurd (clash false b refl)
begins_reads v (switches x y z) b = absurd (clash false b refl)
begins_reads v disconnect b = absurd (clash false b refl)
begins_reads v (fault o) b = absurd (clash false b refl)
begins_reads v (time_update w o hw) b = absurd (clash false b refl)
begins_reads v (record_access w o) b = go (request_of w) refl
  where
    go : (q : Result Request Code) → request_of w ≡ q → Beginner v (record_access w o)
    go (Ok (ReportOf f)) q =
        let x = both_reads (done_b (answer_to v (call (record_access w o)))) _ (rw q at b) in
        starts f (record { asked = q; done = x.0; silent = none_reads _ x.1 })
    go (Ok (Number f)) q = absurd (clash false (rw q at b) refl)
    go (Ok Abort) q = absurd (clash false (rw q at b) refl)
    go (Err k) q = absurd (clash false (rw q at b) refl)
begins_reads v (notify p o) b = absurd (clash false b refl)

-- while a report runs, none begins
busy_access : (c : Clock) (t w o : List ℕ) (q : Result Request Code) → idle_b c.running ≡ false → request_of w ≡ q
    → begins_b right (world c t) (call (record_access w o)) ≡ false
unfolding begins_b opcode_b answer_to answer_of
busy_access c t w o (Ok (ReportOf f)) i q = go (done_b (first_failed (access_rows c t w o))) refl
  where
    go : (b : Bool) → done_b (first_failed (access_rows c t w o)) ≡ b → begins_b right (world c t) (call (record_access w o)) ≡ false
    go true h =
        let z = eqb-true (opcode_in w) 3 (rw i at (rows_passed c t w o h).1) in
        absurd (clash (opcode_b (opcode_in w)) (request_report w f q) (rw z refl))
    go false h = rw (q, ap (λ (u : Outcome). done_b u.reply.answer) (access_refused c t w o h) ∙ h)
busy_access c t w o (Ok (Number f)) i q = rw q
busy_access c t w o (Ok Abort) i q = rw q
busy_access c t w o (Err k) i q = rw q

pub busy_begins : (c : Clock) (t : List ℕ) (a : Call) → idle_b c.running ≡ false → begins_b right (world c t) (call a) ≡ false
unfolding begins_b
busy_begins c t (seconds n) i = refl
busy_begins c t (switches x y z) i = refl
busy_begins c t disconnect i = refl
busy_begins c t (fault o) i = refl
busy_begins c t (time_update w o hw) i = refl
busy_begins c t (record_access w o) i = busy_access c t w o (request_of w) i refl
busy_begins c t (notify p o) i = refl

-- after a closing response no report runs
abbrev closing_b : Heard → Bool
closing_b nothing = false
closing_b (segment b) = false
closing_b (closing b) = true

said_closes : (c : Clock) (t : List ℕ) (q : ℕ) (r : states.Report) (o : List ℕ) (l : Option (ℕ × ℕ)) → closing_b (heard_in (noticed (said_of c t q r l) o)) ≡ true
    → idle_b (said_of c t q r l).clock.running ≡ true
unfolding said_of heard_in noticed done_b number_of
said_closes c t q r o None h = refl
said_closes c t q r o (Some (number, sent)) h = absurd (clash false h refl)

notice_closes : (c : Clock) (t : List ℕ) (p : ℕ) (o : List ℕ) (r : Option Report) → closing_b (heard_in (running_notice c t p o r)) ≡ true
    → idle_b (running_notice c t p o r).reply.clock.running ≡ true
unfolding running_notice heard_in noticed done_b number_of
notice_closes c t p o None h = absurd (clash false h refl)
notice_closes c t p o (Some r) h = said_closes c t (p - 1) r o r.left h

pub closing_idle : (c : Clock) (t : List ℕ) (p : ℕ) (o b : List ℕ) → heard_of (world c t) (notify p o) ≡ closing b
    → idle_b (step_of (world c t) (notify p o)).clock.running ≡ true
unfolding heard_by step_by notify_of
closing_idle c t p o b e = go (done_b (first_failed (notify_rows c t p o))) refl (ap closing_b e)
  where
    go : (d : Bool) → done_b (first_failed (notify_rows c t p o)) ≡ d → closing_b (heard_in (notify_of c t p o)) ≡ true
        → idle_b (notify_of c t p o).reply.clock.running ≡ true
    go true h x = rw h (notice_closes c t p o c.running (rw h at x))
    go false h x = absurd (clash _ (rw h at x) (ap closing_b (heard_refused (first_failed (notify_rows c t p o)) c o h)))
