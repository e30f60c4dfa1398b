-- The endings: a quiet call is none; an answered disconnect, fault or Abort, and a start, is one that leaves no report running.
-- Assumes nothing.
use mathlib.Core.Path.{◌≡◌, refl, ◌∙◌, ap}
use mathlib.Core.Bool.{Bool, true, false, not}
use mathlib.Core.List.{List}
use Prim.Native.Nat.{ℕ}
use borrow.Author.Tests.{not-false}
use lib.Dec.{leb}
use lib.ListN.{length}
use Rattle.octets.specs.Choice.{either}
use Rattle.octets.proofs.Tests.{clash}
use Rattle.table.specs.Table.{sound_b}
use Rattle.table_write.specs.Start.{start_of}
use Rattle.clock.specs.Answers.{number_of}
use Rattle.clock.specs.Obeys.{clock_b}
use Rattle.clock.specs.Events.{disconnected, Event}
use Rattle.clock.specs.declared.state.Clock.{Clock}
use Rattle.clock.proofs.EventLaws.{disconnect_done}
use Rattle.rows.specs.Reply.{Outcome, done_b, answered}
use Rattle.rows.specs.Rows.{first_failed, idle_b, table_rows}
use Rattle.update.specs.Start.{new_reader_of}
use Rattle.update.specs.Fault.{faulted_of}
use Rattle.update.proofs.FaultLaws.{fault_refused, fault_done}
use Rattle.racp_request.specs.Request.{request_of}
use Rattle.racp_access.specs.Access.{accessed, aborted_of, accessed_of}
use Rattle.theorems_reports.specs.World.{World, world, Call, seconds, switches, disconnect, fault, time_update, record_access, notify, step_by, step_of}
use Rattle.theorems_reports.specs.Hearing.{calm_b}
use Rattle.theorems_reports.specs.Closing.{answer_of, quiet_b}
use Rattle.theorems_reports.proofs.GoodLaws.{sound_size}
use Rattle.theorems_reports.proofs.AccessLaws.{left_done, answered_passed}
use Rattle.theorems_handed.specs.Server.{start, call, right, answer_to}
use Rattle.theorems_reports.specs.Endings.{Ending, ongoing, closed, aborted, faulted, restarted, ending_of_request, ending_by, ended_b}
use Rattle.theorems_handed.specs.Endings.{ending_in}
use Rattle.theorems_reports.specs.Endings as endings
use Rattle.clock.specs.declared.state.Report.{Report}
use Rattle.codes.specs.declared.response.Code.{Code}
use Rattle.racp_request.specs.declared.request.Request.{Request}
use Rattle.racp_request.specs.declared.request.Request.TheVariants.{Abort, Number, Report as ReportOf}
use Rattle.std.proofs.Common.{Err, None, Ok, Option, Result, Some}

abbrev pub closed_b : Ending → Bool
closed_b ongoing = false
closed_b closed = true
closed_b aborted = false
closed_b faulted = false
closed_b endings.disconnected = false
closed_b restarted = false

-- an ending that is no closing response
pub record Cut (e : Ending) : Type 0 where
  pub ended : ended_b e ≡ true
  pub unclosed : closed_b e ≡ false

-- no call is a closing response
call_open : (a : Call) → closed_b (ending_by a) ≡ false
unfolding ending_by
call_open (seconds n) = refl
call_open (switches x y z) = refl
call_open disconnect = refl
call_open (fault o) = refl
call_open (time_update w o b) = refl
call_open (record_access w o) = go (request_of w)
  where
    go : (q : Result Request Code) → closed_b (ending_of_request q) ≡ false
    go (Ok (ReportOf f)) = refl
    go (Ok (Number f)) = refl
    go (Ok Abort) = refl
    go (Err k) = refl
call_open (notify p o) = refl

-- a calm call is no ending, any other is one
calm_ending : (e : Ending) → not (ended_b e) ≡ true → e ≡ ongoing
calm_ending ongoing h = refl
calm_ending closed h = absurd (clash false h refl)
calm_ending aborted h = absurd (clash false h refl)
calm_ending faulted h = absurd (clash false h refl)
calm_ending endings.disconnected h = absurd (clash false h refl)
calm_ending restarted h = absurd (clash false h refl)

call_calm : (a : Call) → calm_b a ≡ true → ending_by a ≡ ongoing
unfolding calm_b
call_calm a h = calm_ending (ending_by a) h

call_restless : (a : Call) → calm_b a ≡ false → Cut (ending_by a)
unfolding calm_b
call_restless a h = record { ended = not-false (ended_b (ending_by a)) h; unclosed = call_open a }

-- a call that is not quiet is not calm, and is answered with 0
loud_reads : (a b : Bool) → either a (not b) ≡ false → (a ≡ false) × (b ≡ true)
loud_reads true b h = absurd (clash true refl h)
loud_reads false true h = (refl, refl)
loud_reads false false h = absurd (clash true refl h)

pub quiet_goes : (v : World) (a : Call) → quiet_b v a ≡ true → ending_in right v (call a) ≡ ongoing
unfolding answer_to
quiet_goes v a h = go (calm_b a) refl (done_b (answer_of v a)) refl
  where
    go : (b : Bool) → calm_b a ≡ b → (d : Bool) → done_b (answer_of v a) ≡ d → ending_in right v (call a) ≡ ongoing
    go b c false d = rw d
    go true c true d = rw d (call_calm a c)
    go false c true d = absurd (clash false (rw (c, d) at h) refl)

pub loud_cuts : (v : World) (a : Call) → quiet_b v a ≡ false → Cut (ending_in right v (call a))
unfolding answer_to
loud_cuts v a h = let x = loud_reads (calm_b a) (done_b (answer_of v a)) h in rw x.1 (call_restless a x.0)

-- and leaves no report running
module _ (c : Clock) (t : List ℕ) where
  fault_idle : (o : List ℕ) → done_b (answer_of (world c t) (fault o)) ≡ true → idle_b (step_of (world c t) (fault o)).clock.running ≡ true
  unfolding answer_of step_by answered faulted_of
  fault_idle o d = go (done_b (first_failed (table_rows c t (leb 20 (length o))))) refl
    where
      go : (b : Bool) → done_b (first_failed (table_rows c t (leb 20 (length o)))) ≡ b → idle_b (step_of (world c t) (fault o)).clock.running ≡ true
      go true h = ap (λ (u : Outcome). idle_b u.reply.clock.running) (fault_done c t o h)
      go false h = absurd (clash _ d (ap (λ (u : Outcome). done_b u.reply.answer) (fault_refused c t o h) ∙ h))

  pub aborted_idle : (r : Option Report) → c.running ≡ r → idle_b (aborted_of c r).clock.running ≡ true
  unfolding aborted_of accessed
  aborted_idle None e = ap idle_b e
  aborted_idle (Some r) e = refl

  abort_idle : (w o : List ℕ) → request_of w ≡ Ok Abort → done_b (answer_of (world c t) (record_access w o)) ≡ true
      → idle_b (step_of (world c t) (record_access w o)).clock.running ≡ true
  unfolding answer_of step_by accessed_of
  abort_idle w o q d =
      ap (λ (v : World). idle_b v.clock.running) (left_done c t w o (answered_passed c t w o d)) ∙ rw q (aborted_idle c.running refl)

  access_idle : (w o : List ℕ) → calm_b (record_access w o) ≡ false → done_b (answer_of (world c t) (record_access w o)) ≡ true
      → idle_b (step_of (world c t) (record_access w o)).clock.running ≡ true
  unfolding calm_b
  access_idle w o h d = go (request_of w) refl
    where
      go : (q : Result Request Code) → request_of w ≡ q → idle_b (step_of (world c t) (record_access w o)).clock.running ≡ true
      go (Ok (ReportOf f)) q = absurd (clash true refl (rw q at h))
      go (Ok (Number f)) q = absurd (clash true refl (rw q at h))
      go (Ok Abort) q = abort_idle w o q d
      go (Err k) q = absurd (clash true refl (rw q at h))

  ends_idle : clock_b c ≡ true → (a : Call) → calm_b a ≡ false → done_b (answer_of (world c t) a) ≡ true
      → idle_b (step_of (world c t) a).clock.running ≡ true
  unfolding calm_b step_by disconnected
  ends_idle ok (seconds n) h d = absurd (clash true refl h)
  ends_idle ok (switches x y z) h d = absurd (clash true refl h)
  ends_idle ok disconnect h d = ap (λ (e : Event). idle_b e.clock.running) (disconnect_done c ok)
  ends_idle ok (fault o) h d = fault_idle o d
  ends_idle ok (time_update w o b) h d = absurd (clash true refl h)
  ends_idle ok (record_access w o) h d = access_idle w o h d
  ends_idle ok (notify p o) h d = absurd (clash true refl h)

pub loud_idle : (v : World) (a : Call) → clock_b v.clock ≡ true → quiet_b v a ≡ false → idle_b (step_of v a).clock.running ≡ true
loud_idle v a ok h = let x = loud_reads (calm_b a) (done_b (answer_of v a)) h in ends_idle v.clock v.table ok a x.0 x.1

-- a start is one too: a sound table has a permitted size
pub start_restarts : (v : World) → sound_b v.table ≡ true → ending_in right v start ≡ restarted
unfolding answer_to new_reader_of start_of done_b number_of
start_restarts v h = rw (sound_size v.table h)
