-- Record access and notifications change the running report at most, into one that obeys its rules; so every call leads from a good world
-- to a good one. Assumes nothing.
use mathlib.Core.Path.{◌≡◌, refl, ◌∙◌}
use mathlib.Core.Bool.{Bool, true, false}
use mathlib.Core.List.{List, [], ◌∷◌}
use Prim.Native.Nat.{ℕ, ◌+◌, ◌-◌, ◌<◌}
use native.Mathlib.Omega.{arith}
use borrow.Author.Tests.{leb-false, lt-ltb}
use lib.Dec.{ltb}
use lib.ListN.{length, drop}
use Rattle.octets.specs.Choice.{pick}
use Rattle.octets.proofs.Tests.{clash, both_yes, both_reads}
use Rattle.filter.specs.Filter.{matches_b}
use Rattle.filter.specs.declared.filter.Filter.{Filter}
use Rattle.record.specs.declared.kinds.Record.{Record}
use Rattle.table.specs.Table.{count, held, age_of}
use Rattle.clock.specs.State.{with_running}
use Rattle.clock.specs.Obeys.{opcode_b, running_b}
use Rattle.clock.specs.declared.state.Report.{Report}
use Rattle.clock.proofs.RuleLaws.{clock_reads, running_reads, running_makes}
use Rattle.clock.proofs.EventLaws.{with_running_obeys}
use Rattle.rows.specs.Reply.{done_b}
use Rattle.rows.specs.Rows.{first_failed, unsent_b, left_b}
use Rattle.rows.specs.Rows as rows
use Rattle.racp_request.specs.Request.{opcode_in}
use Rattle.racp_access.specs.Report.{report, first_bytes, left_from}
use Rattle.racp_access.specs.Access.{access_rows, accessed, begun_of, aborted_of, accessed_of}
use Rattle.racp_notify.specs.Notify.{notify_rows, counter_after, last_b, left_after, said_of, unsaid, noticed, running_notice, notify_of}
use Rattle.theorems_reports.specs.World.{World, world, new_world, Call, seconds, switches, disconnect, fault, time_update, record_access, notify, step_by, step_of, run_of}
use Rattle.theorems_reports.proofs.GoodLaws.{kept, seconds_good, switches_good, disconnect_good, fault_good, update_good, new_good}
use Rattle.theorems_reports.proofs.RequestLaws.{Right, reports, numbers, ends, refuses, request_right}
use Rattle.theorems_reports.proofs.HeldLaws.{left_stands}
use Rattle.theorems_reports.proofs.RunLaws.{left_ok}
use Rattle.theorems_reports.proofs.AccessLaws.{left_refused, left_done}
use Rattle.theorems_reports.proofs.ReportLaws.{heard_report, quiet_calls, calm_calls, closing_report}
use Rattle.theorems_reports.specs.Closing.{ReachedClosing}
use Rattle.theorems_reports.specs.Reach.{Good, Reachable, ReachedReport}
use Rattle.codes.specs.declared.response.Code.{Code}
use Rattle.racp_request.specs.declared.request.Request.{Request}
use Rattle.std.proofs.Common.{None, Option, Result, Some}

-- the clock and the table as they were, but for the report
pub data Turned (v : World) : World → Type 0 where
  same : Turned v v
  turns : (r : Option Report) → running_b r ≡ true → rows.running_whole_b v.table r ≡ true → Turned v (world (with_running v.clock r) v.table)

pub turned_good : {v w : World} → Good v → Turned v w → Good w
turned_good g same = g
turned_good {v} g (turns r ok left) = kept v (with_running v.clock r) g (with_running_obeys v.clock r g.clock ok) left g.faults

ended : (v : World) → Turned v (world (with_running v.clock None) v.table)
unfolding running_b rows.running_whole_b
ended v = turns None refl refl

-- a report that is found has its next record held, matching and unsent
found : (v : World) → Good v → (f : Filter) (k : ℕ) → left_b v.table f (left_from f v.table k) ≡ true
found v g f k =
    left_ok v.table g.sound g.bytes 1 f (left_stands v.table g.sound f g.bytes (count v.table) k (omega arith))

begun : (v : World) (opcode : ℕ) (f : Filter) (l : Option (ℕ × ℕ)) → opcode_b opcode ≡ true → left_b v.table f l ≡ true
    → Turned v (world (begun_of v.clock opcode f l).clock v.table)
unfolding begun_of accessed rows.running_whole_b
begun v opcode f None o l = same
begun v opcode f (Some (number, sent)) o l =
    turns (Some (report opcode f 0 (Some (number, sent))))
    (running_makes (report opcode f 0 (Some (number, sent))) (record { opcode = o; counter = omega arith })) l

aborted : (v : World) (r : Option Report) → Turned v (world (aborted_of v.clock r).clock v.table)
unfolding aborted_of accessed
aborted v None = same
aborted v (Some r) = ended v

accessed_turned : (v : World) (opcode : ℕ) {q : Result Request Code} → Good v → Right opcode q
    → Turned v (world (accessed_of v.clock v.table opcode q).clock v.table)
unfolding accessed_of accessed
accessed_turned v opcode g (reports {f} o) = begun v opcode f (left_from f v.table 0) o (found v g f 0)
accessed_turned v opcode g (numbers a) = same
accessed_turned v opcode g (ends a) = aborted v v.clock.running
accessed_turned v opcode g refuses = same

pub access_turned : (v : World) (w o : List ℕ) → Good v → Turned v (step_of v (record_access w o))
unfolding step_by
access_turned v w o g = go (done_b (first_failed (access_rows v.clock v.table w o))) refl
  where
    go : (b : Bool) → done_b (first_failed (access_rows v.clock v.table w o)) ≡ b → Turned v (step_of v (record_access w o))
    go true h = rw (left_done v.clock v.table w o h) (accessed_turned v (opcode_in w) g (request_right w))
    go false h = rw (left_refused v.clock v.table w o h) same

-- after a segment that was not a record's last, more of its bytes are unsent
unsent_more : (l : List Record) (sent n : ℕ) → unsent_b sent l ≡ true → n < length (first_bytes l) → unsent_b n l ≡ true
unfolding first_bytes
unsent_more [] sent n h k = absurd (clash false h refl)
unsent_more (r ∷ l) sent n h k = lt-ltb n _ k

left_more : (t : List ℕ) (f : Filter) (number sent n : ℕ) → left_b t f (Some (number, sent)) ≡ true
    → n < length (first_bytes (drop (age_of t number) (held t))) → left_b t f (Some (number, n)) ≡ true
unfolding left_b
left_more t f number sent n h k =
    let a = both_reads (ltb (age_of t number) (count t)) _ h in
    let b = both_reads (matches_b f (count t) (age_of t number) number) _ a.1 in
    both_yes a.0 ∙ both_yes b.0 ∙ unsent_more (drop (age_of t number) (held t)) sent n b.1 k

rest_left : (v : World) → Good v → (f : Filter) (q number sent : ℕ) → left_b v.table f (Some (number, sent)) ≡ true
    → left_b v.table f (left_after f v.table q number sent (first_bytes (drop (age_of v.table number) (held v.table)))) ≡ true
unfolding left_after
rest_left v g f q number sent h = go (last_b q sent (first_bytes (drop (age_of v.table number) (held v.table)))) refl
  where
    go : (b : Bool) → last_b q sent (first_bytes (drop (age_of v.table number) (held v.table))) ≡ b
        → left_b v.table f (pick b (left_from f v.table (age_of v.table number + 1)) (Some (number, (sent + q)))) ≡ true
    go true e = found v g f (age_of v.table number + 1)
    go false e = left_more v.table f number sent (sent + q) h (leb-false _ _ e)

said_turned : (v : World) (q : ℕ) (r : Report) (l : Option (ℕ × ℕ)) → Good v → running_b (Some r) ≡ true → left_b v.table r.filter l ≡ true
    → Turned v (world (said_of v.clock v.table q r l).clock v.table)
unfolding said_of rows.running_whole_b
said_turned v q r None g ok h = ended v
said_turned v q r (Some (number, sent)) g ok h =
    let k = running_reads r ok in
    let b = first_bytes (drop (age_of v.table number) (held v.table)) in
    let on = report r.opcode r.filter (counter_after r.counter) (left_after r.filter v.table q number sent b) in
    turns (Some on)
    (running_makes on (record { opcode = k.opcode; counter = omega arith }))
    (rest_left v g r.filter q number sent h)

notice_turned : (v : World) (p : ℕ) (o : List ℕ) (r : Option Report) → Good v → running_b r ≡ true → rows.running_whole_b v.table r ≡ true
    → Turned v (world (running_notice v.clock v.table p o r).reply.clock v.table)
unfolding running_notice noticed rows.running_whole_b
notice_turned v p o None g ok h = same
notice_turned v p o (Some r) g ok h = said_turned v (p - 1) r r.left g ok h

pub notify_turned : (v : World) (p : ℕ) (o : List ℕ) → Good v → Turned v (step_of v (notify p o))
unfolding step_by notify_of
notify_turned v p o g = go (done_b (first_failed (notify_rows v.clock v.table p o)))
  where
    go : (b : Bool)
        → Turned v (world (pick b (running_notice v.clock v.table p o v.clock.running) (unsaid (first_failed (notify_rows v.clock v.table p o)) v.clock o)).reply.clock v.table)
    go true = notice_turned v p o v.clock.running g (clock_reads v.clock g.clock).running g.running
    go false = same

pub call_good : (v : World) (k : Call) → Good v → Good (step_of v k)
unfolding step_by
call_good v (seconds n) g = seconds_good v n g
call_good v (switches a b d) g = switches_good v a b d g
call_good v disconnect g = disconnect_good v g
call_good v (fault o) g = fault_good v o g
call_good v (time_update w o h) g = update_good v w o h g
call_good v (record_access w o) g = turned_good g (access_turned v w o g)
call_good v (notify p o) g = turned_good g (notify_turned v p o g)

pub calls_good : (ks : List Call) (v : World) → Good v → Good (run_of v ks)
unfolding run_of
calls_good [] v g = g
calls_good (k ∷ ks) v g = calls_good ks (step_of v k) (call_good v k g)

pub reachable : Reachable
reachable t ks h = calls_good ks (new_world t) (new_good t h)

pub reached_report : ReachedReport
reached_report t before ks w o f h a c =
    let v = run_of (new_world t) before in
    let b = (reachable t before h).bytes in
    heard_report v w o f ks b a (calm_calls v w o f ks b a c)

pub reached_closing : ReachedClosing
reached_closing t before ks w o f h a q =
    let v = run_of (new_world t) before in
    let b = (reachable t before h).bytes in
    closing_report v w o f ks b a (quiet_calls v w o f ks b a q)
