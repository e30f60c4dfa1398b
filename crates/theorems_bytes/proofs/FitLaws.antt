-- Every call keeps the widths of the clock's fields.
-- Assumes nothing.
use mathlib.Core.Path.{◌≡◌, refl, subst}
use mathlib.Core.Bool.{Bool, true, false}
use mathlib.Core.List.{List, [], ◌∷◌}
use Prim.Native.Nat.{ℕ, ◌+◌, ◌-◌, ◌<◌}
use native.Mathlib.Omega.{arith}
use borrow.Author.Tests.{ltb-true, ltb-false}
use lib.Dec.{ltb, eqb}
use lib.ListN.{length, take, drop}
use Rattle.octets.specs.Choice.{pick}
use Rattle.octets.specs.Numbers.{at, le16}
use Rattle.octets.specs.Parts.{Bytes}
use Rattle.octets.proofs.NumberLaws.{le16_small}
use Rattle.octets.proofs.PartLaws.{bytes_take, bytes_drop}
use Rattle.rules.proofs.RangeLaws.{status_small}
use Rattle.filter.specs.declared.filter.Filter.{Filter}
use Rattle.filter.specs.declared.filter.Filter.TheVariants.{All, AtMost, AtLeast, Range, First, Last}
use Rattle.record.specs.Fields.{sequence_of}
use Rattle.record.specs.declared.kinds.Record.TheVariants.{TimeUpdate, TimeFault}
use Rattle.record_write.specs.Layout.{update_read, fault_read, record_of}
use Rattle.table.specs.Table.{count, oldest, held, age_of, slot, bytes_in, record_in, steps}
use Rattle.table_look.specs.Matching.{next_match}
use Rattle.table_look.proofs.LookLaws.{drop_held, none_left}
use Rattle.clock.specs.State.{new_reader}
use Rattle.clock.specs.Events.{with_base, disconnected, Event}
use Rattle.clock.specs.declared.state.Clock.{Clock}
use Rattle.clock.specs.declared.state.Report.{Report}
use Rattle.clock.proofs.RuleLaws.{clock_reads}
use Rattle.clock.proofs.EventLaws.{Seconds, refuses_2, refuses_7, rises, Changed, changes, seconds_is, switches_is, disconnect_is}
use Rattle.update_decide.specs.Accept.{accepted_of}
use Rattle.rows.specs.Reply.{done_b}
use Rattle.rows.specs.Rows.{first_failed}
use Rattle.update.specs.Start.{new_reader_of}
use Rattle.update.specs.Fault.{faulted_of, fault_of}
use Rattle.update_logged.specs.Theorems.{success_b}
use Rattle.update.specs.TimeUpdate.{update_of}
use Rattle.update_logged.proofs.PromiseLaws.{logged, refused_unchanged}
use Rattle.theorems_reports.proofs.GoodLaws.{new_good}
use Rattle.racp_request.specs.Request.{opcode_in, operator_in, operand_bytes, typed_b, filter_at, filter_operand, asked_of, request_of}
use Rattle.codes.specs.declared.response.Code.TheVariants.{InvalidOperator, OperatorNotSupported, InvalidOperand, OperandNotSupported}
use Rattle.racp_request.proofs.RequestLaws.{report_reads}
use Rattle.racp_access.specs.Report.{first_number, left_at, left_from}
use Rattle.racp_access.specs.Access.{access_rows, accessed, begun_of, aborted_of, accessed_of}
use Rattle.racp_notify.specs.Notify.{notify_rows, last_b, left_after, said_of, unsaid, noticed, running_notice, notify_of}
use Rattle.state_images.specs.Theorems.{FilterFits, LeftFits, RunningFits, Fits}
use Rattle.theorems_reports.specs.World.{World, new_world, Call, seconds, switches, disconnect, fault, time_update, record_access, notify, step_by, step_of, run_of}
use Rattle.theorems_reports.specs.Reach.{Good}
use Rattle.theorems_reports.proofs.ReachLaws.{call_good}
use Rattle.theorems_reports.proofs.AccessLaws.{left_refused, left_done}
use Rattle.theorems_bytes.specs.Fitting.{WritesBytes, AllWriteBytes, FitsKept}
use Rattle.theorems_bytes.proofs.ByteLaws.{image_bytes, new_bytes, call_bytes}
use Rattle.codes.specs.declared.response.Code.{Code}
use Rattle.racp_request.specs.declared.request.Request.{Request}
use Rattle.racp_request.specs.declared.request.Request.TheVariants.{Abort, Number, Report as ReportOf}
use Rattle.std.proofs.Common.{Err, None, Ok, Option, Result, Some}

-- a record's number in a table of bytes
record_small : (b : List ℕ) → Bytes b → sequence_of (record_of b) < 65536
unfolding sequence_of record_of update_read fault_read
record_small b h = go (eqb (at b 2) 1)
  where
    go : (x : Bool) → sequence_of (pick x (TimeUpdate (update_read b)) (TimeFault (fault_read b))) < 65536
    go true = le16_small b 0 h
    go false = le16_small b 0 h

slot_small : (t : List ℕ) (o : ℕ) → Bytes t → sequence_of (record_in (slot t o)) < 65536
unfolding record_in bytes_in slot
slot_small t o h =
    let s = take 64 (drop o t) in
    record_small (take (at s 0) (drop 1 s)) (bytes_take (at s 0) (drop 1 s) (bytes_drop 1 s (bytes_take 64 (drop o t) (bytes_drop o t h))))

number_small : (t : List ℕ) (k : ℕ) → Bytes t → first_number (drop k (held t)) < 65536
unfolding first_number
number_small t k h = go (ltb k (count t)) refl
  where
    go : (b : Bool) → ltb k (count t) ≡ b → first_number (drop k (held t)) < 65536
    go true e = rw (drop_held t k (ltb-true k (count t) e)) (slot_small t (steps k (length t) (oldest t)) h)
    go false e = rw (none_left t k (ltb-false k (count t) e)) (omega arith)

left_fits : (f : Filter) (t : List ℕ) (k : ℕ) → Bytes t → LeftFits (left_from f t k)
unfolding left_from left_at
left_fits f t k h = go (next_match f t k)
  where
    go : (x : Option ℕ) → LeftFits (left_at t x)
    go None = tt
    go (Some n) = number_small t n h

-- a filter's values in a write of bytes
filter_fits : (w : List ℕ) → Bytes w → FilterFits (filter_at w)
unfolding filter_at
filter_fits w h =
    go (eqb (operator_in w) 1) (eqb (operator_in w) 2) (eqb (operator_in w) 3) (eqb (operator_in w) 4) (eqb (operator_in w) 5)
  where
    go : (a b c d e : Bool)
        → FilterFits
        (pick a All (pick b (AtMost (le16 w 3)) (pick c (AtLeast (le16 w 3)) (pick d (Range (le16 w 3) (le16 w 5)) (pick e First Last)))))
    go true b c d e = tt
    go false true c d e = le16_small w 3 h
    go false false true d e = le16_small w 3 h
    go false false false true e = (le16_small w 3 h, le16_small w 5 h)
    go false false false false true = tt
    go false false false false false = tt

abbrev AskedFits : Result Filter Code → Type 0
AskedFits (Ok f) = FilterFits f
AskedFits (Err k) = Unit {0}

asked_fits : (w : List ℕ) → Bytes w → AskedFits (asked_of w)
unfolding asked_of filter_operand
asked_fits w h =
    go (ltb (length w) 2)
    (eqb (operator_in w) 0)
    (ltb 6 (operator_in w))
    (eqb (length w) (2 + operand_bytes (operator_in w)))
    (typed_b w)
  where
    go : (none null other size typed : Bool)
        → AskedFits
        (pick none
        (Err InvalidOperator)
        (pick null
        (Err InvalidOperator)
        (pick other
        (Err OperatorNotSupported)
        (pick size
        (pick typed (Ok (filter_at w)) (Err OperandNotSupported))
        (Err InvalidOperand)))))
    go true null other size typed = tt
    go false true other size typed = tt
    go false false true size typed = tt
    go false false false false typed = tt
    go false false false true false = tt
    go false false false true true = filter_fits w h

report_fits : (w : List ℕ) (f : Filter) → Bytes w → request_of w ≡ Ok (ReportOf f) → FilterFits f
report_fits w f h q = subst AskedFits (report_reads w f q).1 (asked_fits w h)

-- the running report after each call
seconds_running : (c : Clock) (n : ℕ) (e : Event) → Seconds c n e → e.clock.running ≡ c.running
unfolding with_base
seconds_running c n e (refuses_2 h) = refl
seconds_running c n e (refuses_7 h l) = refl
seconds_running c n e (rises h l) = refl

changed_running : (c after : Clock) (e : Event) → Changed c after e → RunningFits c.running → RunningFits after.running
    → RunningFits e.clock.running
changed_running c after e (refuses_2 h) x y = x
changed_running c after e (changes h) x y = y

begun_fits : (c : Clock) (opcode : ℕ) (f : Filter) (l : Option (ℕ × ℕ)) → RunningFits c.running → FilterFits f → LeftFits l
    → RunningFits (begun_of c opcode f l).clock.running
unfolding begun_of accessed
begun_fits c opcode f None x y z = x
begun_fits c opcode f (Some (n, s)) x y z = (y, z)

aborted_fits : (c : Clock) (r : Option Report) → RunningFits c.running → RunningFits (aborted_of c r).clock.running
unfolding aborted_of accessed
aborted_fits c None x = x
aborted_fits c (Some r) x = tt

accessed_fits : (c : Clock) (t : List ℕ) (opcode : ℕ) (q : Result Request Code) → Bytes t → RunningFits c.running
    → ((f : Filter) → q ≡ Ok (ReportOf f) → FilterFits f) → RunningFits (accessed_of c t opcode q).clock.running
unfolding accessed_of accessed
accessed_fits c t opcode (Ok (ReportOf f)) hb x h = begun_fits c opcode f (left_from f t 0) x (h f refl) (left_fits f t 0 hb)
accessed_fits c t opcode (Ok (Number f)) hb x h = x
accessed_fits c t opcode (Ok Abort) hb x h = aborted_fits c c.running x
accessed_fits c t opcode (Err k) hb x h = x

access_fits : (v : World) (w o : List ℕ) → Bytes w → Bytes v.table → RunningFits v.clock.running
    → RunningFits (step_of v (record_access w o)).clock.running
unfolding step_by
access_fits v w o hw hb x = go (done_b (first_failed (access_rows v.clock v.table w o))) refl
  where
    go : (b : Bool) → done_b (first_failed (access_rows v.clock v.table w o)) ≡ b
        → RunningFits (step_of v (record_access w o)).clock.running
    go true h =
        rw (left_done v.clock v.table w o h)
        (accessed_fits v.clock v.table (opcode_in w) (request_of w) hb x (λ f q. report_fits w f hw q))
    go false h = rw (left_refused v.clock v.table w o h) x

after_fits : (f : Filter) (t : List ℕ) (q number sent : ℕ) (b : List ℕ) → Bytes t → number < 65536
    → LeftFits (left_after f t q number sent b)
unfolding left_after
after_fits f t q number sent b hb h = go (last_b q sent b)
  where
    go : (x : Bool) → LeftFits (pick x (left_from f t (age_of t number + 1)) (Some (number, (sent + q))))
    go true = left_fits f t (age_of t number + 1) hb
    go false = h

said_fits : (c : Clock) (t : List ℕ) (q : ℕ) (r : Report) (l : Option (ℕ × ℕ)) → Bytes t → FilterFits r.filter → LeftFits l
    → RunningFits (said_of c t q r l).clock.running
unfolding said_of
said_fits c t q r None hb x y = tt
said_fits c t q r (Some (number, sent)) hb x y = (x, after_fits r.filter t q number sent _ hb y)

notice_fits : (c : Clock) (t : List ℕ) (p : ℕ) (o : List ℕ) (r : Option Report) → Bytes t → RunningFits c.running → RunningFits r
    → RunningFits (running_notice c t p o r).reply.clock.running
unfolding running_notice noticed
notice_fits c t p o None hb x y = x
notice_fits c t p o (Some r) hb x y = said_fits c t (p - 1) r r.left hb y.0 y.1

notify_fits : (c : Clock) (t : List ℕ) (p : ℕ) (o : List ℕ) → Bytes t → RunningFits c.running
    → RunningFits (notify_of c t p o).reply.clock.running
unfolding notify_of
notify_fits c t p o hb x = go (done_b (first_failed (notify_rows c t p o)))
  where
    go : (b : Bool)
        → RunningFits (pick b (running_notice c t p o c.running) (unsaid (first_failed (notify_rows c t p o)) c o)).reply.clock.running
    go true = notice_fits c t p o c.running hb x x
    go false = x

fault_fits : (c : Clock) (t o : List ℕ) → RunningFits c.running → RunningFits (fault_of c t o).reply.clock.running
unfolding faulted_of
fault_fits c t o x = go (done_b (fault_of c t o).reply.answer) refl
  where
    go : (b : Bool) → done_b (fault_of c t o).reply.answer ≡ b → RunningFits (fault_of c t o).reply.clock.running
    go true h = rw (logged.fault c t o h).0 tt
    go false h = rw (refused_unchanged.fault c t o h) x

update_fits : (v : World) (w o : List ℕ) → Bytes w → Good v → RunningFits v.clock.running
    → RunningFits (update_of v.clock v.table w o).reply.clock.running
unfolding accepted_of
update_fits v w o hw g x = go (success_b (update_of v.clock v.table w o)) refl
  where
    go : (b : Bool) → success_b (update_of v.clock v.table w o) ≡ b
        → RunningFits (update_of v.clock v.table w o).reply.clock.running
    go true h = rw (logged.taken v.clock v.table w o hw g.faults g.next h).clock x
    go false h = rw (logged.else v.clock v.table w o h).0 x

pub running_fits : (v : World) (k : Call) → WritesBytes k → Good v → RunningFits v.clock.running
    → RunningFits (step_of v k).clock.running
unfolding step_by disconnected
running_fits v (seconds n) hk g x = rw (seconds_running v.clock n _ (seconds_is v.clock n)) x
running_fits v (switches a b d) hk g x = changed_running _ _ _ (switches_is v.clock a b d) x x
running_fits v disconnect hk g x = changed_running _ _ _ (disconnect_is v.clock) x tt
running_fits v (fault o) hk g x = fault_fits v.clock v.table o x
running_fits v (time_update w o h) hk g x = update_fits v w o h g x
running_fits v (record_access w o) hk g x = access_fits v w o hk g.bytes x
running_fits v (notify p o) hk g x = notify_fits v.clock v.table p o g.bytes x

pub fits_good : (v : World) → Good v → RunningFits v.clock.running → Fits v.clock
fits_good v g r =
    let k = (clock_reads v.clock g.clock).time in
    record {
      base = omega arith;
      status = status_small v.clock.time.status k.status;
      faults = g.faults;
      aligned = omega arith;
      running = r;
    }

pub call_fits : (v : World) (k : Call) → WritesBytes k → Good v → Fits v.clock → Fits (step_of v k).clock
call_fits v k hk g f = fits_good (step_of v k) (call_good v k g) (running_fits v k hk g f.running)

pub new_reader_fits : Fits new_reader
unfolding new_reader
new_reader_fits = record { base = omega arith; status = omega arith; faults = omega arith; aligned = omega arith; running = tt }

pub new_fits : (t : List ℕ) → Fits (new_world t).clock
unfolding new_reader_of
new_fits t = new_reader_fits

run_fits : (ks : List Call) (v : World) → AllWriteBytes ks → Good v → Fits v.clock → Fits (run_of v ks).clock
unfolding run_of
run_fits [] v h g f = f
run_fits (k ∷ ks) v h g f = run_fits ks (step_of v k) h.1 (call_good v k g) (call_fits v k h.0 g f)

pub fits_kept : FitsKept
fits_kept =
    record {
      new_reader_lem = new_reader_fits;
      of_good = fits_good;
      call = call_fits;
      reached = λ t ks h size. run_fits ks (new_world t) h (new_good t size) (new_fits t);
      new_bytes = new_bytes;
      call_bytes = call_bytes;
      image_bytes = image_bytes;
    }
