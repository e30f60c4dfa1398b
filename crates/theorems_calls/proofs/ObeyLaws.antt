-- Each call leaves a clock that obeys its rules with the table: what is left of a report is held, matches and has bytes unsent.
-- Assumes nothing.
use mathlib.Core.Path.{◌≡◌, refl, sym, ◌∙◌, ap}
use mathlib.Core.Bool.{Bool, true, false}
use mathlib.Core.List.{List, [], ◌∷◌}
use Prim.Native.Nat.{ℕ, ◌+◌, ◌-◌, ◌<◌}
use native.Mathlib.Omega.{arith}
use borrow.Author.Tests.{leb-false, lt-ltb, le-ltb}
use lib.Dec.{ltb}
use lib.ListN.{length, drop}
use Rattle.octets.specs.Choice.{pick}
use Rattle.octets.proofs.Tests.{both_yes}
use Rattle.filter.specs.declared.filter.Filter.{Filter}
use Rattle.record_write.specs.Layout.{bytes_of}
use Rattle.record.specs.declared.kinds.Record.{Record}
use Rattle.record_read.proofs.RoundTrip.{length_bytes}
use Rattle.table.specs.Table.{count, age_of, record_in, sound_b}
use Rattle.table.specs.Table as table
use Rattle.table_look.specs.Matching.{matches_at, next_match}
use Rattle.table.proofs.SlotLaws.{slot_at}
use Rattle.table_look.proofs.LookLaws.{age_held, drop_held}
use Rattle.clock.specs.State.{with_running}
use Rattle.clock.specs.Obeys.{opcode_b, clock_b}
use Rattle.clock.specs.Obeys as rules
use Rattle.clock.specs.declared.state.Clock.{Clock}
use Rattle.clock.specs.declared.state.Report.{Report}
use Rattle.clock.proofs.RuleLaws.{clock_reads, running_reads, running_makes}
use Rattle.clock.proofs.EventLaws.{with_running_obeys}
use Rattle.rows.specs.Reply.{done_b, answered}
use Rattle.rows.specs.Rows.{first_failed, unsent_b, left_b, running_whole_b, whole_b}
use Rattle.rows.proofs.RowLaws.{whole_reads, whole_with}
use Rattle.racp_request.specs.Request.{opcode_in, request_of}
use Rattle.racp_request.proofs.RequestLaws.{report_reads}
use Rattle.racp_access.specs.Report.{first_number, first_bytes, left_at, left_from}
use Rattle.racp_access.specs.Access.{access_rows, accessed, begun_of, aborted_of, accessed_of, access_of}
use Rattle.racp_notify.specs.Notify.{last_b, left_after, notify_rows, said_of, unsaid, noticed, running_notice, notify_of}
use Rattle.theorems_calls.specs.OfTransfer.{Obeys}
use Rattle.racp_access.proofs.FoundLaws.{next_found}
use Rattle.racp_access.proofs.LeftLaws.{Unsent, left_reads}
use Rattle.racp_access.proofs.AccessLaws.{access_refused, access_done_lem}
use Rattle.codes.specs.declared.response.Code.{Code}
use Rattle.racp_request.specs.declared.request.Request.{Request}
use Rattle.racp_request.specs.declared.request.Request.TheVariants.{Abort, Number, Report as ReportOf}
use Rattle.std.proofs.Common.{Err, None, Ok, Option, Result, Some}

-- the number of the record at an age has that age
age_in : (t : List ℕ) (j : ℕ) → sound_b t ≡ true → j < count t → age_of t (first_number (drop j (table.held t))) ≡ j
unfolding first_number
age_in t j sd h = rw (drop_held t j h) (age_held t j sd h)

-- a record that is held, matches and has bytes unsent
pub left_makes : (t : List ℕ) (f : Filter) (n sent : ℕ) → Unsent t f n sent → left_b t f (Some (n, sent)) ≡ true
unfolding left_b
left_makes t f n sent u = both_yes (lt-ltb (age_of t n) (count t) u.held) ∙ both_yes u.matches ∙ u.unsent

some_bytes : (r : Record) → ltb 0 (length (bytes_of r)) ≡ true
some_bytes r = lt-ltb 0 (length (bytes_of r)) (omega (arith, length_bytes r))

-- the next held record that matches is one
found_obeys : (f : Filter) (t : List ℕ) (k : ℕ) → sound_b t ≡ true → (x : Option ℕ) → next_match f t k ≡ x → left_b t f (left_at t x) ≡ true
unfolding left_at left_b first_number matches_at
found_obeys f t k sd None e = refl
found_obeys f t k sd (Some j) e =
    let x = next_found f t k j e in
    let a = age_in t j sd x.held in
    let d = drop_held t j x.held in
    left_makes t f (first_number (drop j (table.held t))) 0 (record {
      held = rw a x.held;
      matches = rw (a, d) (rw d at x.matches);
      unsent = rw (a, d) (some_bytes (record_in (slot_at t j)));
    })

pub left_from_obeys : (f : Filter) (t : List ℕ) (k : ℕ) → sound_b t ≡ true → left_b t f (left_from f t k) ≡ true
unfolding left_from
left_from_obeys f t k sd = found_obeys f t k sd (next_match f t k) refl

-- the other bytes of the next record
unsent_is : (sent : ℕ) (l : List Record) → unsent_b sent l ≡ ltb sent (length (first_bytes l))
unfolding first_bytes
unsent_is sent [] = sym (le-ltb sent 0 (omega arith))
unsent_is sent (r ∷ l) = refl

-- the bytes of the record with a number
abbrev next_bytes : List ℕ → ℕ → List ℕ
next_bytes t n = first_bytes (drop (age_of t n) (table.held t))

-- what is left after a segment
after_obeys : (f : Filter) (t : List ℕ) (q n sent : ℕ) → sound_b t ≡ true → Unsent t f n sent
    → left_b t f (left_after f t q n sent (next_bytes t n)) ≡ true
unfolding left_after
after_obeys f t q n sent sd u = go (last_b q sent (next_bytes t n)) refl
  where
    go : (last : Bool) → last_b q sent (next_bytes t n) ≡ last → left_b t f (pick last (left_from f t (age_of t n + 1)) (Some (n, (sent + q)))) ≡ true
    go true e = left_from_obeys f t (age_of t n + 1) sd
    go false e =
        left_makes t f n (sent + q) (record {
          held = u.held;
          matches = u.matches;
          unsent = unsent_is (sent + q) (drop (age_of t n) (table.held t)) ∙ lt-ltb (sent + q) (length (next_bytes t n)) (leb-false (length (next_bytes t n)) (sent + q) e);
        })

-- a clock with another report
running_obeys : (c : Clock) (t : List ℕ) (r : Option Report) → clock_b c ≡ true → rules.running_b r ≡ true → running_whole_b t r ≡ true → whole_b (with_running c r) t ≡ true
running_obeys c t r ok alone with = whole_with (with_running c r) t (with_running_obeys c r ok alone) ∙ with

idle_obeys : (c : Clock) (t : List ℕ) → clock_b c ≡ true → whole_b (with_running c None) t ≡ true
unfolding rules.running_b running_whole_b
idle_obeys c t ok = running_obeys c t None ok refl refl

report_obeys : (c : Clock) (t : List ℕ) (r : Report) → clock_b c ≡ true → rules.ReportRules r → left_b t r.filter r.left ≡ true
    → whole_b (with_running c (Some r)) t ≡ true
unfolding running_whole_b
report_obeys c t r ok k l = running_obeys c t (Some r) ok (running_makes r k) l

-- notifications
said_obeys : (c : Clock) (t : List ℕ) (q : ℕ) (r : Report) → sound_b t ≡ true → clock_b c ≡ true → rules.ReportRules r
    → (l : Option (ℕ × ℕ)) → left_b t r.filter l ≡ true → whole_b (said_of c t q r l).clock t ≡ true
unfolding said_of
said_obeys c t q r sd ok k None h = idle_obeys c t ok
said_obeys c t q r sd ok k (Some (n, sent)) h =
    report_obeys c t _ ok
    (record { opcode = k.opcode; counter = omega arith })
    (after_obeys r.filter t q n sent sd (left_reads t r.filter n sent h))

running_said : (c : Clock) (t : List ℕ) (p : ℕ) (o : List ℕ) → sound_b t ≡ true → whole_b c t ≡ true → (r : Option Report) → c.running ≡ r
    → whole_b (running_notice c t p o r).reply.clock t ≡ true
unfolding running_notice noticed running_whole_b
running_said c t p o sd w None e = w
running_said c t p o sd w (Some r) e =
    let x = whole_reads c t w in
    said_obeys c t (p - 1) r sd x.0
    (running_reads r (ap rules.running_b (sym e) ∙ (clock_reads c x.0).running))
    r.left
    (ap (running_whole_b t) (sym e) ∙ x.1)

notify_obeys : (c : Clock) (t : List ℕ) (p : ℕ) (o : List ℕ) → sound_b t ≡ true → whole_b c t ≡ true → whole_b (notify_of c t p o).reply.clock t ≡ true
unfolding notify_of
notify_obeys c t p o sd w = go (done_b (first_failed (notify_rows c t p o)))
  where
    go : (b : Bool) → whole_b (pick b (running_notice c t p o c.running) (unsaid (first_failed (notify_rows c t p o)) c o)).reply.clock t ≡ true
    go true = running_said c t p o sd w c.running refl
    go false = w

-- record access
begun_obeys : (c : Clock) (t : List ℕ) (opcode : ℕ) (f : Filter) → whole_b c t ≡ true → opcode_b opcode ≡ true
    → (l : Option (ℕ × ℕ)) → left_b t f l ≡ true → whole_b (begun_of c opcode f l).clock t ≡ true
unfolding begun_of accessed
begun_obeys c t opcode f w ho None h = w
begun_obeys c t opcode f w ho (Some (n, sent)) h =
    report_obeys c t _ (whole_reads c t w).0 (record { opcode = ho; counter = omega arith }) h

aborted_obeys : (c : Clock) (t : List ℕ) → whole_b c t ≡ true → (r : Option Report) → whole_b (aborted_of c r).clock t ≡ true
unfolding aborted_of accessed
aborted_obeys c t w None = w
aborted_obeys c t w (Some r) = idle_obeys c t (whole_reads c t w).0

accessed_obeys : (c : Clock) (t w : List ℕ) → sound_b t ≡ true → whole_b c t ≡ true → (r : Result Request Code) → request_of w ≡ r
    → whole_b (accessed_of c t (opcode_in w) r).clock t ≡ true
unfolding accessed_of accessed
accessed_obeys c t w sd h (Ok (ReportOf f)) e =
    begun_obeys c t (opcode_in w) f h (report_reads w f e).0 (left_from f t 0) (left_from_obeys f t 0 sd)
accessed_obeys c t w sd h (Ok (Number f)) e = h
accessed_obeys c t w sd h (Ok Abort) e = aborted_obeys c t h c.running
accessed_obeys c t w sd h (Err k) e = h

access_obeys : (c : Clock) (t w o : List ℕ) → sound_b t ≡ true → whole_b c t ≡ true → whole_b (access_of c t w o).reply.clock t ≡ true
unfolding answered
access_obeys c t w o sd h = go (done_b (first_failed (access_rows c t w o))) refl
  where
    go : (b : Bool) → done_b (first_failed (access_rows c t w o)) ≡ b → whole_b (access_of c t w o).reply.clock t ≡ true
    go true e = rw (access_done_lem c t w o e) (accessed_obeys c t w sd h (request_of w) refl)
    go false e = rw (access_refused c t w o e) h

pub obeys : Obeys
obeys = record { notify = notify_obeys; record_access_lem = access_obeys }
