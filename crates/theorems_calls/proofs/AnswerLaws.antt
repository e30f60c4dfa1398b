-- Refusals change nothing; a report begins exactly where a record matches; Number counts.
-- Assumes nothing.
use mathlib.Core.Path.{◌≡◌, refl, sym, ◌∙◌, ap}
use mathlib.Core.Bool.{Bool, true, false}
use mathlib.Core.List.{List, []}
use Prim.Native.Nat.{ℕ, ◌+◌}
use lib.Dec.{ltb, eqb}
use lib.ListN.{length}
use Rattle.octets.specs.Choice.{pick}
use Rattle.octets.specs.Parts.{over}
use Rattle.octets.proofs.Tests.{clash}
use Rattle.filter.specs.declared.filter.Filter.{Filter}
use Rattle.table_look.specs.Matching.{matching}
use Rattle.clock.specs.State.{with_running}
use Rattle.clock.specs.Answers.{number_of, Answer}
use Rattle.clock.specs.declared.state.Clock.{Clock}
use Rattle.rows.specs.Reply.{Outcome, done_b, refused, answered}
use Rattle.rows.specs.Rows.{first_failed}
use Rattle.update_logged.specs.Theorems.{Untouched}
use Rattle.codes.specs.Response.{code_of, code_bytes, count_bytes}
use Rattle.codes.specs.Racp.{report_opcode, abort_opcode, number_opcode, combined_opcode, number_response}
use Rattle.racp_request.specs.Request.{opcode_in, operator_in, operand_bytes, typed_b, filter_at, filter_operand, asked_of, abort_of, report_for, number_for, request_of}
use Rattle.codes.specs.declared.response.Code.{Code}
use Rattle.codes.specs.declared.response.Code.TheVariants.{OpcodeNotSupported, InvalidOperator, OperatorNotSupported, InvalidOperand, NoRecordsFound, OperandNotSupported}
use Rattle.racp_access.specs.Report.{report, first_number, none_b}
use Rattle.racp_access.specs.Access.{access_rows, accessed, begun_of, aborted_of, accessed_of, access_of}
use Rattle.racp_notify.specs.Notify.{notify_rows, unsaid, noticed, running_notice, notify_of}
use Rattle.theorems_calls.specs.OfTransfer.{Silent, RefusedUnchanged, Read, nothing_found_b, nothing_b, AcceptedWhenMatching, NumberCounts}
use Rattle.racp_access.proofs.FoundLaws.{begins_with}
use Rattle.racp_access.proofs.AccessLaws.{answered_with, access_refused, access_done_lem}
use Rattle.clock.specs.declared.state.Report.{Report}
use Rattle.racp_request.specs.declared.request.Request.{Request}
use Rattle.racp_request.specs.declared.request.Request.TheVariants.{Abort, Number, Report as ReportOf}
use Rattle.std.proofs.Common.{Err, None, Ok, Option, Result, Some}

done_is : done_b (Ok tt) ≡ true
unfolding done_b number_of
done_is = refl

running_silent : (c : Clock) (t : List ℕ) (p : ℕ) (o : List ℕ) (r : Option Report) → Silent c o (running_notice c t p o r)
unfolding running_notice noticed
running_silent c t p o None h = refl
running_silent c t p o (Some r) h = absurd (clash (done_b (Ok tt)) done_is h)

notify_silent : (c : Clock) (t : List ℕ) (p : ℕ) (o : List ℕ) → Silent c o (notify_of c t p o)
unfolding notify_of
notify_silent c t p o = go (done_b (first_failed (notify_rows c t p o)))
  where
    go : (b : Bool) → Silent c o (pick b (running_notice c t p o c.running) (unsaid (first_failed (notify_rows c t p o)) c o))
    go true = running_silent c t p o c.running
    go false = λ h. refl

access_untouched : (c : Clock) (t w o : List ℕ) → Untouched c t o (access_of c t w o)
unfolding answered
access_untouched c t w o = go (done_b (first_failed (access_rows c t w o))) refl
  where
    refusal : (a : Answer) (u : Outcome) → u ≡ refused a c t o → Untouched c t o u
    refusal a u e h = e ∙ ap (λ (x : Answer). refused x c t o) (sym (ap (λ (x : Outcome). x.reply.answer) e))

    go : (b : Bool) → done_b (first_failed (access_rows c t w o)) ≡ b → Untouched c t o (access_of c t w o)
    go true e h =
        absurd (clash (done_b (access_of c t w o).reply.answer) (ap (λ (x : Outcome). done_b x.reply.answer) (access_done_lem c t w o e) ∙ done_is) h)
    go false e h = refusal _ (access_of c t w o) (access_refused c t w o e) h

pub refused_unchanged : RefusedUnchanged
refused_unchanged = record { notify = notify_silent; record_access_lem = access_untouched }

-- a report that was asked for: what it comes to, by whether a record matches
begun : (c : Clock) (t o : List ℕ) (opcode n : ℕ) (f : Filter) (none : Bool)
    → answered_with t o (begun_of c opcode f (pick none None (Some (n, 0))))
    ≡ pick none
    (answered c t (code_bytes opcode NoRecordsFound) o)
    (answered (with_running c (Some (report opcode f 0 (Some (n, 0))))) t [] o)
unfolding begun_of accessed code_bytes
begun c t o opcode n f true = refl
begun c t o opcode n f false = refl

asked_report : (c : Clock) (t o : List ℕ) (opcode : ℕ) (f : Filter)
    → answered_with t o (accessed_of c t opcode (Ok (ReportOf f)))
    ≡ pick (none_b (matching f t))
    (answered c t (code_bytes opcode NoRecordsFound) o)
    (answered (with_running c (Some (report opcode f 0 (Some ((first_number (matching f t)), 0))))) t [] o)
unfolding accessed_of
asked_report c t o opcode f =
    ap (λ (l : Option (ℕ × ℕ)). answered_with t o (begun_of c opcode f l)) (begins_with f t)
    ∙ begun c t o opcode (first_number (matching f t)) f (none_b (matching f t))

-- a write that asks for r
asks : (c : Clock) (t w o : List ℕ) (r : Result Request Code) → Read c t w o → request_of w ≡ r → access_of c t w o ≡ answered_with t o (accessed_of c t (opcode_in w) r)
asks c t w o r h e = access_done_lem c t w o h ∙ ap (λ (x : Result Request Code). answered_with t o (accessed_of c t (opcode_in w) x)) e

-- 0x06 is no refusal's code
abbrev other : Code → Bool
other k = eqb (code_of k) (code_of NoRecordsFound)

abbrev AskedOther : Result Filter Code → Type 0
AskedOther (Ok f) = other InvalidOperand ≡ false
AskedOther (Err k) = other k ≡ false

abbrev Other : Result Request Code → Type 0
Other (Ok (ReportOf f)) = other InvalidOperand ≡ false
Other (Ok (Number f)) = other InvalidOperand ≡ false
Other (Ok Abort) = other InvalidOperand ≡ false
Other (Err k) = other k ≡ false

asked_other : (w : List ℕ) → AskedOther (asked_of w)
unfolding asked_of filter_operand code_of
asked_other w = go (ltb (length w) 2) (eqb (operator_in w) 0) (ltb 6 (operator_in w)) (eqb (length w) (2 + operand_bytes (operator_in w))) (typed_b w)
  where
    go : (none null high size typed : Bool)
        → AskedOther
        (pick none
        (Err InvalidOperator)
        (pick null
        (Err InvalidOperator)
        (pick high
        (Err OperatorNotSupported)
        (pick size
        (pick typed (Ok (filter_at w)) (Err OperandNotSupported))
        (Err InvalidOperand)))))
    go true null high size typed = refl
    go false true high size typed = refl
    go false false true size typed = refl
    go false false false false typed = refl
    go false false false true false = refl
    go false false false true true = refl

abort_other : (w : List ℕ) → Other (abort_of w)
unfolding abort_of code_of
abort_other w = go (ltb (length w) 2) (eqb (operator_in w) 0) (eqb (length w) 2)
  where
    go : (none null size : Bool) → Other (pick none (Err InvalidOperator) (pick null (pick size (Ok Abort) (Err InvalidOperand)) (Err InvalidOperator)))
    go true null size = refl
    go false false size = refl
    go false true false = refl
    go false true true = refl

report_other : (a : Result Filter Code) → AskedOther a → Other (report_for a)
report_other (Ok f) h = h
report_other (Err k) h = h

number_other : (a : Result Filter Code) → AskedOther a → Other (number_for a)
number_other (Ok f) h = h
number_other (Err k) h = h

request_other : (w : List ℕ) → Other (request_of w)
unfolding request_of code_of
request_other w = go (eqb (opcode_in w) report_opcode) (eqb (opcode_in w) abort_opcode) (eqb (opcode_in w) number_opcode) (eqb (opcode_in w) combined_opcode)
  where
    go : (r a n m : Bool)
        → Other
        (pick r
        (report_for (asked_of w))
        (pick a
        (abort_of w)
        (pick n (number_for (asked_of w)) (pick m (report_for (asked_of w)) (Err OpcodeNotSupported)))))
    go true a n m = report_other (asked_of w) (asked_other w)
    go false true n m = abort_other w
    go false false true m = number_other (asked_of w) (asked_other w)
    go false false false true = report_other (asked_of w) (asked_other w)
    go false false false false = refl

-- 06 00, an opcode, 06 exactly for a report of which nothing matches
report_found : (c d : Clock) (t o : List ℕ) (opcode : ℕ) (none : Bool)
    → nothing_found_b (pick none (answered c t (code_bytes opcode NoRecordsFound) o) (answered d t [] o)) ≡ none
unfolding answered code_bytes over code_of
report_found c d t o opcode true = refl
report_found c d t o opcode false = refl

abort_found : (c : Clock) (t o : List ℕ) (r : Option Report) → nothing_found_b (answered_with t o (aborted_of c r)) ≡ false
unfolding answered aborted_of accessed code_bytes over code_of
abort_found c t o None = refl
abort_found c t o (Some r) = refl

found : (c : Clock) (t o : List ℕ) (opcode : ℕ) (r : Result Request Code) → Other r → nothing_found_b (answered_with t o (accessed_of c t opcode r)) ≡ nothing_b t r
unfolding answered accessed_of accessed code_bytes count_bytes over
found c t o opcode (Ok (ReportOf f)) h = ap nothing_found_b (asked_report c t o opcode f) ∙ report_found c _ t o opcode (none_b (matching f t))
found c t o opcode (Ok (Number f)) h = refl
found c t o opcode (Ok Abort) h = abort_found c t o c.running
found c t o opcode (Err k) h = h

pub accepted_when_matching : AcceptedWhenMatching access_of
accepted_when_matching =
    record {
      report = λ c t w o f h e. asks c t w o (Ok (ReportOf f)) h e ∙ asked_report c t o (opcode_in w) f;
      no_other = λ c t w o h. ap nothing_found_b (access_done_lem c t w o h) ∙ found c t o (opcode_in w) (request_of w) (request_other w);
    }

counted : (c : Clock) (t o : List ℕ) (opcode : ℕ) (f : Filter)
    → answered_with t o (accessed_of c t opcode (Ok (Number f))) ≡ answered c t (count_bytes number_response (length (matching f t))) o
unfolding accessed_of accessed count_bytes
counted c t o opcode f = refl

pub number_counts : NumberCounts access_of
number_counts c t w o f h e = asks c t w o (Ok (Number f)) h e ∙ counted c t o (opcode_in w) f
