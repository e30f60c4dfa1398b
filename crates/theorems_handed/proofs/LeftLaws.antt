-- Among quiet calls the course of a report closes where what is heard of it does.
-- Assumes nothing.
use mathlib.Core.Path.{◌≡◌, refl, sym, ◌∙◌}
use mathlib.Core.Bool.{Bool, true, false, not}
use mathlib.Core.List.{List, [], ◌∷◌, map}
use Prim.Native.Nat.{ℕ, ◌+◌, ◌<◌}
use native.Mathlib.Omega.{arith}
use lib.ListN.{length}
use Rattle.octets.specs.Choice.{both, either, pick}
use Rattle.octets.specs.Parts.{Bytes}
use Rattle.octets.proofs.Tests.{clash, both_reads}
use Rattle.filter.specs.declared.filter.Filter.{Filter}
use Rattle.table_look.specs.Matching.{matching}
use Rattle.rows.specs.Reply.{done_b}
use Rattle.racp_notify.specs.Notify.{bit}
use Rattle.theorems_reports.specs.World.{World, Call, step_of}
use Rattle.theorems_reports.specs.Endings.{Ending, ongoing, closed, ending_by, ended_b}
use Rattle.theorems_reports.specs.Hearing.{Heard, nothing, segment, closing, heard_of, hearing_by, hearing_of, calm_b}
use Rattle.theorems_reports.specs.Reports.{asking_b, segments}
use Rattle.theorems_reports.specs.Closing.{answer_of, quiet_b, all_quiet_b, size_in, unless_closing, asked_in}
use Rattle.theorems_reports.proofs.ReportLaws.{quiet_calls, closing_report}
use Rattle.theorems_handed.specs.Server.{call, right, after_of, answer_to, heard_to, Accepts, begins}
use Rattle.theorems_handed.specs.Left.{quiet_by, until_closing, asked_by, LeftToFinish}
use Rattle.theorems_handed.proofs.HandLaws.{course_of, course_goes, course_segment, course_closes, is_accepted, begins_is}

heard_closed : (v : World) (ks : List Call) → all_quiet_b v ks ≡ true → (hearing_of v ks).closed ≡ true → (course_of v (map call ks)).ending ≡ closed
unfolding hearing_by all_quiet_b
heard_closed v [] h c = absurd (clash false c refl)
heard_closed v (a ∷ ks) h c =
    let z = both_reads (quiet_b v a) (all_quiet_b (step_of v a) ks) h in
    go z.0 (λ x. heard_closed (step_of v a) ks z.1 x) (heard_of v a) refl
  where
    go : quiet_b v a ≡ true → ((hearing_of (step_of v a) ks).closed ≡ true → (course_of (step_of v a) (map call ks)).ending ≡ closed)
        → (x : Heard) → heard_of v a ≡ x → (course_of v (map call (a ∷ ks))).ending ≡ closed
    go q later nothing x = rw (course_goes v (step_of v a) a (map call ks) x q refl) (later (rw x at c))
    go q later (segment b) x = rw (course_segment v (step_of v a) a (map call ks) b x q refl) (later (rw x at c))
    go q later (closing b) x = rw (course_closes v (step_of v a) a (map call ks) b x)

pub finishes : (v : World) (w o : List ℕ) (f : Filter) (ks : List Call) → Bytes v.table → Accepts right v w o f
    → all_quiet_b (begins right v w o) ks ≡ true → segments 19 (matching f v.table) < length (asked_in (begins right v w o) ks)
    → (course_of (begins right v w o) (map call ks)).ending ≡ closed
finishes v w o f ks hb a q n =
    let x = is_accepted v w o f a in
    let u = quiet_calls v w o f ks hb x (rw (begins_is v w o) at q) in
    let z = closing_report v w o f ks hb x u in
    rw (begins_is v w o) (heard_closed _ ks (rw (begins_is v w o) at q) (z.latest (rw z.answered (rw (begins_is v w o) at n))))

-- quiet and asked, of the right server, are what the theorems about reports call so
quiet_same : (d b : Bool) → either (not b) (not d) ≡ not (both d b)
quiet_same true true = refl
quiet_same true false = refl
quiet_same false true = refl
quiet_same false false = refl

ended_same : (d : Bool) (e : Ending) → ended_b (pick d e ongoing) ≡ both d (ended_b e)
ended_same true e = refl
ended_same false e = refl

quiet_is : (ks : List Call) (v : World) → quiet_by right v ks ≡ all_quiet_b v ks
unfolding quiet_by all_quiet_b after_of answer_to calm_b
quiet_is [] v = refl
quiet_is (k ∷ ks) v =
    rw (ended_same (done_b (answer_of v k)) (ending_by k), ← quiet_same (done_b (answer_of v k)) (ended_b (ending_by k)), quiet_is ks (step_of v k))

asked_is : (ks : List Call) (v : World) → asked_by right v ks ≡ length (asked_in v ks)
unfolding asked_by asked_in after_of heard_to
asked_is [] v = refl
asked_is (k ∷ ks) v = go (asked_is ks (step_of v k)) (heard_of v k) (asking_b k)
  where
    go : asked_by right (step_of v k) ks ≡ length (asked_in (step_of v k) ks) → (x : Heard) (b : Bool)
        → bit b + until_closing x (asked_by right (step_of v k) ks)
        ≡ length (pick b (size_in k ∷ unless_closing x (asked_in (step_of v k) ks)) (unless_closing x (asked_in (step_of v k) ks)))
    go e nothing true = omega (arith, e)
    go e nothing false = omega (arith, e)
    go e (segment n) true = omega (arith, e)
    go e (segment n) false = omega (arith, e)
    go e (closing n) true = refl
    go e (closing n) false = refl

pub left_to_finish : LeftToFinish right
left_to_finish v w o f ks hb a q n =
    finishes v w o f ks hb a (sym (quiet_is ks (begins right v w o)) ∙ q) (rw (asked_is ks (begins right v w o)) at n)
