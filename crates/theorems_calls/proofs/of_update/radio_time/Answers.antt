-- What follows from the grade where the source stops it: the laws of the grade, and each grade computed.
use mathlib.Core.Path.{◌≡◌, refl, sym}
use mathlib.Core.Bool.{Bool, true, false}
use Prim.Native.Nat.{ℕ, ◌<◌, ◌≤◌}
use lib.Dec.{eqb}
use native.Mathlib.Omega.{arith}
use borrow.Author.Tests.{lt-ltb, eqb-true, eqb-false}
use Rattle.octets.specs.Choice.{pick}
use Rattle.rules.specs.Fields.{aligned_bit, qualified_bit}
use Rattle.clock.specs.declared.state.Clock.{Clock}
use Rattle.update_judge.specs.Proposal.{utc_flag}
use Rattle.update_judge.specs.Grades.{clock_grade, stops_at_two, grade_of}
use Rattle.update_judge.specs.Grounds.{flag_if, lower_b}
use Rattle.update_judge.specs.declared.proposal.Proposal.{Proposal}
use Rattle.update_judge.proofs.GradeLaws.{grade_stops, grade_goes_on, grade_by_flag}
use Rattle.update_decide.specs.Accept.{aligned_b, status_after, aligned_after, accepted_of, update_record}
use Rattle.theorems_calls.specs.OfUpdate.{status_in}
use Rattle.theorems_calls.proofs.of_update.radio_time.Goals as goal

at_most_two : (p : Proposal) → stops_at_two p.source ≡ true → grade_of p ≤ 2
at_most_two p h = rw (grade_stops p h) (go (eqb (utc_flag p.flags) 1))
  where
    go : (utc : Bool) → pick utc 2 1 ≤ 2
    go true = omega arith
    go false = omega arith

unqualified : (c : Clock) (p : Proposal) → stops_at_two p.source ≡ true → qualified_bit (accepted_of c p).time.status ≡ 0
unfolding accepted_of status_after flag_if
unqualified c p h = rw (grade_stops p h) (go (eqb (utc_flag p.flags) 1))
  where
    go : (utc : Bool) → qualified_bit (status_after (pick utc 2 1)) ≡ 0
    go true = refl
    go false = refl

-- a flag that is 1 or 0, and what a grade by it gives
bit : (utc known : Bool) (u : ℕ) → u < 2 → eqb u 1 ≡ utc → aligned_bit (status_after (pick utc (pick known 3 2) 1)) ≡ u
unfolding status_after flag_if
bit true true u l e = sym (eqb-true u 1 e)
bit true false u l e = sym (eqb-true u 1 e)
bit false known u l e = let no = eqb-false u 1 e in omega arith

two_or_three : (utc known : Bool) → aligned_b (pick utc (pick known 3 2) 1) ≡ utc
two_or_three true true = refl
two_or_three true false = refl
two_or_three false known = refl

aligned : (c : Clock) (p : Proposal) → aligned_bit (accepted_of c p).time.status ≡ utc_flag p.flags
unfolding accepted_of
aligned c p = let g = grade_by_flag p in rw g.1 (bit _ g.0 (utc_flag p.flags) (omega arith) refl)

last : (c : Clock) (p : Proposal) → (accepted_of c p).time.aligned ≡ pick (eqb (utc_flag p.flags) 1) p.base c.time.aligned
unfolding accepted_of aligned_after
last c p = let g = grade_by_flag p in rw (g.1, two_or_three (eqb (utc_flag p.flags) 1) g.0)

pub returns : goal.returns
unfolding lower_b accepted_of update_record status_in
returns c =
    record {
      stops = grade_stops;
      others = grade_goes_on;
      lower = λ t p h three. let most = at_most_two p h in lt-ltb (grade_of p) (clock_grade t.status) (omega arith);
      unqualified = unqualified;
      logged = λ c p number. refl;
      aligned = aligned;
      last = last;
    }
