-- What is promised of joining beyond its own equation, by the three answers of `Joins`.
-- Assumes nothing.
use mathlib.Core.Path.{◌≡◌, refl, ◌∙◌}
use mathlib.Core.Bool.{true}
use mathlib.Core.List.{List, [], ◌++◌}
use Prim.Native.Nat.{ℕ}
use native.Mathlib.Omega.{arith}
use lib.ListN.{length}
use Rattle.octets.specs.Choice.{pick}
use Rattle.octets.proofs.Tests.{false_by, clash}
use Rattle.record.specs.Fields.{most_bytes}
use Rattle.joining.specs.Joining.{inside, whole, empty_joining, ranges_b, inside_b, body, takes_b, joining_number, joined_in, Takes}
use Rattle.theorems_calls.specs.OfTablet.{RefusedEmpties, RefusedAt, Refuses, KeepsRanges, BuildsUp}
use Rattle.joining.specs.declared.joining.Answer.TheVariants.{Refused}
use Rattle.joining.specs.declared.joining.Joining.{Joining}
use Rattle.joining.specs.declared.joining.Joined.{Joined}
use Rattle.joining.proofs.JoiningLaws.{ranges_makes, empty_ranges, empty_bytes, takes_reads, takes_makes, Joins, refuses, goes_on, ends, join_is, join_refused, record_after, bytes_after, ranges_after}

numbered : {j : Joining} {n : List ℕ} {r : Joined} → Joins j n r → joining_number r.answer ≡ pick (takes_b j n) 0 10
numbered (refuses h) = rw h
numbered {j} {n} (goes_on t l) = rw (takes_makes j n t)
numbered {j} {n} (ends t l) = rw (takes_makes j n t)

emptied : {j : Joining} {n : List ℕ} {r : Joined} → Joins j n r → r.answer ≡ Refused → r.joining ≡ empty_joining
emptied (refuses h) e = refl
emptied (goes_on t l) e = let z : ◌≡◌ {A = ℕ} 0 1 = cc in absurd (omega arith)
emptied (ends t l) e = let z : ◌≡◌ {A = ℕ} 0 1 = cc in absurd (omega arith)

pub refused_empties : RefusedEmpties
refused_empties = record { number = λ j n. numbered (join_is j n); empties = λ j n. emptied (join_is j n) }

-- a fact of a notification that is taken does not hold of it
unless : (j : Joining) (n : List ℕ) → (Takes j n → ⊥) → RefusedAt j n
unless j n off = join_refused j n (false_by (takes_b j n) (λ h. off (takes_reads j n h)))

pub all_refused : Refuses
all_refused =
    record {
      no_bytes = λ j n e. unless j n (λ t. omega arith);
      no_body = λ j n e. unless j n (λ t. omega arith);
      counter = λ j n begun ne. unless j n (λ t. ne (t.follows begun));
      first_inside = λ j n e first. unless j n (λ t. omega (arith, t.later e));
      first_missing = λ j n out later. unless j n (λ t. omega (arith, t.first out));
      too_long = λ j n h. unless j n (λ t. omega arith);
      ranges = λ j n h. unless j n (λ t. clash (ranges_b j) (ranges_makes j t.ranges) h);
      nothing_else = λ j n t. numbered (join_is j n) ∙ rw (takes_makes j n t);
    }

in_ranges : {j : Joining} {n : List ℕ} {r : Joined} → Joins j n r → ranges_b r.joining ≡ true
in_ranges (refuses h) = empty_ranges
in_ranges {j} {n} (goes_on t l) = ranges_makes _ (ranges_after inside j n t (omega arith) (λ e. omega arith))
in_ranges {j} {n} (ends t l) = ranges_makes _ (ranges_after whole j n t (omega arith) (λ e. omega arith))

in_bytes : {j : Joining} {n : List ℕ} {r : Joined} → Joins j n r → length j.bytes ≡ most_bytes → length r.joining.bytes ≡ most_bytes
in_bytes (refuses h) e = empty_bytes
in_bytes {j} {n} (goes_on t l) e = bytes_after inside j n t e
in_bytes {j} {n} (ends t l) e = bytes_after whole j n t e

pub keeps_ranges : KeepsRanges
keeps_ranges = record { restart = empty_ranges; join = λ j n. in_ranges (join_is j n); bytes = λ j n. in_bytes (join_is j n) }

built : {j : Joining} {n : List ℕ} {r : Joined} → Joins j n r → length j.bytes ≡ most_bytes → Takes j n
    → joined_in r.joining ≡ pick (inside_b j) (joined_in j) [] ++ body n
built {j} {n} (refuses h) e t = absurd (clash (takes_b j n) (takes_makes j n t) h)
built {j} {n} (goes_on t l) e _ = record_after inside j n t e
built {j} {n} (ends t l) e _ = record_after whole j n t e

pub builds_up : BuildsUp
builds_up j n e t = built (join_is j n) e t
