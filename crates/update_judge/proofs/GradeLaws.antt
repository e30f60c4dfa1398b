-- A proposal's grade is 1, 2 or 3; with its UTC flag it is 2 where its source stops there, and by its place where it doesn't.
-- Assumes nothing.
use mathlib.Core.Path.{◌≡◌, refl}
use mathlib.Core.Bool.{Bool, true, false, not}
use Prim.Native.Nat.{ℕ}
use lib.Dec.{eqb}
use Rattle.octets.specs.Choice.{both, pick}
use Rattle.update_judge.specs.Proposal.{utc_flag}
use Rattle.update_judge.specs.Grades.{local_b, stops_at_two, grade_of}
use Rattle.update_judge.specs.declared.proposal.Proposal.{Proposal}

-- the three grades of a proposal
pub data Grade : ℕ → Type 0 where
  local_only : Grade 1
  aligned : Grade 2
  qualified : Grade 3

-- with the UTC flag 3 or 2, by what else is known; without it 1
pub grade_by_flag : (p : Proposal) → (known : Bool) × (grade_of p ≡ pick (eqb (utc_flag p.flags) 1) (pick known 3 2) 1)
unfolding grade_of
grade_by_flag p = (both (local_b p) (not (stops_at_two p.source)), refl)

pub grade_is : (p : Proposal) → Grade (grade_of p)
grade_is p = let g = grade_by_flag p in rw g.1 (go (eqb (utc_flag p.flags) 1) g.0)
  where
    go : (utc known : Bool) → Grade (pick utc (pick known 3 2) 1)
    go true true = qualified
    go true false = aligned
    go false known = local_only

-- neither 3 nor 2: 1
pub grade_one : {g : ℕ} → Grade g → (g ≡ 3 → ⊥) → (g ≡ 2 → ⊥) → g ≡ 1
grade_one local_only no3 no2 = refl
grade_one aligned no3 no2 = absurd (no2 refl)
grade_one qualified no3 no2 = absurd (no3 refl)

-- the source's part of the test for 3: it decides alone, or leaves the rest to decide
not_both : (known : Bool) → both known false ≡ false
not_both true = refl
not_both false = refl

the_other : (known : Bool) → both known true ≡ known
the_other true = refl
the_other false = refl

pub grade_stops : (p : Proposal) → stops_at_two p.source ≡ true → grade_of p ≡ pick (eqb (utc_flag p.flags) 1) 2 1
unfolding grade_of
grade_stops p h = simp (h, not_both (local_b p))

pub grade_goes_on : (p : Proposal) → stops_at_two p.source ≡ false
    → grade_of p ≡ pick (eqb (utc_flag p.flags) 1) (pick (local_b p) 3 2) 1
unfolding grade_of
grade_goes_on p h = simp (h, the_other (local_b p))
