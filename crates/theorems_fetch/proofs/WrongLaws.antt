-- Where a record's bit differs from what is true of it after a fair history, the theorem fails: with too many new records, and by each wrong way.
-- Assumes nothing.
use mathlib.Core.Path.{◌≡◌, refl, ◌∙◌, sym}
use mathlib.Core.Bool.{Bool, true, false, not}
use mathlib.Core.List.{List, [], ◌∷◌}
use Prim.Native.Nat.{ℕ}
use native.Mathlib.Omega.{arith}
use Rattle.octets.proofs.Tests.{clash}
use Rattle.theorems_fetch.specs.History.{range, Step, telling, taking, Tell, Take, tell, take, propose, last_of, held_b, kept_b, presumed, Fair, KeptBelow}
use Rattle.theorems_fetch.specs.Cases.{received_after, answers_after, told_first}
use Rattle.theorems_fetch.specs.Limit.{Limit}
use Rattle.theorems_fetch.specs.Wrong as wrong
use Rattle.theorems_fetch.specs.Wrong.{ShutOut}
use Rattle.theorems_fetch.proofs.RangeLaws.{held_reads}
use Rattle.theorems_fetch.proofs.HistoryLaws.{kept_below}

not_itself : (b : Bool) → not b ≡ b → ⊥
not_itself true e = clash false e refl
not_itself false e = clash true refl e

shut : (n : ℕ) (t : Tell) (u : Take) (l : List Step) (k : ℕ) → Fair n l → held_b (last_of l) k ≡ true
    → received_after t u l k ≡ not (kept_b l k) → KeptBelow n t u propose → ⊥
unfolding received_after
shut n t u l k fair held differs theorem = not_itself (kept_b l k) (sym differs ∙ (theorem l fair).bit k held)

-- Record 0 is taken in; 64,514 records later the table holds the records 64,514 to 65,536, and the newest has the number 0 again.
abbrev again : List Step
again = telling (range 0 1023) ∷ taking 0 ∷ telling (range 64514 1023) ∷ []

pub limit : Limit
unfolding received_after
limit = record {
  holds = kept_below 64514 (omega arith);
  fails = shut 64515 tell take again 65536 (omega arith) refl refl;
}

-- the same with few records at a time
abbrev evenings : List Step
evenings = telling (range 0 1) ∷ taking 0 ∷ telling (range 63000 1) ∷ telling (range 65536 1) ∷ []

-- nothing new came
abbrev same_evening : List Step
same_evening = telling (range 0 1) ∷ taking 0 ∷ telling (range 0 1) ∷ []

-- a record with a number of the last word is overwritten, and its number comes round again
abbrev last_word : List Step
last_word = telling (range 65535 1) ∷ taking 65535 ∷ telling (range 65536 1) ∷ telling (range 129000 1) ∷ telling (range 131071 1) ∷ []

-- a record comes in before the tool is told of it
abbrev too_soon : List Step
too_soon = telling (range 0 1) ∷ taking 1 ∷ telling (range 0 2) ∷ []

-- Records 65,534 to 65,537 are told, and all are missing: where the run is cut at 65,535, record 65,536 comes after it, and is not kept.
cut_short : KeptBelow presumed tell take wrong.cutting → ⊥
unfolding answers_after
cut_short theorem =
    let run = (theorem told_first (omega arith)).run 65534 65535 refl in
    let inside = held_reads (range 65534 4) run.last run.last_held in
    let last : run.last ≡ 65535 = omega (arith, run.to) in
    clash false (run.ends (rw last refl)) refl

pub shut_out : ShutOut
unfolding received_after
shut_out = record {
  keeping = shut presumed wrong.keeping take evenings 65536 (omega arith) refl refl;
  forgetting = shut presumed wrong.forgetting take same_evening 0 (omega arith) refl refl;
  but_the_last = shut presumed wrong.but_the_last take last_word 131071 (omega arith) refl refl;
  anywhere = shut presumed tell wrong.anywhere too_soon 1 (omega arith) refl refl;
  cutting = cut_short;
}
