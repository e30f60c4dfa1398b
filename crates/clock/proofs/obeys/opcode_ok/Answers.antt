-- `opcode_ok` is `opcode_b`: in the arm of the two values each computes, in the other neither is equal.
use mathlib.Core.Logic.{⊎_elim, inl, inr}
use borrow.Author.Tests.{ne_eqb}
use Rattle.clock.specs.Obeys.{opcode_b}
use Rattle.clock.proofs.obeys.opcode_ok.Goals as goal

pub returns-in-1 : goal.returns-in-1
unfolding opcode_b
returns-in-1 c = ⊎_elim (λ e. rw e) (λ e. rw e) c.in-1.is

pub returns-in_default : goal.returns-in_default
unfolding opcode_b
returns-in_default c = let no = c.in_default.in_default-own.rest.1 in simp (ne_eqb _ _ (λ e. no (inl e)), ne_eqb _ _ (λ e. no (inr e)))
