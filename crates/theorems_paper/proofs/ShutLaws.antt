-- Bytes that are bytes, bytes that differ, and a call that answers where no row fails and else refuses.
-- Assumes nothing.
use mathlib.Core.Path.{◌≡◌, refl, sym, ◌∙◌, ap}
use mathlib.Core.Bool.{Bool, true, false}
use mathlib.Core.List.{List}
use Prim.Native.Nat.{ℕ}
use borrow.Author.Tests.{eq-eqb}
use lib.Dec.{eqb}
use Rattle.octets.specs.Choice.{pick}
use Rattle.octets.specs.Numbers.{at}
use Rattle.octets.proofs.Tests.{clash}
use Rattle.clock.specs.Answers.{number_of, Answer}
use Rattle.clock.specs.declared.state.Clock.{Clock}
use Rattle.rows.specs.Reply.{done_b, refused, answered}
use Rattle.std.proofs.Common.{Ok}

-- two byte strings with another byte at i
pub differ : (i : ℕ) {x y : List ℕ} → x ≡ y → eqb (at x i) (at y i) ≡ false → ⊥
differ i {x} {y} e h = clash (eqb (at x i) (at y i)) (eq-eqb (at x i) (at y i) (ap (λ (l : List ℕ). at l i) e)) h

done_done : done_b (Ok tt) ≡ true
unfolding done_b number_of
done_done = refl

pub done_is : (a : Answer) (after c : Clock) (s r t o : List ℕ)
    → done_b (pick (done_b a) (answered after s r o) (refused a c t o)).reply.answer ≡ done_b a
unfolding answered
done_is a after c s r t o = go (done_b a) refl
  where
    go : (b : Bool) → done_b a ≡ b → done_b (pick b (answered after s r o) (refused a c t o)).reply.answer ≡ done_b a
    go true e = done_done ∙ sym e
    go false e = refl
