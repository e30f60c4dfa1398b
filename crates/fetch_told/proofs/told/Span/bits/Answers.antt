-- The numbers up to the newest and those from the oldest on: both, or where the range goes round either.
use Prim.Native.Nat.{ℕ, ◌+◌, ◌-◌, ◌^◌}
use mathlib.Core.Path.{◌≡◌, ap, ap₂, ◌∙◌}
use lib.Bits.{bit_and, bit_or}
use lib.Dec.{ltb}
use Rattle.fetch_word.specs.Bits.{word_of}
use Rattle.fetch_told.proofs.ToldLaws.{lowest, clamped_most, straight_bits, round_bits}
use native.Mathlib.Omega.{arith}
use Rattle.fetch_told.proofs.told.Span.bits.Goals as goal
use Rattle.fetch_told.proofs.told.Span.bits.Goals.{After-below-through}

pub below-before-requires : goal.below-before-requires
below-before-requires c = let a = c.args in rw c.below_in.ensures (clamped_most a.self.first a.start)

pub below-through-requires : goal.below-through-requires
below-through-requires c = let a = c.args in rw c.below_in-2.ensures (clamped_most (a.self.last + 1) a.start)

-- the two words
before_is : (c : After-below-through) → c.below-before.result ≡ lowest c.args.self.first c.args.start
before_is c =
    c.below-before.ensures ∙ ap (λ (n : ℕ). word_of (λ b. ltb b n)) c.below_in.ensures

through_is : (c : After-below-through) → let a = c.args in c.below-through.result ≡ lowest (a.self.last + 1) a.start
through_is c = c.below-through.ensures ∙ ap (λ (n : ℕ). word_of (λ b. ltb b n)) c.below_in-2.ensures

pub returns-then-self : goal.returns-then-self
returns-then-self c =
    let a = c.args in
    ap₂ (λ (x y : ℕ). bit_and x (2 ^ 64 - 1 - y)) (through_is (goal.at.returns-then-self c).After-below-through) (before_is (goal.at.returns-then-self c).After-below-through)
    ∙ straight_bits a.self.first a.self.last a.start (omega arith) (omega arith) (omega arith) (omega arith)

pub returns : goal.returns
returns c =
    let a = c.args in
    ap₂ (λ (x y : ℕ). bit_or x (2 ^ 64 - 1 - y)) (through_is (goal.at.returns c).After-below-through) (before_is (goal.at.returns c).After-below-through)
    ∙ round_bits a.self.first a.self.last a.start (omega arith) (omega arith) (omega arith) (omega arith)
