-- An or with the one bit.
use mathlib.Core.Path.{ap, ◌∙◌}
use Prim.Native.Nat.{ℕ}
use lib.Bits.{bit_or}
use Rattle.fetch_word.proofs.BitLaws.{single_shift, with_bit_is}
use native.Mathlib.Omega.{arith}
use Rattle.fetch_word.proofs.word.with_bit.Goals as goal

pub returns : goal.returns
returns c =
    let a = c.args in
    ap (λ (y : ℕ). bit_or a.x y) (single_shift a.b (omega arith)) ∙ with_bit_is a.x a.b (omega arith) (omega arith)
