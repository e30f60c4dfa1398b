-- All 64, or 2 ^ k less 1.
use mathlib.Core.Path.{◌≡◌, ap}
use Prim.Native.Nat.{ℕ, ◌^◌}
use lib.Pow.{pow_pos}
use Rattle.fetch_word.proofs.BitLaws.{word_below, single_shift}
use native.Mathlib.Omega.{arith}
use Rattle.fetch_word.proofs.word.below.Goals as goal

pub returns-then-k-eq64 : goal.returns-then-k-eq64
returns-then-k-eq64 c =
    let k = c.args.k in
    let is : k ≡ 64 = omega arith in
    let e : 2 ^ k ≡ 2 ^ 64 = ap (λ (n : ℕ). 2 ^ n) is in
    omega (arith, word_below k (omega arith))

pub overflow_sub-result : goal.overflow_sub-result
overflow_sub-result c = let k = c.args.k in omega (arith, single_shift k (omega arith), pow_pos k)

pub returns : goal.returns
returns c = let k = c.args.k in omega (arith, single_shift k (omega arith), word_below k (omega arith))
