-- The first word, the others, the rest of the first: all numbers of the range, in their order.
use Prim.Native.Nat.{ℕ, ◌/◌, ◌%◌, ◌-◌, ◌^◌, ◌≤◌, ◌<◌, min}
use mathlib.Core.Path.{◌≡◌, refl, ap, ◌∙◌}
use mathlib.Core.List.{List}
use Rattle.octets.specs.Numbers.{at}
use Rattle.fetch_word.specs.Bits.{bit_b, row}
use Rattle.fetch_word.specs.Run.{look_all, unseen}
use Rattle.fetch_word.specs.declared.run.Run.{Run}
use Rattle.fetch_propose.specs.Search.{left_of}
use Rattle.fetch_propose.proofs.SearchLaws.{begun, begun_within, begun_left, all_looked}
use native.Mathlib.Omega.{arith}
use Rattle.fetch_propose.proofs.propose.look_through.Goals as goal

pub look-seen-requires : goal.look-seen-requires
look-seen-requires c = (omega (arith, c.min.ensures), refl, omega (arith, c.min.ensures))

-- the first word was looked at
begun_is : (m : List ℕ) (oldest size : ℕ) (ho : oldest < 65536) (some : 1 ≤ size) (most : size ≤ 65536) (n : ℕ) (s : Run)
    → s ≡ look_all unseen (row (bit_b (at m (oldest / 64) / 2 ^ (oldest % 64))) n) → n ≡ min size (64 - oldest % 64)
    → s ≡ begun m oldest size ho some most
begun_is m oldest size ho some most n s e f = e ∙ ap (λ (k : ℕ). look_all unseen (row (bit_b (at m (oldest / 64) / 2 ^ (oldest % 64))) k)) f

pub invariant_of-begun : goal.invariant_of-begun
invariant_of-begun c =
    let a = c.args in
    let m = a.words.now in
    let is = begun_is m a.oldest a.size (omega arith) c.requires.0 c.requires.1 _ _ c.look-seen.ensures c.min.ensures in
    record { most = c.requires.1; within = rw is (begun_within m a.oldest a.size (omega arith) c.requires.0 c.requires.1) }

pub look_round-requires : goal.look_round-requires
look_round-requires c =
    let a = c.args in
    let m = a.words.now in
    let is = begun_is m a.oldest a.size (omega arith) c.requires.0 c.requires.1 _ _ c.look-seen.ensures c.min.ensures in
    (omega arith, rw is (begun_left m a.oldest a.size (omega arith) c.requires.0 c.requires.1))

pub returns : goal.returns
returns c =
    let a = c.args in
    let m = a.words.now in
    let is = begun_is m a.oldest a.size (omega arith) c.requires.0 c.requires.1 _ _ c.look-seen.ensures c.min.ensures in
    let r = c.look_round.result.seen in
    c.look_on.ensures.seen
    ∙ ap (λ (n : ℕ). look_all r (row (bit_b (at m (a.oldest / 64))) (min (left_of r n) 64))) c.look_round.ensures.size
    ∙ all_looked m a.oldest a.size (omega arith) c.requires.0 c.requires.1 r (rw is at c.look_round.ensures.seen)
