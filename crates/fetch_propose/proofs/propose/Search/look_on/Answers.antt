-- As many bits as are left; where none are, nothing changes.
use Prim.Native.Nat.{ℕ, min}
use mathlib.Core.Path.{refl, sym, ap, ◌∙◌}
use mathlib.Core.List.{[]}
use Rattle.fetch_word.specs.Bits.{bit_b, row}
use Rattle.fetch_word.specs.Run.{look_all}
use Rattle.fetch_word.proofs.BitLaws.{row_length}
use Rattle.fetch_propose.specs.Search.{left_of}
use Rattle.fetch_propose.proofs.SearchLaws.{left_within, left_some, look_none, within_on}
use native.Mathlib.Omega.{arith}
use Rattle.fetch_propose.proofs.propose.Search.look_on.Goals as goal

pub returns-then-n-eq0 : goal.returns-then-n-eq0
returns-then-n-eq0 c =
    let s = c.args.self in
    let n = c.min-n.ensures ∙ ap (λ (k : ℕ). min k 64) c.left.ensures in
    record { seen = look_none s.seen c.args.x (min (left_of s.seen s.size) 64) (sym n ∙ omega arith); size = refl }

pub look-seen-requires : goal.look-seen-requires
look-seen-requires c =
    let s = c.args.self in
    let n = c.min-n.ensures ∙ ap (λ (k : ℕ). min k 64) c.left.ensures in (
      omega (arith, n),
      left_some s.seen s.size (omega (arith, n)),
      omega (arith, n, left_within s.seen s.size s.within, s.most),
    )

pub invariant_of-result : goal.invariant_of-result
invariant_of-result c =
    let s = c.args.self in
    let n = c.min-n.ensures ∙ ap (λ (k : ℕ). min k 64) c.left.ensures in
    let l = row (bit_b c.args.x) c.min-n.result in
    record {
      most = s.most;
      within = rw c.look-seen.ensures (within_on [] s.size s.seen s.within l (omega (arith, n, row_length (bit_b c.args.x) c.min-n.result)));
    }

pub returns-clause-seen : goal.returns-clause-seen
returns-clause-seen c =
    let n = c.min-n.ensures ∙ ap (λ (k : ℕ). min k 64) c.left.ensures in
    c.look-seen.ensures ∙ ap (λ (n : ℕ). look_all c.args.self.seen (row (bit_b c.args.x) n)) n
