-- After k words the search has gone on by as many, and the rest leads to the same end. Where nothing is left, it has come to it.
use Prim.Native.Nat.{◌<◌, ◌+◌, ◌%◌}
use mathlib.Core.Path.{◌≡◌, refl, sym, ◌∙◌}
use Rattle.fetch_propose.specs.Search.{left_of}
use Rattle.fetch_propose.proofs.SearchLaws.{none_searched, word_less, word_same, went_round}
use native.Mathlib.Omega.{arith}
use Rattle.std.proofs.Common.{rules}
use Rattle.fetch_propose.proofs.propose.Search.look_round.Goals as goal

pub loop-k-init : goal.loop-k-init
loop-k-init c = (refl, search rules, search rules, search rules, refl)

pub returns-then-left-eq0 : goal.returns-then-left-eq0
returns-then-left-eq0 c =
    let a = c.args in
    let l = c.loop-k in
    let s = l.search in
    let none : left_of s.seen s.size ≡ 0 = sym c.left.ensures ∙ omega arith in
    let same = none_searched a.words.now a.word s.seen s.size none
    ∙ sym (none_searched a.words.now ((a.word + l.k) % 1024) s.seen s.size none)
    ∙ l.invariant.4 in
    record {
      seen = went_round a.words.now a.word a.self.size a.self.seen s.seen s.size l.invariant.0 s.within (omega arith) same;
      size = l.invariant.0;
    }

pub loop-k-preserved : goal.loop-k-preserved
loop-k-preserved c =
    let l = c.loop-k in
    let a = c.args in
    let s = l.search in
    let w = (a.word + l.k) % 1024 in
    let hw : w < 1024 = omega arith in
    let next : (w + 1) % 1024 ≡ (a.word + (l.k + 1)) % 1024 = omega arith in
    let on = c.look_on-search.ensures in (
      on.size ∙ l.invariant.0,
      search rules,
      search rules,
      rw (on.seen, on.size) (omega (arith, word_less a.words.now s.size s.seen s.within w hw, l.invariant.3)),
      rw (on.seen, on.size, ← next) (sym (word_same a.words.now s.size s.seen s.within w hw) ∙ l.invariant.4),
    )

pub returns : goal.returns
returns c =
    let l = c.loop-k in
    let a = c.args in
    let s = l.search in
    let e : (a.word + l.k) % 1024 ≡ a.word = omega arith in
    record {
      seen = went_round a.words.now a.word a.self.size a.self.seen s.seen s.size l.invariant.0 s.within (omega arith) (rw e at l.invariant.4);
      size = l.invariant.0;
    }
