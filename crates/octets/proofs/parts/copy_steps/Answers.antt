-- The first k bytes are the source's at each turn, and the last as many as `by` has complete them.
use mathlib.Core.Path.{◌≡◌, refl, ap, ◌∙◌}
use mathlib.Core.List.{List}
use Prim.Native.Nat.{ℕ, ◌+◌, ◌-◌, ◌≤◌}
use lib.ListN.{length, take}
use Rattle.octets.specs.Parts.{part, over}
use Rattle.octets.proofs.PartLaws.{length_copied, copied_on, copied_all}
use native.Mathlib.Omega.{arith}
use Rattle.std.proofs.Common.{rules}
use Rattle.octets.proofs.parts.copy_steps.Goals as goal
use Rattle.octets.proofs.parts.copy_steps.Goals.{else-loop-k-test, then-loop-k-test+else-step-last}

pub loop-k-init : goal.loop-k-init
loop-k-init c = (search rules, search rules, refl, refl)

pub loop-k-preserved : goal.loop-k-preserved
loop-k-preserved c =
    let l = c.loop-k in
    let a = c.args in
    let copied = c.copy_by.ensures ∙ ap (λ (n : ℕ). over l.to l.k (part a.from.now l.k n)) l.invariant.2 in (
      search rules,
      ap length copied ∙ length_copied l.to a.from.now l.invariant.1 l.k (length a.by.now) (search rules),
      search rules,
      ap (λ (x : List ℕ). take (l.k + length a.by.now) x) copied
          ∙ copied_on l.to a.from.now l.invariant.1 l.k (length a.by.now) (search rules) l.invariant.3,
    )

-- the last as many as `b` has, where those up to them are copied
closing : (t f b : List ℕ) (n : ℕ) → length t ≡ length f → length b ≡ n → n ≤ length f → (k : ℕ) → length f - n ≤ k → take k t ≡ take k f
    → over t (length f - n) (part f (length f - n) (length b)) ≡ f
closing t f b n same e h k p so_far =
    ap (λ (m : ℕ). over t (length f - n) (part f (length f - n) m)) e
    ∙ copied_all t f same (length f - n) n (omega arith) (omega arith) k p so_far

pub returns : goal.returns
returns c =
    let l = c.loop-k in
    let a = c.args in
    let n = length a.by.now in
    c.copy_by-2.ensures
    ∙ (elim c.loop-k-test.branch [
      | else-loop-k-test w ↦ closing c.loop-k-test.to a.from.now c.loop-k-test.by n (search rules) (search rules) (search rules) l.k w.loop-k-test.false (ap (λ (x : List ℕ). take l.k x) w.to-is ∙ l.invariant.3)
      | then-loop-k-test+else-step-last w ↦
          let copied = w.to-is ∙ w.copy_by.ensures ∙ ap (λ (m : ℕ). over l.to l.k (part a.from.now l.k m)) l.invariant.2 in
          closing c.loop-k-test.to a.from.now c.loop-k-test.by n (search rules) (search rules) (search rules) (l.k + n) (omega arith)
          (ap (λ (x : List ℕ). take (l.k + n) x) copied ∙ copied_on l.to a.from.now l.invariant.1 l.k n (search rules) l.invariant.3)
    ])
