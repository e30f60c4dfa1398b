-- What is left to ask for gives what all the askings give.
use Prim.Native.Nat.{ℕ, ◌+◌, ◌-◌}
use mathlib.Core.Path.{◌≡◌, sym, ap, ◌∙◌}
use Rattle.day_evening.specs.Fetch.{heard_all, finished_of, report_of, fetched_of}
use Rattle.day_evening.proofs.FetchLaws.{heard_next, heard_none}
use native.Mathlib.Omega.{arith}
use Rattle.day_evening.proofs.fetch.fetched.Goals as goal

pub loop-preserved : goal.loop-preserved
loop-preserved c =
    let t = c.args.r.table in
    let k = c.loop.counter in
    let e : 17 - (k + 1) ≡ 17 - k - 1 = omega arith in
    ap (λ (n : ℕ). heard_all n t c.heard-f.result) e
    ∙ ap (heard_all (17 - k - 1) t) c.heard-f.ensures
    ∙ sym (heard_next (17 - k) t c.loop.f (omega arith))
    ∙ c.loop.invariant

pub returns : goal.returns
unfolding fetched_of report_of
returns c =
    let t = c.args.r.table in
    c.finished.ensures
    ∙ ap finished_of
    (sym (heard_none (17 - c.loop.counter) t c.loop.f (omega arith)) ∙ c.loop.invariant ∙ ap (heard_all 17 t) c.asked-f.ensures)
