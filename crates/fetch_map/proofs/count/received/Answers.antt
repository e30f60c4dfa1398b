-- The count of all words, where there are 1,024.
use mathlib.Core.Path.{◌≡◌, ap, ◌∙◌}
use mathlib.Core.List.{List}
use Prim.Native.Nat.{ℕ}
use Rattle.std.proofs.Common.{Result, Ok}
use Rattle.fetch_map.specs.Map.{ones_of}
use Rattle.fetch_map.specs.declared.refusal.Refusal.{Refusal}
use Rattle.fetch_map.proofs.MapLaws.{received_wrong, received_done}
use Rattle.fetch_map.proofs.count.received.Goals as goal

pub returns-in_default : goal.returns-in_default
returns-in_default c = received_wrong c.args.map.now c.in_default.ensures.cases

pub returns : goal.returns
returns c =
    let m = c.args.map.now in
    let whole = c.in-Some.ensures.cases in
    let count : ◌≡◌ {A = ℕ} c.all_ones.result (ones_of m) = c.all_ones.ensures ∙ ap (λ (x : List ℕ). ones_of x) whole.same in
    ap (λ (n : ℕ). let r : Result ℕ Refusal = Ok n in r) count ∙ received_done m whole.long
