-- A number inside has its bit set, any other changes nothing.
use Prim.Native.Nat.{ℕ, ◌/◌, ◌%◌}
use mathlib.Core.Path.{sym, ap, ◌∙◌}
use mathlib.Core.List.{List}
use lib.ListN.{set}
use Rattle.std.proofs.Common.{Ok}
use Rattle.octets.specs.Numbers.{at}
use Rattle.fetch_word.specs.Bits.{with_bit}
use Rattle.fetch_map.specs.Map.{mapping}
use Rattle.fetch_map.proofs.MapLaws.{take_wrong, take_done, take_inside, take_outside}
use Rattle.fetch_map.proofs.take.take_in.Goals as goal

pub returns-in_default : goal.returns-in_default
returns-in_default c = let a = c.args in take_wrong a.map.now a.told c.in_default.ensures.cases a.number

pub returns-then-inside : goal.returns-then-inside
returns-then-inside c =
    let a = c.args in
    let w = a.number / 64 in
    let whole = c.in-Some.ensures.cases in
    ap (mapping (Ok tt))
    (ap (set c.in-Some.words.now w) c.with_bit.ensures
    ∙ ap (λ (m : List ℕ). set m w (with_bit (at m w) (a.number % 64))) whole.same
    ∙ take_inside a.map.now a.told a.number (sym c.inside.ensures ∙ c.if-inside.true))
    ∙ take_done a.map.now a.told whole.long a.number

pub returns-else-inside : goal.returns-else-inside
returns-else-inside c =
    let a = c.args in
    let whole = c.in-Some.ensures.cases in
    ap (mapping (Ok tt)) (whole.same ∙ take_outside a.map.now a.told a.number (sym c.inside.ensures ∙ c.if-inside.false))
    ∙ take_done a.map.now a.told whole.long a.number
