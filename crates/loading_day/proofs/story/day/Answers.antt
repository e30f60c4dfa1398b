-- Each number of the day is read.
use mathlib.Core.Path.{◌≡◌, ◌∙◌, sym}
use Rattle.std.proofs.Common.{length, arith, rules}
use Rattle.loading_day.proofs.WrittenLaws.{read_all}
use Rattle.loading_day.proofs.story.day.Goals as goal

pub returns : goal.returns
returns c =
    let numbers = c.numbers.result in
    let long : length numbers ≡ 78 = search rules in
    let items = c.map.ensures.items in
    read_all numbers c.map.result (items.long ∙ sym long)
    (λ k d h. let called = (items.at k 0 d (omega (arith, long))).2.met in search rules)
    ∙ c.numbers.ensures
