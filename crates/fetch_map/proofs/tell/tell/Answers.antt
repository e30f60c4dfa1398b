-- Every bit outside is cleared, where there are 1,024 words.
use mathlib.Core.Path.{ap, ◌∙◌}
use Rattle.std.proofs.Common.{Ok}
use Rattle.fetch_map.specs.Map.{mapping, inside_from}
use Rattle.fetch_map.proofs.MapLaws.{tell_wrong, tell_done}
use Rattle.fetch_map.proofs.tell.tell.Goals as goal

pub returns-in_default : goal.returns-in_default
returns-in_default c = let a = c.args in tell_wrong a.map.now a.told c.in_default.ensures.cases

pub returns : goal.returns
returns c =
    let a = c.args in
    let whole = c.in-Some.ensures.cases in
    ap (mapping (Ok tt)) (c.clear_outside.ensures ∙ ap (inside_from a.told 0) whole.same) ∙ tell_done a.map.now a.told whole.long
