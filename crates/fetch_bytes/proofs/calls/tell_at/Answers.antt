-- Done or refused, with the map, and the numbers after it.
use mathlib.Core.Path.{sym, ap, ◌∙◌}
use mir.Syntax.{w32}
use mir.Facts.{to_z-of_z}
use Rattle.fetch_map.specs.Map.{Mapped, Mapping, mapping, tell_of, mapped_number}
use Rattle.fetch_bytes.specs.Told.{range_of, told_after}
use Rattle.fetch_bytes.specs.Calls.{told, mapped_result, tell_at}
use Rattle.fetch_bytes.proofs.calls.tell_at.Goals as goal

pub returns-in-Ok : goal.returns-in-Ok
unfolding tell_at mapped_result mapped_number told_after
returns-in-Ok c =
    let a = c.args in
    let is = ap (λ (r : Mapped). mapping r c.tell.new.map) (sym c.in-Ok.is) ∙ c.tell.ensures ∙ ap (tell_of a.map.now) c.range_of-range.ensures in
    rw (c.told_numbers.ensures, c.range_of-range.ensures)
    (ap (λ (x : Mapping). told (mapped_result x.answer) x.map (told_after x.answer (range_of a.any a.oldest a.newest) a.told.now)) is)

pub returns-in-Err : goal.returns-in-Err
unfolding tell_at mapped_result mapped_number told_after
returns-in-Err c =
    let a = c.args in
    let is = ap (λ (r : Mapped). mapping r c.tell.new.map) (sym c.in-Err.is) ∙ c.tell.ensures ∙ ap (tell_of a.map.now) c.range_of-range.ensures in
    let z = to_z-of_z {w = w32} (record { sfits = c.refused.type_inv }) ∙ c.refused.ensures in
    rw z (ap (λ (x : Mapping). told (mapped_result x.answer) x.map (told_after x.answer (range_of a.any a.oldest a.newest) a.told.now)) is)
