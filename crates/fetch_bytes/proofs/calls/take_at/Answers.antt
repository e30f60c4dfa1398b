-- Done or refused, with the map.
use mathlib.Core.Path.{sym, ap, ◌∙◌}
use mir.Syntax.{w32}
use mir.Facts.{to_z-of_z}
use Rattle.std.proofs.Common.{Option}
use Rattle.fetch_told.specs.declared.told.Span.{Span}
use Rattle.fetch_map.specs.Map.{Mapped, Mapping, mapping, take_of, mapped_number}
use Rattle.fetch_bytes.specs.Calls.{mapped, mapped_result, take_at}
use Rattle.fetch_bytes.proofs.calls.take_at.Goals as goal

pub returns-in-Ok : goal.returns-in-Ok
unfolding take_at mapped_result mapped_number
returns-in-Ok c =
    let a = c.args in
    let is = ap (λ (r : Mapped). mapping r c.take_in.new.map) (sym c.in-Ok.is)
    ∙ c.take_in.ensures
    ∙ ap (λ (t : Option Span). take_of a.map.now t a.number) c.told_at.ensures in
    ap (λ (x : Mapping). mapped (mapped_result x.answer) x.map) is

pub returns-in-Err : goal.returns-in-Err
unfolding take_at mapped_result mapped_number
returns-in-Err c =
    let a = c.args in
    let is = ap (λ (r : Mapped). mapping r c.take_in.new.map) (sym c.in-Err.is)
    ∙ c.take_in.ensures
    ∙ ap (λ (t : Option Span). take_of a.map.now t a.number) c.told_at.ensures in
    let z = to_z-of_z {w = w32} (record { sfits = c.refused.type_inv }) ∙ c.refused.ensures in
    rw z (ap (λ (x : Mapping). mapped (mapped_result x.answer) x.map) is)
