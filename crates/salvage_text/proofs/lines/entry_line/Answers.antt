-- An entry of kind 0 is a slot's, any other a header field's.
use mathlib.Core.Path.{sym, ap, ◌∙◌}
use Rattle.octets.specs.Numbers.{at}
use Rattle.salvage_text.specs.Told.{slot_line}
use Rattle.salvage_text.proofs.LineLaws.{Told, told_as, entry_slot, entry_field, entry_short}
use Rattle.salvage_text.proofs.lines.entry_line.Goals as goal
use Rattle.salvage_text.proofs.lines.entry_line.Goals.{After-unwrap_or}

told : (c : After-unwrap_or) → Told (at c.args.e.now 0) c.unwrap_or.result
told c = told_as _ _ c.try_from.ensures c.unwrap_or.ensures

pub returns-in-Slot : goal.returns-in-Slot
returns-in-Slot c =
    let e = c.args.e.now in
    let t = told (goal.at.returns-in-Slot c).After-unwrap_or in
    (c.slot_line.ensures ∙ ap slot_line c.get16.ensures ∙ sym (entry_slot e t c.in-Slot.is), entry_short e)

pub returns-in_default : goal.returns-in_default
returns-in_default c =
    let e = c.args.e.now in
    let t = told (goal.at.returns-in_default c).After-unwrap_or in
    (rw (c.field_line.ensures, c.get48.ensures, c.get48-in_default.ensures) (sym (entry_field e t c.in_default.not-Slot)), entry_short e)
