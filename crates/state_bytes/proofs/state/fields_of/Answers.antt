-- `fields_of` is `fields_of`: no report, or each part of it.
use mathlib.Core.Path.{sym, ap, ◌∙◌}
use Rattle.state_bytes.specs.State.{fields_of}
use Rattle.state_bytes.proofs.StateLaws.{fields_idle, fields_report}
use Rattle.state_bytes.proofs.state.fields_of.Goals as goal

pub returns-in-None : goal.returns-in-None
returns-in-None c = fields_idle c.bounds_at.ensures c.unsent_of.ensures ∙ sym (ap fields_of c.in-None.is)

pub returns-in-Some : goal.returns-in-Some
returns-in-Some c =
    let r = c.in-Some in
    fields_report r.report c.bounds_of.ensures c.unsent_of-in-Some.ensures ∙ sym (ap fields_of r.is)
