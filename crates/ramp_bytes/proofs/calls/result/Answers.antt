-- Each verdict's result, by `verdict_result`.
use mathlib.Core.Path.{sym, ap, ◌∙◌}
use Rattle.std.proofs.Common.{rules, Err}
use mir.Syntax.{w32}
use mir.Facts.{to_z-of_z}
use Rattle.state_bytes.specs.Results.{refusal}
use Rattle.ramp_bytes.specs.Calls.{verdict_result}
use Rattle.ramp_bytes.proofs.calls.result.Goals as goal

pub returns-in-Ok-One : goal.returns-in-Ok-One
unfolding verdict_result
returns-in-Ok-One c = search rules

pub returns-in-Ok-Two : goal.returns-in-Ok-Two
unfolding verdict_result
returns-in-Ok-Two c = search rules

pub returns-in-Err : goal.returns-in-Err
unfolding verdict_result
returns-in-Err c =
    to_z-of_z {w = w32} (record { sfits = c.refused.type_inv })
    ∙ c.refused.ensures
    ∙ rw (c.verdict_number.ensures, c.in-Err.is)
