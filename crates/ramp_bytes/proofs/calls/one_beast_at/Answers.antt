-- The verdict's side and its result.
use mathlib.Core.Path.{ap, ◌∙◌}
use mir.Syntax.{w32}
use mir.Facts.{to_z-of_z}
use Rattle.ramp_bytes.specs.Calls.{one_beast_at, result_of}
use Rattle.ramp_bytes.proofs.calls.one_beast_at.Goals as goal

pub returns : goal.returns
unfolding one_beast_at
returns c =
    let z = to_z-of_z {w = w32} (record { sfits = c.result.type_inv }) ∙ c.result.ensures in
    rw (z, c.verdict_side.ensures) (ap result_of c.one_beast-verdict.ensures)
