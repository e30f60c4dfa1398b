-- `feature_of`, with its result.
use mathlib.Core.Path.{◌∙◌}
use mir.Syntax.{w32}
use mir.Facts.{to_z-of_z}
use Rattle.server_bytes.specs.ValuesRead.{feature_at}
use Rattle.characteristics.proofs.ReplyLaws.{feature_short}
use Rattle.server_bytes.proofs.ValueLaws.{value_short, value_told}
use Rattle.server_bytes.proofs.values_read.feature_at.Goals as goal

pub result_of-requires : goal.result_of-requires
result_of-requires c = value_short c.feature.ensures (feature_short _)

pub returns : goal.returns
unfolding feature_at
returns c =
    let r = c.result_of in
    value_told c.feature.ensures (to_z-of_z {w = w32} (record { sfits = r.type_inv }) ∙ r.ensures)
