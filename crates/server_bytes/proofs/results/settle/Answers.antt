-- The result, and a refusal with the state as it was or the image of the clock after.
use mathlib.Core.Path.{sym, ap, ◌∙◌}
use lib.ListN.{length}
use mir.Facts.{to_z-of_z}
use mir.Syntax.{w32}
use Rattle.state_images.proofs.RoundTrip.{state_images}
use Rattle.server_bytes.proofs.ResultLaws.{settled_refused, settled_done, answer_refused, answer_done}
use Rattle.server_bytes.proofs.results.settle.Goals as goal

pub result_of-requires : goal.result_of-requires
result_of-requires c = c.requires.0

pub result_of-requires-2 : goal.result_of-requires-2
result_of-requires-2 c = c.requires.0

pub returns-then-is_err : goal.returns-then-is_err
returns-then-is_err c =
    let r = c.result_of in
    settled_refused _ _ _ _ (to_z-of_z {w = w32} (record { sfits = r.type_inv }) ∙ r.ensures) (answer_refused _ (sym c.is_err.ensures.value ∙ c.if-is_err.true))

pub copy-requires : goal.copy-requires
copy-requires c =
    c.requires.1 (answer_done _ (sym c.is_err.ensures.value ∙ c.if-is_err.false))
    ∙ sym (ap length c.image_of-image.ensures ∙ state_images.size _)

pub returns : goal.returns
returns c = settled_done _ _ _ _ (to_z-of_z {w = w32} (record { sfits = c.result_of-2.type_inv }) ∙ c.result_of-2.ensures) (c.copy.ensures ∙ c.image_of-image.ensures) (answer_done _ (sym c.is_err.ensures.value ∙ c.if-is_err.false))
