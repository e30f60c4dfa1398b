-- `clock_of` is `clock_of`: the length, then what the clock is written as.
use mathlib.Core.Path.{sym, ◌∙◌}
use Rattle.state_bytes.proofs.StateLaws.{of_short, of_other, of_same}
use Rattle.state_bytes.proofs.state.clock_of.Goals as goal

pub returns-then-s-ne-STATE_BYTES : goal.returns-then-s-ne-STATE_BYTES
returns-then-s-ne-STATE_BYTES c = c.no_clock.ensures ∙ sym (of_short _ c.if-s-ne-STATE_BYTES.true)

pub returns-then-not-same : goal.returns-then-not-same
returns-then-not-same c =
    c.no_clock-then-not-same.ensures
    ∙ sym (of_other _ c.if-s-ne-STATE_BYTES.false c.clock_in-c.ensures c.image_of-image.ensures c.same.ensures (c.if-not-same.true))

pub returns : goal.returns
returns c = sym (of_same _ c.if-s-ne-STATE_BYTES.false c.clock_in-c.ensures c.image_of-image.ensures c.same.ensures (c.if-not-same.false))
