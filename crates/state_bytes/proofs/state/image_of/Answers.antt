-- `image_of` lays the fields down at their places, each number by `bytes2` or `bytes4`.
use Rattle.state_bytes.specs.State.{field_bytes}
use Rattle.state_bytes.proofs.StateLaws.{image_laid}
use Rattle.state_bytes.proofs.state.image_of.Goals as goal

pub returns : goal.returns
unfolding field_bytes
returns c =
    rw (c.bytes4-base.ensures, c.bytes2-status.ensures, c.bytes2-faults.ensures)
    (rw (c.bytes4-aligned.ensures, c.bytes2-minimum.ensures, c.bytes2-maximum.ensures)
    (rw c.bytes2-next.ensures (image_laid c.args.c c.fields_of-f.ensures c.switches_of.ensures)))
