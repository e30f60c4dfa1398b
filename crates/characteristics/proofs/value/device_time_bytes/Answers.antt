-- `device_time_bytes` lays the fields down in the order of Table 3.6, each number by `bytes2` or `bytes4`.
use Rattle.characteristics.specs.Value.{device_time_bytes}
use Rattle.characteristics.proofs.value.device_time_bytes.Goals as goal

pub returns : goal.returns
unfolding device_time_bytes
returns c = rw (c.bytes4-base.ensures, c.bytes2-status.ensures, c.bytes2-number.ensures)
