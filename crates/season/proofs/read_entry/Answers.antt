-- The largest table that an entry asks for lies within the buffer, after its four bytes.
use Rattle.std.proofs.Common.{◌≤◌, arith, rules}
use Rattle.season_step.proofs.StepLaws.{bytes_few}
use Rattle.season.proofs.read_entry.Goals as goal

pub overflow_add-end : goal.overflow_add-end
overflow_add-end g c =
    let few : c.table_bytes-end.result ≤ 65488 = rw c.table_bytes-end.ensures (bytes_few _) in omega arith

pub slice_bounds-read_part-end-3 : goal.slice_bounds-read_part-end-3
slice_bounds-read_part-end-3 g c =
    let few : c.table_bytes-end.result ≤ 65488 = rw c.table_bytes-end.ensures (bytes_few _) in search rules
