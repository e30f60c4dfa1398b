-- The count of at most 65,536 ones, or the refusal.
use Prim.Native.Nat.{◌≤◌}
use mathlib.Core.Path.{sym, ap, ◌∙◌}
use mir.Syntax.{w32}
use mir.Facts.{to_z-of_z, to_z_pos}
use Rattle.fetch_map.specs.Map.{tally_number}
use Rattle.fetch_map.proofs.MapLaws.{count_few}
use Rattle.fetch_bytes.specs.Calls.{tally_result, received_at}
use native.Mathlib.Omega.{arith}
use Rattle.fetch_bytes.proofs.calls.received_at.Goals as goal

pub overflow_cast-result : goal.overflow_cast-result
overflow_cast-result c =
    let few : c.in-Ok.n ≤ 65536 = count_few c.args.map.now c.in-Ok.n (sym c.received.ensures ∙ c.in-Ok.is) in
    record { sfits = omega arith }

pub returns-in-Ok : goal.returns-in-Ok
unfolding received_at tally_result
returns-in-Ok c =
    let n = c.in-Ok.n in
    let is = sym c.received.ensures ∙ c.in-Ok.is in
    let few : n ≤ 65536 = count_few c.args.map.now n is in
    to_z_pos w32 {n = n} (omega arith) ∙ sym (ap tally_result is)

pub returns-in-Err : goal.returns-in-Err
unfolding received_at tally_result tally_number
returns-in-Err c =
    to_z-of_z {w = w32} (record { sfits = c.refused.type_inv })
    ∙ c.refused.ensures
    ∙ sym (ap tally_result (sym c.received.ensures ∙ c.in-Err.is))
