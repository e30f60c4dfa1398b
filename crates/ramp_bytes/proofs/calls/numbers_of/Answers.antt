-- A record's place and length, both below 65,536.
use mathlib.Core.Path.{ap}
use Prim.Native.Nat.{◌<◌}
use lib.ListN.{length}
use Rattle.table_look.proofs.LookLaws.{part_small}
use native.Mathlib.Omega.{arith}
use Rattle.ramp_bytes.proofs.calls.numbers_of.Goals as goal
use Rattle.ramp_bytes.proofs.calls.numbers_of.Goals.{After-part_at-part, After-place_at-place}

place_small : (c : After-place_at-place) → c.place_at-place.result < 65536
place_small c =
    let p = (part_small c.args.t.now c.args.age c.requires.0 c.requires.1).0 in
    omega (arith, c.place_at-place.ensures)

length_small : (c : After-part_at-part) → length c.part_at-part.result.now < 65536
length_small c =
    let p = (part_small c.args.t.now c.args.age c.requires.0 c.requires.1).1 in
    omega (arith, ap length c.part_at-part.ensures)

pub overflow_cast-result-2 : goal.overflow_cast-result-2
overflow_cast-result-2 c = let h = place_small (goal.at.overflow_cast-result-2 c).After-place_at-place in omega arith

pub overflow_cast-result-3 : goal.overflow_cast-result-3
overflow_cast-result-3 c = let h = length_small (goal.at.overflow_cast-result-3 c).After-part_at-part in omega arith

pub returns : goal.returns
returns c = rw (c.place_at-place.ensures, c.part_at-part.ensures)
