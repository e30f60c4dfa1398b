-- The ones of the words passed, each with at most 64.
use Rattle.octets.specs.Numbers.{at}
use Rattle.fetch_map.proofs.MapLaws.{ones_most, ones_next}
use native.Mathlib.Omega.{arith}
use Rattle.fetch_map.proofs.count.all_ones.Goals as goal

pub overflow_add-sum : goal.overflow_add-sum
overflow_add-sum c = omega (arith, c.ones-sum.ensures, ones_most (at c.args.words.now c.loop-x.x-index))

pub loop-x-preserved : goal.loop-x-preserved
loop-x-preserved c =
    let l = c.loop-x in
    let m = c.args.words.now in
    (omega (arith, c.ones-sum.ensures, ones_most (at m l.x-index)), omega (arith, c.ones-sum.ensures, ones_next m l.x-index (omega arith)))
