-- `tell` is `told_of`: row 3, then the bytes.
use mathlib.Core.Path.{◌≡◌, sym}
use lib.ListN.{length}
use Rattle.characteristics.proofs.ValueLaws.{told_short, told_done}
use Rattle.std.proofs.Common.{rules}
use Rattle.characteristics.proofs.value.tell.Goals as goal

pub returns-then-out-lt-LEAST_OUTPUT : goal.returns-then-out-lt-LEAST_OUTPUT
returns-then-out-lt-LEAST_OUTPUT c = sym (told_short _ _ c.if-out-lt-LEAST_OUTPUT.true)

pub returns : goal.returns
returns c =
    let a = c.args in
    let e : length a.value ≡ 4 = search rules in
    rw (c.put.ensures, ← e) (sym (told_done a.value a.out.now c.if-out-lt-LEAST_OUTPUT.false))
