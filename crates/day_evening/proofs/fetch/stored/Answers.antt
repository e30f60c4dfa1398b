-- Too many bytes first, then by the number of what keeping answers.
use mathlib.Core.Path.{◌≡◌, sym}
use Prim.Native.Nat.{◌≤◌, ◌<◌}
use lib.ListN.{length}
use lib.Seq.{length-take-le}
use Rattle.keep.specs.Keep.{keeping_number}
use Rattle.day_evening.proofs.FetchLaws.{stored_too_long, stored_not, stored_too}
use native.Mathlib.Omega.{arith}
use Rattle.std.proofs.Common.{rules}
use Rattle.day_evening.proofs.fetch.stored.Goals as goal
use Rattle.day_evening.proofs.fetch.stored.Goals.{Else-joining-gt-MOST_BYTES}

fits : (c : Else-joining-gt-MOST_BYTES) → c.args.joining.len ≤ length c.args.joining.bytes
fits c =
    let a = c.args in
    let long : length a.joining.bytes ≡ 45 = search rules in
    omega arith

pub returns-then-joining-gt-MOST_BYTES : goal.returns-then-joining-gt-MOST_BYTES
returns-then-joining-gt-MOST_BYTES c =
    let a = c.args in
    stored_too_long a.copy a.joining (search rules) c.if-joining-gt-MOST_BYTES.true

pub slice_bounds-bytes-end : goal.slice_bounds-bytes-end
slice_bounds-bytes-end c = fits (goal.at.slice_bounds-bytes-end c).Else-joining-gt-MOST_BYTES

pub slice_bounds-keep-end-2 : goal.slice_bounds-keep-end-2
slice_bounds-keep-end-2 c =
    let j = c.args.joining in
    sym (length-take-le j.len j.bytes (fits (goal.at.slice_bounds-keep-end-2 c).Else-joining-gt-MOST_BYTES))

pub returns-then-keeping_number-gt0 : goal.returns-then-keeping_number-gt0
returns-then-keeping_number-gt0 c =
    let a = c.args in
    let refused : 0 < keeping_number c.keep-answer.result = omega (arith, c.keeping_number.ensures, c.if-keeping_number-gt0.true) in
    stored_not a.copy a.joining _ _ c.keep-answer.ensures refused

pub returns : goal.returns
returns c =
    let a = c.args in
    let done : keeping_number c.keep-answer.result ≤ 0 = omega (arith, c.keeping_number.ensures, c.if-keeping_number-gt0.false) in
    stored_too a.copy a.joining _ _ c.keep-answer.ensures done
