-- After w words the first w have their bits outside cleared, and the others are as they were.
use Prim.Native.Nat.{ℕ, ◌<◌, ◌*◌, ◌^◌}
use mathlib.Core.Path.{◌≡◌, ap, ap₂, ◌∙◌}
use mathlib.Core.List.{List}
use lib.Bits.{bit_and}
use lib.ListN.{set, length-set}
use Rattle.octets.specs.Numbers.{at}
use Rattle.fetch_map.proofs.MapLaws.{kept_word, from_0, done_one, still_there, all_done}
use native.Mathlib.Omega.{arith}
use Rattle.std.proofs.Common.{rules}
use Rattle.fetch_map.proofs.tell.clear_outside.Goals as goal

pub loop-w-preserved : goal.loop-w-preserved
loop-w-preserved c =
    let l = c.loop-w in
    let a = c.args in
    let m = a.words.now in
    let same : at l.words l.w ≡ at m l.w = ap (λ (x : List ℕ). at x l.w) l.invariant.2 ∙ still_there a.told m l.w (omega arith) in
    let small : at m l.w < 2 ^ 64 = omega (arith, c.fits-words l.w) in
    let word = ap₂ bit_and same c.inside_bits.ensures ∙ kept_word a.told (at m l.w) (64 * l.w) small in (
      search rules,
      simp length-set (search rules),
      ap (λ (x : List ℕ). set x l.w (bit_and (at l.words l.w) c.inside_bits.result)) l.invariant.2
          ∙ done_one a.told m l.w 0 (bit_and (at l.words l.w) c.inside_bits.result) (omega arith) (word ∙ from_0 a.told (at m l.w) (64 * l.w)),
    )

pub returns : goal.returns
returns c =
    let a = c.args in
    let l = c.loop-w in
    l.invariant.2 ∙ all_done a.told a.words.now l.w (omega arith)
