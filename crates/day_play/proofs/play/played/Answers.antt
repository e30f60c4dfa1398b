-- What is left of the day gives what the whole gives.
use mathlib.Core.Path.{◌≡◌, sym, ap, ◌∙◌}
use Rattle.day_play.specs.declared.play.Ramp.{Ramp}
use Prim.Native.Nat.{◌+◌}
use lib.ListN.{length, drop}
use Rattle.day_play.specs.Play.{played_of}
use Rattle.day_play.proofs.ReaderLaws.{played_next, played_end}
use native.Mathlib.Omega.{arith}
use Rattle.std.proofs.Common.{rules}
use Rattle.day_play.proofs.play.played.Goals as goal

pub loop-happening-preserved : goal.loop-happening-preserved
loop-happening-preserved c =
    let day = c.args.day in
    let i = c.loop-happening.happening-index in
    let long : length day ≡ 78 = search rules in
    ap (λ (v : Ramp). played_of v (drop (i + 1) day)) c.stepped-ramp.ensures
    ∙ sym (played_next c.loop-happening.ramp day i _ (omega arith))
    ∙ c.loop-happening.invariant

pub returns : goal.returns
returns c =
    let day = c.args.day in
    let long : length day ≡ 78 = search rules in
    sym (played_end c.loop-happening.ramp day c.loop-happening.happening-index (omega arith))
    ∙ c.loop-happening.invariant
    ∙ ap (λ (v : Ramp). played_of v day) c.opened-ramp.ensures
