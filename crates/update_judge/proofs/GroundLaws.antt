-- The flags told one after the other; what it says that no ground applies: each test is false, so the proposal is in range.
-- Assumes nothing.
use mathlib.Core.Path.{◌≡◌, refl, sym}
use mathlib.Core.Bool.{Bool, true, false, not}
use Prim.Native.Nat.{ℕ, ◌+◌}
use native.Mathlib.Omega.{arith}
use borrow.Author.Tests.{not-false}
use Rattle.octets.specs.Choice.{both}
use Rattle.octets.proofs.Tests.{both_reads}
use Rattle.rules.specs.Fields.{base_b, zone_b, dst_b, source_b}
use Rattle.rules.proofs.RangeLaws.{base_reads}
use Rattle.clock.specs.declared.state.Time.{Time}
use Rattle.update_judge.specs.Grounds.{unrealistic, out_of_range, lower_quality, wrong_epoch, epoch_b, range_b, lower_b, unrealistic_b, flag_if, grounds_of, InRange}
use Rattle.update_judge.specs.declared.proposal.Proposal.{Proposal}

-- the flags told one after the other, last ground first, are all that apply
pub grounds_told : (t : Time) (p : Proposal) (forced far lower range epoch : Bool) (told1 told2 told3 told4 : ℕ)
    → far ≡ both (not forced) (unrealistic_b t p) → lower ≡ both (not forced) (lower_b t p) → range ≡ range_b p → epoch ≡ epoch_b p
    → told1 ≡ 0 + flag_if far unrealistic → told2 ≡ told1 + flag_if lower lower_quality → told3 ≡ told2 + flag_if range out_of_range
    → told4 ≡ told3 + flag_if epoch wrong_epoch → told4 ≡ grounds_of t p forced
unfolding grounds_of
grounds_told t p forced far lower range epoch told1 told2 told3 told4 hf hl hr he h1 h2 h3 h4 = rw (sym hf, sym hl, sym hr, sym he) (omega arith)

range_reads : (p : Proposal) → range_b p ≡ false → InRange p
unfolding range_b
range_reads p h =
    let x = both_reads (base_b p.base) _ (not-false _ h) in
    let y = both_reads (both (zone_b p.zone) (dst_b p.dst)) (source_b p.source) x.1 in
    let place = both_reads (zone_b p.zone) (dst_b p.dst) y.0 in
    let base = base_reads p.base x.0 in
    record {
      base = x.0;
      base_low = base.0;
      base_high = base.1;
      zone = place.0;
      dst = place.1;
      source = y.1;
    }

flag_off : (b : Bool) → flag_if b out_of_range ≡ 0 → b ≡ false
unfolding flag_if
flag_off true h = absurd (omega arith)
flag_off false h = refl

pub grounds_none : (t : Time) (p : Proposal) (forced : Bool) → grounds_of t p forced ≡ 0 → InRange p
unfolding grounds_of
grounds_none t p forced h = range_reads p (flag_off (range_b p) (omega arith))
