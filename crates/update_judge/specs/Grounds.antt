-- The grounds on which a time update is rejected (document 01, "Time updates"), in its order, and their flags by Table 3.22.
use Rattle.std.specs.Prelude.{◌≡◌, Bool, true, not, ℕ, ◌+◌, ◌-◌, ◌≤◌, ltb, eqb}
use Rattle.octets.specs.Choice.{both, pick}
use Rattle.rules.specs.Fields.{first_base_time, last_base_time, base_b, zone_b, dst_b, source_b, aligned_bit}
use Rattle.clock.specs.declared.state.Time.{Time}
use Rattle.update_judge.specs.Proposal.{epoch_flag}
use Rattle.update_judge.specs.Grades.{clock_grade, grade_of}
use Rattle.update_judge.specs.declared.proposal.Proposal.{Proposal}

-- "The Base_Time_Update value is not realistic": bit 0
abbrev pub unrealistic : ℕ
unrealistic = 0x0001

-- "A required field in the Operand is out of range": bit 2
abbrev pub out_of_range : ℕ
out_of_range = 0x0004

-- "Time source is lower quality than presently synchronized time source": bit 5
abbrev pub lower_quality : ℕ
lower_quality = 0x0020

-- "Epoch Year flag is not aligned with implementation supported features": bit 6
abbrev pub wrong_epoch : ℕ
wrong_epoch = 0x0040

-- "86,400 seconds"
abbrev pub realistic_seconds : ℕ
realistic_seconds = 86400

-- "epoch flag is not 2000 (numbers are compared as they stand)"
unfoldable pub epoch_b : Proposal → Bool
epoch_b p = not (eqb (epoch_flag p.flags) 1)

-- "out of range: Base_Time, zone, DST or source outside the clock state's ranges"
unfoldable pub range_b : Proposal → Bool
range_b p = not (both (base_b p.base) (both (both (zone_b p.zone) (dst_b p.dst)) (source_b p.source)))

-- "the proposal's grade is below the clock's"
unfoldable pub lower_b : Time → Proposal → Bool
lower_b t p = ltb (grade_of p) (clock_grade t.status)

-- the difference "either way": the larger minus the smaller
unfoldable pub seconds_apart : ℕ → ℕ → ℕ
seconds_apart a b = pick (ltb a b) (b - a) (a - b)

-- "clock UTC aligned and the difference exceeds 86,400 seconds either way"
unfoldable pub unrealistic_b : Time → Proposal → Bool
unrealistic_b t p = both (eqb (aligned_bit t.status) 1) (ltb realistic_seconds (seconds_apart t.base p.base))

-- a flag where its ground applies
unfoldable pub flag_if : Bool → ℕ → ℕ
flag_if b f = pick b f 0

-- "every ground is tested and all flags that apply go into" the response; lower quality and unrealistic are "(Propose only)"
unfoldable pub grounds_of : Time → Proposal → Bool → ℕ
grounds_of t p forced =
    flag_if (epoch_b p) wrong_epoch
    + flag_if (range_b p) out_of_range
    + flag_if (both (not forced) (lower_b t p)) lower_quality
    + flag_if (both (not forced) (unrealistic_b t p)) unrealistic

-- What a proposal without a ground is known to be.
pub record InRange (p : Proposal) : Type 0 where
  pub base : base_b p.base ≡ true
  pub base_low : first_base_time ≤ p.base
  pub base_high : p.base ≤ last_base_time
  pub zone : zone_b p.zone ≡ true
  pub dst : dst_b p.dst ≡ true
  pub source : source_b p.source ≡ true
