-- The two grades (document 01, "Time updates"). A proposal whose grade is below the clock's is of lower quality.
use Rattle.std.specs.Prelude.{Bool, not, ℕ, eqb}
use Rattle.octets.specs.Choice.{both, either, pick}
use Rattle.rules.specs.Fields.{fault_bit, aligned_bit, qualified_bit}
use Rattle.clock.specs.State.{unknown_zone, unknown_dst}
use Rattle.update_judge.specs.Proposal.{utc_flag, local_flag}
use Rattle.update_judge.specs.declared.proposal.Proposal.{Proposal}

-- "Grade of the clock: 0 in time fault, 3 qualified local, 2 UTC aligned only, else 1."
unfoldable pub clock_grade : ℕ → ℕ
clock_grade s = pick (eqb (fault_bit s) 1) 0 (pick (eqb (qualified_bit s) 1) 3 (pick (eqb (aligned_bit s) 1) 2 1))

-- "its qualified-local flag is set, zone isn't -128 and DST isn't 255": as they stand, a zone or DST out of range too
unfoldable pub local_b : Proposal → Bool
local_b p = both (eqb (local_flag p.flags) 1) (both (not (eqb p.zone unknown_zone)) (not (eqb p.dst unknown_dst)))

-- Radio time, source 3, "must stop at grade 2, as must sources 0, 4 and 7": none of them can vouch for the time zone (change request E2).
abbrev pub stops_at_two : ℕ → Bool
stops_at_two s = either (eqb s 0) (either (eqb s 3) (either (eqb s 4) (eqb s 7)))

-- "Grade of a proposal: 1; 2 with its UTC flag; 3 if besides" the above holds, and its source doesn't stop it at 2.
unfoldable pub grade_of : Proposal → ℕ
grade_of p = pick (eqb (utc_flag p.flags) 1) (pick (both (local_b p) (not (stops_at_two p.source))) 3 2) 1
