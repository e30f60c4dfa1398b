-- All four grounds at once, computed.
use mathlib.Core.Path.{refl}
use Rattle.rules.specs.Fields.{base_b, zone_b, dst_b, source_b}
use Rattle.update_judge.specs.Proposal.{proposal_at}
use Rattle.update_judge.specs.Grades.{clock_grade, local_b, grade_of}
use Rattle.update_judge.specs.Grounds.{epoch_b, range_b, lower_b, seconds_apart, unrealistic_b, flag_if, grounds_of}
use Rattle.update_decide.specs.Decide.{judged, update_operand, decide_of}
use Rattle.theorems_calls.proofs.of_update.all_grounds.Goals as goal

pub returns : goal.returns
unfolding decide_of update_operand judged proposal_at grounds_of flag_if epoch_b range_b lower_b unrealistic_b seconds_apart grade_of local_b clock_grade base_b zone_b dst_b source_b
returns c = refl
