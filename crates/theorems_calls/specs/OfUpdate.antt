-- What is promised of time updates beyond each call's own equation (document 01, "Time updates"): each ground by itself, all of them at
-- once, and what a source that can't vouch for the time zone may do.
use Rattle.std.specs.Prelude.{◌≡◌, true, false, List, [], ◌∷◌, ◌++◌, ℕ, ◌+◌, eqb, Err, Ok}
use Rattle.octets.specs.Choice.{pick}
use Rattle.octets.specs.Numbers.{bytes2, bytes4}
use Rattle.rules.specs.Fields.{aligned_bit, qualified_bit}
use Rattle.record.specs.declared.kinds.Record.{Record}
use Rattle.record.specs.declared.kinds.Record.TheVariants.{TimeUpdate, TimeFault}
use Rattle.clock.specs.declared.state.Clock.{Clock}
use Rattle.clock.specs.declared.state.Time.{Time}
use Rattle.update_judge.specs.Proposal.{utc_flag}
use Rattle.update_judge.specs.Grades.{clock_grade, local_b, stops_at_two, grade_of}
use Rattle.update_judge.specs.Grounds.{unrealistic, out_of_range, lower_quality, wrong_epoch, lower_b}
use Rattle.codes.specs.Dtcp.{propose_opcode, force_opcode}
use Rattle.update_decide.specs.Accept.{accepted_of, update_record}
use Rattle.update_decide.specs.Decide.{decide_of}
use Rattle.theorems_calls.specs.UpdateCases.{f2}
use Rattle.update_judge.specs.declared.proposal.Proposal.{Proposal}
use Rattle.update_decide.specs.declared.decide.NotTaken.TheVariants.{Rejected}

-- a proposal, and the write that brings it: flags, base, zone; DST 0, source 2 (GPS), accuracy 1
abbrev proposal : ℕ → ℕ → ℕ → Proposal
proposal f b z = record { flags = f; base = b; zone = z; dst = 0; source = 2; accuracy = 1 }

abbrev write : ℕ → ℕ → ℕ → ℕ → List ℕ
write opcode f b z = (opcode ∷ bytes2 f) ++ (bytes4 b ++ (z ∷ 0 ∷ 2 ∷ 1 ∷ []))

-- Neither "a server that rejects every proposal" nor "one that says Success to all": for each ground a proposal that is refused on it
-- alone, and one that is taken, on the clock of case 2, at 800,000,100 with grade 3. What is asked of a Propose only is no ground
-- against a Force.
pub record GroundsAlone : Type 0 where
  pub epoch : decide_of f2 (write propose_opcode 0x03 800000100 4) ≡ Err (Rejected wrong_epoch)
  pub range : decide_of f2 (write propose_opcode 0x43 800000100 57) ≡ Err (Rejected out_of_range)
  pub quality : decide_of f2 (write propose_opcode 0x41 800000100 4) ≡ Err (Rejected lower_quality)
  pub realism : decide_of f2 (write propose_opcode 0x43 800086501 4) ≡ Err (Rejected unrealistic)
  pub taken : decide_of f2 (write propose_opcode 0x43 800086500 4) ≡ Ok (proposal 0x43 800086500 4)
  pub forced : decide_of f2 (write force_opcode 0x40 631152000 4) ≡ Ok (proposal 0x40 631152000 4)

-- "all flags that apply go into Procedure Rejected": the four at once, 0x0065
abbrev pub AllGrounds : Type 0
AllGrounds = decide_of f2 (write propose_opcode 0x00 0 57) ≡ Err (Rejected (wrong_epoch + lower_quality + out_of_range + unrealistic))

-- the status that a record shows
unfoldable pub status_in : Record → ℕ
status_in (TimeUpdate u) = u.status
status_in (TimeFault f) = f.status

-- "Radio time can't vouch for the time zone. [..] It must stop at grade 2, as must sources 0, 4 and 7. Acceptance, status bits, logged
-- status and rejection flags follow." Of every proposal that a write can bring, whatever its other fields, and every clock.
pub record RadioTime : Type 0 where
  -- the grade by the UTC flag alone, and with any other source by the place too
  pub stops : (p : Proposal) → stops_at_two p.source ≡ true → grade_of p ≡ pick (eqb (utc_flag p.flags) 1) 2 1
  pub others : (p : Proposal) → stops_at_two p.source ≡ false → grade_of p ≡ pick (eqb (utc_flag p.flags) 1) (pick (local_b p) 3 2) 1
  -- proposed to a clock that is qualified local, it is of lower quality
  pub lower : (t : Time) → (p : Proposal) → stops_at_two p.source ≡ true → clock_grade t.status ≡ 3 → lower_b t p ≡ true
  -- taken, it leaves no clock qualified local, by a Force too; the record shows the clock's status
  pub unqualified : (c : Clock) → (p : Proposal) → stops_at_two p.source ≡ true → qualified_bit (accepted_of c p).time.status ≡ 0
  pub logged : (c : Clock) → (p : Proposal) → (number : ℕ) → status_in (update_record c p number) ≡ (accepted_of c p).time.status
  -- UTC alignment is by the UTC flag alone, whatever the source
  pub aligned : (c : Clock) → (p : Proposal) → aligned_bit (accepted_of c p).time.status ≡ utc_flag p.flags
  pub last : (c : Clock) → (p : Proposal) → (accepted_of c p).time.aligned ≡ pick (eqb (utc_flag p.flags) 1) p.base c.time.aligned
