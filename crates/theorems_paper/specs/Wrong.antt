-- The servers that document 01 shuts out ("What the drivers hold each promise to" and "Easy to get wrong"): time updates, record access,
-- time faults. A promise is said of any server; it holds of the right one and of none of the wrong ones, each of which differs from the
-- right one in one part.
use Rattle.std.specs.Prelude.{◌≡◌, Bool, true, false, not, List, [], ◌∷◌, ℕ, ◌+◌, ◌-◌, ◌%◌, ◌<◌, leb, ltb, eqb, length, Err, None, Ok, Option, Result, Some}
use Rattle.octets.specs.Choice.{both, pick}
use Rattle.octets.specs.Numbers.{at}
use Rattle.octets.specs.Parts.{Bytes}
use Rattle.rules.specs.Fields.{aligned_bit}
use Rattle.filter.specs.declared.filter.Filter.{Filter}
use Rattle.table_look.specs.Matching.{matching}
use Rattle.table.specs.Table.{next}
use Rattle.table_write.specs.Append.{append_of}
use Rattle.clock.specs.State.{with_running}
use Rattle.clock.specs.declared.state.Clock.{Clock}
use Rattle.clock.specs.declared.state.Time.{Time}
use Rattle.clock.specs.declared.state.Report.{Report}
use Rattle.update_decide.specs.Accept.{accepted_of, update_record}
use Rattle.codes.specs.Dtcp.{propose_opcode, force_opcode}
use Rattle.update_decide.specs.Decide.{judged, decide_of}
use Rattle.update_judge.specs.Grounds.{unrealistic, out_of_range, lower_quality, wrong_epoch, realistic_seconds, epoch_b, range_b, lower_b, unrealistic_b, flag_if, grounds_of}
use Rattle.update_judge.specs.Proposal.{update_write_bytes, proposal_at}
use Rattle.update_decide.specs.Response.{response_bytes}
use Rattle.update_judge.specs.declared.proposal.Proposal.{Proposal}
use Rattle.rows.specs.Reply.{Outcome, done_b, refused, answered}
use Rattle.update_logged.specs.Theorems.{success_b, LoggedOne}
use Rattle.update.specs.Fault.{fault_record, faulted_of, ending_of, fault_of}
use Rattle.rows.specs.Rows.{first_failed, table_rows}
use Rattle.update.specs.TimeUpdate.{AfterDecision, afterwards, update_rows, after_decision, update_of}
use Rattle.racp_request.specs.Request.{opcode_in, request_of}
use Rattle.codes.specs.Racp.{number_response}
use Rattle.codes.specs.Response.{code_bytes, count_bytes}
use Rattle.racp_access.specs.Access.{access_rows, accessed, begun_of, aborted_of, response_in, access_of}
use Rattle.racp_access.specs.Report.{left_from}
use Rattle.racp_access.specs.declared.access.Accessed.{Accessed}
use Rattle.theorems_calls.specs.OfTransfer.{Accessing, AcceptedWhenMatching, NumberCounts}
use Rattle.theorems_paper.specs.Reader.{write, case_flags, propose, output, response, second}
use Rattle.codes.specs.declared.response.Code.{Code}
use Rattle.racp_request.specs.declared.request.Request.{Request}
use Rattle.racp_request.specs.declared.request.Request.TheVariants.{Abort, Number, Report as ReportOf}
use Rattle.update_decide.specs.declared.decide.NotTaken.{NotTaken}
use Rattle.update_decide.specs.declared.decide.NotTaken.TheVariants.{Rejected, Unsupported, WrongLength}

-- Time updates: how a write to the DTCP is answered.
abbrev pub Updating : Type 0
Updating = Clock → List ℕ → List ℕ → List ℕ → Outcome

-- the response to a write on the reader of case 2, at 800,000,100 with grade 3
abbrev pub told : Updating → List ℕ → List ℕ
told s w = response (s second.clock second.table w output)

abbrev success : ℕ → List ℕ
success opcode = 0x09 ∷ opcode ∷ 0x01 ∷ []

abbrev rejection : ℕ → ℕ → List ℕ
rejection opcode flags = 0x09 ∷ opcode ∷ 0x05 ∷ flags ∷ 0x00 ∷ []

pub record AnswersRightly (s : Updating) : Type 0 where
  -- it refuses where a row fails, and nowhere else
  pub answers : (c : Clock) (t w o : List ℕ) → done_b (s c t w o).reply.answer ≡ done_b (first_failed (update_rows c t w o))
  -- answered Success: exactly one record was logged, a Time_Update with the received time, the time just before and the next number, and the
  -- clock was set
  pub logs : (c : Clock) (t w o : List ℕ) → Bytes w → c.time.faults < 65536 → next t < 65536 → success_b (s c t w o) ≡ true
      → LoggedOne c t w (s c t w o) (update_record c (proposal_at w) (next t))
  -- any other answer left clock and table as they were
  pub else : (c : Clock) (t w o : List ℕ) → success_b (s c t w o) ≡ false → ((s c t w o).reply.clock ≡ c) × ((s c t w o).table ≡ t)
  -- for each ground a proposal refused on it alone, with exactly its flag
  pub epoch : told s (write propose_opcode 0x03 800000100 4) ≡ rejection propose_opcode wrong_epoch
  pub range : told s (write propose_opcode case_flags 800000100 57) ≡ rejection propose_opcode out_of_range
  pub quality : told s (write propose_opcode 0x41 800000100 4) ≡ rejection propose_opcode lower_quality
  pub ahead : told s (propose 800086501) ≡ rejection propose_opcode unrealistic
  pub behind : told s (propose 799913699) ≡ rejection propose_opcode unrealistic
  -- and one taken: 86,400 seconds either way; a Force further back and of lower quality
  pub taken : told s (propose 800086500) ≡ success propose_opcode
  pub set_back : told s (propose 799913700) ≡ success propose_opcode
  pub forced : told s (write force_opcode 0x40 631152000 4) ≡ success force_opcode
  -- "every ground is tested and all flags that apply go into Procedure Rejected"
  pub all : told s (write propose_opcode 0x00 0 57) ≡ rejection propose_opcode (wrong_epoch + lower_quality + out_of_range + unrealistic)

-- `update_of` with two parts open: how it decides, and what it then does
unfoldable pub updating_by : (Clock → List ℕ → Result Proposal NotTaken) → (Clock → List ℕ → Result Proposal NotTaken → AfterDecision) → Updating
updating_by decide settle c t w o =
    let a = first_failed (update_rows c t w o) in
    let d = decide c w in
    pick (done_b a) (answered (settle c t d).clock (settle c t d).table (response_bytes (at w 0) d) o) (refused a c t o)

-- `decide_of` with the grounds open
unfoldable pub operand_by : (Time → Proposal → Bool → ℕ) → Clock → List ℕ → Bool → Result Proposal NotTaken
operand_by grounds c w forced =
    pick (eqb (length w) update_write_bytes) (judged (proposal_at w) (grounds c.time (proposal_at w) forced)) (Err WrongLength)

unfoldable pub deciding_by : (Time → Proposal → Bool → ℕ) → Clock → List ℕ → Result Proposal NotTaken
deciding_by grounds c w =
    pick (eqb (at w 0) propose_opcode)
    (operand_by grounds c w false)
    (pick (eqb (at w 0) force_opcode) (operand_by grounds c w true) (Err Unsupported))

-- "a server that rejects every proposal"
abbrev pub rejects_every : Updating
rejects_every = updating_by (λ c w. (Err (Rejected unrealistic))) after_decision

-- "one that says Success to all"
abbrev pub takes_everything : Updating
takes_everything = updating_by (λ c w. Ok (proposal_at w)) after_decision

-- "one that never logs"
abbrev pub never_logs : Updating
never_logs = updating_by decide_of (λ c t d. afterwards (after_decision c t d).clock t)

-- "Logging a time corrected for delay where the received time belongs."
abbrev pub delayed : Proposal → Proposal
delayed p = record { flags = p.flags; base = p.base + 1; zone = p.zone; dst = p.dst; source = p.source; accuracy = p.accuracy }

abbrev pub settled_late : Clock → List ℕ → Result Proposal NotTaken → AfterDecision
settled_late c t (Err Unsupported) = afterwards c t
settled_late c t (Err WrongLength) = afterwards c t
settled_late c t (Err (Rejected flags)) = afterwards c t
settled_late c t (Ok p) = afterwards (accepted_of c p) (append_of t (update_record c (delayed p) (next t)))

abbrev pub logs_corrected : Updating
logs_corrected = updating_by decide_of settled_late

-- "Rejecting with the first ground only."
abbrev pub first_ground : Time → Proposal → Bool → ℕ
first_ground t p forced =
    pick (epoch_b p)
    wrong_epoch
    (pick (range_b p)
    out_of_range
    (pick (both (not forced) (lower_b t p)) lower_quality (flag_if (both (not forced) (unrealistic_b t p)) unrealistic)))

abbrev pub names_first : Updating
names_first = updating_by (deciding_by first_ground) after_decision

-- "Unsigned subtraction for a clock set back.": a difference of 32 bits in the rule of 86,400 seconds
abbrev pub apart32 : ℕ → ℕ → ℕ
apart32 a b = (b + 4294967296 - a) % 4294967296

abbrev pub unsigned_grounds : Time → Proposal → Bool → ℕ
unsigned_grounds t p forced =
    flag_if (epoch_b p) wrong_epoch
    + flag_if (range_b p) out_of_range
    + flag_if (both (not forced) (lower_b t p)) lower_quality
    + flag_if (both (not forced) (both (eqb (aligned_bit t.status) 1) (ltb realistic_seconds (apart32 t.base p.base)))) unrealistic

abbrev pub subtracts_unsigned : Updating
subtracts_unsigned = updating_by (deciding_by unsigned_grounds) after_decision

pub record UpdatesShutOut : Type 0 where
  pub right : AnswersRightly update_of
  -- the wrong ones differ from it only in the part they put in
  pub parts : (c : Clock) (t w o : List ℕ) → updating_by (deciding_by grounds_of) after_decision c t w o ≡ update_of c t w o
  pub rejects_every_lem : AnswersRightly rejects_every → ⊥
  pub takes_all : AnswersRightly takes_everything → ⊥
  pub never_logs_lem : AnswersRightly never_logs → ⊥
  pub logs_corrected_lem : AnswersRightly logs_corrected → ⊥
  pub names_first_lem : AnswersRightly names_first → ⊥
  pub subtracts_unsigned_lem : AnswersRightly subtracts_unsigned → ⊥

-- Record access.
-- `access_of` with two parts open: the count of a Number, and what a report begins with
unfoldable pub accessed_by : (Filter → List ℕ → ℕ) → (Filter → List ℕ → Option (ℕ × ℕ)) → Clock → List ℕ → ℕ → Result Request Code → Accessed
accessed_by counted begins c t opcode (Ok (ReportOf f)) = begun_of c opcode f (begins f t)
accessed_by counted begins c t opcode (Ok (Number f)) = accessed c (count_bytes number_response (counted f t))
accessed_by counted begins c t opcode (Ok Abort) = aborted_of c c.running
accessed_by counted begins c t opcode (Err k) = accessed c (code_bytes opcode k)

unfoldable pub accessing_by : (Filter → List ℕ → ℕ) → (Filter → List ℕ → Option (ℕ × ℕ)) → Accessing
accessing_by counted begins c t w o =
    let a = first_failed (access_rows c t w o) in
    let done = accessed_by counted begins c t (opcode_in w) (request_of w) in
    pick (done_b a) (answered done.clock t (response_in done) o) (refused a c t o)

abbrev pub count_matching : Filter → List ℕ → ℕ
count_matching f t = length (matching f t)

abbrev pub first_match : Filter → List ℕ → Option (ℕ × ℕ)
first_match f t = left_from f t 0

-- "a Number answer not counted from held records": the next sequence number, or 0
abbrev pub numbers_next : Accessing
numbers_next = accessing_by (λ f t. next t) first_match

abbrev pub numbers_none : Accessing
numbers_none = accessing_by (λ f t. 0) first_match

-- a report accepted whether anything matches or not
abbrev pub accepts_any : Accessing
accepts_any = accessing_by count_matching (λ f t. (Some (0, 0)))

pub record AccessShutOut : Type 0 where
  pub right : AcceptedWhenMatching access_of × NumberCounts access_of
  pub parts : (c : Clock) (t w o : List ℕ) → accessing_by count_matching first_match c t w o ≡ access_of c t w o
  pub numbers_next_lem : NumberCounts numbers_next → ⊥
  pub numbers_none_lem : NumberCounts numbers_none → ⊥
  pub accepts_any_lem : AcceptedWhenMatching accepts_any → ⊥

-- The time fault: how it is answered.
abbrev pub Faulting : Type 0
Faulting = Clock → List ℕ → List ℕ → Outcome

pub record EndsReport (s : Faulting) : Type 0 where
  -- it refuses where a row fails, and nowhere else
  pub answers : (c : Clock) (t o : List ℕ) → done_b (s c t o).reply.answer ≡ done_b (first_failed (table_rows c t (leb 20 (length o))))
  -- after a fault that was answered 0 no report runs
  pub idle : (c : Clock) (t o : List ℕ) → done_b (s c t o).reply.answer ≡ true → (s c t o).reply.clock.running ≡ None
  -- "A running report ends with RACP response 06 00, its opcode, 08."
  pub says : (c : Clock) (t o : List ℕ) (r : Report) → done_b (s c t o).reply.answer ≡ true → c.running ≡ Some r
      → response (s c t o) ≡ 0x06 ∷ 0x00 ∷ r.opcode ∷ 0x08 ∷ []

-- `fault_of` with two parts open: the clock after it, and the response to a running report
unfoldable pub faulting_by : (Clock → Clock) → (Option Report → List ℕ) → Faulting
faulting_by faulted ending c t o =
    let a = first_failed (table_rows c t (leb 20 (length o))) in
    pick (done_b a) (answered (faulted c) (append_of t (fault_record c (next t))) (ending c.running) o) (refused a c t o)

-- "Letting a report go on after a fault has overwritten the slot it sends."
abbrev pub keeps_running : Faulting
keeps_running = faulting_by (λ c. with_running (faulted_of c) c.running) ending_of

-- a report that ends without its response
abbrev pub ends_silent : Faulting
ends_silent = faulting_by faulted_of (λ r. [])

pub record FaultsShutOut : Type 0 where
  pub right : EndsReport fault_of
  pub parts : (c : Clock) (t o : List ℕ) → faulting_by faulted_of ending_of c t o ≡ fault_of c t o
  pub runs_on : EndsReport keeps_running → ⊥
  pub ends_silent_lem : EndsReport ends_silent → ⊥
