-- What is promised of record access and notifications beyond each call's own equation (document 01, "RACP and notifications"): a refusal
-- changes nothing, a report begins exactly where something matches, Number counts, and the clock goes on obeying its rules.
use Rattle.std.specs.Prelude.{◌≡◌, Bool, true, false, List, [], ◌∷◌, ℕ, eqb, length, Err, Ok, Result, Some}
use Rattle.octets.specs.Choice.{both, pick}
use Rattle.octets.specs.Numbers.{at}
use Rattle.filter.specs.declared.filter.Filter.{Filter}
use Rattle.table.specs.Table.{sound_b}
use Rattle.table_look.specs.Matching.{matching}
use Rattle.clock.specs.State.{with_running}
use Rattle.clock.specs.declared.state.Clock.{Clock}
use Rattle.rows.specs.Reply.{Outcome, done_b, answered}
use Rattle.rows.specs.Rows.{first_failed, whole_b}
use Rattle.update_logged.specs.Theorems.{Untouched}
use Rattle.codes.specs.Response.{code_of, code_bytes, count_bytes}
use Rattle.racp_request.specs.Request.{opcode_in, request_of}
use Rattle.codes.specs.Racp.{number_response, code_response}
use Rattle.codes.specs.declared.response.Code.TheVariants.{NoRecordsFound}
use Rattle.racp_access.specs.Report.{report, first_number, none_b}
use Rattle.racp_access.specs.Access.{access_rows, access_of}
use Rattle.racp_notify.specs.Notify.{Notice, unsaid, notify_of}
use Rattle.codes.specs.declared.response.Code.{Code}
use Rattle.racp_request.specs.declared.request.Request.{Request}
use Rattle.racp_request.specs.declared.request.Request.TheVariants.{Abort, Number, Report}

-- "A refusal leaves state, log and output untouched", and it closes nothing.
abbrev pub Silent : Clock → List ℕ → Notice → Type 0
Silent c o n = done_b n.reply.answer ≡ false → n ≡ unsaid n.reply.answer c o

pub record RefusedUnchanged : Type 0 where
  pub notify : (c : Clock) (t : List ℕ) (p : ℕ) (o : List ℕ) → Silent c o (notify_of c t p o)
  pub record_access_lem : (c : Clock) (t w o : List ℕ) → Untouched c t o (access_of c t w o)

-- how a write to the RACP is answered: `access_of`, or a wrong way that a theorem shuts out
abbrev pub Accessing : Type 0
Accessing = Clock → List ℕ → List ℕ → List ℕ → Outcome

-- the write is read: none of the rows failed
abbrev pub Read : Clock → List ℕ → List ℕ → List ℕ → Type 0
Read c t w o = done_b (first_failed (access_rows c t w o)) ≡ true

-- answered 06 00, an opcode, 06
abbrev pub nothing_found_b : Outcome → Bool
nothing_found_b u =
    both (eqb u.reply.len 4) (both (eqb (at u.output 0) code_response) (eqb (at u.output 3) (code_of NoRecordsFound)))

-- is it a report of which nothing matches?
abbrev pub nothing_b : List ℕ → Result Request Code → Bool
nothing_b t (Ok (Report f)) = none_b (matching f t)
nothing_b t (Ok (Number f)) = false
nothing_b t (Ok Abort) = false
nothing_b t (Err k) = false

-- "An accepted 1 or 7 is a 0 without response bytes", exactly when a record matches; it begins with the first of them, of which no byte is
-- sent. "Nothing matching: .. 1 and 7 answer 0x06, and give it in no other case."
pub record AcceptedWhenMatching (s : Accessing) : Type 0 where
  pub report : (c : Clock) (t w o : List ℕ) (f : Filter) → Read c t w o → request_of w ≡ Ok (Report f)
      → s c t w o
      ≡ pick (none_b (matching f t))
      (answered c t (code_bytes (opcode_in w) NoRecordsFound) o)
      (answered (with_running c (Some (report (opcode_in w) f 0 (Some ((first_number (matching f t)), 0))))) t [] o)
  pub no_other : (c : Clock) (t w o : List ℕ) → Read c t w o → nothing_found_b (s c t w o) ≡ nothing_b t (request_of w)

-- Number answers 05 00 and how many of the held records match.
abbrev pub NumberCounts : Accessing → Type 0
NumberCounts s = (c : Clock) (t w o : List ℕ) (f : Filter) → Read c t w o → request_of w ≡ Ok (Number f)
    → s c t w o ≡ answered c t (count_bytes number_response (length (matching f t))) o

-- The clock obeys its rules, alone and with the table, after each call where it did before: row 2 never ends a report.
pub record Obeys : Type 0 where
  pub notify : (c : Clock) (t : List ℕ) (p : ℕ) (o : List ℕ) → sound_b t ≡ true → whole_b c t ≡ true
      → whole_b (notify_of c t p o).reply.clock t ≡ true
  pub record_access_lem : (c : Clock) (t w o : List ℕ) → sound_b t ≡ true → whole_b c t ≡ true → whole_b (access_of c t w o).reply.clock t ≡ true
