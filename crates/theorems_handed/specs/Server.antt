-- A server as its radio sees it, over any calls: so that a theorem can be said of every server, and be false of a wrong one.
use Rattle.std.specs.Prelude.{◌≡◌, true, List, [], ℕ, Ok}
use Rattle.filter.specs.declared.filter.Filter.{Filter}
use Rattle.rows.specs.Reply.{done_b}
use Rattle.update.specs.Start.{new_reader_of}
use Rattle.racp_request.specs.Request.{request_of}
use Rattle.theorems_reports.specs.World.{World, new_world, Call, record_access, step_of}
use Rattle.theorems_reports.specs.Hearing.{Heard, nothing, heard_of}
use Rattle.theorems_reports.specs.Reports.{response_to}
use Rattle.theorems_reports.specs.Closing.{answer_of}
use Rattle.racp_request.specs.declared.request.Request.TheVariants.{Report}
use Rattle.clock.specs.Answers.{Answer}

-- One of the calls in a history: the start call over the same buffer, or a call of the started reader.
pub data AnyCall : Type 0 where
  start : AnyCall
  call : Call → AnyCall

-- clock and table after a call; its answer; the bytes that answer a record access; what goes out of a report
pub record Server : Type 0 where
  pub after : World → AnyCall → World
  pub answer : World → AnyCall → Answer
  pub response : World → (w o : List ℕ) → List ℕ
  pub heard : World → AnyCall → Heard

-- the right one
unfoldable pub after_of : World → AnyCall → World
after_of v start = new_world v.table
after_of v (call k) = step_of v k

unfoldable pub answer_to : World → AnyCall → Answer
answer_to v start = (new_reader_of v.table).event.answer
answer_to v (call k) = answer_of v k

unfoldable pub heard_to : World → AnyCall → Heard
heard_to v start = nothing
heard_to v (call k) = heard_of v k

abbrev pub right : Server
right = record { after = after_of; answer = answer_to; response = response_to; heard = heard_to }

-- "An accepted 1 or 7 is a 0 without response bytes", and the world after it
pub record Accepts (s : Server) (v : World) (w o : List ℕ) (f : Filter) : Type 0 where
  pub asked : request_of w ≡ Ok (Report f)
  pub done : done_b (s.answer v (call (record_access w o))) ≡ true
  pub silent : s.response v w o ≡ []

abbrev pub begins : Server → World → List ℕ → List ℕ → World
begins s v w o = s.after v (call (record_access w o))
