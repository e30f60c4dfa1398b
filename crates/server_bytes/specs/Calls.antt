-- The calls that take the log table, over the clock that the state's bytes stand for.
use Rattle.std.specs.Prelude.{List, ℕ, ℤ}
use Rattle.rows.specs.Reply.{Outcome}
use Rattle.update.specs.Fault.{fault_of}
use Rattle.update.specs.TimeUpdate.{update_of}
use Rattle.racp_access.specs.Access.{access_of}
use Rattle.racp_notify.specs.Notify.{Notice, notify_of}
use Rattle.state_bytes.specs.State.{clock_of}
use Rattle.server_bytes.specs.Results.{result_of, state_after, closing_length}

-- the whole outcome: the result, and the bytes of state, table and output after it
pub record Called : Type 0 where
  pub result : ℤ
  pub state : List ℕ
  pub table : List ℕ
  pub output : List ℕ

abbrev pub called : ℤ → List ℕ → List ℕ → List ℕ → Called
called z s t o = record { result = z; state = s; table = t; output = o }

-- what a call by value comes to over the state's bytes
abbrev pub replied : List ℕ → Outcome → Called
replied s u =
    called (result_of u.reply.answer u.reply.len)
    (state_after s u.reply.answer u.reply.clock)
    u.table
    u.output

unfoldable pub fault_at : List ℕ → List ℕ → List ℕ → Called
fault_at s t o = replied s (fault_of (clock_of s) t o)

unfoldable pub dtcp_at : List ℕ → List ℕ → List ℕ → List ℕ → Called
dtcp_at s t w o = replied s (update_of (clock_of s) t w o)

unfoldable pub racp_at : List ℕ → List ℕ → List ℕ → List ℕ → Called
racp_at s t w o = replied s (access_of (clock_of s) t w o)

-- a notification by value; the table is only read
abbrev pub notified : List ℕ → List ℕ → Notice → Called
notified s t n =
    called (result_of n.reply.answer (closing_length n.reply.closes n.reply.len))
    (state_after s n.reply.answer n.reply.clock)
    t
    n.output

unfoldable pub notify_at : List ℕ → List ℕ → ℕ → List ℕ → Called
notify_at s t p o = notified s t (notify_of (clock_of s) t p o)
