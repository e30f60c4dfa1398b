-- What a call of the server answers over bytes, and what it leaves of the state, a lent buffer with the clock's image.
use Rattle.std.specs.Prelude.{Bool, true, false, List, ℕ, ◌+◌, ℤ, pos}
use Rattle.octets.specs.Choice.{pick}
use Rattle.clock.specs.Answers.{number_of, Answer}
use Rattle.clock.specs.declared.state.Clock.{Clock}
use Rattle.rows.specs.Reply.{done_b, reply, Reply}
use Rattle.state_bytes.specs.Results.{refusal}
use Rattle.state_bytes.specs.State.{image_of}
use Rattle.racp_notify.specs.Notify.{Notified}

-- the answer of a call that wrote n bytes, or refused
unfoldable pub result_of : Answer → ℕ → ℤ
result_of a n = pick (done_b a) (pos n) (refusal (number_of a))

-- done: the image of the clock after; "A refusal leaves state .. untouched"
unfoldable pub state_after : List ℕ → Answer → Clock → List ℕ
state_after s a c = pick (done_b a) (image_of c) s

-- "+ 256 where these bytes close the report"
abbrev pub closing_length : Bool → ℕ → ℕ
closing_length true n = 256 + n
closing_length false n = n

-- what a notification says, as a reply
unfoldable pub reply_of : Notified → Reply
reply_of n = reply n.answer n.clock (closing_length n.closes n.len)

-- the outcome of an entry point that is lent the state alone
pub record Ran : Type 0 where
  pub result : ℤ
  pub state : List ℕ

abbrev pub ran : ℤ → List ℕ → Ran
ran z s = record { result = z; state = s }

unfoldable pub settled_of : List ℕ → Answer → Clock → ℕ → Ran
settled_of s a c n = ran (result_of a n) (state_after s a c)
