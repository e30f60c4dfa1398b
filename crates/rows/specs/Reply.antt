-- The whole outcome of a call that takes the table: the answer, the clock, how many bytes of the output are the response, and the
-- bytes of table and output after it.
use Rattle.std.specs.Prelude.{Bool, List, ℕ, eqb, length, Result, Ok}
use Rattle.octets.specs.Parts.{over}
use Rattle.clock.specs.Answers.{number_of, Answer, answer_in, len_in}
use Rattle.clock.specs.declared.answers.Refusal.{Refusal}
use Rattle.clock.specs.declared.state.Clock.{Clock}

-- the answer, the clock after it, and so many bytes of the output are the response
pub record Reply : Type 0 where
  pub answer : Answer
  pub clock : Clock
  pub len : ℕ

pub record Outcome : Type 0 where
  pub reply : Reply
  pub table : List ℕ
  pub output : List ℕ

abbrev pub outcome : Reply → List ℕ → List ℕ → Outcome
outcome r t o = record { reply = r; table = t; output = o }

abbrev pub reply : Answer → Clock → ℕ → Reply
reply a c n = record { answer = a; clock = c; len = n }

-- what a call answers, with the clock after it: how many bytes its response has, or a refusal, which has none
abbrev pub reply_by : Result ℕ Refusal → Clock → Reply
reply_by r c = reply (answer_in r) c (len_in r)

-- "0 means done."
unfoldable pub done_b : Answer → Bool
done_b a = eqb (number_of a) 0

-- "A refusal leaves state, log and output untouched"
abbrev pub refused : Answer → Clock → List ℕ → List ℕ → Outcome
refused a c t o = outcome (reply a c 0) t o

-- "output past a response or notification keeps its old bytes"
unfoldable pub answered : Clock → List ℕ → List ℕ → List ℕ → Outcome
answered c t response o = outcome (reply (Ok tt) c (length response)) t (over o 0 response)
