-- What was seen taken from the size, while the search goes on.
use mathlib.Core.Path.{sym}
use Rattle.fetch_propose.proofs.SearchLaws.{left_going, left_ended}
use Rattle.fetch_propose.proofs.propose.Search.left.Goals as goal

pub returns-then-self : goal.returns-then-self
returns-then-self c = let a = c.args in sym (left_going a.self.seen a.self.size c.if-self.true)

pub returns : goal.returns
returns c = let a = c.args in sym (left_ended a.self.seen a.self.size c.if-self.false)
