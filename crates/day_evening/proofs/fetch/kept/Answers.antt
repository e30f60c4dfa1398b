-- By the answer.
use Rattle.day_evening.specs.Fetch.{kept_in}
use Rattle.day_evening.proofs.FetchLaws.{kept_whole}
use Rattle.day_evening.proofs.fetch.kept.Goals as goal

pub returns-in-More : goal.returns-in-More
unfolding kept_in
returns-in-More c = rw c.in-More.is

pub returns-in-Whole : goal.returns-in-Whole
returns-in-Whole c =
    let a = c.args in
    kept_whole a.copy a.j c.in-Whole.is c.stored.ensures

pub returns-in-Refused : goal.returns-in-Refused
unfolding kept_in
returns-in-Refused c = rw c.in-Refused.is
