-- The request's bytes, read by the rules for a write.
use Rattle.theorems_fetched.proofs.FetchedLaws.{asks_for_run}
use Rattle.theorems_fetched.proofs.fetches.asks_for_run.Goals as goal

pub returns : goal.returns
returns c = asks_for_run
