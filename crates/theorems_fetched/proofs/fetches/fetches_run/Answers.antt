-- The report's records are those of the run, and each is taken in by its number.
use Rattle.theorems_fetched.proofs.FetchedLaws.{fetches_run}
use Rattle.theorems_fetched.proofs.fetches.fetches_run.Goals as goal

pub returns : goal.returns
returns c = fetches_run
