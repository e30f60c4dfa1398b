-- What is missing is one run to the newest number, and after its fetch no number is missing.
use Rattle.theorems_fetched.proofs.FetchedLaws.{fetches_rest}
use Rattle.theorems_fetched.proofs.fetches.fetches_rest.Goals as goal

pub returns : goal.returns
returns c = fetches_rest
