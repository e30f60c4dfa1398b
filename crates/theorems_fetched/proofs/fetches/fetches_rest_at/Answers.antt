-- What is told, proposed, heard, read and taken in over bytes is so by value.
use Rattle.theorems_fetched.proofs.FetchedAtLaws.{fetches_rest_at}
use Rattle.theorems_fetched.proofs.fetches.fetches_rest_at.Goals as goal

pub returns : goal.returns
returns c = fetches_rest_at
