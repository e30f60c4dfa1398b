-- By computing.
use mathlib.Core.Path.{refl}
use Rattle.theorems_stamps.proofs.WriteLaws.{writable}
use Rattle.theorems_fetched.specs.CasesAt.{came_of}
use Rattle.theorems_fetched.proofs.FetchedAtLaws.{request_is_bytes}
use Rattle.theorems_fetched.proofs.fetches.computed_at.Goals as goal

pub returns : goal.returns
unfolding came_of
returns c = record { writable = writable; asks = λ n. request_is_bytes 2 3; came = refl }
