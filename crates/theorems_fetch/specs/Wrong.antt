-- Wrong ways to tell, to take in and to propose, which the theorem Kept shuts out.
use Rattle.std.specs.Prelude.{◌++◌, Some, None, Ok, Err, ltb}
use Rattle.octets.specs.Choice.{pick}
use Rattle.octets.specs.Parts.{part}
use Rattle.fetch_told.specs.Told.{span}
use Rattle.fetch_propose.specs.Propose.{Proposal}
use Rattle.theorems_fetch.specs.History.{Tell, Take, Propose, tell, take, propose, new_map, presumed, KeptBelow}

-- bits outside the told range are kept
abbrev pub keeping : Tell
keeping m told = m

-- all bits are cleared, so that the whole log is fetched again
abbrev pub forgetting : Tell
forgetting m told = new_map

-- the last word is forgotten
abbrev pub but_the_last : Tell
but_the_last m told = part (tell m told) 0 1023 ++ part m 1023 1

-- a record outside the told range is taken in: as if all numbers were told
abbrev pub anywhere : Take
anywhere m told s = take m (Some (span 0 65535)) s

-- a run is cut at 65,535
abbrev pub cut_off : Proposal → Proposal
cut_off (Ok (Some run)) = pick (ltb run.last run.first) (Ok (Some (span run.first 65535))) (Ok (Some run))
cut_off (Ok None) = Ok None
cut_off (Err why) = Err why

abbrev pub cutting : Propose
cutting m told = cut_off (propose m told)

pub record ShutOut : Type 0 where
  pub keeping : KeptBelow presumed keeping take propose → ⊥
  pub forgetting : KeptBelow presumed forgetting take propose → ⊥
  pub but_the_last : KeptBelow presumed but_the_last take propose → ⊥
  pub anywhere : KeptBelow presumed tell anywhere propose → ⊥
  pub cutting : KeptBelow presumed tell take cutting → ⊥
