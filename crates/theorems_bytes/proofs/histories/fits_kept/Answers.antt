-- Call by call.
use Rattle.theorems_bytes.proofs.FitLaws.{fits_kept}
use Rattle.theorems_bytes.proofs.histories.fits_kept.Goals as goal

pub returns : goal.returns
returns c = fits_kept
