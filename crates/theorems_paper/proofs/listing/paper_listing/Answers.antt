-- The listings, computed on the definitions.
use mathlib.Core.Path.{refl}
use Rattle.theorems_paper.specs.Reader.{first}
use Rattle.theorems_paper.specs.Twelve.{set_back_write}
use Rattle.theorems_paper.specs.Listing.{listed, PaperListing}
use Rattle.theorems_paper.proofs.listing.paper_listing.Goals as goal

computed : PaperListing
unfolding listed first set_back_write
computed = record { case_1 = refl; cases = refl; too_long = refl; nothing = refl }

pub returns : goal.returns
returns c = computed
