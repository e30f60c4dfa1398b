-- Of its bytes none counts.
use mathlib.Core.Path.{refl}
use Rattle.loading_day.specs.Page.{page_text}
use Rattle.loading_day.proofs.page.blank.Goals as goal

pub returns : goal.returns
unfolding page_text
returns c = (refl, refl)
