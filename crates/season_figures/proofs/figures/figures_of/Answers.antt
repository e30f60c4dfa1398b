-- A Time_Update gives its move, a Time_Fault a fault.
use Rattle.std.proofs.Common.{sym, refl, ap, ◌∙◌}
use Rattle.season_figures.specs.Figures.{nothing, figures_of}
use Rattle.season_figures.specs.declared.figures.Figures.{Figures}
use Rattle.season_figures.proofs.FigureLaws.{same_figures}
use Rattle.season_figures.proofs.figures.figures_of.Goals as goal

pub returns-in-TimeUpdate : goal.returns-in-TimeUpdate
unfolding figures_of
returns-in-TimeUpdate c =
    same_figures refl c.saturating_sub.ensures c.saturating_sub-in-TimeUpdate.ensures refl c.abs_diff.ensures
    ∙ sym (ap figures_of c.in-TimeUpdate.is)

pub returns-in-TimeFault : goal.returns-in-TimeFault
unfolding nothing figures_of
returns-in-TimeFault c =
    let e = c.no_figures.ensures in
    same_figures (ap (λ (f : Figures). f.updates) e) (ap (λ (f : Figures). f.forward) e) (ap (λ (f : Figures). f.back) e) refl
    (ap (λ (f : Figures). f.largest) e)
    ∙ sym (ap figures_of c.in-TimeFault.is)
