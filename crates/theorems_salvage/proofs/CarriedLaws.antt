-- The salvaged table holds the newest of the reader's records, and carrying looks at those alone.
-- Assumes nothing.
use mathlib.Core.Path.{◌∙◌}
use Rattle.carry.proofs.NewestLaws.{carry_newest}
use Rattle.salvage_run.specs.Runs.{run_of}
use Rattle.salvage_table.specs.Salvaged.{salvaged_table}
use Rattle.theorems_salvage.specs.Carried.{CarriesAlike}
use Rattle.theorems_salvage.proofs.TableLaws.{comes_back}

pub carries_alike : CarriesAlike
carries_alike t w stamp q h l few =
    let c = comes_back t h in
    carry_newest stamp q (run_of t).count w (salvaged_table t) l.sound c.sound (c.held ∙ l.records) (c.next ∙ l.next) few
