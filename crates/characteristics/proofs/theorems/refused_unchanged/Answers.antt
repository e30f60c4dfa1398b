-- Reading changes neither clock nor table, and a refusal not the output either.
use Rattle.characteristics.proofs.ValueLaws.{refused_unchanged}
use Rattle.characteristics.proofs.theorems.refused_unchanged.Goals as goal

pub returns : goal.returns
returns c = refused_unchanged
