-- `restart` is `empty_joining`.
use Rattle.joining.specs.Joining.{empty_joining}
use Rattle.std.proofs.Common.{rules}
use Rattle.joining.proofs.joining.restart.Goals as goal

pub returns : goal.returns
unfolding empty_joining
returns c = search rules
