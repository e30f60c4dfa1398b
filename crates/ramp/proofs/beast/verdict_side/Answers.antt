-- Each verdict's side, by `verdict_side`.
use Rattle.std.proofs.Common.{rules}
use Rattle.ramp.specs.Beast.{verdict_side}
use Rattle.ramp.proofs.beast.verdict_side.Goals as goal

pub returns-in-Ok : goal.returns-in-Ok
unfolding verdict_side
returns-in-Ok c = search rules

pub returns-in-Err-WindowTooWide : goal.returns-in-Err-WindowTooWide
unfolding verdict_side
returns-in-Err-WindowTooWide c = search rules

pub returns-in-Err-LeftRefused : goal.returns-in-Err-LeftRefused
unfolding verdict_side
returns-in-Err-LeftRefused c = search rules

pub returns-in-Err-RightRefused : goal.returns-in-Err-RightRefused
unfolding verdict_side
returns-in-Err-RightRefused c = search rules
