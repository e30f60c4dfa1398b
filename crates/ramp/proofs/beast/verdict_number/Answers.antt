-- Each verdict's number, by `verdict_number`.
use Rattle.std.proofs.Common.{rules}
use Rattle.ramp.specs.Beast.{verdict_number}
use Rattle.ramp.proofs.beast.verdict_number.Goals as goal

pub returns-in-Ok : goal.returns-in-Ok
unfolding verdict_number
returns-in-Ok c = search rules

pub returns-in-Err-WindowTooWide : goal.returns-in-Err-WindowTooWide
unfolding verdict_number
returns-in-Err-WindowTooWide c = search rules

pub returns-in-Err-LeftRefused : goal.returns-in-Err-LeftRefused
unfolding verdict_number
returns-in-Err-LeftRefused c = search rules

pub returns-in-Err-RightRefused : goal.returns-in-Err-RightRefused
unfolding verdict_number
returns-in-Err-RightRefused c = search rules
