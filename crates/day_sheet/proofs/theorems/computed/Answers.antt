-- The lines, by computing them.
use mathlib.Core.Path.{refl}
use Rattle.text.specs.Line.{digits_up_to, decimal, two_digits}
use Rattle.carry.specs.Stamp.{carrying_number}
use Rattle.ramp.specs.Beast.{verdict_number}
use Rattle.day_sheet.specs.Sheet.{time_of_day, noted_of, signed_of, outcome_of, carried_of, shown_text, gap, apart_text, pair_text, verdict_text, ruling_text, tag_line}
use Rattle.day_sheet.specs.Theorems.{Computed}
use Rattle.day_sheet.proofs.theorems.computed.Goals as goal

all : Computed
unfolding tag_line ruling_text verdict_text verdict_number pair_text apart_text gap shown_text carried_of outcome_of signed_of noted_of time_of_day two_digits carrying_number decimal digits_up_to
all = record { before = refl; missed = refl; nobody = refl; unsound = refl; two = refl; too_wide = refl }

pub returns : goal.returns
returns c = all
