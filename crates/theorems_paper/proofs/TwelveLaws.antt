-- The twelve cases, each computed on the definitions; case 7, of every table, is a law of carrying.
-- Assumes nothing.
use mathlib.Core.Path.{refl}
use Rattle.table.specs.Table.{next}
use Rattle.carry.specs.Stamp.{later_of}
use Rattle.carry.proofs.CarryLaws.{unchanged}
use Rattle.theorems_paper.specs.Reader.{switched_on, access, first, second}
use Rattle.theorems_paper.specs.Twelve.{seen, last, ticked, carrying, cut_in, Case1, Case2, Case3, Case4, Case5, Case6, Case7, Case8, Case9, Case10, Case11, Case12, TwelveCases}

case_1 : Case1
unfolding seen switched_on
case_1 = refl

case_2 : Case2
unfolding seen second
case_2 = refl

case_3 : Case3
unfolding seen second
case_3 = refl

case_4 : Case4
unfolding seen second
case_4 = refl

case_5 : Case5
unfolding ticked last
case_5 = refl

case_6 : Case6
unfolding carrying
case_6 = refl

case_7 : Case7
case_7 stamp t h s = unchanged stamp (next t) t s refl

case_8 : Case8
unfolding later_of
case_8 = refl

case_9 : Case9
unfolding cut_in
case_9 = refl

case_10 : Case10
unfolding access switched_on
case_10 = refl

case_11 : Case11
unfolding access first
case_11 = refl

case_12 : Case12
unfolding seen second
case_12 = refl

pub twelve_cases : TwelveCases
twelve_cases =
    record {
      case_1 = case_1;
      case_2 = case_2;
      case_3 = case_3;
      case_4 = case_4;
      case_5 = case_5;
      case_6 = case_6;
      case_7 = case_7;
      case_8 = case_8;
      case_9 = case_9;
      case_10 = case_10;
      case_11 = case_11;
      case_12 = case_12;
    }
