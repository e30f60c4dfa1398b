-- Lines with what an ordinary day does not show, run by the checker.
use Rattle.std.specs.Prelude.{◌≡◌, [], ◌∷◌, pos, negsuc, Some, None, Ok, Err}
use Rattle.ramp.specs.declared.beast.Beasts.TheVariants.{Two}
use Rattle.ramp.specs.declared.beast.RampError.TheVariants.{WindowTooWide, LeftRefused, RightRefused}
use Rattle.day_sheet.specs.Sheet.{seen, tag_line}
use Rattle.carry.specs.declared.stamp.CarryError.TheVariants.{NotHeld, TableNotSound}

pub record Computed : Type 0 where
  -- `9 00:00:07 23:59:59 86392 | before refused 12 - | right 12`
  pub before : tag_line 9 (seen 7 (Ok (negsuc 19))) (seen 86399 (Err NotHeld)) (Some (Err (RightRefused 12))) ≡ 57 ∷ 32 ∷ 48 ∷ 48 ∷ 58 ∷ 48 ∷ 48 ∷ 58 ∷ 48 ∷ 55 ∷ 32 ∷ 50 ∷ 51 ∷ 58 ∷ 53 ∷ 57 ∷ 58 ∷ 53 ∷ 57 ∷ 32 ∷ 56 ∷ 54 ∷ 51 ∷ 57 ∷ 50 ∷ 32 ∷ 124 ∷ 32 ∷ 98 ∷ 101 ∷ 102 ∷ 111 ∷ 114 ∷ 101 ∷ 32 ∷ 114 ∷ 101 ∷ 102 ∷ 117 ∷ 115 ∷ 101 ∷ 100 ∷ 32 ∷ 49 ∷ 50 ∷ 32 ∷ 45 ∷ 32 ∷ 124 ∷ 32 ∷ 114 ∷ 105 ∷ 103 ∷ 104 ∷ 116 ∷ 32 ∷ 49 ∷ 50 ∷ 10 ∷ []
  -- `65535 - 00:00:00 - | - 00:00:10 - | -`
  pub missed : tag_line 65535 None (seen 86400 (Ok (pos 10))) None ≡ 54 ∷ 53 ∷ 53 ∷ 51 ∷ 53 ∷ 32 ∷ 45 ∷ 32 ∷ 48 ∷ 48 ∷ 58 ∷ 48 ∷ 48 ∷ 58 ∷ 48 ∷ 48 ∷ 32 ∷ 45 ∷ 32 ∷ 124 ∷ 32 ∷ 45 ∷ 32 ∷ 48 ∷ 48 ∷ 58 ∷ 48 ∷ 48 ∷ 58 ∷ 49 ∷ 48 ∷ 32 ∷ 45 ∷ 32 ∷ 124 ∷ 32 ∷ 45 ∷ 10 ∷ []
  -- `1 - - - | - - - | -`
  pub nobody : tag_line 1 None None None ≡ 49 ∷ 32 ∷ 45 ∷ 32 ∷ 45 ∷ 32 ∷ 45 ∷ 32 ∷ 124 ∷ 32 ∷ 45 ∷ 32 ∷ 45 ∷ 32 ∷ 45 ∷ 32 ∷ 124 ∷ 32 ∷ 45 ∷ 10 ∷ []
  -- `2 00:00:01 00:00:02 1 | refused 1 23:59:59 - | left 1`
  pub unsound : tag_line 2 (seen 1 (Err TableNotSound)) (seen 2 (Ok (pos 9223372036854719999))) (Some (Err (LeftRefused 1))) ≡ 50 ∷ 32 ∷ 48 ∷ 48 ∷ 58 ∷ 48 ∷ 48 ∷ 58 ∷ 48 ∷ 49 ∷ 32 ∷ 48 ∷ 48 ∷ 58 ∷ 48 ∷ 48 ∷ 58 ∷ 48 ∷ 50 ∷ 32 ∷ 49 ∷ 32 ∷ 124 ∷ 32 ∷ 114 ∷ 101 ∷ 102 ∷ 117 ∷ 115 ∷ 101 ∷ 100 ∷ 32 ∷ 49 ∷ 32 ∷ 50 ∷ 51 ∷ 58 ∷ 53 ∷ 57 ∷ 58 ∷ 53 ∷ 57 ∷ 32 ∷ 45 ∷ 32 ∷ 124 ∷ 32 ∷ 108 ∷ 101 ∷ 102 ∷ 116 ∷ 32 ∷ 49 ∷ 10 ∷ []
  -- `3 00:00:10 00:00:21 11 | 00:00:10 00:00:21 11 | two`
  pub two : tag_line 3 (seen 10 (Ok (pos 10))) (seen 21 (Ok (pos 21))) (Some (Ok Two)) ≡ 51 ∷ 32 ∷ 48 ∷ 48 ∷ 58 ∷ 48 ∷ 48 ∷ 58 ∷ 49 ∷ 48 ∷ 32 ∷ 48 ∷ 48 ∷ 58 ∷ 48 ∷ 48 ∷ 58 ∷ 50 ∷ 49 ∷ 32 ∷ 49 ∷ 49 ∷ 32 ∷ 124 ∷ 32 ∷ 48 ∷ 48 ∷ 58 ∷ 48 ∷ 48 ∷ 58 ∷ 49 ∷ 48 ∷ 32 ∷ 48 ∷ 48 ∷ 58 ∷ 48 ∷ 48 ∷ 58 ∷ 50 ∷ 49 ∷ 32 ∷ 49 ∷ 49 ∷ 32 ∷ 124 ∷ 32 ∷ 116 ∷ 119 ∷ 111 ∷ 10 ∷ []
  -- `4 00:00:10 00:00:20 10 | 00:00:10 00:00:20 10 | 18`
  pub too_wide : tag_line 4 (seen 10 (Ok (pos 10))) (seen 20 (Ok (pos 20))) (Some (Err WindowTooWide)) ≡ 52 ∷ 32 ∷ 48 ∷ 48 ∷ 58 ∷ 48 ∷ 48 ∷ 58 ∷ 49 ∷ 48 ∷ 32 ∷ 48 ∷ 48 ∷ 58 ∷ 48 ∷ 48 ∷ 58 ∷ 50 ∷ 48 ∷ 32 ∷ 49 ∷ 48 ∷ 32 ∷ 124 ∷ 32 ∷ 48 ∷ 48 ∷ 58 ∷ 48 ∷ 48 ∷ 58 ∷ 49 ∷ 48 ∷ 32 ∷ 48 ∷ 48 ∷ 58 ∷ 48 ∷ 48 ∷ 58 ∷ 50 ∷ 48 ∷ 32 ∷ 49 ∷ 48 ∷ 32 ∷ 124 ∷ 32 ∷ 49 ∷ 56 ∷ 10 ∷ []
