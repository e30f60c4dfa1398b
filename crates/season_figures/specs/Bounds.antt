-- How large season figures can be: the records of a sound table obey the rules, so no move is longer than Base_Time's range.
use Rattle.std.specs.Prelude.{◌≡◌, ℕ, ◌+◌, ◌*◌, ◌≤◌, true, List, [], ◌∷◌}
use Rattle.record_read.specs.Reading.{record_b}
use Rattle.record.specs.declared.kinds.Record.{Record}
use Rattle.season_figures.specs.declared.figures.Figures.{Figures}

-- from 631,152,000 to 3,155,759,999
abbrev pub widest_move : ℕ
widest_move = 2524607999

-- every record obeys the rules
abbrev pub AllRight : List Record → Type 0
AllRight [] = Unit {0}
AllRight (r ∷ l) = (record_b r ≡ true) × AllRight l

-- figures as n such records can have them
pub record Small (n : ℕ) (f : Figures) : Type 0 where
  pub entries : f.updates + f.faults ≤ n
  pub seconds : f.forward + f.back ≤ n * widest_move
  pub move : f.largest ≤ widest_move
