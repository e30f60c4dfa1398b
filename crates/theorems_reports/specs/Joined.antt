-- Notifications fed in order to the tablet's joining: the records it then reads, and whether none was refused.
use Rattle.std.specs.Prelude.{Bool, true, false, List, [], ◌∷◌, ℕ, Option}
use Rattle.record_read.specs.Reading.{read_of}
use Rattle.joining.specs.Joining.{join_of, joined_in}
use Rattle.joining.specs.declared.joining.Answer.{Answer}
use Rattle.joining.specs.declared.joining.Answer.TheVariants.{More, Whole, Refused}
use Rattle.joining.specs.declared.joining.Joining.{Joining}
use Rattle.record.specs.declared.kinds.Record.{Record}

pub record Got : Type 0 where
  pub records : List (Option Record)
  pub fine : Bool

abbrev pub got : List (Option Record) → Bool → Got
got r f = record { records = r; fine = f }

-- one notification's answer and the state after it, then the rest
abbrev pub add : Answer → Joining → Got → Got
add More j g = g
add Whole j g = got (read_of (joined_in j) ∷ g.records) g.fine
add Refused j g = got g.records false

unfoldable pub join_all : Joining → List (List ℕ) → Got
join_all j [] = got [] true
join_all j (n ∷ ns) =
    let x = join_of j n in
    let rest = join_all x.joining ns in
    add x.answer x.joining rest
