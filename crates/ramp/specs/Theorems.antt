-- What is promised of one beast or two beyond the call's own equation (change request E5): which answer comes when.
use Rattle.std.specs.Prelude.{◌≡◌, List, ℕ, ◌≤◌, leb, eqb, ℤ, Ok}
use Rattle.octets.specs.Choice.{pick}
use Rattle.carry.specs.Stamp.{carry_of, carrying_number}
use Rattle.ramp.specs.Beast.{widest_window, age_of, judge_of, one_beast_of, verdict_number, verdict_side}
use Rattle.ramp.specs.declared.beast.Seen.{Seen}

-- the first of two refusals, 0 being none
abbrev pub first_refusal : ℕ → ℕ → ℕ
first_refusal left right = pick (eqb left 0) right left

-- its side
abbrev pub first_side : ℕ → ℕ → ℕ
first_side left right = pick (eqb left 0) (pick (eqb right 0) 0 2) 1

module _ (left : Seen) (leftTable : List ℕ) (right : Seen) (rightTable : List ℕ) (window : ℕ) where
  abbrev pub left_number : ℕ
  left_number = carrying_number (carry_of left.stamp left.next leftTable)

  abbrev pub right_number : ℕ
  right_number = carrying_number (carry_of right.stamp right.next rightTable)

  pub record Answers : Type 0 where
    -- "18 window too wide, tested first"; then the left carrying's number, then the right one's
    pub number : verdict_number (one_beast_of left leftTable right rightTable window)
        ≡ pick (leb window widest_window) (first_refusal left_number right_number) 18
    -- 18 has no side
    pub side : verdict_side (one_beast_of left leftTable right rightTable window)
        ≡ pick (leb window widest_window) (first_side left_number right_number) 0
    -- where both stamps are carried, it is judged by the two ages
    pub judged : (l r : ℤ) → window ≤ widest_window
        → carry_of left.stamp left.next leftTable ≡ Ok l
        → carry_of right.stamp right.next rightTable ≡ Ok r
        → one_beast_of left leftTable right rightTable window ≡ Ok (judge_of window (age_of left.base l) (age_of right.base r))

abbrev pub AnswersWhen : Type 0
AnswersWhen = (left : Seen) (leftTable : List ℕ) (right : Seen) (rightTable : List ℕ) (window : ℕ)
    → Answers left leftTable right rightTable window
