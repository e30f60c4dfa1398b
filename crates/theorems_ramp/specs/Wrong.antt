-- Wrong ways to judge one beast or two, which the theorem One beast shuts out; and one that no history of calls tells from the right one, since no
-- clock runs backwards by itself, but the call's own equation does.
use Rattle.std.specs.Prelude.{◌≡◌, List, ℕ, ◌-◌, leb, ℤ, pos, negsuc, nat_abs, Ok, Err}
use Rattle.octets.specs.Choice.{pick}
use Rattle.table_write.specs.Start.{fresh}
use Rattle.carry.specs.Stamp.{carry_of}
use Rattle.ramp.specs.Beast.{widest_window, age_of, judge_of, carried_or, one_beast_of}
use Rattle.ramp.specs.declared.beast.Seen.{Seen}
use Rattle.ramp.specs.declared.beast.Beasts.{Beasts}
use Rattle.ramp.specs.declared.beast.Beasts.TheVariants.{One, Two}
use Rattle.ramp.specs.declared.beast.RampError.TheVariants.{WindowTooWide, LeftRefused, RightRefused}
use Rattle.theorems_ramp.specs.OneBeast.{Judging, OneBeast}

-- how two carried stamps are compared, with both clocks' Base_Time: right is by their ages
abbrev pub Comparing : Type 0
Comparing = ℕ → ℕ → ℤ → ℕ → ℤ → Beasts

-- judging, with each part that can be wrong: the widest window, and how two carried stamps are compared
unfoldable pub judge_with : ℕ → Comparing → Judging
judge_with widest compare left leftTable right rightTable window =
    pick (leb window widest)
    (carried_or
    (λ l. carried_or (λ r. Ok (compare window left.base l right.base r)) (λ n. Err (RightRefused n)) (carry_of right.stamp right.next rightTable))
    (λ n. Err (LeftRefused n)) (carry_of left.stamp left.next leftTable))
    (Err WindowTooWide)

abbrev pub by_ages : Comparing
by_ages window lb l rb r = judge_of window (age_of lb l) (age_of rb r)

-- carried stamps compared instead of ages
abbrev pub by_stamps : Comparing
by_stamps window lb l rb r = judge_of window l r

-- the difference of the ages unsigned: it stops at 0
abbrev pub stopping : Comparing
stopping window lb l rb r = pick (leb (nat_abs (age_of lb l) - nat_abs (age_of rb r)) window) One Two

-- the right side first
unfoldable pub right_first : Judging
right_first left leftTable right rightTable window =
    pick (leb window widest_window)
    (carried_or
    (λ r. carried_or (λ l. Ok (by_ages window left.base l right.base r)) (λ n. Err (LeftRefused n)) (carry_of left.stamp left.next leftTable))
    (λ n. Err (RightRefused n)) (carry_of right.stamp right.next rightTable))
    (Err WindowTooWide)

-- the stamps as they were noted, not carried
unfoldable pub uncarried : Judging
uncarried left leftTable right rightTable window = pick (leb window widest_window) (Ok (judge_of window (pos left.stamp) (pos right.stamp))) (Err WindowTooWide)

-- unsigned ages: one below 0 is 0
unfoldable pub unsigned : ℤ → ℤ
unsigned (pos n) = pos n
unsigned (negsuc n) = pos 0

abbrev pub by_unsigned : Comparing
by_unsigned window lb l rb r = judge_of window (unsigned (age_of lb l)) (unsigned (age_of rb r))

-- new readers' logs, a clock at 0 and a stamp of 5: an age of -5
abbrev pub before : Seen
before = record { base = 0; stamp = 5; next = 0 }

abbrev pub still : Seen
still = record { base = 0; stamp = 0; next = 0 }

pub record ShutOut : Type 0 where
  -- with the right parts it is `one_beast_of`: each wrong way is wrong in its one part
  pub right : (l : Seen) (lt : List ℕ) (r : Seen) (rt : List ℕ) (window : ℕ)
      → judge_with widest_window by_ages l lt r rt window ≡ one_beast_of l lt r rt window
  pub by_stamps_lem : OneBeast (judge_with widest_window by_stamps) → ⊥
  pub stopping : OneBeast (judge_with widest_window stopping) → ⊥
  pub wider : OneBeast (judge_with 61 by_ages) → ⊥
  pub right_first_lem : OneBeast right_first → ⊥
  pub uncarried : OneBeast uncarried → ⊥
  pub unsigned : judge_with widest_window by_unsigned before (fresh 4) still (fresh 4) 4 ≡ one_beast_of before (fresh 4) still (fresh 4) 4 → ⊥
