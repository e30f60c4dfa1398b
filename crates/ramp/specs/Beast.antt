-- One beast or two (change request E5), in the request's order: "both antennas' tables, their clocks' Base_Time at one instant, two stamps of one
-- tag with their next numbers, and a window of 0 to 60 seconds". The way of carrying is left open, so that nothing here looks into a table.
use Rattle.std.specs.Prelude.{Bool, List, ℕ, leb, ℤ, pos, nat_abs, ◌-ℤ◌, Result, Ok, Err}
use Rattle.octets.specs.Choice.{pick}
use Rattle.carry.specs.Stamp.{carry_of, carrying_number}
use Rattle.ramp.specs.declared.beast.Seen.{Seen}
use Rattle.ramp.specs.declared.beast.Beasts.{Beasts}
use Rattle.ramp.specs.declared.beast.Beasts.TheVariants.{One, Two}
use Rattle.ramp.specs.declared.beast.RampError.{RampError}
use Rattle.ramp.specs.declared.beast.RampError.TheVariants.{WindowTooWide, LeftRefused, RightRefused}
use Rattle.carry.specs.declared.stamp.CarryError.{CarryError}
use Rattle.carry.specs.declared.stamp.CarryError.TheVariants.{FaultAmong, NotHeld, TableNotSound}

-- "says "one" .. else "two", or names the side and number of the refusal"
abbrev pub Verdict : Type 0
Verdict = Result Beasts RampError

-- "a window of 0 to 60 seconds"
abbrev pub widest_window : ℕ
widest_window = 60

-- "It carries both stamps, takes each from its own clock": a stamp's age, signed
unfoldable pub age_of : ℕ → ℤ → ℤ
age_of base carried = pos base -ℤ carried

-- "the two ages differ by at most the window"; `nat_abs z` is the size of z, n for n and for -n
unfoldable pub within_b : ℕ → ℤ → ℤ → Bool
within_b window left right = leb (nat_abs (left -ℤ right)) window

-- "says "one" exactly when .. else "two""
unfoldable pub judge_of : ℕ → ℤ → ℤ → Beasts
judge_of window left right = pick (within_b window left right) One Two

-- what follows from a carried stamp, "or names the side and number of the refusal"
unfoldable pub carried_or : (ℤ → Verdict) → (ℕ → Verdict) → Result ℤ CarryError → Verdict
carried_or then refused (Ok z) = then z
carried_or then refused (Err TableNotSound) = refused (carrying_number (Err TableNotSound))
carried_or then refused (Err NotHeld) = refused (carrying_number (Err NotHeld))
carried_or then refused (Err FaultAmong) = refused (carrying_number (Err FaultAmong))

-- "left side first": all of the left carrying, then all of the right one
unfoldable pub verdict_of : ℕ → ℕ → Result ℤ CarryError → ℕ → Result ℤ CarryError → Verdict
verdict_of window leftBase left rightBase right =
    carried_or
    (λ l. carried_or (λ r. Ok (judge_of window (age_of leftBase l) (age_of rightBase r))) (λ n. Err (RightRefused n)) right)
    (λ n. Err (LeftRefused n)) left

-- "18 window too wide, tested first"; a stamp is carried from the stamp, its next number and a table
unfoldable pub beast_by : (ℕ → ℕ → List ℕ → Result ℤ CarryError) → Seen → List ℕ → Seen → List ℕ → ℕ → Verdict
beast_by carry left leftTable right rightTable window =
    pick (leb window widest_window)
    (verdict_of window
    left.base (carry left.stamp left.next leftTable)
    right.base (carry right.stamp right.next rightTable))
    (Err WindowTooWide)

unfoldable pub one_beast_of : Seen → List ℕ → Seen → List ℕ → ℕ → Verdict
one_beast_of = beast_by carry_of

-- "0 means done"; 18 has no side
unfoldable pub verdict_number : Verdict → ℕ
verdict_number (Ok beasts) = 0
verdict_number (Err WindowTooWide) = 18
verdict_number (Err (LeftRefused n)) = n
verdict_number (Err (RightRefused n)) = n

-- 1 is the left side, 2 the right one
unfoldable pub verdict_side : Verdict → ℕ
verdict_side (Ok beasts) = 0
verdict_side (Err WindowTooWide) = 0
verdict_side (Err (LeftRefused n)) = 1
verdict_side (Err (RightRefused n)) = 2
