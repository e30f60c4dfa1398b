-- The theorem One beast (change request E5): two readers started new, any calls on each, a beast seen by both at two instants. The way of judging is
-- left open, so that wrong ways can be shown wrong.
use Rattle.std.specs.Prelude.{◌≡◌, Bool, true, List, ℕ, ◌+◌, ◌-◌, ◌≤◌, ◌<◌, leb, eqb, length, Ok, Err}
use Rattle.octets.specs.Choice.{pick}
use Rattle.table.specs.Table.{size_b, next}
use Rattle.carry.specs.Stamp.{no_fault_b, carry_of}
use Rattle.ramp.specs.Beast.{Verdict, widest_window, beast_by}
use Rattle.ramp.specs.declared.beast.Seen.{Seen}
use Rattle.ramp.specs.declared.beast.Beasts.TheVariants.{One, Two}
use Rattle.ramp.specs.declared.beast.RampError.TheVariants.{WindowTooWide, LeftRefused, RightRefused}
use Rattle.theorems_reports.specs.World.{World, new_world, Call, run_of}
use Rattle.theorems_stamps.specs.Stamps.{ran_of, logged_of, Carrying, all_held_b, CarriedStamp}

-- how one beast or two is judged: `beast_by carry_of`, or a wrong way
abbrev pub Judging : Type 0
Judging = Seen → List ℕ → Seen → List ℕ → ℕ → Verdict

-- What an antenna has of a beast that it saw in the world v, after the calls `after`: the clock's time then and the log's next number, and the
-- clock's time now.
abbrev pub seen_after : World → List Call → Seen
seen_after v after = record { base = (run_of v after).clock.time.base; stamp = v.clock.time.base; next = next v.table }

-- what is answered of a beast that the left antenna saw in the world l and the right one in the world r
abbrev pub verdict_after : Judging → World → List Call → World → List Call → ℕ → Verdict
verdict_after judge l la r ra window = judge (seen_after l la) (run_of l la).table (seen_after r ra) (run_of r ra).table window

-- "all later records .. are held and no fault is among them": 0, else the refusal
abbrev pub refusal_by : Bool → Bool → ℕ
refusal_by held faultless = pick held (pick faultless 0 13) 12

-- the seconds between two numbers of seconds, either way round
abbrev pub apart : ℕ → ℕ → ℕ
apart a b = (a - b) + (b - a)

-- What is true of a beast: by each side's refusal, and by the seconds that ran since each read. Both are counted up to one instant, so the seconds
-- that ran between the two reads are those by which they differ.
unfoldable pub truth_of : ℕ → ℕ → ℕ → ℕ → ℕ → Verdict
truth_of window left_number left_ran right_number right_ran =
    pick (leb window widest_window)
    (pick (eqb left_number 0)
    (pick (eqb right_number 0)
    (Ok (pick (leb (apart left_ran right_ran) window) One Two))
    (Err (RightRefused right_number)))
    (Err (LeftRefused left_number)))
    (Err WindowTooWide)

abbrev pub truth_after : World → List Call → World → List Call → ℕ → Verdict
truth_after l la r ra window =
    truth_of window
    (refusal_by (all_held_b l la) (no_fault_b (logged_of l la))) (ran_of l la)
    (refusal_by (all_held_b r ra) (no_fault_b (logged_of r ra))) (ran_of r ra)

-- of fewer than n later records on either side
abbrev pub OneBeastBelow : ℕ → Judging → Type 0
OneBeastBelow n judge = (lt rt : List ℕ) (lb la rb ra : List Call) (window : ℕ) → size_b (length lt) ≡ true → size_b (length rt) ≡ true
    → let l = run_of (new_world lt) lb in
    let r = run_of (new_world rt) rb in
    length (logged_of l la) < n → length (logged_of r ra) < n → verdict_after judge l la r ra window ≡ truth_after l la r ra window

-- Theorem One beast.
abbrev pub OneBeast : Judging → Type 0
OneBeast = OneBeastBelow 65536

-- It cites of carrying nothing but its promise, the theorem Carried stamp.
abbrev pub ByCarrying : Type 0
ByCarrying = (carry : Carrying) → CarriedStamp carry → OneBeast (beast_by carry)

-- Where both antennas can be carried, told by the seconds between the two reads: the left one's came x seconds before the right one's, or after
-- it, and since the later read both clocks counted the same n seconds.
pub record Between (l : World) (la : List Call) (r : World) (ra : List Call) (window : ℕ) : Type 0 where
  pub left_first : (x n : ℕ) → ran_of l la ≡ x + n → ran_of r ra ≡ n → verdict_after (beast_by carry_of) l la r ra window ≡ Ok (pick (leb x window) One Two)
  pub right_first_lem : (x n : ℕ) → ran_of l la ≡ n → ran_of r ra ≡ x + n → verdict_after (beast_by carry_of) l la r ra window ≡ Ok (pick (leb x window) One Two)

abbrev pub BetweenReads : Type 0
BetweenReads = (lt rt : List ℕ) (lb la rb ra : List Call) (window : ℕ) → size_b (length lt) ≡ true → size_b (length rt) ≡ true → window ≤ widest_window
    → let l = run_of (new_world lt) lb in
    let r = run_of (new_world rt) rb in
    length (logged_of l la) < 65536 → length (logged_of r ra) < 65536
    → all_held_b l la ≡ true → no_fault_b (logged_of l la) ≡ true → all_held_b r ra ≡ true → no_fault_b (logged_of r ra) ≡ true
    → Between l la r ra window

pub record OneBeastHolds : Type 0 where
  pub by_carrying : ByCarrying
  pub one_beast : OneBeast (beast_by carry_of)
  pub between_reads : BetweenReads
