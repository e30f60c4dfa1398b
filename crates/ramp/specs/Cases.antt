-- Cases of one beast or two, worked out by hand from the request and run by the checker on the definitions that the promises cite. The tables are
-- those of carrying's cases: T0 is new; T3 holds a clock set to 800,000,000, and 100 seconds later set back by 30.
use Rattle.std.specs.Prelude.{◌≡◌, List, [], ◌∷◌, map, ℕ, ◌+◌, take, Ok, Err, Result, ℤ}
use Rattle.carry.specs.Cases.{t0, t3, tf, rolled, logged, first, back, fault, got as carried}
use Rattle.carry.specs.Stamp.{carrying_number}
use Rattle.ramp.specs.Beast.{Verdict, age_of, within_b, judge_of, carried_or, verdict_of, beast_by}
use Rattle.ramp.specs.declared.beast.Seen.{Seen}
use Rattle.ramp.specs.declared.beast.Beasts.TheVariants.{One, Two}
use Rattle.ramp.specs.declared.beast.RampError.TheVariants.{WindowTooWide, LeftRefused, RightRefused}
use Rattle.carry.specs.declared.stamp.CarryError.{CarryError}
use Rattle.carry.specs.declared.stamp.CarryError.TheVariants.{NotHeld}

-- a side: base, stamp, next number, table
pub record Side : Type 0 where
  pub seen : Seen
  pub table : List ℕ

pub record Case : Type 0 where
  pub left : Side
  pub right : Side
  pub window : ℕ
  pub verdict : Verdict

abbrev side : ℕ → ℕ → ℕ → List ℕ → Side
side base stamp q t = record { seen = record { base = base; stamp = stamp; next = q }; table = t }

abbrev case : Side → Side → ℕ → Verdict → Case
case l r w v = record { left = l; right = r; window = w; verdict = v }

-- stamp 800,000,050 is carried to 800,000,020 and is 90 seconds old
abbrev ninety : Side
ninety = side 800000110 800000050 1 t3

-- on a new reader: so many seconds old
abbrev old : ℕ → Side
old n = side (n + 631152000) 631152000 0 t0

-- a byte is missing; a record that is no longer held; a fault since
abbrev unsound : Side
unsound = side 800000110 800000050 1 (take 271 t3)

abbrev overwritten : Side
overwritten = side 800000010 5 0 tf

abbrev faulted : Side
faulted = side 800000110 800000050 2 (logged (first ∷ back ∷ fault ∷ []))

unfoldable pub table : List Case
table =
    -- ages 90 and 93
    case ninety (old 93) 3 (Ok One)
    ∷ case ninety (old 93) 2 (Ok Two)
    ∷ case (old 93) ninety 3 (Ok One)
    ∷ case (old 93) ninety 2 (Ok Two)
    -- no second, and the widest window
    ∷ case (old 90) ninety 0 (Ok One)
    ∷ case (old 91) ninety 0 (Ok Two)
    ∷ case (old 0) (old 60) 60 (Ok One)
    ∷ case (old 61) (old 0) 60 (Ok Two)
    -- 18 before anything
    ∷ case unsound unsound 61 (Err WindowTooWide)
    ∷ case ninety (old 93) 4294967295 (Err WindowTooWide)
    -- all of the left carrying before the right one
    ∷ case unsound overwritten 60 (Err (LeftRefused 1))
    ∷ case overwritten unsound 0 (Err (LeftRefused 12))
    ∷ case faulted unsound 5 (Err (LeftRefused 13))
    ∷ case ninety unsound 5 (Err (RightRefused 1))
    ∷ case ninety overwritten 5 (Err (RightRefused 12))
    ∷ case ninety faulted 5 (Err (RightRefused 13))
    -- any Base_Time of 32 bits; an age of -5; a stamp that is carried to -20, and so 20 seconds old at 0
    ∷ case (side 0 5 0 t0) (side 0 0 0 t0) 5 (Ok One)
    ∷ case (side 0 5 0 t0) (side 0 0 0 t0) 4 (Ok Two)
    ∷ case (side 4294967295 4294967235 0 t0) (old 0) 60 (Ok One)
    ∷ case (side 0 10 1 t3) (side 30 10 0 t0) 0 (Ok One)
    -- the numbers went round
    ∷ case (side 20 0 65534 rolled) (old 7) 0 (Ok One)
    ∷ []

-- `carry_of`, laid open by carrying's own cases
unfoldable pub carrying : ℕ → ℕ → List ℕ → Result ℤ CarryError
unfolding carried
carrying s q t = carried (record { stamp = s; q = q; table = t; carried = Err NotHeld })

unfoldable pub got : Case → Verdict
unfolding carrying beast_by verdict_of carried_or judge_of within_b age_of carrying_number
got k = beast_by carrying k.left.seen k.left.table k.right.seen k.right.table k.window

unfoldable pub expected : Case → Verdict
expected k = k.verdict

abbrev pub Computed : Type 0
Computed = map got table ≡ map expected table
