-- Carrying looks at the newest records alone: a table that holds the newest n of another, with the same next number, carries alike wherever no more than n
-- records came later.
-- Assumes nothing.
use mathlib.Core.Path.{◌≡◌, refl, sym, ap, ◌∙◌}
use mathlib.Core.Bool.{Bool, true, false}
use mathlib.Core.List.{List}
use Prim.Native.Nat.{ℕ, ◌+◌, ◌-◌, ◌≤◌}
use native.Mathlib.Omega.{arith}
use borrow.Author.Tests.{le-leb, lt-leb, leb-true, leb-false}
use lib.Dec.{leb}
use lib.ListN.{length, drop, length-drop}
use lib.Seq.{drop-drop}
use Rattle.record.specs.declared.kinds.Record.{Record}
use Rattle.table.specs.Table.{next, held, sound_b}
use Rattle.table_write.specs.Append.{newest}
use Rattle.carry.specs.Stamp.{later_of, carried_from, carry_of}

-- the newest m of the newest n, of which there are no more
newest_newest : (m n : ℕ) (l : List Record) → m ≤ n → newest m (newest n l) ≡ newest m l
newest_newest m n l h =
    ap (λ (k : ℕ). drop (k - m) (newest n l)) (length-drop (length l - n) l)
    ∙ drop-drop (length l - (length l - n) - m) (length l - n) l
    ∙ ap (λ (k : ℕ). drop k l) (place (length l) m n h)
  where
    place : (k m n : ℕ) → m ≤ n → k - n + (k - (k - n) - m) ≡ k - m
    place k m n h = omega arith

newest_many : (m n : ℕ) (l : List Record) → m ≤ n → leb m (length (newest n l)) ≡ leb m (length l)
newest_many m n l h = ap (leb m) (length-drop (length l - n) l) ∙ go (leb m (length l)) refl
  where
    go : (b : Bool) → leb m (length l) ≡ b → leb m (length l - (length l - n)) ≡ leb m (length l)
    go true e = let x = leb-true m (length l) e in le-leb m _ (omega arith) ∙ sym e
    go false e = let x = leb-false m (length l) e in lt-leb m _ (omega arith) ∙ sym e

pub carry_newest : (stamp q n : ℕ) (t u : List ℕ) → sound_b t ≡ true → sound_b u ≡ true → held u ≡ newest n (held t) → next u ≡ next t
    → later_of (next t) q ≤ n → carry_of stamp q u ≡ carry_of stamp q t
unfolding carry_of carried_from
carry_newest stamp q n t u sd su records number h =
    rw (su, sd, records, number, newest_many (later_of (next t) q) n (held t) h, newest_newest (later_of (next t) q) n (held t) h)
