-- The records that entries in a row add: they obey the rules and are at most 1,023 a table, so their figures fit (theorem Exact), and so do
-- those of each part of them that a run has taken.
-- Assumes nothing.
use mathlib.Core.Path.{◌≡◌, refl}
use mathlib.Core.Bool.{Bool, true, false}
use mathlib.Core.List.{List, [], ◌∷◌, ◌++◌, append-nil}
use Prim.Native.Nat.{ℕ, ◌+◌, ◌*◌, ◌≤◌}
use native.Mathlib.Omega.{arith}
use lib.ListN.{length, length-append}
use Rattle.record.specs.declared.kinds.Record.{Record}
use Rattle.table.specs.Table.{held, sound_b}
use Rattle.season_figures.specs.Figures.{sum_of, figures_in, in_widths}
use Rattle.season_figures.specs.Bounds.{AllRight}
use Rattle.season_figures.proofs.FigureLaws.{figures_append, figures_small, right_append, small_fit}
use Rattle.season_figures.proofs.TableLaws.{held_right, held_few}
use Rattle.theorems_season.specs.Run.{table_of, added_by, records_in, totals_of}
use Rattle.theorems_season.specs.Theorems.{Exact}

-- records that obey the rules, and how many there may be
pub record Kept (n : ℕ) (l : List Record) : Type 0 where
  pub right : AllRight l
  pub few : length l ≤ n

pub none_kept : Kept 0 []
none_kept = record { right = tt; few = omega arith }

pub append_kept : (n m : ℕ) (l k : List Record) → Kept n l → Kept m k → Kept (n + m) (l ++ k)
append_kept n m l k x y = record { right = right_append l k x.right y.right; few = omega (arith, length-append l k) }

-- a table adds what it holds, or nothing
adds : (t : List ℕ) → sound_b t ≡ true → added_by t ≡ held t
unfolding added_by
adds t s = rw s

adds_none : (t : List ℕ) → sound_b t ≡ false → added_by t ≡ []
unfolding added_by
adds_none t s = rw s

pub added_kept : (t : List ℕ) → Kept 1023 (added_by t)
added_kept t = go (sound_b t) refl
  where
    go : (b : Bool) → sound_b t ≡ b → Kept 1023 (added_by t)
    go true s = rw (adds t s) (record { right = held_right t s; few = held_few t s })
    go false s = rw (adds_none t s) (record { right = tt; few = omega arith })

pub records_kept : (es : List (List ℕ)) → Kept (1023 * length es) (records_in es)
unfolding records_in
records_kept [] = record { right = tt; few = omega arith }
records_kept (e ∷ es) =
    let k = append_kept 1023 (1023 * length es) (added_by (table_of e)) (records_in es) (added_kept (table_of e)) (records_kept es) in
    record { right = k.right; few = omega arith }

pub kept_fit : (n : ℕ) (l : List Record) → Kept n l → n ≤ 67042305 → in_widths (figures_in l) ≡ figures_in l
kept_fit n l x h = small_fit (length l) (figures_in l) (omega arith) (figures_small l x.right)

pub exact : Exact
unfolding totals_of
exact es h =
    let k = records_kept es in
    let s = figures_small (records_in es) k.right in
    record { records = omega arith; seconds = omega arith; move = s.move; widths = kept_fit (1023 * length es) (records_in es) k (omega arith) }

-- a sound table's figures added to those of the records so far
pub added_sound : (t : List ℕ) (l : List Record) (n : ℕ) → sound_b t ≡ true → Kept n l → n + 1023 ≤ 67042305
    → in_widths (sum_of (figures_in l) (figures_in (held t))) ≡ figures_in (l ++ added_by t)
added_sound t l n s x h =
    rw (← adds t s, ← figures_append l (added_by t)) (kept_fit (n + 1023) (l ++ added_by t) (append_kept n 1023 l (added_by t) x (added_kept t)) h)

pub added_refused : (t : List ℕ) (l : List Record) → sound_b t ≡ false → figures_in l ≡ figures_in (l ++ added_by t)
added_refused t l s = rw (adds_none t s, append-nil l)
