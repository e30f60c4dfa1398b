-- Figures add up in any grouping; how large those of records within the rules can be; and that such sums fit their widths.
-- Assumes nothing.
use Rattle.std.proofs.Common.{◌≡◌, ℕ, suc, ◌+◌, ◌≤◌, true, List, [], ◌∷◌, ◌++◌, length, drop, sym, refl, ap, ◌∙◌, mod-eq_of_lt, arith}
use Rattle.rules.proofs.RangeLaws.{base_reads}
use Rattle.record_read.specs.Reading.{record_b}
use Rattle.record_read.proofs.RuleLaws.{update_times}
use Rattle.record.specs.declared.kinds.Record.{Record}
use Rattle.record.specs.declared.kinds.Record.TheVariants.{TimeUpdate, TimeFault}
use Rattle.season_figures.specs.Figures.{nothing, figures_of, sum_of, figures_in, in_widths}
use Rattle.season_figures.specs.Bounds.{AllRight, Small}
use Rattle.season_figures.specs.declared.figures.Figures.{Figures}

abbrev figures : ℕ → ℕ → ℕ → ℕ → ℕ → Figures
figures u f b n l = record { updates = u; forward = f; back = b; faults = n; largest = l }

pub same_figures : {u v w x y u' v' w' x' y' : ℕ} → u ≡ u' → v ≡ v' → w ≡ w' → x ≡ x' → y ≡ y' → figures u v w x y ≡ figures u' v' w' x' y'
same_figures p q r s t = rw (p, q, r, s, t)

pub sum_assoc : (f g h : Figures) → sum_of (sum_of f g) h ≡ sum_of f (sum_of g h)
unfolding sum_of
sum_assoc f g h = same_figures (omega arith) (omega arith) (omega arith) (omega arith) (omega arith)

pub nothing_and : (f : Figures) → sum_of nothing f ≡ f
unfolding sum_of nothing
nothing_and f = same_figures (omega arith) (omega arith) (omega arith) (omega arith) (omega arith)

pub and_nothing : (f : Figures) → sum_of f nothing ≡ f
unfolding sum_of nothing
and_nothing f = same_figures (omega arith) (omega arith) (omega arith) (omega arith) (omega arith)

-- the figures of records in two rows are both rows' figures together
pub figures_append : (l m : List Record) → figures_in (l ++ m) ≡ sum_of (figures_in l) (figures_in m)
unfolding figures_in
figures_append [] m = sym (nothing_and (figures_in m))
figures_append (r ∷ l) m =
    ap (sum_of (figures_of r)) (figures_append l m) ∙ sym (sum_assoc (figures_of r) (figures_in l) (figures_in m))

-- of a row the first record's and the rest's
pub figures_first : (l rest : List Record) (r : Record) → l ≡ r ∷ rest → figures_in l ≡ sum_of (figures_of r) (figures_in rest)
unfolding figures_in
figures_first l rest r e = ap figures_in e

pub figures_none : (l : List Record) → l ≡ [] → figures_in l ≡ nothing
unfolding figures_in
figures_none l e = ap figures_in e

-- records by their ages, and in a row
pub all_right : (l : List Record) → ((k : ℕ) (r : Record) (rest : List Record) → drop k l ≡ r ∷ rest → record_b r ≡ true) → AllRight l
all_right [] h = tt
all_right (r ∷ l) h = (h 0 r l refl, all_right l (λ k. h (suc k)))

pub right_append : (l m : List Record) → AllRight l → AllRight m → AllRight (l ++ m)
right_append [] m p q = q
right_append (r ∷ l) m p q = (p.0, right_append l m p.1 q)

pub one_small : (r : Record) → record_b r ≡ true → Small 1 (figures_of r)
unfolding record_b figures_of
one_small (TimeUpdate u) h =
    let b = update_times u h in
    let x = base_reads u.base b.0 in
    let y = base_reads u.oldbase b.1 in
    record { entries = omega arith; seconds = omega arith; move = omega arith }
one_small (TimeFault f) h = record { entries = omega arith; seconds = omega arith; move = omega arith }

pub sum_small : (n m k : ℕ) (f g : Figures) → n + m ≤ k → Small n f → Small m g → Small k (sum_of f g)
unfolding sum_of
sum_small n m k f g h x y = record { entries = omega arith; seconds = omega arith; move = omega arith }

pub figures_small : (l : List Record) → AllRight l → Small (length l) (figures_in l)
unfolding figures_in nothing
figures_small [] h = record { entries = omega arith; seconds = omega arith; move = omega arith }
figures_small (r ∷ l) h = sum_small 1 (length l) _ (figures_of r) (figures_in l) (omega arith) (one_small r h.0) (figures_small l h.1)

-- a part of small figures is small
pub part_small : (n : ℕ) (f g : Figures) → Small n (sum_of f g) → Small n f
unfolding sum_of
part_small n f g x = record { entries = omega arith; seconds = omega arith; move = omega arith }

-- the figures of all records that 65,535 tables hold fit their widths
pub small_fit : (n : ℕ) (f : Figures) → n ≤ 67042305 → Small n f → in_widths f ≡ f
unfolding in_widths
small_fit n f h x =
    same_figures (mod-eq_of_lt (omega arith)) (mod-eq_of_lt (omega arith)) (mod-eq_of_lt (omega arith)) (mod-eq_of_lt (omega arith)) refl
