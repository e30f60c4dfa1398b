-- Every record once, from start, over any calls.
use Rattle.std.specs.Prelude.{◌≡◌, true, List, [], ◌∷◌, ◌++◌, ℕ, length}
use Rattle.filter.specs.declared.filter.Filter.{Filter}
use Rattle.table.specs.Table.{size_b}
use Rattle.table_look.specs.Matching.{matching}
use Rattle.theorems_reports.specs.World.{World, new_world}
use Rattle.theorems_handed.specs.Server.{AnyCall, right, after_of, Accepts, begins}
use Rattle.theorems_handed.specs.Handed.{course_by, HandedFrom}
use Rattle.theorems_handed.specs.Counted.{Counted}
use Rattle.theorems_handed.specs.History.{notes_by, courses_by, notes_in}

unfoldable pub ran_over : World → List AnyCall → World
ran_over v [] = v
ran_over v (k ∷ ks) = ran_over (after_of v k) ks

-- Theorem Reached once: a reader that is started in a buffer of a permitted size, then any calls; a report that it accepts; then any calls.
pub record ReachedOnce (t : List ℕ) (before : List AnyCall) : Type 0 where
  pub handed : (w o : List ℕ) (f : Filter) (ks : List AnyCall) → Accepts right (ran_over (new_world t) before) w o f
      → HandedFrom (matching f (ran_over (new_world t) before).table) (course_by right (begins right (ran_over (new_world t) before) w o) ks)
  pub counted : (w o : List ℕ) (f : Filter) (ks : List AnyCall) → Accepts right (ran_over (new_world t) before) w o f
      → Counted f (ran_over (new_world t) before).table (course_by right (begins right (ran_over (new_world t) before) w o) ks)
  pub after : (w o : List ℕ) (f : Filter) (ks : List AnyCall) → Accepts right (ran_over (new_world t) before) w o f
      → (let u = begins right (ran_over (new_world t) before) w o in
      notes_by right u ks ≡ (course_by right u ks).notes ++ notes_in (courses_by right u ks))
  pub nothing_else : notes_by right (new_world t) before ≡ notes_in (courses_by right (new_world t) before)

abbrev pub EveryReachedOnce : Type 0
EveryReachedOnce = (t : List ℕ) (before : List AnyCall) → size_b (length t) ≡ true → ReachedOnce t before
