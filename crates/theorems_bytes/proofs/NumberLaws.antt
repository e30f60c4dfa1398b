-- An accepted report by number: the records named are held, since something matches; and what matches is the piece they name.
-- Assumes nothing.
use mathlib.Core.Path.{◌≡◌, refl, sym, ap, subst, ◌∙◌}
use mathlib.Core.Bool.{Bool, true, false}
use mathlib.Core.List.{List, map}
use Prim.Native.Nat.{ℕ, ◌+◌, ◌≤◌, ◌<◌}
use native.Mathlib.Omega.{arith}
use borrow.Author.Tests.{ltb-true, ltb-false}
use lib.Dec.{ltb}
use Rattle.octets.specs.Parts.{Bytes}
use Rattle.filter.specs.declared.filter.Filter.{Filter}
use Rattle.filter.specs.declared.filter.Filter.TheVariants.{AtMost, AtLeast, Range}
use Rattle.record.specs.declared.kinds.Record.{Record}
use Rattle.table.specs.Table.{count, age_of, sound_b}
use Rattle.table_look.specs.Matching.{matching}
use Rattle.table_look.proofs.NumberLaws.{by_number}
use Rattle.theorems_reports.specs.World.{World, new_world}
use Rattle.theorems_reports.specs.Reports.{Accepted}
use Rattle.theorems_reports.proofs.BeginLaws.{accepted_some}
use Rattle.theorems_bytes.specs.World.{image_in, history_of}
use Rattle.theorems_bytes.specs.Reports.{shown_of, AcceptedAt}
use Rattle.theorems_bytes.specs.ByNumber.{HandsOver, ByNumberAt, ReportedByNumber}
use Rattle.theorems_bytes.proofs.ReportLaws.{accepted_is, reports}
use Rattle.theorems_bytes.proofs.ImageLaws.{Fit, reached_fit, reached}

-- below, where not being below comes to nothing
below : (m n : ℕ) → (n ≤ m → ⊥) → m < n
below m n not = go (ltb m n) refl
  where
    go : (b : Bool) → ltb m n ≡ b → m < n
    go true e = ltb-true m n e
    go false e = absurd (not (ltb-false m n e))

-- by value: the records that an accepted report names
module _ (v : World) (w o : List ℕ) (hb : Bytes v.table) (sd : sound_b v.table ≡ true) where
  pub least_held : (min : ℕ) → Accepted v w o (AtLeast min) → age_of v.table min < count v.table
  least_held min a = below _ _ (λ l. accepted_some v w o (AtLeast min) hb a (by_number.none_least v.table min sd l))

  most_held : (max : ℕ) → Accepted v w o (AtMost max) → age_of v.table max < count v.table
  most_held max a = below _ _ (λ l. accepted_some v w o (AtMost max) hb a (by_number.none_most v.table max sd l))

  maximum_held : (min max : ℕ) → Accepted v w o (Range min max) → age_of v.table max < count v.table
  maximum_held min max a = below _ _ (λ l. accepted_some v w o (Range min max) hb a (by_number.none_maximum v.table min max sd l))

  not_older : (min max : ℕ) → Accepted v w o (Range min max) → age_of v.table min < age_of v.table max + 1
  not_older min max a = below _ _ (λ l. accepted_some v w o (Range min max) hb a (by_number.none_older v.table min max sd (omega arith)))

module _ (v : World) (w o : List ℕ) (hw : Bytes w) (x : Fit v) where
  -- what matches is handed over
  hands : (f : Filter) (l : List Record) → AcceptedAt (image_in v) w o hw f → matching f v.table ≡ l → HandsOver (image_in v) w o hw l
  hands f l a e = λ n ks h c. ((reports v w o hw f x a).heard n ks h).all c ∙ ap (map shown_of) e

  by_number_at : ByNumberAt (image_in v) w o hw
  by_number_at =
      let t = v.table in
      let hb = x.good.bytes in
      let sd = x.good.sound in
      record {
        at_least = λ min a.
            let h = least_held v w o hb sd min (accepted_is v w o hw (AtLeast min) x a) in
            (h, hands (AtLeast min) _ a (by_number.at_least t min sd h));
        at_most = λ max a.
            let h = most_held v w o hb sd max (accepted_is v w o hw (AtMost max) x a) in
            (h, hands (AtMost max) _ a (by_number.at_most t max sd h));
        range = λ min max a.
            let y = accepted_is v w o hw (Range min max) x a in
            let k = not_older v w o hb sd min max y in
            let h = maximum_held v w o hb sd min max y in
            (omega arith, h, hands (Range min max) _ a (by_number.range t min max sd (omega arith) h));
      }

pub reported_by_number : ReportedByNumber
reported_by_number s t before w o hw hs ht =
    subst (λ b. ByNumberAt b w o hw) (sym (reached s t hs ht before))
    (by_number_at (history_of (new_world t) before) w o hw (reached_fit s t hs ht before))
