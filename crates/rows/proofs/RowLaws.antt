-- Rows one by one: a row that holds is passed, the first that fails decides; and what it means that none failed.
-- Assumes nothing.
use mathlib.Core.Path.{◌≡◌, refl, sym, ◌∙◌, ap}
use mathlib.Core.Bool.{Bool, true, false}
use mathlib.Core.List.{List, [], ◌∷◌, ◌++◌, append-nil}
use Prim.Native.Nat.{ℕ, ◌≤◌, ◌<◌}
use borrow.Author.Tests.{leb-true, le-leb, lt-leb, lt-ltb, le-ltb}
use lib.Dec.{leb, ltb}
use lib.ListN.{length, drop}
use Rattle.octets.specs.Choice.{both, pick}
use Rattle.octets.proofs.Tests.{clash, both_reads, both_yes, both_no}
use Rattle.filter.specs.Filter.{matches_b}
use Rattle.filter.specs.declared.filter.Filter.{Filter}
use Rattle.record_write.specs.Layout.{bytes_of}
use Rattle.record.specs.declared.kinds.Record.{Record}
use Rattle.table.specs.Table.{count, held, age_of, sound_b}
use Rattle.clock.specs.Answers.{number_of, Answer}
use Rattle.clock.specs.Obeys.{clock_b}
use Rattle.clock.specs.declared.state.Clock.{Clock}
use Rattle.rows.specs.Reply.{done_b}
use Rattle.rows.specs.Rows.{Row, row, first_failed, then_of, unsent_b, left_b, running_whole_b, whole_b, table_rows, write_rows}
use Rattle.std.proofs.Common.{Some, Err, Ok}
use Rattle.clock.specs.declared.answers.Refusal.{Refusal}
use Rattle.clock.specs.declared.answers.Refusal.TheVariants.{NothingRunning, PastTheEnd, ClockBroken, OutputShort, ReportRunning, SwitchedOff, TableNotSound, WriteLength}

-- each refusal is one
not_sound : done_b (Err TableNotSound) ≡ false
unfolding done_b number_of
not_sound = refl

broken : done_b (Err ClockBroken) ≡ false
unfolding done_b number_of
broken = refl

short : done_b (Err OutputShort) ≡ false
unfolding done_b number_of
short = refl

wrong_length : done_b (Err WriteLength) ≡ false
unfolding done_b number_of
wrong_length = refl

switched_off : done_b (Err SwitchedOff) ≡ false
unfolding done_b number_of
switched_off = refl

report_running : done_b (Err ReportRunning) ≡ false
unfolding done_b number_of
report_running = refl

-- done, or refused
pub ok_done : (a : Answer) (u : Unit {0}) → a ≡ Ok u → done_b a ≡ true
unfolding done_b number_of
ok_done a u e = rw e

pub err_refused : (a : Answer) (why : Refusal) → a ≡ Err why → done_b a ≡ false
unfolding done_b number_of
err_refused a TableNotSound e = rw e
err_refused a ClockBroken e = rw e
err_refused a OutputShort e = rw e
err_refused a WriteLength e = rw e
err_refused a SwitchedOff e = rw e
err_refused a ReportRunning e = rw e
err_refused a PastTheEnd e = rw e
err_refused a NothingRunning e = rw e

pub no_rows : first_failed [] ≡ Ok tt
unfolding first_failed
no_rows = refl

module _ (b : Bool) (a : Answer) (rs : List Row) where
  pub row_holds : b ≡ true → first_failed (row b a ∷ rs) ≡ first_failed rs
  unfolding first_failed
  row_holds h = rw h

  pub row_fails : b ≡ false → first_failed (row b a ∷ rs) ≡ a
  unfolding first_failed
  row_fails h = rw h

  -- none failed: this one did not
  pub row_done : done_b a ≡ false → done_b (first_failed (row b a ∷ rs)) ≡ true → (b ≡ true) × (done_b (first_failed rs) ≡ true)
  row_done n h = go b refl
    where
      go : (x : Bool) → b ≡ x → (b ≡ true) × (done_b (first_failed rs) ≡ true)
      go true e = (e, ap done_b (sym (row_holds e)) ∙ h)
      go false e = absurd (clash (done_b a) (ap done_b (sym (row_fails e)) ∙ h) n)

-- rows whose refusals are refusals
pub data Refuse : List Row → Type 0 where
  none : Refuse []
  more : {b : Bool} {a : Answer} {rs : List Row} → done_b a ≡ false → Refuse rs → Refuse (row b a ∷ rs)

-- the first refusal of two lists of rows
pub rows_append : {xs : List Row} → Refuse xs → (ys : List Row) → then_of (first_failed xs) (first_failed ys) ≡ first_failed (xs ++ ys)
unfolding then_of first_failed done_b number_of
rows_append none ys = refl
rows_append (more {b = b} {a = a} {rs = rs} n h) ys = step b (rows_append h ys)
  where
    step : (x : Bool) → then_of (first_failed rs) (first_failed ys) ≡ first_failed (rs ++ ys)
        → then_of (pick x (first_failed rs) a) (first_failed ys) ≡ pick x (first_failed (rs ++ ys)) a
    step true e = e
    step false e = rw n

-- of two groups of rows, the first one's refusal; or where none of its rows failed, whatever the second says
module _ {xs : List Row} (n : Refuse xs) (ys : List Row) where
  pub first_refused : (a : Answer) (why : Refusal) → a ≡ first_failed xs → a ≡ Err why → first_failed (xs ++ ys) ≡ Err why
  unfolding then_of
  first_refused a why e h =
      let f : first_failed xs ≡ Err why = sym e ∙ h in
      sym (rows_append n ys) ∙ rw (err_refused (first_failed xs) why f) f

  pub first_passed : (a : Answer) (u : Unit {0}) → a ≡ first_failed xs → a ≡ Ok u → first_failed (xs ++ ys) ≡ first_failed ys
  unfolding then_of
  first_passed a u e h =
      let f : first_failed xs ≡ Ok u = sym e ∙ h in
      sym (rows_append n ys) ∙ rw (ok_done (first_failed xs) u f)

-- rows 1, 2, 3
pub table_refuse : (c : Clock) (t : List ℕ) (room : Bool) → Refuse (table_rows c t room)
unfolding table_rows done_b number_of
table_refuse c t room = more refl (more refl (more refl none))

pub record TableRows (c : Clock) (t : List ℕ) (room : Bool) : Type 0 where
  pub sound : sound_b t ≡ true
  pub clock : whole_b c t ≡ true
  pub output : room ≡ true

-- none of the rows failed, the table's and then others
pub table_done : (c : Clock) (t : List ℕ) (room : Bool) (ys : List Row) → done_b (first_failed (table_rows c t room ++ ys)) ≡ true
    → TableRows c t room × (done_b (first_failed ys) ≡ true)
unfolding table_rows
table_done c t room ys h =
    let x = row_done (sound_b t) (Err TableNotSound) (row (whole_b c t) (Err ClockBroken) ∷ row room (Err OutputShort) ∷ ys) not_sound h in
    let y = row_done (whole_b c t) (Err ClockBroken) (row room (Err OutputShort) ∷ ys) broken x.1 in
    let z = row_done room (Err OutputShort) ys short y.1 in
    (record { sound = x.0; clock = y.0; output = z.0 }, z.1)

pub table_all : (c : Clock) (t : List ℕ) (room : Bool) → done_b (first_failed (table_rows c t room)) ≡ true → TableRows c t room
table_all c t room h = (table_done c t room [] (ap (λ (rs : List Row). done_b (first_failed rs)) (append-nil (table_rows c t room)) ∙ h)).0

-- none of the write's rows failed
pub record WriteRows (n : ℕ) (on free : Bool) : Type 0 where
  pub some : 1 ≤ n
  pub few : n ≤ 20
  pub switched : on ≡ true
  pub alone : free ≡ true

pub write_all : (n : ℕ) (on free : Bool) → done_b (first_failed (write_rows n on free)) ≡ true → WriteRows n on free
unfolding write_rows
write_all n on free h =
    let x = row_done (both (leb 1 n) (leb n 20)) (Err WriteLength) (row on (Err SwitchedOff) ∷ row free (Err ReportRunning) ∷ []) wrong_length h in
    let y = row_done on (Err SwitchedOff) (row free (Err ReportRunning) ∷ []) switched_off x.1 in
    let z = row_done free (Err ReportRunning) [] report_running y.1 in
    let l = both_reads (leb 1 n) (leb n 20) x.0 in
    record { some = leb-true 1 n l.0; few = leb-true n 20 l.1; switched = y.0; alone = z.0 }

-- one law for each answer
module _ (c : Clock) (t : List ℕ) (room : Bool) where
  pub table_1 : sound_b t ≡ false → first_failed (table_rows c t room) ≡ Err TableNotSound
  unfolding table_rows
  table_1 s = row_fails _ _ _ s

  pub table_2 : sound_b t ≡ true → whole_b c t ≡ false → first_failed (table_rows c t room) ≡ Err ClockBroken
  unfolding table_rows
  table_2 s w = row_holds _ _ _ s ∙ row_fails _ _ _ w

  pub table_3 : sound_b t ≡ true → whole_b c t ≡ true → room ≡ false → first_failed (table_rows c t room) ≡ Err OutputShort
  unfolding table_rows
  table_3 s w o = row_holds _ _ _ s ∙ row_holds _ _ _ w ∙ row_fails _ _ _ o

  pub table_0 : sound_b t ≡ true → whole_b c t ≡ true → room ≡ true → first_failed (table_rows c t room) ≡ Ok tt
  unfolding table_rows
  table_0 s w o = row_holds _ _ _ s ∙ row_holds _ _ _ w ∙ row_holds _ _ _ o ∙ no_rows

pub whole_alone : (c : Clock) (t : List ℕ) → clock_b c ≡ false → whole_b c t ≡ false
unfolding whole_b
whole_alone c t h = both_no _ _ h

pub whole_with : (c : Clock) (t : List ℕ) → clock_b c ≡ true → whole_b c t ≡ running_whole_b t c.running
unfolding whole_b
whole_with c t h = both_yes h

pub whole_reads : (c : Clock) (t : List ℕ) → whole_b c t ≡ true → (clock_b c ≡ true) × (running_whole_b t c.running ≡ true)
unfolding whole_b
whole_reads c t h = both_reads (clock_b c) (running_whole_b t c.running) h

module _ (n : ℕ) (on free : Bool) where
  pub write_none : n < 1 → first_failed (write_rows n on free) ≡ Err WriteLength
  unfolding write_rows
  write_none h = row_fails _ _ _ (both_no _ _ (lt-leb 1 n h))

  pub write_long : 1 ≤ n → 20 < n → first_failed (write_rows n on free) ≡ Err WriteLength
  unfolding write_rows
  write_long l h = row_fails _ _ _ (both_yes (le-leb 1 n l) ∙ lt-leb n 20 h)

  fits : 1 ≤ n → n ≤ 20 → both (leb 1 n) (leb n 20) ≡ true
  fits l h = both_yes (le-leb 1 n l) ∙ le-leb n 20 h

  pub write_5 : 1 ≤ n → n ≤ 20 → on ≡ false → first_failed (write_rows n on free) ≡ Err SwitchedOff
  unfolding write_rows
  write_5 l h o = row_holds _ _ _ (fits l h) ∙ row_fails _ _ _ o

  pub write_6 : 1 ≤ n → n ≤ 20 → on ≡ true → free ≡ false → first_failed (write_rows n on free) ≡ Err ReportRunning
  unfolding write_rows
  write_6 l h o r = row_holds _ _ _ (fits l h) ∙ row_holds _ _ _ o ∙ row_fails _ _ _ r

  pub write_0 : 1 ≤ n → n ≤ 20 → on ≡ true → free ≡ true → first_failed (write_rows n on free) ≡ Ok tt
  unfolding write_rows
  write_0 l h o r = row_holds _ _ _ (fits l h) ∙ row_holds _ _ _ o ∙ row_holds _ _ _ r ∙ no_rows

-- the next record of a running report
module _ (t : List ℕ) (f : Filter) (n sent : ℕ) where
  pub left_gone : count t ≤ age_of t n → left_b t f (Some (n, sent)) ≡ false
  unfolding left_b
  left_gone h = both_no _ _ (le-ltb _ _ h)

  pub left_held : (r : Record) (l : List Record) → age_of t n < count t → drop (age_of t n) (held t) ≡ r ∷ l
      → left_b t f (Some (n, sent)) ≡ both (matches_b f (count t) (age_of t n) n) (ltb sent (length (bytes_of r)))
  unfolding left_b
  left_held r l h e =
      both_yes (lt-ltb _ _ h) ∙ ap (λ (m : List Record). both (matches_b f (count t) (age_of t n) n) (unsent_b sent m)) e
