-- The values by whether a row failed, and what a refusal leaves.
-- Assumes nothing.
use mathlib.Core.Path.{◌≡◌, refl, sym, ap, ◌∙◌}
use mathlib.Core.Bool.{Bool, true, false}
use mathlib.Core.List.{List}
use Prim.Native.Nat.{ℕ, ◌≤◌, ◌<◌}
use borrow.Author.Tests.{le-leb, lt-leb}
use lib.Dec.{leb}
use lib.ListN.{length}
use Rattle.octets.specs.Choice.{pick}
use Rattle.octets.specs.Parts.{over}
use Rattle.octets.proofs.Tests.{clash}
use Rattle.table.specs.Table.{next}
use Rattle.clock.specs.Answers.{Answer, number_of}
use Rattle.clock.specs.declared.state.Clock.{Clock}
use Rattle.clock.specs.declared.answers.Refusal.{Refusal}
use Rattle.rows.specs.Reply.{Outcome, done_b, outcome, reply_by, refused, answered}
use Rattle.rows.proofs.RowLaws.{err_refused}
use Rattle.rows.specs.Rows.{first_failed, table_rows}
use Rattle.update_logged.specs.Theorems.{Untouched}
use Rattle.characteristics.specs.Value.{device_time_bytes, device_time_of, Told, told, value, told_of, feature_of, parameters_of}
use Rattle.characteristics.specs.Theorems.{RefusedUnchanged}
use Rattle.clock.specs.declared.answers.Refusal.TheVariants.{OutputShort}
use Rattle.std.proofs.Common.{Result, Err, Ok}

module _ (c : Clock) (t o : List ℕ) where
  pub device_time_refused : done_b (first_failed (table_rows c t (leb 20 (length o)))) ≡ false
      → device_time_of c t o ≡ refused (first_failed (table_rows c t (leb 20 (length o)))) c t o
  unfolding device_time_of
  device_time_refused h = rw h

  -- the rows' refusal, handed on
  pub device_time_stops : (a : Answer) (why : Refusal) (r : Result ℕ Refusal) → a ≡ first_failed (table_rows c t (leb 20 (length o))) → a ≡ Err why
      → r ≡ Err why → outcome (reply_by r c) t o ≡ device_time_of c t o
  device_time_stops a why r e h x =
      let f : first_failed (table_rows c t (leb 20 (length o))) ≡ Err why = sym e ∙ h in
      rw x (sym (device_time_refused (err_refused _ why f) ∙ ap (λ (y : Answer). refused y c t o) f))

  pub device_time_done : done_b (first_failed (table_rows c t (leb 20 (length o)))) ≡ true
      → device_time_of c t o ≡ answered c t (device_time_bytes c (next t)) o
  unfolding device_time_of
  device_time_done h = rw h

  only_reads : ((device_time_of c t o).reply.clock ≡ c) × ((device_time_of c t o).table ≡ t)
  unfolding answered
  only_reads = go (done_b (first_failed (table_rows c t (leb 20 (length o))))) refl
    where
      go : (b : Bool) → done_b (first_failed (table_rows c t (leb 20 (length o)))) ≡ b
          → ((device_time_of c t o).reply.clock ≡ c) × ((device_time_of c t o).table ≡ t)
      go true h = rw (device_time_done h) (refl, refl)
      go false h = rw (device_time_refused h) (refl, refl)

  untouched : Untouched c t o (device_time_of c t o)
  unfolding answered done_b number_of
  untouched = go (done_b (first_failed (table_rows c t (leb 20 (length o))))) refl
    where
      go : (b : Bool) → done_b (first_failed (table_rows c t (leb 20 (length o)))) ≡ b → Untouched c t o (device_time_of c t o)
      go true h r = absurd (clash true refl (ap (λ (u : Outcome). done_b u.reply.answer) (sym (device_time_done h)) ∙ r))
      go false h r = rw (device_time_refused h)

module _ (v o : List ℕ) where
  pub told_short : length o < 20 → told_of v o ≡ told (value (Err OutputShort) 0) o
  unfolding told_of
  told_short h = rw (lt-leb 20 (length o) h)

  pub told_done : 20 ≤ length o → told_of v o ≡ told (value (Ok tt) (length v)) (over o 0 v)
  unfolding told_of
  told_done h = rw (le-leb 20 (length o) h)

  told_untouched : done_b (told_of v o).value.answer ≡ false → (told_of v o).output ≡ o
  unfolding told_of done_b number_of
  told_untouched = go (leb 20 (length o))
    where
      go : (b : Bool) → let u : Told = pick b (told (value (Ok tt) (length v)) (over o 0 v)) (told (value (Err OutputShort) 0) o) in
          done_b u.value.answer ≡ false → u.output ≡ o
      go true r = absurd (clash true refl r)
      go false r = refl

pub refused_unchanged : RefusedUnchanged
unfolding feature_of parameters_of
refused_unchanged =
    record {
      device_time_lem = untouched;
      only_reads = only_reads;
      feature = λ o. told_untouched _ o;
      parameters = λ o. told_untouched _ o;
    }
