-- What the report's bytes say of a slot, and where a slot that is kept stands in the new table.
-- Assumes nothing.
use mathlib.Core.Path.{◌≡◌, refl, ap, ◌∙◌}
use mathlib.Core.Bool.{Bool, true, false, not}
use mathlib.Core.List.{List, [], ◌++◌, append_assoc}
use Prim.Native.Nat.{ℕ, zero, suc, ◌+◌, ◌*◌, ◌-◌, ◌/◌, ◌%◌, ◌≤◌, ◌<◌}
use native.Mathlib.Omega.{arith}
use borrow.Author.Tests.{ne_eqb, eqb-true, eqb-false, leb-true, leb-false, ltb-true}
use lib.Dec.{eqb, leb}
use lib.ListN.{length}
use Rattle.octets.specs.Choice.{both, either, pick}
use Rattle.octets.proofs.NumberLaws.{two}
use Rattle.octets.proofs.Tests.{both_reads}
use Rattle.table.specs.Table.{size_b, slots_in, slot, steps, header_at}
use Rattle.table.specs.declared.header.Header.{Header}
use Rattle.table.proofs.HeadLaws.{size_reads}
use Rattle.table.proofs.SlotLaws.{steps_straight, steps_round}
use Rattle.salvage_run.specs.Runs.{begin_of, run_of}
use Rattle.salvage_run.specs.declared.run.Run.{Run}
use Rattle.salvage_run.proofs.OrderLaws.{begin_start}
use Rattle.salvage_run.proofs.KeptLaws.{slot_read}
use Rattle.salvage_table.specs.Salvaged.{cleaned, new_header}
use Rattle.salvage_report.specs.Report.{le48, entry, changed, size_entries, place_entries, header_entries, turn_of, in_run_b, slot_entry, slot_entries, kept_b, not_kept, report_of}
use Rattle.theorems_salvage.specs.Noted.{noted_b, reported_b, KeptOrReported}
use Rattle.theorems_salvage.proofs.TableLaws.{slot_at}

-- one entry more in front
noted_entry : (i kind place old new : ℕ) (l : List ℕ)
    → reported_b i (entry kind place old new ++ l) ≡ either (both (eqb kind 0) (eqb (place % 256 + 256 * (place / 256 % 256)) i)) (reported_b i l)
unfolding entry noted_b
noted_entry i kind place old new l =
    let more : length (entry kind place old new ++ l) / 16 ≡ suc (length l / 16) = omega arith in
    rw more

-- a header field's says nothing of a slot
noted_field : (i kind old new : ℕ) (l : List ℕ) → (kind ≡ 0 → ⊥) → reported_b i (changed (kind) old new ++ l) ≡ reported_b i l
unfolding changed
noted_field i kind old new l h = go (eqb old new)
  where
    go : (b : Bool) → reported_b i (pick b [] (entry kind 0 old new) ++ l) ≡ reported_b i l
    go true = refl
    go false = noted_entry i kind 0 old new l ∙ rw (ne_eqb kind 0 h)

noted_fields : (i : ℕ) (t : List ℕ) (new : Header) (l : List ℕ) → reported_b i (header_entries t new ++ l) ≡ reported_b i l
unfolding header_entries size_entries place_entries
noted_fields i t new l =
    let h = header_at t in
    simp append_assoc
    (noted_field i 1 h.capacity new.capacity _ (λ e. omega arith)
    ∙ noted_field i 2 h.count new.count _ (λ e. omega arith)
    ∙ noted_field i 3 h.oldest new.oldest _ (λ e. omega arith)
    ∙ noted_field i 4 h.next new.next _ (λ e. omega arith)
    ∙ noted_field i 5 (le48 t 10) 0 l (λ e. omega arith))

module _ (n b : ℕ) (r : Run) where
  -- a slot's entry in front
  noted_slot : (i j : ℕ) (l : List ℕ) → j < 65536
      → reported_b i (slot_entry n b r j ++ l) ≡ either (both (not (in_run_b n b r j)) (eqb j i)) (reported_b i l)
  unfolding slot_entry
  noted_slot i j l h = go (in_run_b n b r j)
    where
      go : (k : Bool) → reported_b i (pick k [] (entry 0 j 0 0) ++ l) ≡ either (both (not k) (eqb j i)) (reported_b i l)
      go true = refl
      go false = noted_entry i 0 j 0 0 l ∙ rw (two j h)

  noted_past : (k i j : ℕ) → i < j → j + k ≤ 65536 → reported_b i (slot_entries n b r k j) ≡ false
  unfolding slot_entries noted_b
  noted_past zero i j p h = refl
  noted_past (suc k) i j p h =
      noted_slot i j (slot_entries n b r k (suc j)) (omega arith)
      ∙ rw (ne_eqb j i (λ e. omega arith), noted_past k i (suc j) (omega arith) (omega arith)) (none (not (in_run_b n b r j)))
    where
      none : (x : Bool) → either (both x false) false ≡ false
      none true = refl
      none false = refl

  noted_is : (k i j : ℕ) → j ≤ i → i < j + k → j + k ≤ 65536 → reported_b i (slot_entries n b r k j) ≡ not (in_run_b n b r i)
  unfolding slot_entries
  noted_is zero i j p q h = absurd (omega arith)
  noted_is (suc k) i j p q h = noted_slot i j (slot_entries n b r k (suc j)) (omega arith) ∙ go (eqb j i) refl (λ (e : j ≡ i → ⊥). noted_is k i (suc j) (past i j p e) (omega arith) (omega arith))
    where
      past : (a c : ℕ) → c ≤ a → (c ≡ a → ⊥) → suc c ≤ a
      past a c x y = omega arith

      here : (x : Bool) → either (both (not x) true) false ≡ not x
      here true = refl
      here false = refl

      on : (x y : Bool) → either (both x false) y ≡ y
      on true y = refl
      on false y = refl

      go : (x : Bool) → eqb j i ≡ x → ((j ≡ i → ⊥) → reported_b i (slot_entries n b r k (suc j)) ≡ not (in_run_b n b r i))
          → either (both (not (in_run_b n b r j)) x) (reported_b i (slot_entries n b r k (suc j))) ≡ not (in_run_b n b r i)
      go true e f =
          let same = eqb-true j i e in
          rw (noted_past k i (suc j) (omega arith) (omega arith)) (here (in_run_b n b r j) ∙ ap (λ (m : ℕ). not (in_run_b n b r m)) same)
      go false e f = on (not (in_run_b n b r j)) _ ∙ f (eqb-false j i e)

-- the slot at place i is read in its turn
turn_place : (t : List ℕ) (i : ℕ) → size_b (length t) ≡ true → i < slots_in (length t)
    → steps (turn_of (slots_in (length t)) (slots_in (begin_of t)) i) (length t) (begin_of t) ≡ 16 + 64 * i
turn_place t i z h = go (leb b i) refl
  where
    n : ℕ
    n = slots_in (length t)

    b : ℕ
    b = slots_in (begin_of t)

    go : (x : Bool) → leb b i ≡ x → steps (pick x (i - b) (i + n - b)) (length t) (begin_of t) ≡ 16 + 64 * i
    go true e =
        let w = size_reads (length t) z in
        let p = begin_start t z in
        let l = leb-true b i e in
        steps_straight (length t) n w.whole (i - b) (begin_of t) (omega arith) p (omega arith) ∙ omega arith
    go false e =
        let w = size_reads (length t) z in
        let p = begin_start t z in
        let l = leb-false b i e in
        steps_round (length t) n w.whole (i + n - b) (begin_of t) (omega arith) p (omega arith) ∙ omega arith

-- a slot of the run
record InRun (r : Run) (k : ℕ) : Type 0 where
  from : r.first ≤ k
  before : k < r.first + r.count

kept_reads : (n b : ℕ) (r : Run) (i : ℕ) → in_run_b n b r i ≡ true → InRun r (turn_of n b i)
unfolding in_run_b
kept_reads n b r i h =
    let a = both_reads (leb r.first (turn_of n b i)) _ h in
    record { from = leb-true r.first (turn_of n b i) a.0; before = ltb-true (turn_of n b i) (r.first + r.count) a.1 }

pub kept_or_reported : KeptOrReported
unfolding kept_b report_of not_kept
kept_or_reported t h i small =
    let z = h.size in
    let w = size_reads (length t) z in
    let n = slots_in (length t) in
    let b = slots_in (begin_of t) in
    record {
      either_or = noted_fields i t (new_header t) _ ∙ noted_is n b (run_of t) n i 0 (omega arith) (omega arith) (omega arith);
      stands = λ k.
          let turn = turn_of n b i in
          let a = kept_reads n b (run_of t) i k in
          let on : (run_of t).first + (turn - (run_of t).first) ≡ turn = omega (arith, a) in
          slot_at t z (turn - (run_of t).first) (omega (arith, a))
          ∙ ap (λ (m : ℕ). cleaned (slot_read t m)) on
          ∙ ap (λ (o : ℕ). cleaned (slot t o)) (turn_place t i z small);
    }
