-- What a proposal says of a table's numbers: from which of them to which it goes, and where the first so many are received and no other.
-- Assumes nothing.
use mathlib.Core.Path.{◌≡◌, refl, sym, ap, ◌∙◌}
use mathlib.Core.Bool.{Bool, true, false}
use mathlib.Core.List.{List}
use Prim.Native.Nat.{ℕ, zero, suc, ◌+◌, ◌-◌, ◌%◌, ◌≤◌, ◌<◌, suc-le-suc}
use native.Mathlib.Nat.{le_of_suc-le-suc, not-suc-le-zero}
use native.Mathlib.Omega.{arith}
use borrow.Author.Tests.{eqb-true, eqb-false, ne_eqb}
use lib.Dec.{eqb}
use lib.ListN.{length, drop, length-drop}
use Rattle.octets.specs.Choice.{pick}
use Rattle.table.specs.Table.{count, first, sound_b}
use Rattle.table.proofs.HeadLaws.{sound_head}
use Rattle.table.proofs.SlotLaws.{first_small}
use Rattle.fetch_word.specs.Bits.{row}
use Rattle.fetch_word.specs.Run.{received_first, missing_first}
use Rattle.fetch_word.proofs.BitLaws.{row_length}
use Rattle.fetch_word.proofs.RunLaws.{missing_most, received_most}
use Rattle.std.proofs.Common.{Option, Some, None, Ok, Err}
use Rattle.fetch_told.specs.Told.{span, range_size}
use Rattle.fetch_map.specs.Map.{map_words, received_b}
use Rattle.fetch_propose.specs.Propose.{number_at, numbers_from, run_after, run_among, propose_of, proposed_in}
use Rattle.fetch_told.specs.declared.told.Span.{Span}
use Rattle.fetch_map.specs.declared.refusal.Refusal.TheVariants.{WrongWords}
use Rattle.fetch_propose.proofs.ProposeLaws.{answered, answered_is, same_ends, propose_done}
use Rattle.fetch_propose.proofs.SearchLaws.{run_nothing, run_missing}
use Rattle.theorems_fetched.specs.Fetched.{newest_number, told_by}

-- ---- runs of a row

-- Of n numbers the first g are received and no other: so many are received at the beginning, and all others are missing after them.
pub record First (g n : ℕ) (l : List Bool) : Type 0 where
  pub received : received_first l ≡ g
  pub missing : missing_first (drop g l) ≡ n - g

none_first : (f : ℕ → Bool) (n : ℕ) → ((i : ℕ) → i < n → f i ≡ false) → First 0 n (row f n)
unfolding row received_first missing_first
none_first f zero free = record { received = refl; missing = refl }
none_first f (suc n) free =
    let e = free 0 (omega arith) in
    let rest : missing_first (row (λ i. f (suc i)) n) ≡ n - 0 = (none_first (λ i. f (suc i)) n (λ i h. free (suc i) (suc-le-suc h))).missing in
    record { received = rw e; missing = rw e (omega arith) }

first_so_many : (f : ℕ → Bool) (g n : ℕ) → g ≤ n → ((i : ℕ) → i < g → f i ≡ true) → ((i : ℕ) → g ≤ i → i < n → f i ≡ false) → First g n (row f n)
unfolding row received_first missing_first
first_so_many f zero n few full free = none_first f n (λ i h. free i (omega arith) h)
first_so_many f (suc g) zero few full free = absurd (not-suc-le-zero few)
first_so_many f (suc g) (suc n) few full free =
    let e = full 0 (omega arith) in
    let rest = first_so_many (λ i. f (suc i)) g n (le_of_suc-le-suc few) (λ i h. full (suc i) (suc-le-suc h))
    (λ i a h. free (suc i) (suc-le-suc a) (suc-le-suc h)) in
    record { received = rw e (ap suc rest.received); missing = rest.missing ∙ omega arith }

run_of : (oldest : ℕ) (f : ℕ → Bool) (g n : ℕ) → g ≤ n → ((i : ℕ) → i < g → f i ≡ true) → ((i : ℕ) → g ≤ i → i < n → f i ≡ false)
    → run_among oldest (row f n) ≡ run_after oldest g (n - g)
unfolding run_among
run_of oldest f g n few full free = let r = first_so_many f g n few full free in rw (r.received, r.missing)

-- Of the n numbers from `oldest` on, the run from a to b: so many stand before it, and so many it has.
pub record RunOf (oldest n a b : ℕ) : Type 0 where
  pub before : ℕ
  pub size : ℕ
  pub some : 0 < size
  pub inside : before + size ≤ n
  pub first : a ≡ number_at oldest before
  pub last : b ≡ number_at oldest (before + size - 1)

run_is : (oldest a b : ℕ) (l : List Bool) → run_among oldest l ≡ Some (span a b) → RunOf oldest (length l) a b
unfolding run_among run_after
run_is oldest a b l e = go (eqb r 0) refl e
  where
    g : ℕ
    g = received_first l

    r : ℕ
    r = missing_first (drop (received_first l) l)

    go : (z : Bool) → eqb r 0 ≡ z → pick z None (Some (span (number_at oldest g) (number_at oldest (g + r - 1)))) ≡ Some (span a b)
        → RunOf oldest (length l) a b
    go true p q = let z : ◌≡◌ {A = ℕ} 0 1 = cc in absurd (omega arith)
    go false p q =
        let ends = same_ends _ _ _ _ (sym q) in
        record {
          before = g;
          size = r;
          some = omega (arith, eqb-false r 0 p);
          inside = omega (arith, received_most l, missing_most (drop g l), length-drop g l);
          first = ends.0;
          last = ends.1;
        }

-- ---- a proposal of what a table holds

-- a run is proposed of a whole map only, and where something is told
pub missing_whole : (m : List ℕ) (told : Option Span) (a b : ℕ) → propose_of m told ≡ Ok (Some (span a b)) → length m ≡ map_words
unfolding propose_of
missing_whole m told a b e = go (eqb (length m) map_words) refl e
  where
    go : (w : Bool) → eqb (length m) map_words ≡ w → pick w (answered (proposed_in m told)) (Err WrongWords) ≡ Ok (Some (span a b)) → length m ≡ map_words
    go true p q = eqb-true (length m) map_words p
    go false p q = let z : ◌≡◌ {A = ℕ} 0 1 = cc in absurd (omega arith)

missing_some : (m t : List ℕ) (a b : ℕ) → propose_of m (told_by t) ≡ Ok (Some (span a b)) → 0 < count t
unfolding told_by
missing_some m t a b e = go (eqb (count t) 0) refl (answered_is _ _ (propose_done m (told_by t) (missing_whole m (told_by t) a b e) ∙ e))
  where
    go : (n : Bool) → eqb (count t) 0 ≡ n → proposed_in m (pick n None (Some (span (first t) (newest_number t)))) ≡ Some (span a b) → 0 < count t
    go true p q = let z : ◌≡◌ {A = ℕ} 0 1 = cc in absurd (omega arith)
    go false p q = omega (arith, eqb-false (count t) 0 p)

-- a table that holds something: its numbers in a row, of the map m
module _ (t m : List ℕ) (sd : sound_b t ≡ true) (some : 0 < count t) where
  pub told_held : told_by t ≡ Some (span (first t) (newest_number t))
  unfolding told_by
  told_held = rw (ne_eqb (count t) 0 (λ e. omega arith))

  told_size : range_size (first t) (newest_number t) ≡ count t
  unfolding range_size newest_number
  told_size = let d = sound_head t sd in size (first t) (count t) (first_small t) some (omega arith)
    where
      size : (f n : ℕ) → f < 65536 → 0 < n → n ≤ 1023 → ((f + (n - 1)) % 65536 + 65536 - f) % 65536 + 1 ≡ n
      size f n a b c = omega arith

  abbrev is_received : ℕ → Bool
  is_received k = received_b m (number_at (first t) k)

  proposed_of : length m ≡ map_words → propose_of m (told_by t) ≡ Ok (run_among (first t) (row is_received (count t)))
  unfolding numbers_from
  proposed_of whole =
      sym (propose_done m (told_by t) whole)
      ∙ ap answered (ap (proposed_in m) told_held ∙ ap (λ (n : ℕ). run_among (first t) (numbers_from m (first t) n)) told_size)

  proposes_first : length m ≡ map_words → (g : ℕ) → g ≤ count t → ((k : ℕ) → k < g → is_received k ≡ true)
      → ((k : ℕ) → g ≤ k → k < count t → is_received k ≡ false) → propose_of m (told_by t) ≡ Ok (run_after (first t) g (count t - g))
  proposes_first whole g few full free = proposed_of whole ∙ ap answered (run_of (first t) is_received g (count t) few full free)

  -- all that comes after the first g numbers, where these are received and no other
  pub proposes_rest : length m ≡ map_words → (g : ℕ) → g < count t → ((k : ℕ) → k < g → is_received k ≡ true)
      → ((k : ℕ) → g ≤ k → k < count t → is_received k ≡ false) → propose_of m (told_by t) ≡ Ok (Some (span (number_at (first t) g) (newest_number t)))
  unfolding newest_number
  proposes_rest whole g few full free =
      let e : g + (count t - g) - 1 ≡ count t - 1 = omega arith in
      proposes_first whole g (omega arith) full free
      ∙ ap answered
      (sym (run_missing (first t) g (count t - g) (λ z. omega arith)) ∙ ap (λ (k : ℕ). Some (span (number_at (first t) g) (number_at (first t) k))) e)

  -- nothing, where all are received
  pub proposes_nothing : length m ≡ map_words → ((k : ℕ) → k < count t → is_received k ≡ true) → propose_of m (told_by t) ≡ Ok None
  proposes_nothing whole full =
      proposes_first whole (count t) (omega arith) full (λ k a b. absurd (omega arith))
      ∙ ap answered (sym (run_nothing (first t) (count t) (count t - count t) (omega arith)))

-- the proposed run of a table's numbers
pub missing_run : (t m : List ℕ) (a b : ℕ) → sound_b t ≡ true → propose_of m (told_by t) ≡ Ok (Some (span a b)) → RunOf (first t) (count t) a b
missing_run t m a b sd e =
    let some = missing_some m t a b e in
    let l = row (λ k. received_b m (number_at (first t) k)) (count t) in
    rw (row_length (λ k. received_b m (number_at (first t) k)) (count t))
    at (run_is (first t) a b l (answered_is _ _ (sym (proposed_of t m sd some (missing_whole m (told_by t) a b e)) ∙ e)))
