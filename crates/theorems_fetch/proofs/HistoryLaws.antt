-- What the theorem says, from the bits of the held records.
-- Assumes nothing.
use mathlib.Core.Path.{◌≡◌, refl, sym, ap, ◌∙◌}
use mathlib.Core.Bool.{Bool, true, false}
use mathlib.Core.List.{List}
use Prim.Native.Nat.{ℕ, zero, suc, ◌+◌, ◌*◌, ◌-◌, ◌≤◌, ◌<◌}
use native.Mathlib.Nat.{mod-add-mod}
use native.Mathlib.Omega.{arith}
use Rattle.octets.proofs.Tests.{clash}
use Rattle.std.proofs.Common.{Option, Some, None, Result, Ok}
use Rattle.fetch_word.specs.Bits.{row}
use Rattle.fetch_word.specs.Run.{received_first, missing_first}
use Rattle.fetch_word.proofs.BitLaws.{row_alike}
use Rattle.fetch_told.specs.Told.{span}
use Rattle.fetch_map.specs.Map.{received_b, ones_of}
use Rattle.fetch_map.specs.declared.refusal.Refusal.{Refusal}
use Rattle.fetch_map.proofs.MapLaws.{received_done}
use Rattle.fetch_propose.specs.Propose.{number_at, numbers_from, run_after, run_among, proposed_in, propose_of}
use Rattle.fetch_propose.proofs.ProposeLaws.{answered, answered_is, same_ends, propose_done}
use Rattle.fetch_propose.proofs.SearchLaws.{run_missing}
use Rattle.theorems_fetch.specs.History.{range, number_of, told_of, tell, take, propose, map_of, last_of, held_b, kept_b, count_b, FirstRun, KeptIn, KeptBelow}
use Rattle.theorems_fetch.proofs.RangeLaws.{held_reads, held_makes, not_held, told_some, range_size_lem, inside_near, outside_none}
use Rattle.theorems_fetch.proofs.KeptLaws.{Alike, alike}
use Rattle.theorems_fetch.proofs.CountLaws.{count_alike, map_ones, count_inside}
use Rattle.theorems_fetch.proofs.GapLaws.{Gap, before, gap, first_gap}

-- the records from f on, in a row
abbrev in_row : ℕ → (ℕ → Bool) → ℕ → Bool
in_row f kept i = kept (f + i)

-- ---- the run proposed, by the first gap among the h records from f on

some_missing : (o b n : ℕ) → run_after o b (suc n) ≡ Some (span (number_at o b) (number_at o (b + n)))
some_missing o b n =
    let e : b + suc n - 1 ≡ b + n = omega arith in
    sym (run_missing o b (suc n) (λ z. omega arith)) ∙ ap (λ (k : ℕ). Some (span (number_at o b) (number_at o k))) e

module _ (f h : ℕ) (kept : ℕ → Bool) where
  -- what the row says of a record
  of_row : (i k : ℕ) (t : Bool) → f + i ≡ k → in_row f kept i ≡ t → kept k ≡ t
  of_row i k t e p = ap kept (sym e) ∙ p

  run_by : (b n x y : ℕ) → Gap (in_row f kept) h b n → run_after (number_of f) b n ≡ Some (span x y) → FirstRun (range f h) kept x y
  unfolding run_after
  run_by b zero x y g e = absurd (let z : ◌≡◌ {A = ℕ} 0 1 = cc in omega arith)
  run_by b (suc n) x y g e =
      let found = some_missing (number_of f) b n in
      let ends = same_ends _ _ _ _ (sym e ∙ found) in
      record {
        first = f + b;
        last = f + (b + n);
        from = ends.0 ∙ mod-add-mod f 65536 b;
        to = ends.1 ∙ mod-add-mod f 65536 (b + n);
        some = omega arith;
        first_held = held_makes (range f h) (f + b) (omega arith) (omega arith);
        last_held = held_makes (range f h) (f + (b + n)) (omega arith) (omega arith);
        before = λ k t l. let p = held_reads (range f h) k t in of_row (k - f) k true (omega arith) (g.received (k - f) (omega arith));
        missing = λ k l u. of_row (b + (k - f - b)) k false (omega arith) (g.missing (k - f - b) (omega arith));
        ends = λ t. let p = held_reads (range f h) (f + (b + n) + 1) t in of_row (b + suc n) (f + (b + n) + 1) true (omega arith) (g.ends (omega arith));
      }

  all_by : (b n : ℕ) → Gap (in_row f kept) h b n → run_after (number_of f) b n ≡ None → (k : ℕ) → held_b (range f h) k ≡ true → kept k ≡ true
  all_by b zero g e k t =
      let p = held_reads (range f h) k t in
      let full = g.none refl in
      of_row (k - f) k true (omega arith) (g.received (k - f) (omega arith))
  all_by b (suc n) g e k t = cc (some_missing (number_of f) b n)

  nothing_by : (b n : ℕ) → Gap (in_row f kept) h b n → ((k : ℕ) → held_b (range f h) k ≡ true → kept k ≡ true) → run_after (number_of f) b n ≡ None
  unfolding run_after
  nothing_by b zero g all = refl
  nothing_by b (suc n) g all =
      let k = f + (b + 0) in
      absurd (clash (kept k) (all k (held_makes (range f h) k (omega arith) (omega arith))) (g.missing 0 (omega arith)))

-- ---- the map's answers

module _ (m : List ℕ) (f h : ℕ) (kept : ℕ → Bool) (a : Alike m (range f h) kept) where
  -- the number i steps after the oldest
  abbrev received : ℕ → Bool
  received i = received_b m (number_at (number_of f) i)

  inside_number : (i : ℕ) → i < h → received i ≡ in_row f kept i
  inside_number i l =
      ap (received_b m) (mod-add-mod f 65536 i) ∙ a.bit (f + i) (held_makes (range f h) (f + i) (omega arith) (omega arith))

  outside_number : (i : ℕ) → h ≤ i → i < 65536 → received i ≡ false
  outside_number i l s =
      ap (received_b m) (mod-add-mod f 65536 i)
      ∙ a.clear (number_of (f + i)) (omega arith)
      (inside_near (range f h) (f + i) (omega arith) (omega arith) (omega arith) ∙ not_held (range f h) (f + i) (λ p. omega arith))

  ones : ones_of m ≡ count_b (in_row f kept) h
  ones =
      map_ones m ∙ ap (λ (n : ℕ). count_b (received_b m) (64 * n)) a.words
      ∙ count_inside (received_b m) (number_of f) (omega arith) h (omega arith) outside_number
      ∙ count_alike received (in_row f kept) h inside_number

  run_in : run_among (number_of f) (numbers_from m (number_of f) h) ≡ run_after (number_of f) (before (in_row f kept) h) (gap (in_row f kept) h)
  unfolding run_among numbers_from
  run_in = ap (run_among (number_of f)) (row_alike received (in_row f kept) h inside_number)

proposed : (m : List ℕ) (f h : ℕ) → h ≤ 1023 → proposed_in m (told_of (range f h)) ≡ run_among (number_of f) (numbers_from m (number_of f) h)
unfolding run_among run_after received_first missing_first numbers_from row
proposed m f zero few = refl
proposed m f (suc h) few =
    ap (proposed_in m) (told_some f h) ∙ ap (λ (n : ℕ). run_among (number_of f) (numbers_from m (number_of f) n)) (range_size_lem f h (omega arith))

answers : (m : List ℕ) (f h : ℕ) (kept : ℕ → Bool) → Alike m (range f h) kept → KeptIn propose m (range f h) kept
answers m f h kept a =
    let b = before (in_row f kept) h in
    let n = gap (in_row f kept) h in
    let g = first_gap (in_row f kept) h in
    let found : propose_of m (told_of (range f h)) ≡ answered (run_after (number_of f) b n) =
    sym (propose_done m (told_of (range f h)) a.words) ∙ ap answered (proposed m f h a.slots ∙ run_in m f h kept a) in
    record {
      words = a.words;
      bit = a.bit;
      clear = λ s l none. a.clear s l (outside_none (range f h) s (omega arith) l none);
      run = λ x y e. run_by f h kept b n x y g (answered_is _ _ (sym found ∙ e));
      all_kept = λ e. all_by f h kept b n g (answered_is _ _ (sym found ∙ e));
      nothing_missing = λ all. found ∙ ap answered (nothing_by f h kept b n g all);
      count = sym (received_done m a.words) ∙ ap (λ (n : ℕ). let r : Result ℕ Refusal = Ok n in r) (ones m f h kept a);
    }

pub kept_below : (n : ℕ) → n ≤ 64514 → KeptBelow n tell take propose
kept_below n most l fair = answers (map_of tell take l) (last_of l).first (last_of l).held (kept_b l) (alike n most l fair)
