-- The table that is made of the kept slots: where they lie in it, that they are held with their numbers one after the other, and that it is sound.
-- Assumes nothing.
use mathlib.Core.Path.{◌≡◌, refl, sym, ap, ◌∙◌, subst}
use mathlib.Core.Bool.{true}
use mathlib.Core.List.{List, [], ◌∷◌, ◌++◌, map, append_assoc}
use Prim.Native.Nat.{ℕ, zero, suc, ◌+◌, ◌*◌, ◌-◌, ◌%◌, ◌≤◌, ◌<◌}
use native.Mathlib.Omega.{arith}
use borrow.Author.Tests.{ne_eqb}
use lib.ListN.{length, take, drop, replicate}
use lib.Seq.{take_at, drop_at, drop-drop, length-take-le}
use Rattle.octets.specs.Numbers.{at}
use Rattle.octets.specs.Parts.{part, zeros_b, over, Bytes}
use Rattle.octets.proofs.NumberLaws.{le16_small}
use Rattle.octets.proofs.PartLaws.{bytes_append, bytes_take, bytes_drop, bytes_zeros}
use Rattle.octets.proofs.Tests.{both_yes}
use Rattle.record_write.specs.Layout.{record_of}
use Rattle.record.specs.declared.kinds.Record.{Record}
use Rattle.table.specs.Table.{size_b, slots_in, count, oldest, next, capacity, header_at, header_bytes, slot, slots, ring, held, bytes_in, record_in, next_slot, after, first, slot_b, row_b}
use Rattle.table.specs.declared.header.Header.{Header}
use Rattle.table.proofs.HeadLaws.{size_reads, sound_makes, empty_some}
use Rattle.table.proofs.RowLaws.{slot_makes}
use Rattle.table_write.proofs.StartLaws.{bytes_header}
use Rattle.table_write.proofs.AppendLaws.{header_laid}
use Rattle.table_write.proofs.SoundLaws.{tail_zero}
use Rattle.salvage_run.specs.Runs.{counts_b, number_in, run_of, kept_slots}
use Rattle.salvage_run.specs.Theorems.{rises_b}
use Rattle.salvage_run.proofs.SlotLaws.{counts_reads, number_at_lem}
use Rattle.salvage_run.proofs.RunLaws.{rises_reads, keeps_longest}
use Rattle.salvage_run.proofs.KeptLaws.{slot_read, kept_from, kept_inside, kept_rises, kept_counts, kept_all_lem, kept_next, kept_end}
use Rattle.salvage_table.specs.Salvaged.{cleaned, cleaned_all, next_after, new_header, salvaged_table}
use Rattle.salvage_table.proofs.SlotsLaws.{length_kept, length_cleaned, cleaned_next, cleaned_end, cleaned_all_lem, slot_size}
use Rattle.salvage_call.proofs.SalvageLaws.{length_salvaged}
use Rattle.theorems_salvage.specs.Result.{ComesBack}

-- a slot that is cleaned: the same length byte and record, zeros after it
module _ (s : List ℕ) (size : length s ≡ 64) (counts : counts_b s ≡ true) where
  same_length : at (cleaned s) 0 ≡ at s 0
  unfolding cleaned
  same_length = first_byte (1 + at s 0) s (replicate (63 - at s 0) 0) (omega arith) (omega arith)
    where
      first_byte : (n : ℕ) (l m : List ℕ) → 1 ≤ n → 1 ≤ length l → at (take n l ++ m) 0 ≡ at l 0
      first_byte zero l m p q = absurd (omega arith)
      first_byte (suc n) [] m p q = absurd (omega arith)
      first_byte (suc n) (x ∷ l) m p q = refl

  pub same_bytes : bytes_in (cleaned s) ≡ bytes_in s
  unfolding bytes_in cleaned
  same_bytes = rw same_length (behind (at s 0) (1 + at s 0) s (replicate (63 - at s 0) 0) (omega arith) (omega (arith, (counts_reads s counts).short)))
    where
      behind : (n k : ℕ) (l m : List ℕ) → k ≡ suc n → suc n ≤ length l → take n (drop 1 (take k l ++ m)) ≡ take n (drop 1 l)
      behind n k [] m e h = absurd (omega arith)
      behind n k (x ∷ l) m e h = rw e (take_at (take n l) m n (length-take-le n l (omega arith)))

  tail : zeros_b (drop (1 + at (cleaned s) 0) (cleaned s)) ≡ true
  unfolding cleaned
  tail =
      rw same_length
      (subst (λ (k : ℕ). zeros_b (drop k (take (1 + at s 0) s ++ replicate (63 - at s 0) 0)) ≡ true) (length_kept s size counts)
      (tail_zero (take (1 + at s 0) s) (63 - at s 0)))

  pub slot_right : (n : ℕ) → number_in s ≡ n → slot_b (cleaned s) n ≡ true
  unfolding number_in record_in
  slot_right n e =
      let c = counts_reads s counts in
      slot_makes (cleaned s) n (record {
        short = rw same_length c.short;
        well = rw same_bytes c.well;
        number = rw same_bytes e;
        zeros = tail;
      })

bytes_slot : (t : List ℕ) (o : ℕ) → Bytes t → Bytes (slot t o)
unfolding slot
bytes_slot t o b = bytes_take 64 (drop o t) (bytes_drop o t b)

bytes_cleaned : (s : List ℕ) → Bytes s → Bytes (cleaned s)
unfolding cleaned
bytes_cleaned s b = bytes_append (take (1 + at s 0) s) _ (bytes_take (1 + at s 0) s b) (bytes_zeros (63 - at s 0))

after_small : (n : ℕ) → after n < 65536
after_small n = omega arith

next_small : (l : List (List ℕ)) → next_after l < 65536
unfolding next_after
next_small [] = omega arith
next_small (s ∷ []) = after_small (number_in s)
next_small (s ∷ x ∷ l) = next_small (x ∷ l)

-- the new table of a permitted size
module _ (t : List ℕ) (z : size_b (length t) ≡ true) where
  abbrev u : List ℕ
  u = salvaged_table t

  abbrev f : ℕ
  f = (run_of t).first

  abbrev m : ℕ
  m = (run_of t).count

  abbrev rest : List ℕ
  rest = replicate (64 * (slots_in (length t) - m)) 0

  pub header_is : header_at u ≡ new_header t
  unfolding salvaged_table new_header over
  header_is =
      let w = size_reads (length t) z in
      let i = kept_inside t in
      header_laid (replicate 16 0 ++ (cleaned_all (kept_slots t) ++ rest)) (new_header t)
      (record { capacity = omega arith; count = omega arith; oldest = omega arith; next = next_small (kept_slots t) })

  -- what lies behind its first j slots
  dropped : (j : ℕ) → j ≤ m → drop (16 + 64 * j) u ≡ cleaned_all (kept_from t (f + j)) ++ rest
  unfolding salvaged_table
  dropped zero h =
      let none : f ≡ f + 0 = omega arith in
      ap (λ (l : List ℕ). l ++ rest) (cleaned_all_lem t ∙ ap (λ (k : ℕ). cleaned_all (kept_from t k)) none)
  dropped (suc j) h =
      let on : f + j + 1 ≡ f + suc j = omega arith in
      let past : 16 + 64 * j + 64 ≡ 16 + 64 * suc j = omega arith in
      let counts = kept_counts t (f + j) (omega arith) (omega arith) in
      let long = length_cleaned (slot_read t (f + j)) (slot_size t (f + j) z) counts in
      let more = cleaned_all (kept_from t (f + j + 1)) in
      ap (λ (n : ℕ). drop n u) (sym past)
      ∙ sym (drop-drop 64 (16 + 64 * j) u)
      ∙ ap (λ (l : List ℕ). drop 64 l)
      (dropped j (omega arith)
      ∙ ap (λ (l : List ℕ). l ++ rest) (cleaned_next t (f + j) (omega arith))
      ∙ append_assoc (cleaned (slot_read t (f + j))) more rest)
      ∙ drop_at (cleaned (slot_read t (f + j))) (more ++ rest) 64 long
      ∙ ap (λ (k : ℕ). cleaned_all (kept_from t k) ++ rest) on

  pub slot_at : (j : ℕ) → j < m → slot u (16 + 64 * j) ≡ cleaned (slot_read t (f + j))
  unfolding slot
  slot_at j h =
      let counts = kept_counts t (f + j) (omega arith) (omega arith) in
      let long = length_cleaned (slot_read t (f + j)) (slot_size t (f + j) z) counts in
      let more = cleaned_all (kept_from t (f + j + 1)) in
      ap (λ (l : List ℕ). take 64 l)
      (dropped j (omega arith)
      ∙ ap (λ (l : List ℕ). l ++ rest) (cleaned_next t (f + j) (omega arith))
      ∙ append_assoc (cleaned (slot_read t (f + j))) more rest)
      ∙ take_at (cleaned (slot_read t (f + j))) (more ++ rest) 64 long

  slots_at : (d j : ℕ) → j + d ≡ m → slots d u (16 + 64 * j) ≡ map cleaned (kept_from t (f + j))
  unfolding slots
  slots_at zero j e = rw (kept_end t (f + j) (omega arith))
  slots_at (suc zero) j e =
      rw (kept_next t (f + j) (omega arith), kept_end t (f + j + 1) (omega arith)) (ap (λ (s : List ℕ). s ∷ []) (slot_at j (omega arith)))
  slots_at (suc (suc d)) j e =
      let w = size_reads (length t) z in
      let i = kept_inside t in
      let size = length_salvaged t z in
      let next_place : next_slot (length u) (16 + 64 * j) ≡ 16 + 64 * suc j = simp (ne_eqb (16 + 64 * j + 64) (length u) (λ q. omega arith)) (omega arith) in
      let on : f + suc j ≡ f + j + 1 = omega arith in
      rw (kept_next t (f + j) (omega arith), next_place, slot_at j (omega arith))
      (ap (λ (l : List (List ℕ)). cleaned (slot_read t (f + j)) ∷ l)
      (slots_at (suc d) (suc j) (omega arith) ∙ ap (λ (k : ℕ). map cleaned (kept_from t k)) on))

  pub ring_is : ring u ≡ map cleaned (kept_slots t)
  unfolding ring new_header
  ring_is =
      let none : f + 0 ≡ f = omega arith in
      let start : 16 ≡ 16 + 64 * 0 = omega arith in
      ap (λ (h : Header). slots h.count u h.oldest) header_is
      ∙ ap (λ (o : ℕ). slots m u o) start
      ∙ slots_at m 0 (omega arith)
      ∙ ap (λ (k : ℕ). map cleaned (kept_from t k)) none
      ∙ ap (map cleaned) (sym (kept_all_lem t))

  -- the kept slots from the k-th on, d of them: a row with their numbers, and the number after them
  row_of : (d k s : ℕ) → k + d ≡ f + m → f ≤ k → rises_b s (kept_from t k) ≡ true → row_b (map cleaned (kept_from t k)) s ≡ true
  unfolding row_b
  row_of zero k s e p r = rw (kept_end t k (omega arith))
  row_of (suc d) k s e p r =
      let here = kept_next t k (omega arith) in
      let a = rises_reads s (slot_read t k) (kept_from t (k + 1)) (ap (rises_b s) (sym here) ∙ r) in
      rw here
      (both_yes (slot_right (slot_read t k) (slot_size t k z) (kept_counts t k p (omega arith)) s a.number)
      ∙ row_of d (k + 1) (after s) (omega arith) (omega arith) a.rest)

  number_of : (d k s : ℕ) → k + suc d ≡ f + m → rises_b s (kept_from t k) ≡ true → s < 65536 → next_after (kept_from t k) ≡ (s + suc d) % 65536
  unfolding next_after
  number_of zero k s e r h =
      let here = kept_next t k (omega arith) ∙ ap (λ (l : List (List ℕ)). slot_read t k ∷ l) (kept_end t (k + 1) (omega arith)) in
      let a = rises_reads s (slot_read t k) [] (ap (rises_b s) (sym here) ∙ r) in
      rw (here, a.number) (omega arith)
  number_of (suc d) k s e r h =
      let here = kept_next t k (omega arith) in
      let there = kept_next t (k + 1) (omega arith) in
      let a = rises_reads s (slot_read t k) (kept_from t (k + 1)) (ap (rises_b s) (sym here) ∙ r) in
      let b = number_of d (k + 1) (after s) (omega arith) a.rest (after_small s) in
      rw (here, there) (ap next_after (sym there) ∙ b ∙ later s d)
    where
      later : (a n : ℕ) → ((a + 1) % 65536 + suc n) % 65536 ≡ (a + suc (suc n)) % 65536
      later a n = omega arith

  -- what is written is bytes
  bytes_all : Bytes t → (d k : ℕ) → k + d ≡ f + m → Bytes (cleaned_all (kept_from t k))
  bytes_all b zero k e = rw (cleaned_end t k (omega arith)) (bytes_zeros 0)
  bytes_all b (suc d) k e =
      rw (cleaned_next t k (omega arith))
      (bytes_append (cleaned (slot_read t k)) _ (bytes_cleaned (slot_read t k) (bytes_slot t _ b)) (bytes_all b d (k + 1) (omega arith)))

  pub bytes_table : Bytes t → Bytes u
  unfolding salvaged_table
  bytes_table b =
      bytes_append (header_bytes (new_header t)) _ (bytes_header (new_header t))
      (bytes_append (cleaned_all (kept_slots t)) _ (rw (cleaned_all_lem t) (bytes_all b m f refl)) (bytes_zeros (64 * (slots_in (length t) - m))))

  -- the held records
  records_of : (d k : ℕ) → k + d ≡ f + m → f ≤ k → map bytes_in (map cleaned (kept_from t k)) ≡ map bytes_in (kept_from t k)
  records_of zero k e p = rw (kept_end t k (omega arith))
  records_of (suc d) k e p =
      rw (kept_next t k (omega arith), same_bytes (slot_read t k) (slot_size t k z) (kept_counts t k p (omega arith)))
      (ap (λ (l : List (List ℕ)). bytes_in (slot_read t k) ∷ l) (records_of d (k + 1) (omega arith) (omega arith)))

  pub unaltered : map bytes_in (ring u) ≡ map bytes_in (kept_slots t)
  unaltered = ap (map bytes_in) (ring_is ∙ ap (map cleaned) (kept_all_lem t)) ∙ records_of m f refl (omega arith) ∙ ap (map bytes_in) (sym (kept_all_lem t))

-- records by their bytes
by_bytes : (l : List (List ℕ)) → map record_in l ≡ map record_of (map bytes_in l)
unfolding record_in
by_bytes [] = refl
by_bytes (s ∷ l) = ap (λ (r : List Record). record_of (bytes_in s) ∷ r) (by_bytes l)

zeros_laid : (t : List ℕ) → zeros_b (part (salvaged_table t) 10 6) ≡ true
unfolding salvaged_table zeros_b
zeros_laid t = refl

-- the number of the oldest record, by the next number and how many there are
oldest_number_lem : (s m : ℕ) → s < 65536 → m ≤ 1023 → ((s + m) % 65536 + 65536 - m) % 65536 ≡ s
oldest_number_lem s m p q = omega arith

pub comes_back : ComesBack
unfolding held new_header
comes_back t h =
    let z = h.size in
    let w = size_reads (length t) z in
    let i = kept_inside t in
    let u = salvaged_table t in
    let f = (run_of t).first in
    let m = (run_of t).count in
    let k = keeps_longest t in
    let s = k.number in
    let d : ℕ = m - 1 in
    let rises : rises_b s (kept_from t f) ≡ true = ap (rises_b s) (sym (kept_all_lem t)) ∙ kept_rises t in
    let a = rises_reads s (slot_read t f) (kept_from t (f + 1)) (ap (rises_b s) (sym (kept_next t f (omega (arith, h.some)))) ∙ rises) in
    let counts = kept_counts t f (omega arith) (omega (arith, h.some)) in
    let small : s < 65536 =
    omega (arith, sym a.number ∙ number_at_lem (slot_read t f) (slot_size t f z) counts, le16_small (slot_read t f) 1 (bytes_slot t _ h.bytes)) in
    let header = header_is t z in
    let size = length_salvaged t z in
    let cap : capacity u ≡ slots_in (length t) = ap (λ (x : Header). x.capacity) header in
    let held_count : count u ≡ m = ap (λ (x : Header). x.count) header in
    let place : oldest u ≡ 16 = ap (λ (x : Header). x.oldest) header in
    let next_is : next u ≡ next_after (kept_slots t) = ap (λ (x : Header). x.next) header in
    let all : suc d ≡ m = omega (arith, h.some) in
    let number : next u ≡ (s + m) % 65536 =
    next_is ∙ ap next_after (kept_all_lem t) ∙ number_of t z d f s (omega (arith, h.some)) rises small ∙ ap (λ (n : ℕ). (s + n) % 65536) all in
    let from : first u ≡ s = rw (number, held_count) (oldest_number_lem s m small (omega arith)) in
    record {
      sound = sound_makes u (record {
        heads = record {
          head = omega arith;
          empty = empty_some (header_at u) (λ e. omega (arith, h.some));
          zeros = zeros_laid t;
        };
        row = rw (ring_is t z, kept_all_lem t, from) (row_of t z m f s refl (omega arith) rises);
      });
      size = size;
      count = held_count;
      unaltered = unaltered t z;
      held = by_bytes (ring u) ∙ ap (map record_of) (unaltered t z) ∙ sym (by_bytes (kept_slots t));
      next = next_is;
      bytes = bytes_table t z h.bytes;
    }
