-- Keeping a row of held records in their order: each follows the one before, so none is refused.
-- Assumes nothing.
use mathlib.Core.Path.{◌≡◌, refl, sym, ap, ◌∙◌, subst}
use mathlib.Core.Bool.{Bool, true, false}
use mathlib.Core.List.{List, [], ◌∷◌, ◌++◌, map, append-nil}
use Prim.Native.Nat.{ℕ, zero, suc, ◌+◌, ◌-◌, ◌%◌, ◌<◌}
use native.Mathlib.Omega.{arith}
use borrow.Author.Tests.{eq-eqb}
use lib.Dec.{eqb}
use lib.ListN.{length, drop, length-append, length-drop}
use lib.Seq.{drop-drop, drop-append-le, append_snoc}
use Rattle.octets.specs.Choice.{either, pick}
use Rattle.octets.specs.Parts.{Bytes}
use Rattle.octets.proofs.Tests.{both_reads}
use Rattle.record.specs.Fields.{sequence_of}
use Rattle.record.specs.declared.kinds.Record.{Record}
use Rattle.record_write.specs.Layout.{record_of}
use Rattle.record_read.specs.Reading.{read_of}
use Rattle.table.specs.Table.{capacity, count, next, held, after, sound_b, slot_b, row_b, bytes_in, record_in}
use Rattle.table.proofs.RowLaws.{Slot, over_row}
use Rattle.table_write.specs.Append.{newest}
use Rattle.keep.specs.Keep.{Keeping, keeping, read_kept, keep_of, keeping_number}
use Rattle.keep.proofs.KeepLaws as kept
use Rattle.theorems_copies.specs.Copies.{Copy, copy, after_keeping}
use Rattle.keep.specs.declared.keep.KeepError.TheVariants.{TableNotSound}
use Rattle.std.proofs.Common.{Err, Option, Some}

-- the newest n of a list's newest n and one more
pub newest_more : (n : ℕ) (l : List Record) (x : Record) → newest n (newest n l ++ (x ∷ [])) ≡ newest n (l ++ (x ∷ []))
newest_more n l x =
    let d : ℕ = length l - n in
    let joined : newest n l ++ (x ∷ []) ≡ drop d (l ++ (x ∷ [])) = sym (drop-append-le d l (x ∷ []) (omega arith)) in
    let size : length (drop d (l ++ (x ∷ []))) ≡ length l + 1 - d = length-drop d (l ++ (x ∷ [])) ∙ ap (λ (k : ℕ). k - d) (length-append l (x ∷ [])) in
    ap (newest n) joined
    ∙ ap (λ (k : ℕ). drop (k - n) (drop d (l ++ (x ∷ [])))) size
    ∙ drop-drop (length l + 1 - d - n) d (l ++ (x ∷ []))
    ∙ ap (λ (k : ℕ). drop k (l ++ (x ∷ []))) (place (length l) n)
    ∙ sym (ap (λ (k : ℕ). drop (k - n) (l ++ (x ∷ []))) (length-append l (x ∷ [])))
  where
    place : (k n : ℕ) → k - n + (k + 1 - (k - n) - n) ≡ k + 1 - n
    place k n = omega arith

-- the copy after readings, by what was read alone
abbrev pub keep_read : List ℕ → Option Record → Keeping
keep_read u x = pick (sound_b u) (read_kept u x) (keeping (Err TableNotSound) u)

unfoldable pub keep_readings : Copy → List (Option Record) → Copy
keep_readings c [] = c
keep_readings c (x ∷ l) = keep_readings (after_keeping c.fine (keep_read c.table x)) l

pub by_reading : (u b : List ℕ) → keep_of u b ≡ keep_read u (read_of b)
unfolding keep_of
by_reading u b = refl

-- a table of n slots that has kept the records l, and is ready for the number s
pub record Holds (n : ℕ) (u : List ℕ) (l : List Record) (s : ℕ) : Type 0 where
  pub sound : sound_b u ≡ true
  pub bytes : Bytes u
  pub capacity : capacity u ≡ n
  pub held : held u ≡ newest n l
  pub ready : either (eqb (count u) 0) (eqb s (next u)) ≡ true

-- where its next number is s, however many are held
pub ready_for : (b : Bool) (s m : ℕ) → s ≡ m → either b (eqb s m) ≡ true
ready_for true s m e = refl
ready_for false s m e = eq-eqb s m e

-- one record more
module _ (n : ℕ) (u x : List ℕ) (l : List Record) (s : ℕ) (h : Holds n u l s) (a : Slot x s) (hb : Bytes (bytes_in x)) where
  abbrev r : Record
  r = record_in x

  follows : sequence_of (record_of (bytes_in x)) ≡ s
  unfolding record_in
  follows = a.number

  abbrev kept_in : List ℕ
  kept_in = (keep_of u (bytes_in x)).table

  kept_0 : keeping_number (keep_of u (bytes_in x)).answer ≡ 0
  kept_0 = kept.answers u (bytes_in x) ∙ rw (h.sound, a.well, follows, h.ready)

  more_holds : Holds n kept_in (l ++ (r ∷ [])) (after s)
  unfolding record_in
  more_holds =
      let k = kept.keeps_newest u (bytes_in x) h.bytes hb kept_0 in
      record {
        sound = k.sound;
        bytes = k.bytes;
        capacity = k.capacity ∙ h.capacity;
        held = k.held ∙ rw (h.capacity, h.held) (newest_more n l (record_of (bytes_in x)));
        ready = ready_for (eqb (count kept_in) 0) (after s) (next kept_in) (sym (k.next ∙ ap after follows));
      }

-- slots whose records are bytes
pub data EachBytes : List (List ℕ) → Type 0 where
  none : EachBytes []
  more : {x : List ℕ} {l : List (List ℕ)} → Bytes (bytes_in x) → EachBytes l → EachBytes (x ∷ l)

pub bytes_later : (k : ℕ) (l : List (List ℕ)) → EachBytes l → EachBytes (drop k l)
bytes_later zero l h = h
bytes_later (suc k) [] h = h
bytes_later (suc k) (x ∷ l) (more b h) = bytes_later k l h

-- the rest of a row is a row
pub row_later : (k : ℕ) (l : List (List ℕ)) (s : ℕ) → s < 65536 → row_b l s ≡ true → row_b (drop k l) ((s + k) % 65536) ≡ true
unfolding row_b
row_later zero l s small h = let e : (s + 0) % 65536 ≡ s = omega arith in ap (row_b l) e ∙ h
row_later (suc k) [] s small h = refl
row_later (suc k) (x ∷ l) s small h =
    let e : (s + suc k) % 65536 ≡ (after s + k) % 65536 = omega arith in
    ap (row_b (drop k l)) e ∙ row_later k l (after s) (omega arith) (both_reads (slot_b x s) (row_b l (after s)) h).1

-- every record was kept, and the copy holds them
pub record Done (n : ℕ) (c : Copy) (l : List Record) (s : ℕ) : Type 0 where
  pub fine : c.fine ≡ true
  pub holds : Holds n c.table l s

-- a row of held slots, kept after the records l
module _ (n : ℕ) where
  abbrev KeepsRow : List (List ℕ) → ℕ → Type 0
  KeepsRow l s = s < 65536 → EachBytes l → (u : List ℕ) (past : List Record) → Holds n u past s
      → Done n (keep_readings (copy u true) (map Some (map record_in l))) (past ++ map record_in l) ((s + length l) % 65536)

  reads : (x : List ℕ) (s : ℕ) → Slot x s → read_of (bytes_in x) ≡ Some (record_in x)
  unfolding read_of record_in
  reads x s a = rw a.well

  no_slots : (s : ℕ) → KeepsRow [] s
  unfolding keep_readings
  no_slots s small none u past h =
      let e : s ≡ (s + 0) % 65536 = omega arith in
      subst (λ (l : List Record). Done n (copy u true) l ((s + 0) % 65536)) (sym (append-nil past))
      (subst (λ (k : ℕ). Done n (copy u true) past k) e (record { fine = refl; holds = h }))

  one_slot : (x : List ℕ) (l : List (List ℕ)) (s : ℕ) → Slot x s → KeepsRow l (after s) → KeepsRow (x ∷ l) s
  unfolding keep_readings
  one_slot x l s a rest small (more b bs) u past h =
      let d = rest (omega arith) bs (keep_of u (bytes_in x)).table (past ++ (record_in x ∷ [])) (more_holds n u x past s h a b) in
      let kept : keep_read u (Some (record_in x)) ≡ keep_of u (bytes_in x) = ap (keep_read u) (sym (reads x s a)) ∙ sym (by_reading u (bytes_in x)) in
      let fine : eqb (keeping_number (keep_of u (bytes_in x)).answer) 0 ≡ true = eq-eqb _ 0 (kept_0 n u x past s h a b) in
      let c : after_keeping true (keep_read u (Some (record_in x))) ≡ copy (keep_of u (bytes_in x)).table true =
      ap (after_keeping true) kept ∙ ap (copy (keep_of u (bytes_in x)).table) fine in
      let number : ((s + 1) % 65536 + length l) % 65536 ≡ (s + suc (length l)) % 65536 = omega arith in
      subst (λ (k : Copy). Done n (keep_readings k (map Some (map record_in l))) (past ++ (record_in x ∷ map record_in l)) ((s + suc (length l)) % 65536)) (sym c)
      (subst (λ (k : ℕ). Done n (keep_readings (copy (keep_of u (bytes_in x)).table true) (map Some (map record_in l))) (past ++ (record_in x ∷ map record_in l)) k) number
      (subst (λ (m : List Record). Done n (keep_readings (copy (keep_of u (bytes_in x)).table true) (map Some (map record_in l))) m (((s + 1) % 65536 + length l) % 65536)) (append_snoc past (record_in x) (map record_in l)) d))

  pub keeps_row : (l : List (List ℕ)) (s : ℕ) → row_b l s ≡ true → KeepsRow l s
  keeps_row = over_row KeepsRow no_slots one_slot
