-- The bytes of the held records are those of the records by value; rows of byte strings compared.
-- Assumes nothing.
use mathlib.Core.Path.{◌≡◌, refl, sym, ap, ◌∙◌}
use mathlib.Core.Bool.{true, false}
use mathlib.Core.List.{List, [], ◌∷◌, map}
use Prim.Native.Nat.{ℕ, zero, suc, ◌-◌}
use lib.ListN.{length, take, drop, length-map}
use Rattle.octets.specs.Numbers.{at}
use Rattle.octets.specs.Parts.{Bytes, same_b}
use Rattle.octets.proofs.PartLaws.{bytes_take, bytes_drop}
use Rattle.octets.proofs.SameLaws.{same_reads, same_makes}
use Rattle.octets.proofs.Tests.{clash, both_reads, both_yes, false_by}
use Rattle.record_write.specs.Layout.{bytes_of, record_of}
use Rattle.record_read.specs.Reading.{well_formed_b, read_of}
use Rattle.record_read.proofs.RoundTrip.{write_back}
use Rattle.record.specs.declared.kinds.Record.{Record}
use Rattle.table.specs.Table.{count, oldest, next_slot, after, first, slot, bytes_in, record_in, slots, ring, held, slot_b, row_b, sound_b}
use Rattle.table.proofs.HeadLaws.{sound_reads}
use Rattle.table.proofs.RowLaws.{slot_reads}
use Rattle.table_write.specs.Append.{newest}
use Rattle.table_look.proofs.LookLaws.{drop_map}
use Rattle.theorems_bytes.specs.Stamps.{held_in, same_rows_b}
use Rattle.std.proofs.Common.{Some}

-- a held slot's record, written, is the bytes in it
slot_written : (s : List ℕ) → Bytes (bytes_in s) → well_formed_b (bytes_in s) ≡ true → bytes_in s ≡ bytes_of (record_in s)
unfolding record_in read_of
slot_written s hb h = let x : read_of (bytes_in s) ≡ Some (record_of (bytes_in s)) = rw h in sym (write_back (bytes_in s) (record_of (bytes_in s)) hb x)

bytes_slot : (t : List ℕ) (o : ℕ) → Bytes t → Bytes (bytes_in (slot t o))
unfolding bytes_in slot
bytes_slot t o h =
    let s = take 64 (drop o t) in bytes_take (at s 0) (drop 1 s) (bytes_drop 1 s (bytes_take 64 (drop o t) (bytes_drop o t h)))

slots_written : (t : List ℕ) → Bytes t → (n o m : ℕ) → row_b (slots n t o) m ≡ true → map bytes_in (slots n t o) ≡ map bytes_of (map record_in (slots n t o))
unfolding slots row_b
slots_written t hb zero o m h = refl
slots_written t hb (suc n) o m h =
    let a = both_reads (slot_b (slot t o) m) (row_b (slots n t (next_slot (length t) o)) (after m)) h in
    let e = slot_written (slot t o) (bytes_slot t o hb) (slot_reads (slot t o) m a.0).well in
    ap (λ (b : List ℕ). b ∷ map bytes_in (slots n t (next_slot (length t) o))) e
    ∙ ap (λ (l : List (List ℕ)). bytes_of (record_in (slot t o)) ∷ l) (slots_written t hb n (next_slot (length t) o) (after m) a.1)

pub held_written : (t : List ℕ) → Bytes t → sound_b t ≡ true → held_in t ≡ map bytes_of (held t)
unfolding held_in held ring
held_written t hb sd = slots_written t hb (count t) (oldest t) (first t) (rw ring_is at (sound_reads t sd).row)
  where
    ring_is : ring t ≡ slots (count t) t (oldest t)
    ring_is = refl

-- the newest of a row of records, as bytes
pub newest_written : (n : ℕ) (l : List Record) → map bytes_of (newest n l) ≡ newest n (map bytes_of l)
newest_written n l = sym (drop_map bytes_of (length l - n) l) ∙ ap (λ (k : ℕ). drop (k - n) (map bytes_of l)) (sym (length-map l bytes_of))

pub same_rows : (a b : List (List ℕ)) → same_rows_b a b ≡ true → a ≡ b
unfolding same_rows_b
same_rows [] [] h = refl
same_rows [] (y ∷ b) h = absurd (clash false h refl)
same_rows (x ∷ a) [] h = absurd (clash false h refl)
same_rows (x ∷ a) (y ∷ b) h =
    let r = both_reads (same_b x y) (same_rows_b a b) h in rw (same_reads x y r.0, same_rows a b r.1)

pub rows_itself : (a : List (List ℕ)) → same_rows_b a a ≡ true
unfolding same_rows_b
rows_itself [] = refl
rows_itself (x ∷ a) = both_yes (same_makes x) ∙ rows_itself a

pub rows_differ : (a b : List (List ℕ)) → (length a ≡ length b → ⊥) → same_rows_b a b ≡ false
rows_differ a b h = false_by (same_rows_b a b) (λ e. h (ap length (same_rows a b e)))
