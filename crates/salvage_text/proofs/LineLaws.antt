-- A line put together piece by piece is the pieces in a row, since they are short enough for it; and how long it is at most.
-- Assumes nothing.
use mathlib.Core.Path.{◌≡◌, refl, sym, ap, ◌∙◌}
use mathlib.Core.Bool.{Bool, true, false}
use mathlib.Core.List.{List, [], ◌∷◌, ◌++◌, append_assoc}
use Prim.Native.Nat.{ℕ, ◌≤◌}
use native.Mathlib.Omega.{arith}
use borrow.Author.Tests.{ne_eqb}
use lib.Dec.{eqb}
use lib.ListN.{length, length-append}
use Rattle.octets.specs.Choice.{pick}
use Rattle.octets.specs.Numbers.{at, le16}
use Rattle.text.specs.Line.{fitted, decimal}
use Rattle.text.proofs.TextLaws.{fitted_short, fitted_then}
use Rattle.text.proofs.DecimalLaws.{decimal_short_any}
use Rattle.salvage_report.specs.Report.{le48}
use Rattle.std.proofs.Common.{Result, Ok, Err}
use Rattle.std.specs.Result.{result_unwrap_or}
use Rattle.salvage_report.specs.Kinds.{byte_of, StandsFor}
use Rattle.salvage_report.specs.declared.kind.Kind.{Kind}
use Rattle.salvage_report.specs.declared.kind.Kind.TheVariants.{Slot, Slots, Held, Offset, Next, Rest}
use Rattle.salvage_report.specs.declared.kind.UnknownKind.{UnknownKind}
use Rattle.salvage_text.specs.Told.{slot_word, not_kept_word, slots_word, held_word, offset_word, next_word, rest_word, now_word, refused_word, field_word, slot_line, field_line, entry_line, refused_line}

-- the first piece on an empty line, and one that is all there is on it
pub begun_with : (p : List ℕ) {x y : List ℕ} → x ≡ [] → y ≡ fitted (x ++ p) → y ≡ fitted p
begun_with p e f = f ∙ ap (λ (l : List ℕ). fitted (l ++ p)) e

pub one_word : (p : List ℕ) {x y : List ℕ} → length p ≤ 96 → x ≡ [] → y ≡ fitted (x ++ p) → y ≡ p
one_word p h e f = begun_with p e f ∙ fitted_short p h

slot_short : (place : ℕ) → length (slot_line place) ≤ 35
unfolding slot_line
slot_short place = simp length-append (omega (arith, decimal_short_any place))

pub slot_joined : (place : ℕ) {x y z : List ℕ} → x ≡ fitted slot_word → y ≡ fitted (x ++ decimal place) → z ≡ fitted (y ++ not_kept_word)
    → z ≡ slot_line place
unfolding slot_line
slot_joined place a b c =
    let n = decimal place in
    let p = fitted_then [] slot_word n a b in
    fitted_then [] (slot_word ++ n) not_kept_word p c
    ∙ simp append_assoc (fitted_short (slot_line place) (omega (arith, slot_short place)))

word_short : (kind : ℕ) → length (field_word kind) ≤ 7
unfolding field_word
word_short kind = go (eqb kind 1) (eqb kind 2) (eqb kind 3) (eqb kind 4)
  where
    go : (a b c d : Bool) → length (pick a slots_word (pick b held_word (pick c offset_word (pick d next_word rest_word)))) ≤ 7
    go true b c d = omega arith
    go false true c d = omega arith
    go false false true d = omega arith
    go false false false true = omega arith
    go false false false false = omega arith

field_short : (kind old new : ℕ) → length (field_line kind old new) ≤ 53
unfolding field_line
field_short kind old new =
    simp length-append (omega (arith, word_short kind, decimal_short_any old, decimal_short_any new))

pub field_joined : (kind old new : ℕ) {v w x y z : List ℕ} → v ≡ field_word kind → w ≡ fitted (v ++ decimal old)
    → x ≡ fitted (w ++ now_word) → y ≡ fitted (x ++ decimal new) → z ≡ fitted (y ++ (10 ∷ [])) → z ≡ field_line kind old new
unfolding field_line
field_joined kind old new a b c d e =
    let f = field_word kind in
    let n = decimal old in
    let m = decimal new in
    let p = fitted_then [] f n (a ∙ sym (fitted_short f (omega (arith, word_short kind)))) b in
    let q = fitted_then [] (f ++ n) now_word p c in
    let r = fitted_then [] ((f ++ n) ++ now_word) m q d in
    fitted_then [] (((f ++ n) ++ now_word) ++ m) (10 ∷ []) r e
    ∙ simp append_assoc (fitted_short (field_line kind old new) (omega (arith, field_short kind old new)))

pub refused_short : (n : ℕ) → length (refused_line n) ≤ 29
unfolding refused_line
refused_short n = simp length-append (omega (arith, decimal_short_any n))

pub refused_joined : (n : ℕ) {x y z : List ℕ} → x ≡ fitted refused_word → y ≡ fitted (x ++ decimal n) → z ≡ fitted (y ++ (10 ∷ []))
    → z ≡ refused_line n
unfolding refused_line
refused_joined n a b c =
    let d = decimal n in
    let p = fitted_then [] refused_word d a b in
    fitted_then [] (refused_word ++ d) (10 ∷ []) p c
    ∙ simp append_assoc (fitted_short (refused_line n) (omega (arith, refused_short n)))

-- what the kind tells of a byte, where a byte that stands for none is told as the last field's
pub record Told (byte : ℕ) (kind : Kind) : Type 0 where
  pub slot : eqb byte 0 ≡ eqb (byte_of kind) 0
  pub word : field_word byte ≡ field_word (byte_of kind)

pub told_as : (byte : ℕ) (r : Result Kind UnknownKind) {kind : Kind} → StandsFor byte r → kind ≡ result_unwrap_or r Rest → Told byte kind
unfolding field_word
told_as byte (Ok kind) e k = rw k (record { slot = ap (λ (b : ℕ). eqb b 0) (sym e); word = ap field_word (sym e) })
told_as byte (Err u) e k =
    rw k
    (record {
      slot = ne_eqb byte 0 (λ h. omega arith);
      word =
          simp
          (ne_eqb byte 1 (λ h. omega arith), ne_eqb byte 2 (λ h. omega arith), ne_eqb byte 3 (λ h. omega arith), ne_eqb byte 4 (λ h. omega arith));
    })

not_slot : (kind : Kind) → (kind ≡ Slot → ⊥) → eqb (byte_of kind) 0 ≡ false
not_slot Slot h = absurd (h refl)
not_slot Slots h = refl
not_slot Held h = refl
not_slot Offset h = refl
not_slot Next h = refl
not_slot Rest h = refl

-- an entry's line by its kind
module _ (e : List ℕ) where
  pub entry_slot : {kind : Kind} → Told (at e 0) kind → kind ≡ Slot → entry_line e ≡ slot_line (le16 e 2)
  unfolding entry_line
  entry_slot t h = rw (t.slot ∙ ap (λ (k : Kind). eqb (byte_of k) 0) h)

  pub entry_field : {kind : Kind} → Told (at e 0) kind → (kind ≡ Slot → ⊥) → entry_line e ≡ field_line (byte_of kind) (le48 e 4) (le48 e 10)
  unfolding entry_line field_line
  entry_field {kind} t h = rw (t.slot ∙ not_slot kind h, t.word)

  pub entry_short : length (entry_line e) ≤ 53
  unfolding entry_line
  entry_short = go (eqb (at e 0) 0)
    where
      go : (b : Bool) → length (pick b (slot_line (le16 e 2)) (field_line (at e 0) (le48 e 4) (le48 e 10))) ≤ 53
      go true = omega (arith, slot_short (le16 e 2))
      go false = field_short (at e 0) (le48 e 4) (le48 e 10)
