-- A tag's note, case by case, and the day step by step.
-- Assumes nothing.
use mathlib.Core.Path.{◌≡◌, refl, ap}
use mathlib.Core.Bool.{Bool, true, false}
use mathlib.Core.List.{List}
use Rattle.std.proofs.Common.{Some}
use Prim.Native.Nat.{ℕ, ◌+◌, ◌≤◌, ◌<◌}
use native.Mathlib.Numerals.{add-one}
use borrow.Author.Tests.{lt-ltb, le-ltb}
use lib.Dec.{ltb}
use lib.ListN.{length, drop, get_or, set}
use lib.Seq.{drop-cons, drop-length}
use Rattle.octets.specs.Choice.{both, pick}
use Rattle.table.specs.Table.{next, sound_b}
use Rattle.day_play.specs.Reader.{reader, note_of, read_of, lived_of}
use Rattle.day_play.specs.Play.{ramp, stepped_of, played_of}
use Rattle.day_play.specs.declared.play.Antenna.TheVariants.{Left, Right, Both}
use Rattle.day_play.specs.declared.play.Happening.{Happening}
use Rattle.day_play.specs.declared.play.Ramp.{Ramp}
use Rattle.day_play.specs.declared.reader.Reader.{Reader}

module _ (r : Reader) (place : ℕ) where
  pub not_listed : 8 ≤ place → r ≡ read_of r place
  unfolding read_of
  not_listed h = rw (le-ltb place 8 h)

  pub not_sound : sound_b r.table ≡ false → r ≡ read_of r place
  unfolding read_of
  not_sound h = rw h (neither (ltb place 8))
    where
      neither : (b : Bool) → r ≡ pick (both b false) (reader r.clock r.table (set r.notes place (Some (note_of r)))) r
      neither true = refl
      neither false = refl

  pub noted : (q : ℕ) → place < 8 → sound_b r.table ≡ true → q ≡ next r.table
      → reader r.clock r.table (set r.notes place (Some (record { stamp = r.clock.time.base; q = q }))) ≡ read_of r place
  unfolding read_of
  noted q h s e =
      rw (lt-ltb place 8 h, s)
      (ap (λ (n : ℕ). reader r.clock r.table (set r.notes place (Some (record { stamp = r.clock.time.base; q = n })))) e)

-- one thing more of the day, and the day's end
pub played_next : (v : Ramp) (day : List Happening) (i : ℕ) (d : Happening) → i < length day
    → played_of v (drop i day) ≡ played_of (stepped_of v (get_or day i d)) (drop (i + 1) day)
unfolding played_of
played_next v day i d h = rw (add-one, drop-cons day i d)

pub played_end : (v : Ramp) (day : List Happening) (i : ℕ) → i ≡ length day → played_of v (drop i day) ≡ v
unfolding played_of
played_end v day i e = rw (e, drop-length)

module _ (v : Ramp) (h : Happening) where
  pub at_left : {x : Reader} → h.at ≡ Left → x ≡ lived_of v.left h.event → ramp x v.right ≡ stepped_of v h
  unfolding stepped_of
  at_left e f = rw (e, f)

  pub at_right : {x : Reader} → h.at ≡ Right → x ≡ lived_of v.right h.event → ramp v.left x ≡ stepped_of v h
  unfolding stepped_of
  at_right e f = rw (e, f)

  pub at_both : {x y : Reader} → h.at ≡ Both → x ≡ lived_of v.left h.event → y ≡ lived_of v.right h.event → ramp x y ≡ stepped_of v h
  unfolding stepped_of
  at_both e f g = rw (e, f, g)
