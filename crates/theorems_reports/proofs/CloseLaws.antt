-- When the closing response comes: by induction over the askings, with the number of segments still to come.
-- Assumes nothing.
use mathlib.Core.Path.{◌≡◌, refl, sym, ◌∙◌, ap}
use mathlib.Core.Bool.{Bool, true, false}
use mathlib.Core.List.{List, [], ◌∷◌, map}
use Prim.Native.Nat.{ℕ, suc, ◌+◌, ◌-◌, ◌/◌, ◌<◌, ◌≤◌}
use native.Mathlib.Nat.{div-eq_of_lt, div-eq-sub-div}
use native.Mathlib.Omega.{arith}
use borrow.Author.Tests.{le-leb, lt-ltb, le-ltb, ltb-true, ltb-false}
use lib.Dec.{leb, ltb}
use lib.ListN.{length}
use Rattle.octets.specs.Parts.{Bytes}
use Rattle.octets.proofs.Tests.{clash, both_reads}
use Rattle.filter.specs.declared.filter.Filter.{Filter}
use Rattle.record_write.specs.Layout.{bytes_of}
use Rattle.record.specs.declared.kinds.Record.{Record}
use Rattle.table.specs.Table.{sound_b}
use Rattle.clock.specs.declared.state.Clock.{Clock}
use Rattle.racp_notify.specs.Notify.{room_b}
use Rattle.theorems_reports.specs.World.{world, Call, seconds, switches, disconnect, fault, time_update, record_access, notify}
use Rattle.theorems_reports.specs.Hearing.{segment, Hearing, onward, hearing_by, hearing_of}
use Rattle.theorems_reports.specs.Reports.{asking_b, askings_b, long_b, pieces, segments, Exact}
use Rattle.theorems_reports.proofs.RunLaws.{Runs, Told, closes, last, more, told}
use Rattle.theorems_reports.proofs.HeardLaws.{room_reads, hears, closing_heard}

-- an asking is a notification with room
pub data Asks : Call → Type 0 where
  asks : {p : ℕ} {o : List ℕ} → room_b p (length o) ≡ true → Asks (notify p o)

asking_reads : (a : Call) → asking_b a ≡ true → Asks a
unfolding asking_b
asking_reads (seconds n) h = absurd (clash false h refl)
asking_reads (switches x y z) h = absurd (clash false h refl)
asking_reads disconnect h = absurd (clash false h refl)
asking_reads (fault o) h = absurd (clash false h refl)
asking_reads (time_update w o b) h = absurd (clash false h refl)
asking_reads (record_access w o) h = absurd (clash false h refl)
asking_reads (notify p o) h = asks h

pub askings_read : (a : Call) (ks : List Call) → askings_b (a ∷ ks) ≡ true → Asks a × (askings_b ks ≡ true)
unfolding askings_b
askings_read a ks h = let x = both_reads (asking_b a) (askings_b ks) h in (asking_reads a x.0, x.1)

-- segments still to come
unfoldable pub todo : ℕ → ℕ → List Record → ℕ
todo q sent [] = 0
todo q sent (x ∷ l) = pieces q (length (bytes_of x) - sent) + segments q l

pub todo_all : (q : ℕ) (l : List Record) → todo q 0 l ≡ segments q l
unfolding todo segments
todo_all q [] = refl
todo_all q (x ∷ l) = let e : length (bytes_of x) - 0 ≡ length (bytes_of x) = omega arith in ap (λ (n : ℕ). pieces q n + segments q l) e

module _ (q sent : ℕ) (x : Record) (l : List Record) where
  pub todo_last : sent < length (bytes_of x) → length (bytes_of x) ≤ sent + q → todo q sent (x ∷ l) ≡ suc (todo q 0 l)
  unfolding todo
  todo_last h k =
      let e : (length (bytes_of x) - sent - 1) / q ≡ 0 = div-eq_of_lt (omega arith) in
      let f = todo_all q l in omega arith

  pub todo_more : 0 < q → sent + q < length (bytes_of x) → todo q sent (x ∷ l) ≡ suc (todo q (sent + q) (x ∷ l))
  unfolding todo
  todo_more h k =
      let n = length (bytes_of x) in
      let e : (n - sent - 1) / q ≡ (n - sent - 1 - q) / q + 1 = div-eq-sub-div h (omega arith) in
      let g = ap (λ (m : ℕ). m / q) {x = n - sent - 1 - q} {y = n - (sent + q) - 1} (omega arith) in omega arith

  -- with a larger body no more than with a smaller one
  pub fewer : (p : ℕ) → 20 ≤ p → sent + (p - 1) < length (bytes_of x) → todo 19 (sent + (p - 1)) (x ∷ l) < todo 19 sent (x ∷ l)
  unfolding todo
  fewer p a h = omega arith

  pub fewer_last : todo 19 0 l < todo 19 sent (x ∷ l)
  unfolding todo
  fewer_last = omega (arith, todo_all 19 l)

ltb_suc : (m n : ℕ) → ltb (suc m) (suc n) ≡ ltb m n
ltb_suc m n = go (ltb m n) refl
  where
    go : (b : Bool) → ltb m n ≡ b → ltb (suc m) (suc n) ≡ b
    go true q = lt-ltb (suc m) (suc n) (omega (arith, ltb-true m n q))
    go false q = le-ltb (suc m) (suc n) (omega (arith, ltb-false m n q))

-- one more segment, one more asking
pub one_more : (m n : ℕ) (b : List ℕ) (h : Hearing) → Exact m n h → Exact (suc m) (suc n) (onward (segment b) h)
one_more m n b h e = record { closed = e.closed ∙ sym (ltb_suc m n); notes = λ i. ap suc (e.notes (omega arith)) }

module _ (t : List ℕ) (sd : sound_b t ≡ true) (hb : Bytes t) (opcode : ℕ) (f : Filter) where
  -- the closing response comes, at the latest after as many askings as the smallest payload size needs
  abbrev Closes : List Call → Type 0
  Closes ks = (c : Clock) (k sent : ℕ) (l : List Record) → Runs t sd hb opcode f c k sent l → todo 19 sent l < length ks
      → (hearing_of (world c t) ks).closed ≡ true

  closes_one : {c : Clock} {k sent : ℕ} (ks : List Call) {l : List Record} (p : ℕ) (o : List ℕ) → room_b p (length o) ≡ true
      → Told t sd hb opcode f c p o k sent l → Closes ks → todo 19 sent l < suc (length ks) → (hearing_of (world c t) (notify p o ∷ ks)).closed ≡ true
  closes_one {c} ks p o room (closes e) later h = rw (closing_heard (world c t) (world c t) (notify p o) ks _ e)
  closes_one {c} {k} {sent} ks p o room (last {x} {rest} {d} unsent reads b e1 e2 r) later h =
      rw (hears (world c t) (world d t) (notify p o) ks _ e1 e2) (later d _ _ _ r (omega (arith, fewer_last 19 sent x rest)))
  closes_one {c} {k} {sent} ks p o room (more {x} {rest} {d} unsent reads b e1 e2 r) later h =
      rw (hears (world c t) (world d t) (notify p o) ks _ e1 e2)
      (later d _ _ _ r (omega (arith, fewer 19 sent x rest p (room_reads p (length o) room) b)))

  closes_all : (ks : List Call) → askings_b ks ≡ true → Closes ks
  closes_all [] h c k sent l r n = absurd (omega arith)
  closes_all (a ∷ ks) h c k sent l r n = go (askings_read a ks h).0 (closes_all ks (askings_read a ks h).1)
    where
      go : {a : Call} → Asks a → Closes ks → (hearing_of (world c t) (a ∷ ks)).closed ≡ true
      go (asks {p} {o} room) later = closes_one ks p o room (told t sd hb opcode f p o r room) later n

  pub closes_soon : (ks : List Call) → askings_b ks ≡ true → (c : Clock) (k : ℕ) (l : List Record) → Runs t sd hb opcode f c k 0 l
      → segments 19 l < length ks → (hearing_of (world c t) ks).closed ≡ true
  closes_soon ks h c k l r n = closes_all ks h c k 0 l r (rw (todo_all 19 l) n)

  -- with P fixed: after exactly as many as are to come
  module _ (p : ℕ) (least : 20 ≤ p) (most : p ≤ 244) where
    abbrev Exactly : List (List ℕ) → Type 0
    Exactly os = (c : Clock) (k sent : ℕ) (l : List Record) → Runs t sd hb opcode f c k sent l
        → Exact (todo (p - 1) sent l) (length os) (hearing_of (world c t) (map (notify p) os))

    exact_one : {c : Clock} {k sent : ℕ} (os : List (List ℕ)) {l : List Record} (o : List ℕ) → Told t sd hb opcode f c p o k sent l → Exactly os
        → Exact (todo (p - 1) sent l) (suc (length os)) (hearing_of (world c t) (notify p o ∷ map (notify p) os))
    unfolding todo
    exact_one {c} os o (closes e) later =
        rw (closing_heard (world c t) (world c t) (notify p o) (map (notify p) os) _ e)
        (record { closed = sym (lt-ltb 0 (suc (length os)) (omega arith)); notes = λ h. refl })
    exact_one {c} {k} {sent} os o (last {x} {rest} {d} unsent reads b e1 e2 r) later =
        rw (hears (world c t) (world d t) (notify p o) (map (notify p) os) _ e1 e2, todo_last (p - 1) sent x rest unsent b)
        (one_more _ _ _ _ (later d _ _ _ r))
    exact_one {c} {k} {sent} os o (more {x} {rest} {d} unsent reads b e1 e2 r) later =
        rw (hears (world c t) (world d t) (notify p o) (map (notify p) os) _ e1 e2, todo_more (p - 1) sent x rest (omega arith) b)
        (one_more _ _ _ _ (later d _ _ _ r))

    room_makes : (o : List ℕ) → leb p (length o) ≡ true → room_b p (length o) ≡ true
    unfolding room_b
    room_makes o h = rw (le-leb 20 p least, le-leb p 244 most, h)

    exact_all : (os : List (List ℕ)) → long_b p os ≡ true → Exactly os
    unfolding long_b hearing_by
    exact_all [] h c k sent l r =
        record { closed = sym (le-ltb (todo (p - 1) sent l) 0 (omega arith)); notes = λ n. omega arith }
    exact_all (o ∷ os) h c k sent l r =
        let x = both_reads (leb p (length o)) (long_b p os) h in
        exact_one os o (told t sd hb opcode f p o r (room_makes o x.0)) (exact_all os x.1)

    pub exactly : (os : List (List ℕ)) → long_b p os ≡ true → (c : Clock) (k : ℕ) (l : List Record) → Runs t sd hb opcode f c k 0 l
        → Exact (segments (p - 1) l) (length os) (hearing_of (world c t) (map (notify p) os))
    exactly os h c k l r = rw (← todo_all (p - 1) l) (exact_all os h c k 0 l r)
