-- Sender and receiver in step: a segment of the record that is under way is taken, and the last one gives the record.
-- Assumes nothing.
use mathlib.Core.Path.{◌≡◌, refl, sym, ◌∙◌, ap}
use mathlib.Core.Bool.{Bool, true, false, not}
use mathlib.Core.List.{List, ◌∷◌, ◌++◌, append_assoc}
use Prim.Native.Nat.{ℕ, ◌+◌, ◌/◌, ◌%◌, ◌<◌, ◌≤◌}
use native.Mathlib.Omega.{arith}
use borrow.Author.Tests.{eq-eqb, ne_eqb, le-leb, lt-leb}
use lib.Dec.{eqb}
use lib.ListN.{length, take, drop, length-append, length-take, length-drop}
use lib.Seq.{take-add, take_all, take_at, length-take-le}
use Rattle.octets.specs.Choice.{either, pick}
use Rattle.octets.specs.Parts.{over}
use Rattle.octets.proofs.Tests.{both_yes}
use Rattle.octets.proofs.PartLaws.{length_over}
use Rattle.racp_notify.specs.Notify.{bit, header_of, segment_of, last_b}
use Rattle.joining.specs.Joining.{joining, empty_joining, ranges_b, inside_b, filled_b, placed_b, follows_b, standing, takes_b, laid_under, joined, taken_of, join_of, joined_in}
use Rattle.joining.specs.declared.joining.Answer.TheVariants as answers
use Rattle.joining.specs.declared.joining.Answer.TheVariants.{Whole}
use Rattle.joining.specs.declared.joining.Joining.{Joining}

-- the header byte, taken apart
pub header_first : (f l : Bool) (k : ℕ) → header_of f l k % 2 ≡ bit f
unfolding header_of
header_first true true k = omega arith
header_first true false k = omega arith
header_first false true k = omega arith
header_first false false k = omega arith

pub header_last : (f l : Bool) (k : ℕ) → header_of f l k / 2 % 2 ≡ bit l
unfolding header_of
header_last true true k = omega arith
header_last true false k = omega arith
header_last false true k = omega arith
header_last false false k = omega arith

pub header_counter : (f l : Bool) (k : ℕ) → header_of f l k / 4 ≡ k
unfolding header_of
header_counter true true k = omega arith
header_counter true false k = omega arith
header_counter false true k = omega arith
header_counter false false k = omega arith

placed : (i f : Bool) → i ≡ not f → pick i (eqb (bit f) 0) (eqb (bit f) 1) ≡ true
placed i true h = rw h
placed i false h = rw h

ended : (l : Bool) → eqb (bit l) 1 ≡ l
ended true = refl
ended false = refl

module _ (j : Joining) (f l : Bool) (k : ℕ) (body : List ℕ) where
  takes : ranges_b j ≡ true → 0 < length body → inside_b j ≡ not f → either (eqb j.phase 0) (eqb k j.counter) ≡ true
      → standing j + length body ≤ 45 → takes_b j (header_of f l k ∷ body) ≡ true
  unfolding takes_b filled_b placed_b follows_b
  takes hr hb hi hk hl =
      both_yes (le-leb 2 (length (header_of f l k ∷ body)) (omega arith))
      ∙ both_yes hr
      ∙ both_yes (ap (λ (n : ℕ). pick (inside_b j) (eqb n 0) (eqb n 1)) (header_first f l k) ∙ placed (inside_b j) f hi)
      ∙ both_yes (ap (λ (n : ℕ). either (eqb j.phase 0) (eqb n j.counter)) (header_counter f l k) ∙ hk)
      ∙ le-leb (standing j + length body) 45 hl

  join_is : takes_b j (header_of f l k ∷ body) ≡ true
      → join_of j (header_of f l k ∷ body)
      ≡ joined (pick l Whole answers.More) (joining (pick l 1 2) ((k + 1) % 64) (standing j + length body) (over (laid_under j) (standing j) body))
  unfolding join_of taken_of
  join_is h = rw (h, header_last f l k, header_counter f l k, ended l)

-- THE INVARIANT: of the record b the first `sent` bytes stand in the joining state, and k is the counter that follows.
pub record Synced (b : List ℕ) (sent k : ℕ) (j : Joining) : Type 0 where
  pub inside : inside_b j ≡ not (eqb sent 0)
  pub stands : standing j ≡ sent
  pub bytes : take sent (laid_under j) ≡ take sent b
  pub long : length (laid_under j) ≡ 45
  pub follows : either (eqb j.phase 0) (eqb k j.counter) ≡ true
  pub ranges : ranges_b j ≡ true

pub synced_empty : (b : List ℕ) (k : ℕ) → Synced b 0 k empty_joining
unfolding empty_joining standing laid_under ranges_b
synced_empty b k = record { inside = refl; stands = refl; bytes = refl; long = refl; follows = refl; ranges = refl }

-- after a whole record any record may follow
synced_whole : (b bytes : List ℕ) (k len : ℕ) → k < 64 → 1 ≤ len → len ≤ 45 → Synced b 0 k (joining 1 k len bytes)
unfolding standing laid_under ranges_b
synced_whole b bytes k len hk h1 h2 =
    record {
      inside = refl;
      stands = refl;
      bytes = refl;
      long = refl;
      follows = eq-eqb k k refl;
      ranges = both_yes (le-leb k 63 (omega arith)) ∙ both_yes (le-leb len 45 h2) ∙ le-leb 1 len h1;
    }

synced_inside : (b bytes : List ℕ) (k sent : ℕ) → k < 64 → 1 ≤ sent → sent ≤ 45 → length bytes ≡ 45 → take sent bytes ≡ take sent b
    → Synced b sent k (joining 2 k sent bytes)
unfolding standing laid_under ranges_b
synced_inside b bytes k sent hk h1 h2 hl hb =
    record {
      inside = ap not (sym (ne_eqb sent 0 (λ e. omega arith)));
      stands = refl;
      bytes = hb;
      long = hl;
      follows = eq-eqb k k refl;
      ranges = both_yes (le-leb k 63 (omega arith)) ∙ both_yes (le-leb sent 45 h2) ∙ le-leb 1 sent h1;
    }

less : (k : ℕ) → (k + 1) % 64 < 64
less k = omega arith

-- one segment with a body of q bytes, of a record b with bytes unsent
module _ (b : List ℕ) (sent k q : ℕ) (j : Joining) (few : length b ≤ 45) (unsent : sent < length b) (some : 1 ≤ q) (s : Synced b sent k j) where
  abbrev body : List ℕ
  body = take q (drop sent b)

  abbrev bytes : List ℕ
  bytes = over (laid_under j) sent body

  sizes : (1 ≤ length body) × (sent + length body ≤ length b)
  sizes =
      let e : length (take q (drop sent b)) ≡ _ = length-take q (drop sent b) in
      let d = length-drop sent b in
      (omega arith, omega arith)

  -- the bytes that stand there after it
  bytes_are : take (sent + length body) bytes ≡ take (sent + q) b
  unfolding over
  bytes_are =
      let e : length (take sent (laid_under j)) ≡ sent = length-take-le sent (laid_under j) (omega (arith, s.long)) in
      let front = take sent (laid_under j) in
      let n : length (front ++ body) ≡ sent + length body = length-append front body ∙ ap (λ (m : ℕ). m + length body) e in
      ap (take (sent + length body)) (sym (append_assoc front body (drop (sent + length body) (laid_under j))))
      ∙ take_at (front ++ body) (drop (sent + length body) (laid_under j)) (sent + length body) n
      ∙ ap (λ (x : List ℕ). x ++ body) s.bytes
      ∙ sym (take-add sent q b)

  bytes_long : length bytes ≡ 45
  bytes_long = length_over (laid_under j) sent body (omega (arith, s.long, sizes.1)) ∙ s.long

  join_segment : join_of j (segment_of q sent k b)
      ≡ joined (pick (last_b q sent b) Whole answers.More) (joining (pick (last_b q sent b) 1 2) ((k + 1) % 64) (sent + length body) bytes)
  unfolding segment_of
  join_segment =
      rw s.stands
      at (join_is j (eqb sent 0) (last_b q sent b) k body
      (takes j (eqb sent 0) (last_b q sent b) k body s.ranges (omega (arith, sizes.0)) s.inside s.follows
      (omega (arith, s.stands, sizes.1))))

  -- the last segment: the whole record stands there, and the next one may follow
  pub record Last (i : Joining) : Type 0 where
    pub joins : join_of j (segment_of q sent k b) ≡ joined Whole i
    pub whole : joined_in i ≡ b
    pub synced : (next : List ℕ) → Synced next 0 ((k + 1) % 64) i

  pub join_last : length b ≤ sent + q → Last (joining 1 ((k + 1) % 64) (sent + length body) bytes)
  join_last h =
      record {
        joins = rw (le-leb (length b) (sent + q) h) at join_segment;
        whole = bytes_are ∙ take_all (sent + q) b h;
        synced = λ next. synced_whole next bytes ((k + 1) % 64) (sent + length body) (less k) (omega (arith, sizes.0)) (omega (arith, sizes.1));
      }

  -- any other: its bytes stand there too
  pub record More (i : Joining) : Type 0 where
    pub joins : join_of j (segment_of q sent k b) ≡ joined answers.More i
    pub synced : Synced b (sent + q) ((k + 1) % 64) i

  pub join_more : sent + q < length b → More (joining 2 ((k + 1) % 64) (sent + q) bytes)
  join_more h =
      let e : length (take q (drop sent b)) ≡ q = length-take-le q (drop sent b) (omega (arith, length-drop sent b)) in
      record {
        joins = rw (lt-leb (length b) (sent + q) h, e) at join_segment;
        synced = synced_inside b bytes ((k + 1) % 64) (sent + q) (less k) (omega arith) (omega arith) bytes_long (rw e at bytes_are);
      }
