-- The lines of the tags, put on a page one after the other.
-- Assumes nothing.
use mathlib.Core.Path.{◌≡◌, sym, ap, ◌∙◌}
use mathlib.Core.List.{List, [], ◌++◌, append_assoc, append-nil}
use Rattle.std.proofs.Common.{Option}
use Prim.Native.Nat.{ℕ, ◌+◌, ◌≤◌, ◌<◌}
use native.Mathlib.Numerals.{add-one}
use lib.ListN.{length, drop, get_or, drop_of_length-le}
use lib.Seq.{drop-cons}
use Rattle.day_sheet.specs.Sheet.{title_line}
use Rattle.day_evening.specs.Fetch.{fetched_of}
use Rattle.day_play.specs.declared.play.Ramp.{Ramp}
use Rattle.day_play.specs.declared.reader.Note.{Note}
use Rattle.loading_day.specs.Page.{line_of, lines_of, evening_of}
use Rattle.loading_day.specs.declared.page.Collected.{Collected}

-- the lines from a place on
abbrev pub rest : (tags : List ℕ) (left : List (Option Note)) (lb : ℕ) (lt : List ℕ) (right : List (Option Note)) (rb : ℕ) (rt : List ℕ) → ℕ → List ℕ
rest tags ls lb lt rs rb rt i = lines_of (drop i tags) (drop i ls) lb lt (drop i rs) rb rt

module _ (tags : List ℕ) (ls : List (Option Note)) (lb : ℕ) (lt : List ℕ) (rs : List (Option Note)) (rb : ℕ) (rt : List ℕ) (k : ℕ) where
  lines_next : (d : ℕ) (l r : Option Note) → k < length tags → k < length ls → k < length rs
      → rest tags ls lb lt rs rb rt k ≡ line_of (get_or tags k d) (get_or ls k l) lb lt (get_or rs k r) rb rt ++ rest tags ls lb lt rs rb rt (k + 1)
  unfolding lines_of
  lines_next d l r a b c = rw (add-one, drop-cons tags k d, drop-cons ls k l, drop-cons rs k r)

  -- a page q, which is p with the next line on it
  pub line_more : (d : ℕ) (l r : Option Note) (p : List ℕ) {q x : List ℕ} → q ≡ p ++ x
      → x ≡ line_of (get_or tags k d) (get_or ls k l) lb lt (get_or rs k r) rb rt → k < length tags → k < length ls → k < length rs
      → q ++ rest tags ls lb lt rs rb rt (k + 1) ≡ p ++ rest tags ls lb lt rs rb rt k
  line_more d l r p e f a b c = rw (e, f, append_assoc, lines_next d l r a b c)

  pub lines_end : length tags ≤ k → rest tags ls lb lt rs rb rt k ≡ []
  unfolding lines_of
  lines_end h = rw (drop_of_length-le tags h)

-- the title and all the lines
pub page_whole : (p z : List ℕ) {q l : List ℕ} → p ++ z ≡ q ++ l → z ≡ [] → q ≡ title_line → p ≡ title_line ++ l
page_whole p z {l = l} e f g =
    sym (append-nil p)
    ∙ ap (λ (x : List ℕ). p ++ x) (sym f)
    ∙ e
    ∙ ap (λ (x : List ℕ). x ++ l) g

pub evening_is : (tags : List ℕ) (v : Ramp) (l r : Collected) {p : List ℕ}
    → p ≡ title_line ++ lines_of tags l.notes l.base l.table r.notes r.base r.table
    → l.notes ≡ v.left.notes → l.base ≡ v.left.clock.time.base → l.table ≡ fetched_of v.left
    → r.notes ≡ v.right.notes → r.base ≡ v.right.clock.time.base → r.table ≡ fetched_of v.right
    → p ≡ evening_of tags v
unfolding evening_of
evening_is tags v l r h a b c d e f = rw (a, b, c, d, e, f) at h
