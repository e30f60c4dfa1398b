-- A segment: the body cut out of the record's bytes as they are written, header and body laid down one after the other, what is left after
-- it; and the closing response's length.
-- Assumes nothing.
use mathlib.Core.Path.{◌≡◌, refl, sym, ◌∙◌, ap}
use mathlib.Core.Bool.{Bool, true, false}
use mathlib.Core.List.{List, [], ◌∷◌, ◌++◌}
use Prim.Native.Nat.{ℕ, suc, ◌+◌, ◌-◌, ◌≤◌, ◌<◌}
use native.Mathlib.Omega.{arith}
use borrow.Author.Tests.{leb-true, leb-false, le-leb, lt-leb, eq-eqb, ne_eqb}
use lib.Dec.{leb, eqb}
use lib.ListN.{length, take, drop, length-drop}
use lib.Seq.{take-append-le, drop-append-le, drop-drop, take_at, take_all, length-take-le}
use Rattle.octets.specs.Choice.{pick}
use Rattle.octets.specs.Parts.{over}
use Rattle.filter.specs.declared.filter.Filter.{Filter}
use Rattle.table.specs.Table.{age_of}
use Rattle.table_look.specs.Matching.{matching}
use Rattle.clock.specs.declared.state.Report.{Report}
use Rattle.codes.specs.Racp.{report_opcode, combined_opcode, combined_response}
use Rattle.codes.specs.Response.{code_bytes, count_bytes}
use Rattle.codes.specs.declared.response.Code.TheVariants.{Success}
use Rattle.racp_access.specs.Report.{left_from}
use Rattle.racp_notify.specs.Notify.{left_after, closing_of}
use Rattle.std.proofs.Common.{Option, Some}

-- bytes laid down after a first one
pub over_cons : (o : List ℕ) (h : ℕ) (b : List ℕ) → over (over o 0 (h ∷ [])) 1 b ≡ over o 0 (h ∷ b)
unfolding over
over_cons o h b =
    let e : 1 + length b ≡ suc (length b) = omega arith in
    let z : 1 + length b ≡ 0 + suc (length b) = omega arith in
    rw e (ap (λ (l : List ℕ). h ∷ (b ++ l)) (drop-drop (length b) 1 o ∙ ap (λ (n : ℕ). drop n o) z))

-- of bytes b with others after them, the body that ends at e: the next q bytes after the sent ones, or as many as are left
pub record Cut (b z : List ℕ) (sent q e : ℕ) : Type 0 where
  pub past : sent ≤ e
  pub inside : e ≤ length b
  pub short : e ≤ sent + q
  pub body : take (e - sent) (drop sent (b ++ z)) ≡ take q (drop sent b)
  pub sized : length (take q (drop sent b)) ≡ e - sent

module _ (b z : List ℕ) (sent q : ℕ) (s : sent < length b) where
  rest : drop sent (b ++ z) ≡ drop sent b ++ z
  rest = drop-append-le sent b z (omega arith)

  left : length (drop sent b) ≡ length b - sent
  left = length-drop sent b

  last : length b ≤ sent + q → Cut b z sent q (length b)
  last h =
      let l = left in
      let whole : take q (drop sent b) ≡ drop sent b = take_all q (drop sent b) (omega arith) in
      record {
        past = omega arith;
        inside = omega arith;
        short = h;
        body = rw (rest, take_at (drop sent b) z (length b - sent) left) (sym whole);
        sized = rw whole left;
      }

  more : sent + q < length b → Cut b z sent q (sent + q)
  more h =
      let l = left in
      let e : sent + q - sent ≡ q = omega arith in
      record {
        past = omega arith;
        inside = omega arith;
        short = omega arith;
        body = rw (e, rest) (take-append-le q (drop sent b) z (omega arith));
        sized = rw e (length-take-le q (drop sent b) (omega arith));
      }

  pub cut : (e : ℕ) → e ≡ pick (leb (length b) (sent + q)) (length b) (sent + q) → Cut b z sent q e
  cut e h = rw h (go (leb (length b) (sent + q)) refl)
    where
      go : (x : Bool) → leb (length b) (sent + q) ≡ x → Cut b z sent q (pick x (length b) (sent + q))
      go true k = last (leb-true (length b) (sent + q) k)
      go false k = more (leb-false (length b) (sent + q) k)

-- the closing response, by the opcode
module _ (t : List ℕ) (r : Report) (b : List ℕ) where
  pub closing_combined : (n : ℕ) → r.opcode ≡ combined_opcode → b ≡ count_bytes combined_response n → n ≡ length (matching r.filter t) → b ≡ closing_of t r
  unfolding closing_of
  closing_combined n o e h = rw (eq-eqb r.opcode combined_opcode o) (e ∙ ap (count_bytes combined_response) h)

  pub closing_report : (r.opcode ≡ combined_opcode → ⊥) → b ≡ code_bytes report_opcode Success → b ≡ closing_of t r
  unfolding closing_of
  closing_report o e = rw (ne_eqb r.opcode combined_opcode o) e

pub closing_length_lem : (t : List ℕ) (r : Report) → length (closing_of t r) ≡ 4
unfolding closing_of count_bytes code_bytes
closing_length_lem t r = go (eqb r.opcode combined_opcode)
  where
    go : (b : Bool) → length (pick b (count_bytes combined_response (length (matching r.filter t))) (code_bytes report_opcode Success)) ≡ 4
    go true = refl
    go false = refl

-- what is left after a segment: the next match where all bytes are sent, else the other bytes
module _ (f : Filter) (t : List ℕ) (q n sent : ℕ) (b : List ℕ) (k : ℕ) (l : Option (ℕ × ℕ)) where
  pub after_last : l ≡ left_from f t k → k ≡ age_of t n + 1 → length b ≤ sent + q → l ≡ left_after f t q n sent b
  unfolding left_after
  after_last e h last = rw (le-leb (length b) (sent + q) last) (e ∙ ap (left_from f t) h)

  pub after_more : l ≡ Some (n, k) → k ≡ sent + q → sent + q < length b → l ≡ left_after f t q n sent b
  unfolding left_after
  after_more e h more = rw (lt-leb (length b) (sent + q) more) (e ∙ ap (λ (k : ℕ). Some (n, k)) h)
