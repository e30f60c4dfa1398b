-- The call, answer by answer.
-- Assumes nothing.
use mathlib.Core.Path.{◌≡◌, ap}
use mathlib.Core.List.{List}
use Prim.Native.Nat.{ℕ}
use borrow.Author.Tests.{eq-eqb, ne_eqb}
use lib.ListN.{length}
use Rattle.std.proofs.Common.{Option, Some, Ok, Err}
use Rattle.fetch_told.specs.Told.{span}
use Rattle.fetch_told.specs.declared.told.Span.{Span}
use Rattle.fetch_map.specs.declared.refusal.Refusal.TheVariants.{WrongWords}
use Rattle.fetch_propose.specs.Propose.{Proposal, proposed_in, propose_of}

abbrev pub answered : Option Span → Proposal
answered r = Ok r

pub answered_is : (r s : Option Span) → answered r ≡ answered s → r ≡ s
answered_is r s e = cc

-- two runs are the same by both their ends
pub same_ends : (a b c d : ℕ) → Some (span a b) ≡ Some (span c d) → (a ≡ c) × (b ≡ d)
same_ends a b c d e =
    let s : span a b ≡ span c d = cc in
    (ap (λ (x : Span). x.first) s, ap (λ (x : Span). x.last) s)

pub propose_wrong : (m : List ℕ) (told : Option Span) → (length m ≡ 1024 → ⊥) → Err WrongWords ≡ propose_of m told
unfolding propose_of
propose_wrong m told wrong = rw (ne_eqb (length m) 1024 wrong)

pub propose_done : (m : List ℕ) (told : Option Span) → length m ≡ 1024 → Ok (proposed_in m told) ≡ propose_of m told
unfolding propose_of
propose_done m told right = rw (eq-eqb (length m) 1024 right)
