-- Two outcomes that meet each weaker promise: outputs of no byte and of one, replies of no byte and of one, done and refused.
use mathlib.Core.Path.{◌≡◌, refl, sym, ap}
use mathlib.Core.Bool.{true, true≢false}
use mathlib.Core.List.{List, [], ◌∷◌}
use Prim.Native.Nat.{ℕ}
use lib.ListN.{length}
use native.Mathlib.Omega.{arith}
use denote.MutBor.{MutBor}
use Rattle.table.specs.Table.{sound_b, head_b, size_b}
use Rattle.clock.specs.Answers.{number_of, Answer, len_in}
use Rattle.clock.specs.State.{new_reader}
use Rattle.clock.specs.Events.{seconds_of}
use Rattle.clock.specs.declared.answers.Refusal.{Refusal}
use Rattle.clock.specs.declared.answers.Refusal.TheVariants.{TableNotSound, OutputShort}
use Rattle.clock.specs.declared.state.Clock.{Clock}
use Rattle.rows.specs.Reply.{done_b, refused}
use Rattle.rows.specs.Rows.{first_failed, table_rows}
use Rattle.update.specs.Fault.{fault_of}
use Rattle.std.proofs.Common.{Result, Ok, Err}
use Rattle.theorems_once.proofs.WeakerPromises.{TwoOutcomes}
use Rattle.theorems_once.proofs.weaker.two_outcomes.Goals as goal

-- a buffer of no byte, and a clock, lent
abbrev none : MutBor (List ℕ)
none = record { ref_ptr = (0, 0); ghost_name = 0; now = [] }

abbrev lent : MutBor Clock
lent = record { ref_ptr = (0, 0); ghost_name = 0; now = new_reader }

abbrev lasts : List ℕ → List ℕ → Clock × (List ℕ × (List ℕ × Unit {0}))
lasts t o = (new_reader, (t, (o, tt)))

-- a time fault over no bytes is refused
refusal : refused (Err TableNotSound) new_reader [] [] ≡ fault_of new_reader [] []
unfolding fault_of first_failed table_rows sound_b head_b size_b done_b number_of
refusal = refl

unsound : sound_b [] ≡ true → ⊥
unfolding sound_b head_b size_b
unsound h = true≢false (sym h)

answers : ◌≡◌ {A = Result ℕ Refusal} (Ok 0) (Ok 1) → ⊥
answers h = let e : ◌≡◌ {A = ℕ} 0 1 = ap len_in h in omega arith

outputs : lasts [] [] ≡ lasts [] (0 ∷ []) → ⊥
outputs h = let e : ◌≡◌ {A = ℕ} 0 1 = ap (λ (u : Clock × (List ℕ × (List ℕ × Unit {0}))). length u.1.1.0) h in omega arith

numbers : ◌≡◌ {A = Answer} (Ok tt) (Err OutputShort) → ⊥
unfolding number_of
numbers h = let e : ◌≡◌ {A = ℕ} 0 3 = ap number_of h in omega arith

theorem : TwoOutcomes
theorem =
    let a : MutBor Clock × (MutBor (List ℕ) × (MutBor (List ℕ) × Unit {0})) = (lent, (none, (none, tt))) in
    let w = lasts [] [] in
    let z = seconds_of new_reader 1 in
    record {
      sound_tables = λ only. answers (only ([], ([], ([], tt))) a _ _ w w tt (λ h. absurd (unsound h)) (λ h. absurd (unsound h))).0;
      fault_reply = λ only. outputs (only ([], ([], ([], tt))) a (Err TableNotSound) (Err TableNotSound) w (lasts [] (0 ∷ [])) tt (w, refusal) (w, refusal)).1;
      fault_buffers = λ only. answers (only ([], ([], ([], tt))) a _ _ w w tt (Err TableNotSound, w, refusal) (Err TableNotSound, w, refusal)).0;
      seconds_clock = λ only. numbers (only ([], tt) (lent, (1, tt)) _ _ (z.clock, (tt, tt)) (z.clock, (tt, tt)) tt (z.answer, refl) (z.answer, refl)).0;
    }

pub returns : goal.returns
returns c = let holds : TwoOutcomes = theorem in tt
