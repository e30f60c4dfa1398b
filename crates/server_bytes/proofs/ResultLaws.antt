-- What an entry point answers and leaves: minus a number, the answer's two kinds, the state after either.
-- Assumes nothing.
use mathlib.Core.Path.{◌≡◌, refl}
use mathlib.Core.Bool.{true, false}
use mathlib.Core.List.{List}
use Prim.Native.Nat.{ℕ, ◌<◌}
use native.Mathlib.Omega.{arith}
use lib.IntN.{ℤ, pos, ◌-ℤ◌, +ℤ_idl}
use mir.Syntax.{w32}
use mir.Val.{SFits, to_z}
use mir.Facts.{to_z_pos}
use Rattle.clock.specs.Answers.{number_of, Answer, answer_in}
use Rattle.clock.specs.declared.answers.Refusal.{Refusal}
use Rattle.clock.specs.declared.state.Clock.{Clock}
use Rattle.rows.specs.Reply.{done_b}
use Rattle.octets.proofs.Tests.{clash}
use Rattle.rows.proofs.RowLaws.{ok_done, err_refused}
use Rattle.std.specs.Result.{is_err}
use Rattle.std.proofs.Common.{Result, Ok, Err}
use Rattle.carry.proofs.IntLaws.{size_difference, fits}
use Rattle.state_bytes.specs.State.{image_of}
use Rattle.state_bytes.specs.Results.{refusal}
use Rattle.server_bytes.specs.Results.{result_of, state_after, ran, settled_of}

-- the machine's 0 minus a small number
module _ (n : ℕ) (h : n < 256) where
  pub refusal_is : pos 0 -ℤ to_z w32 n ≡ refusal n
  refusal_is = rw (to_z_pos w32 {n = n} (omega arith)) (+ℤ_idl (refusal n))

  pub refusal_fits : SFits w32 (pos 0 -ℤ to_z w32 n)
  refusal_fits =
      rw (to_z_pos w32 {n = n} (omega arith))
      (fits w32 (pos 0 -ℤ pos n) (omega (arith, size_difference 0 n 255 (omega arith) (omega arith))))

module _ (a : Answer) (n : ℕ) where
  pub result_refused : done_b a ≡ false → result_of a n ≡ refusal (number_of a)
  unfolding result_of
  result_refused h = rw h

  pub result_done : done_b a ≡ true → result_of a n ≡ pos n
  unfolding result_of
  result_done h = rw h

-- of an answer that is an Err, and of one that is not
pub answer_refused : (r : Result ℕ Refusal) → is_err r ≡ true → done_b (answer_in r) ≡ false
answer_refused (Ok n) e = absurd (clash false e refl)
answer_refused (Err why) e = err_refused (Err why) why refl

pub answer_done : (r : Result ℕ Refusal) → is_err r ≡ false → done_b (answer_in r) ≡ true
answer_done (Ok n) e = ok_done (Ok tt) tt refl
answer_done (Err why) e = absurd (clash true refl e)

-- the state after a refusal, and after a call that is done
module _ (s : List ℕ) (a : Answer) (c : Clock) (n : ℕ) {z : ℤ} (e : z ≡ result_of a n) where
  pub settled_refused : done_b a ≡ false → ran z s ≡ settled_of s a c n
  unfolding settled_of state_after
  settled_refused h = rw (e, h)

  pub settled_done : {b : List ℕ} → b ≡ image_of c → done_b a ≡ true → ran z b ≡ settled_of s a c n
  unfolding settled_of state_after
  settled_done d h = rw (e, d, h)
