-- What is promised of the values beyond each call's own equation.
use Rattle.std.specs.Prelude.{◌≡◌, false, List, ℕ}
use Rattle.clock.specs.declared.state.Clock.{Clock}
use Rattle.rows.specs.Reply.{done_b}
use Rattle.update_logged.specs.Theorems.{Untouched}
use Rattle.characteristics.specs.Value.{device_time_of, feature_of, parameters_of}

-- "A refusal leaves state, log and output untouched"; reading Device Time leaves clock and table as they were in any case.
pub record RefusedUnchanged : Type 0 where
  pub device_time_lem : (c : Clock) (t o : List ℕ) → Untouched c t o (device_time_of c t o)
  pub only_reads : (c : Clock) (t o : List ℕ) → ((device_time_of c t o).reply.clock ≡ c) × ((device_time_of c t o).table ≡ t)
  pub feature : (o : List ℕ) → done_b (feature_of o).value.answer ≡ false → (feature_of o).output ≡ o
  pub parameters : (o : List ℕ) → done_b (parameters_of o).value.answer ≡ false → (parameters_of o).output ≡ o
