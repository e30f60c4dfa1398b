-- Salvage over the bytes that C lends.
use Rattle.std.specs.Prelude.{List, ℕ, ℤ, pos, Result, Ok, Err}
use Rattle.state_bytes.specs.Results.{refusal}
use Rattle.salvage_call.specs.Salvage.{Salvage, salvage_of, salvage_number}
use Rattle.salvage_call.specs.declared.salvage.SalvageError.{SalvageError}

-- "at least 0 is done": the report's length; below 0 minus the number
abbrev pub salvage_result : Result ℕ SalvageError → ℤ
salvage_result (Ok n) = pos n
salvage_result (Err e) = refusal (salvage_number (Err e))

-- the result, and both outputs after it
pub record SalvagedBytes : Type 0 where
  pub result : ℤ
  pub table : List ℕ
  pub report : List ℕ

abbrev pub salvaged_bytes : ℤ → List ℕ → List ℕ → SalvagedBytes
salvaged_bytes z t r = record { result = z; table = t; report = r }

abbrev pub result_of : Salvage → SalvagedBytes
result_of s = salvaged_bytes (salvage_result s.answer) s.table s.report

unfoldable pub salvage_at : List ℕ → List ℕ → List ℕ → SalvagedBytes
salvage_at t table report = result_of (salvage_of t table report)
