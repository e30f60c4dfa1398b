-- Whatever salvage answers, by its number.
-- Assumes nothing.
use mathlib.Core.Path.{◌≡◌, sym, ap, ◌∙◌}
use mathlib.Core.List.{List}
use Rattle.salvage_call.specs.Salvage.{salvaged, salvage_of}
use Rattle.salvage_call.specs.declared.salvage.SalvageError.{SalvageError}
use Rattle.salvage_bytes.specs.Calls.{salvage_result, salvaged_bytes, result_of, salvage_at}
use Prim.Native.Nat.{ℕ}
use Rattle.std.proofs.Common.{Result}

pub salvage_told : (t table report : List ℕ) {x y : List ℕ} {r k : Result ℕ SalvageError} → salvaged r x y ≡ salvage_of t table report → r ≡ k
    → salvaged_bytes (salvage_result k) x y ≡ salvage_at t table report
unfolding salvage_at
salvage_told t table report {x} {y} e d = ap (λ (a : Result ℕ SalvageError). salvaged_bytes (salvage_result a) x y) (sym d) ∙ ap result_of e
