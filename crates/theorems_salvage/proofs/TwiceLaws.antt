-- What a call that was done wrote is a sound table, so a second call gives it back as it is.
-- Assumes nothing.
use mathlib.Core.Path.{◌≡◌, refl, sym, ap, ◌∙◌}
use mathlib.Core.Bool.{Bool, true, false}
use mathlib.Core.List.{List, []}
use Prim.Native.Nat.{ℕ, ◌+◌, ◌≤◌}
use native.Mathlib.Omega.{arith}
use borrow.Author.Tests.{eqb-false}
use Rattle.std.proofs.Common.{Ok, Err}
use lib.Dec.{leb}
use lib.ListN.{length, take, drop}
use lib.Seq.{take_at}
use Rattle.octets.specs.Choice.{both, pick}
use Rattle.octets.specs.Parts.{over, Bytes}
use Rattle.table.specs.Table.{size_b, sound_b}
use Rattle.table.proofs.HeadLaws.{sound_head, head_size, size_makes}
use Rattle.salvage_run.specs.Runs.{in_order, run_of}
use Rattle.salvage_table.specs.Salvaged.{salvaged_table}
use Rattle.salvage_report.specs.Report.{report_of}
use Rattle.salvage_call.specs.Salvage.{salvaged, given, none_b, salvage_of}
use Rattle.salvage_call.specs.declared.salvage.SalvageError.TheVariants.{DoesNotFit, SizeImpossible, NoRecord}
use Rattle.salvage_call.proofs.SalvageLaws.{none_run, is_sound, length_salvaged}
use Rattle.theorems_salvage.specs.Result.{Twice}
use Rattle.theorems_salvage.proofs.TableLaws.{comes_back}

-- the first bytes of what was written
front : (table new : List ℕ) (n : ℕ) → length new ≡ n → take n (over table 0 new) ≡ new
unfolding over
front table new n e = take_at new (drop (0 + length new) table) n e

given_table : (new told table report : List ℕ) (n k : ℕ) → length new ≡ k → (given new told table report).answer ≡ Ok n
    → take k (given new told table report).table ≡ new
unfolding given
given_table new told table report n k e = go (both (leb (length new) (length table)) (leb (length told) (length report)))
  where
    go : (b : Bool)
        → (pick b (salvaged (Ok (length told)) (over table 0 new) (over report 0 told)) (salvaged (Err DoesNotFit) table report)).answer ≡ Ok n
        → take k (pick b (salvaged (Ok (length told)) (over table 0 new) (over report 0 told)) (salvaged (Err DoesNotFit) table report)).table ≡ new
    go true h = front table new k e
    go false h = let o : ◌≡◌ {A = ℕ} 0 1 = cc in absurd (omega arith)

back_sound : (t table report : List ℕ) (n : ℕ) → Bytes t → (salvage_of t table report).answer ≡ Ok n
    → sound_b (take (length t) (salvage_of t table report).table) ≡ true
unfolding salvage_of
back_sound t table report n b = go (size_b (length t)) refl (sound_b t) refl (none_b (in_order t)) refl
  where
    some : none_b (in_order t) ≡ false → 1 ≤ (run_of t).count
    some q = let h = eqb-false (run_of t).count 0 (none_run t ∙ q) in one (run_of t).count h
      where
        one : (m : ℕ) → (m ≡ 0 → ⊥) → 1 ≤ m
        one m h = omega arith

    go : (z : Bool) → size_b (length t) ≡ z → (s : Bool) → sound_b t ≡ s → (m : Bool) → none_b (in_order t) ≡ m
        → let out = pick z (pick s (given t [] table report) (pick m (salvaged (Err NoRecord) table report) (given (salvaged_table t) (report_of t) table report))) (salvaged (Err SizeImpossible) table report) in
        out.answer ≡ Ok n → sound_b (take (length t) out.table) ≡ true
    go true p true q m r e = ap sound_b (given_table t [] table report n (length t) refl e) ∙ q
    go true p false q true r e = let o : ◌≡◌ {A = ℕ} 0 1 = cc in absurd (omega arith)
    go true p false q false r e =
        ap sound_b (given_table (salvaged_table t) (report_of t) table report n (length t) (length_salvaged t p) e)
        ∙ (comes_back t (record { bytes = b; size = p; some = some r })).sound
    go false p s q m r e = let o : ◌≡◌ {A = ℕ} 0 1 = cc in absurd (omega arith)

pub twice : Twice
twice t table report n b e second told h =
    let back = take (length t) (salvage_of t table report).table in
    let s = back_sound t table report n b e in
    sym (is_sound back second told (size_makes (length back) (head_size back (sound_head back s))) s h)
