-- Each answer by its row, and what is written where it is done.
-- Assumes nothing.
use mathlib.Core.Path.{◌≡◌, refl, sym, ap, ◌∙◌}
use mathlib.Core.Bool.{Bool, true, false}
use mathlib.Core.List.{List, []}
use Prim.Native.Nat.{ℕ, ◌+◌, ◌*◌, ◌≤◌}
use native.Mathlib.Omega.{arith}
use borrow.Author.Tests.{le-leb, leb-true}
use Rattle.std.proofs.Common.{Ok, Err}
use lib.Dec.{leb}
use lib.IntN.{ℤ, pos, negsuc, nat_abs, pos-ne-negsuc}
use lib.ListN.{length}
use Rattle.octets.specs.Choice.{both, pick}
use Rattle.octets.specs.Parts.{over}
use Rattle.octets.proofs.PartLaws.{drop_over}
use Rattle.octets.proofs.Tests.{both_reads}
use Rattle.table.specs.Table.{size_b, sound_b, slots_in}
use Rattle.table.proofs.HeadLaws.{size_reads}
use Rattle.salvage_run.specs.Runs.{in_order}
use Rattle.salvage_table.specs.Salvaged.{salvaged_table}
use Rattle.salvage_report.specs.Report.{report_of}
use Rattle.salvage_call.specs.Salvage.{Salvage, salvaged, given, none_b, salvage_of, salvage_number}
use Rattle.salvage_call.specs.declared.salvage.SalvageError.TheVariants.{DoesNotFit, SizeImpossible, NoRecord}
use Rattle.salvage_call.proofs.SalvageLaws.{length_salvaged, report_short}
use Rattle.salvage_bytes.specs.Calls.{salvaged_bytes, result_of, salvage_at}
use Rattle.theorems_salvage.specs.Answers.{AnswersWhen, EnoughRoom, Wrote, AtBoundary}

given_number : (new told table report : List ℕ)
    → salvage_number (given new told table report).answer ≡ pick (both (leb (length new) (length table)) (leb (length told) (length report))) 0 3
unfolding given
given_number new told table report = go (both (leb (length new) (length table)) (leb (length told) (length report)))
  where
    go : (b : Bool)
        → salvage_number (pick b (salvaged (Ok (length told)) (over table 0 new) (over report 0 told)) (salvaged (Err DoesNotFit) table report)).answer ≡ pick b 0 3
    go true = refl
    go false = refl

pub answers : AnswersWhen
unfolding salvage_of
answers t table report = go (size_b (length t)) refl (sound_b t) (none_b (in_order t))
  where
    sound_room : (b : Bool) → ◌≡◌ {A = ℕ} (pick (both b true) 0 3) (pick b 0 3)
    sound_room true = refl
    sound_room false = refl

    go : (z : Bool) → size_b (length t) ≡ z → (s m : Bool)
        → let room = leb (length t) (length table) in
        salvage_number (pick z (pick s (given t [] table report) (pick m (salvaged (Err NoRecord) table report) (given (salvaged_table t) (report_of t) table report))) (salvaged (Err SizeImpossible) table report)).answer
        ≡ pick z (pick s (pick room 0 3) (pick m 21 (pick (both room (leb (length (report_of t)) (length report))) 0 3))) 20
    go true q true m =
        given_number t [] table report ∙ rw (le-leb 0 (length report) (omega arith)) (sound_room (leb (length t) (length table)))
    go true q false true = refl
    go true q false false =
        given_number (salvaged_table t) (report_of t) table report
        ∙ ap (λ (n : ℕ). pick (both (leb n (length table)) (leb (length (report_of t)) (length report))) 0 3) (length_salvaged t q)
    go false q s m = refl

pub enough_room : EnoughRoom
enough_room t table report a b = answers t table report ∙ go (size_b (length t)) refl (sound_b t) (none_b (in_order t))
  where
    go : (z : Bool) → size_b (length t) ≡ z → (s m : Bool)
        → let room = leb (length t) (length table) in
        ◌≡◌ {A = ℕ}
        (pick z (pick s (pick room 0 3) (pick m 21 (pick (both room (leb (length (report_of t)) (length report))) 0 3))) 20)
        (pick z (pick s 0 (pick m 21 0)) 20)
    go true q s m =
        let w = size_reads (length t) q in
        let r = report_short t in
        rw (le-leb (length t) (length table) (omega arith), le-leb (length (report_of t)) (length report) (omega arith))
    go false q s m = refl

-- what is written or not, for a table and a report
given_refused : (new told table report : List ℕ) (n : ℕ) → (result_of (given new told table report)).result ≡ negsuc n
    → result_of (given new told table report) ≡ salvaged_bytes (negsuc n) table report
unfolding given
given_refused new told table report n = go (both (leb (length new) (length table)) (leb (length told) (length report)))
  where
    go : (b : Bool)
        → let s = pick b (salvaged (Ok (length told)) (over table 0 new) (over report 0 told)) (salvaged (Err DoesNotFit) table report) in
        (result_of s).result ≡ negsuc n → result_of s ≡ salvaged_bytes (negsuc n) table report
    go true h = absurd (pos-ne-negsuc (length told) n h)
    go false h = ap (λ (x : ℤ). salvaged_bytes x table report) h

-- the call's outcome by its tests, as it is written out below
abbrev outcome : List ℕ → List ℕ → List ℕ → Bool → Bool → Bool → Salvage
outcome t table report z s m =
    pick z
    (pick s (given t [] table report) (pick m (salvaged (Err NoRecord) table report) (given (salvaged_table t) (report_of t) table report)))
    (salvaged (Err SizeImpossible) table report)

refused : (t table report : List ℕ) (n : ℕ) (z s m : Bool) → (result_of (outcome t table report z s m)).result ≡ negsuc n
    → result_of (outcome t table report z s m) ≡ salvaged_bytes (negsuc n) table report
refused t table report n true true m h = given_refused t [] table report n h
refused t table report n true false true h = ap (λ (x : ℤ). salvaged_bytes x table report) h
refused t table report n true false false h = given_refused (salvaged_table t) (report_of t) table report n h
refused t table report n false s m h = ap (λ (x : ℤ). salvaged_bytes x table report) h

given_wrote : (t new told table report : List ℕ) (n : ℕ) → length new ≡ length t → length told ≤ 16 * (slots_in (length t) + 5)
    → (result_of (given new told table report)).result ≡ pos n → Wrote t table report n (result_of (given new told table report))
unfolding given
given_wrote t new told table report n size short = go (both (leb (length new) (length table)) (leb (length told) (length report))) refl
  where
    go : (b : Bool) → both (leb (length new) (length table)) (leb (length told) (length report)) ≡ b
        → let s = pick b (salvaged (Ok (length told)) (over table 0 new) (over report 0 told)) (salvaged (Err DoesNotFit) table report) in
        (result_of s).result ≡ pos n → Wrote t table report n (result_of s)
    go true q h =
        let a = both_reads (leb (length new) (length table)) _ q in
        let x = leb-true (length new) (length table) a.0 in
        let y = leb-true (length told) (length report) a.1 in
        let e : length told ≡ n = ap nat_abs h in
        record {
          room = omega arith;
          report_room_lem = omega arith;
          few = omega arith;
          past = drop_over table 0 new (omega arith) (length t) (omega arith);
          report_past = drop_over report 0 told (omega arith) n (omega arith);
        }
    go false q h = absurd (pos-ne-negsuc n 2 (sym h))

wrote : (t table report : List ℕ) (n : ℕ) (z s m : Bool) → size_b (length t) ≡ z → (result_of (outcome t table report z s m)).result ≡ pos n
    → Wrote t table report n (result_of (outcome t table report z s m))
wrote t table report n true true m q h = given_wrote t t [] table report n refl (omega arith) h
wrote t table report n true false true q h = absurd (pos-ne-negsuc n 20 (sym h))
wrote t table report n true false false q h =
    let r = report_short t in given_wrote t (salvaged_table t) (report_of t) table report n (length_salvaged t q) (omega arith) h
wrote t table report n false s m q h = absurd (pos-ne-negsuc n 19 (sym h))

pub at_boundary : AtBoundary
unfolding salvage_at salvage_of
at_boundary =
    record {
      refused = λ t table report n. refused t table report n (size_b (length t)) (sound_b t) (none_b (in_order t));
      done = λ t table report n. wrote t table report n (size_b (length t)) (sound_b t) (none_b (in_order t)) refl;
    }
