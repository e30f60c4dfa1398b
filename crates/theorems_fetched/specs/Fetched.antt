-- What a fetch of a proposed run leaves (change request E10), with the reader's table, its report and the tablet's copy.
use Rattle.std.specs.Prelude.{◌≡◌, true, List, [], ◌∷◌, Option, Some, None, Ok, ℕ, ◌-◌, ◌<◌, ltb, eqb, length}
use Rattle.octets.specs.Choice.{either, pick}
use Rattle.octets.specs.Parts.{Bytes}
use Rattle.record.specs.Fields.{sequence_of}
use Rattle.filter.specs.declared.filter.Filter.TheVariants.{Range}
use Rattle.table.specs.Table.{count, first, next, sound_b}
use Rattle.racp_request.specs.Request.{request_of}
use Rattle.joining.specs.Joining.{empty_joining}
use Rattle.fetch_told.specs.Told.{span, inside_b}
use Rattle.fetch_map.specs.Map.{map_words, received_b, take_of}
use Rattle.fetch_propose.specs.Propose.{number_at, propose_of}
use Rattle.fetch_told.specs.declared.told.Span.{Span}
use Rattle.fetch_bytes.specs.Request.{request_bytes}
use Rattle.theorems_reports.specs.World.{World, Call}
use Rattle.theorems_reports.specs.Reports.{Accepted, report_begun}
use Rattle.theorems_reports.specs.Hearing.{hearing_of, undisturbed_b}
use Rattle.theorems_reports.specs.Joined.{join_all}
use Rattle.theorems_copies.specs.Copies.{kept_in, WentOn}
use Rattle.racp_request.specs.declared.request.Request.TheVariants.{Report}
use Rattle.record.specs.declared.kinds.Record.{Record}

-- "the reader's oldest and newest held numbers, or none", of a table
unfoldable pub newest_number : List ℕ → ℕ
newest_number t = number_at (first t) (count t - 1)

unfoldable pub told_by : List ℕ → Option Span
told_by t = pick (eqb (count t) 0) None (Some (span (first t) (newest_number t)))

-- each record that joining gave is taken in by its number
abbrev pub take_reading : Option Span → List ℕ → Option Record → List ℕ
take_reading told m (Some r) = (take_of m told (sequence_of r)).map
take_reading told m None = m

unfoldable pub take_readings : Option Span → List ℕ → List (Option Record) → List ℕ
take_readings told m [] = m
take_readings told m (x ∷ l) = take_readings told (take_reading told m x) l

-- the map after the notifications of a report
abbrev pub fetched : Option Span → List ℕ → List (List ℕ) → List ℕ
fetched told m notes = take_readings told m (join_all empty_joining notes).records

-- The request's bytes ask for the run, from its first number forward to its last, over 65,535 where that lies between.
abbrev pub AsksForRun : Type 0
AsksForRun = (a b : ℕ) → a < 65536 → b < 65536 → request_of (request_bytes a b) ≡ Ok (Report (Range a b))

-- The numbers of the run are received now, every other is as it was.
pub record FetchedRun (m : List ℕ) (a b : ℕ) (x : List ℕ) : Type 0 where
  pub words : length x ≡ map_words
  pub received : (s : ℕ) → s < 65536 → received_b x s ≡ either (received_b m s) (inside_b (Some (span a b)) s)

-- Theorem Fetched run: what is proposed of a table is asked for, and the report heard to its end among calls of which none ended it.
abbrev pub FetchesRun : Type 0
FetchesRun = (v : World) (o : List ℕ) (ks : List Call) (m : List ℕ) (a b : ℕ) → Bytes v.table → sound_b v.table ≡ true
    → propose_of m (told_by v.table) ≡ Ok (Some (span a b)) → Accepted v (request_bytes a b) o (Range a b)
    → undisturbed_b (report_begun v (request_bytes a b) o) ks ≡ true → (hearing_of (report_begun v (request_bytes a b) o) ks).closed ≡ true
    → FetchedRun m a b (fetched (told_by v.table) m (hearing_of (report_begun v (request_bytes a b) o) ks).notes)

-- Of the numbers that the table holds, the first g are received and no other: as it is beside a copy, into which records come in their order.
abbrev pub FirstReceived : ℕ → List ℕ → List ℕ → Type 0
FirstReceived g t m = (k : ℕ) → k < count t → received_b m (number_at (first t) k) ≡ ltb k g

-- Everything told is received; and a copy whose next number was the first that was missing has gone on with it.
pub record Everything (t m : List ℕ) (g : ℕ) (notes : List (List ℕ)) : Type 0 where
  pub nothing : propose_of (fetched (told_by t) m notes) (told_by t) ≡ Ok None
  pub copied : (u : List ℕ) → Bytes u → sound_b u ≡ true → next u ≡ number_at (first t) g
      → let c = kept_in u notes in (c.fine ≡ true) × WentOn t u c.table

-- Theorem Fetched rest: then all that is new is proposed, and after one fetch of it everything told is received.
abbrev pub FetchesRest : Type 0
FetchesRest = (v : World) (o : List ℕ) (ks : List Call) (m : List ℕ) (g : ℕ) → Bytes v.table → sound_b v.table ≡ true
    → length m ≡ map_words → g < count v.table → FirstReceived g v.table m
    → let t = v.table in
    let a = number_at (first t) g in
    let b = newest_number t in
    (propose_of m (told_by t) ≡ Ok (Some (span a b)))
    × (Accepted v (request_bytes a b) o (Range a b)
    → undisturbed_b (report_begun v (request_bytes a b) o) ks ≡ true → (hearing_of (report_begun v (request_bytes a b) o) ks).closed ≡ true
    → Everything t m g (hearing_of (report_begun v (request_bytes a b) o) ks).notes)
