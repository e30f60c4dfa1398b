-- The theorems about fetching what is missing: what a report of the proposed run gives is its records, and each is taken in by its number.
-- Assumes nothing.
use mathlib.Core.Path.{◌≡◌, refl, sym, ap, ap₂, ◌∙◌, subst}
use mathlib.Core.Bool.{Bool, true, false}
use mathlib.Core.List.{List, map}
use Prim.Native.Nat.{ℕ, ◌+◌, ◌-◌, ◌≤◌, ◌<◌}
use native.Mathlib.Omega.{arith}
use borrow.Author.Tests.{lt-ltb, le-ltb, ltb-true, ltb-false}
use lib.Dec.{ltb}
use lib.ListN.{length, take, drop, length-drop}
use lib.Seq.{take_all}
use Rattle.octets.specs.Choice.{either}
use Rattle.octets.specs.Parts.{Bytes}
use Rattle.octets.proofs.NumberLaws.{two}
use Rattle.filter.specs.declared.filter.Filter.TheVariants.{Range}
use Rattle.table.specs.Table.{count, first, next, held, age_of, sound_b}
use Rattle.table.proofs.HeadLaws.{sound_head}
use Rattle.table.proofs.SlotLaws.{first_small}
use Rattle.table_write.proofs.HistoryLaws.{length_held}
use Rattle.table_look.specs.Matching.{matching}
use Rattle.table_look.proofs.NumberLaws.{by_number}
use Rattle.racp_request.specs.Request.{operand_bytes, typed_b, filter_at, filter_operand, asked_of, request_of}
use Rattle.std.proofs.Common.{Some, None, Ok, Option}
use Rattle.fetch_told.specs.Told.{span, inside_b}
use Rattle.fetch_map.specs.Map.{map_words, received_b}
use Rattle.fetch_propose.specs.Propose.{number_at, propose_of}
use Rattle.fetch_bytes.specs.Request.{request_bytes}
use Rattle.theorems_reports.specs.World.{World, Call}
use Rattle.theorems_reports.specs.Reports.{Accepted, report_begun}
use Rattle.theorems_reports.specs.Hearing.{hearing_of, undisturbed_b}
use Rattle.theorems_reports.specs.Joined.{Got}
use Rattle.theorems_reports.proofs.ReportLaws.{heard_report}
use Rattle.theorems_copies.specs.Copies.{kept_in, WentOn}
use Rattle.theorems_copies.proofs.CopyLaws.{goes_on}
use Rattle.theorems_fetched.specs.Fetched.{newest_number, told_by, take_readings, fetched, AsksForRun, FetchedRun, FetchesRun, FetchesRest}
use Rattle.theorems_fetched.proofs.ProposalLaws.{RunOf, missing_whole, missing_run, proposes_rest, proposes_nothing}
use Rattle.theorems_fetched.proofs.TakenLaws.{Took, within_b, within_yes, place_back, inside_run, takes}
use Rattle.racp_request.specs.declared.request.Request.TheVariants.{Report}
use Rattle.record.specs.declared.kinds.Record.{Record}

pub asks_for_run : AsksForRun
unfolding operand_bytes typed_b filter_at filter_operand asked_of request_of request_bytes
asks_for_run a b ha hb = ap₂ (λ (x y : ℕ). (Ok (Report (Range x y)))) (two a ha) (two b hb)

-- a test or one that holds
either_all : (b : Bool) → either b true ≡ true
either_all true = refl
either_all false = refl

-- a run of a sound table's numbers, and the map after a report of it
module _ (v : World) (m : List ℕ) (a b : ℕ) (sd : sound_b v.table ≡ true) (r : RunOf (first v.table) (count v.table) a b) where
  abbrev t : List ℕ
  t = v.table

  abbrev k : ℕ
  k = r.before

  abbrev n : ℕ
  n = r.size

  few : k + n ≤ 1023
  few = let d = sound_head t sd in omega (arith, r.inside)

  -- the records that a request for the run takes
  run_matches : matching (Range a b) t ≡ take n (drop k (held t))
  run_matches =
      let from : age_of t a ≡ k = ap (age_of t) r.first ∙ place_back (first t) k (first_small t) (omega (arith, few)) in
      let to : age_of t b ≡ k + n - 1 = ap (age_of t) r.last ∙ place_back (first t) (k + n - 1) (first_small t) (omega (arith, few)) in
      let e : k + n - 1 + 1 - k ≡ n = omega (arith, r.some) in
      by_number.range t a b sd (omega (arith, r.some)) (omega (arith, r.some, r.inside))
      ∙ ap₂ (λ (x y : ℕ). take (y + 1 - x) (drop x (held t))) from to
      ∙ ap (λ (x : ℕ). take x (drop k (held t))) e

  run_received : {x : List ℕ} → Took t m k n x → FetchedRun m a b x
  run_received took =
      record {
        words = took.words;
        received = λ s small.
            took.received s small
            ∙ ap (either (received_b m s))
            (sym (ap₂ (λ (x y : ℕ). inside_b (Some (span x y)) s) r.first r.last ∙ inside_run (first t) k n s (first_small t) small r.some few));
      }

  -- the report heard to its end, asked for by the run's bytes
  module _ (o : List ℕ) (ks : List Call) (hb : Bytes v.table) (whole : length m ≡ map_words) (accepted : Accepted v (request_bytes a b) o (Range a b))
      (calm : undisturbed_b (report_begun v (request_bytes a b) o) ks ≡ true) (closed : (hearing_of (report_begun v (request_bytes a b) o) ks).closed ≡ true) where
    abbrev notes : List (List ℕ)
    notes = (hearing_of (report_begun v (request_bytes a b) o) ks).notes

    took : Took t m k n (fetched (told_by t) m notes)
    took =
        let joined = ((heard_report v (request_bytes a b) o (Range a b) ks hb accepted calm).finished closed).joined in
        let readings = ap (λ (g : Got). g.records) joined ∙ ap (map Some) run_matches in
        subst (λ (l : List (Option Record)). Took t m k n (take_readings (told_by t) m l)) (sym readings) (takes t sd n k m whole r.inside)

    -- where the run goes to the newest number, and all before it is received
    module _ (to-newest : k + n ≡ count t) (before : (i : ℕ) → i < k → received_b m (number_at (first t) i) ≡ true) where
      all_received : (i : ℕ) → i < count t → received_b (fetched (told_by t) m notes) (number_at (first t) i) ≡ true
      all_received i h =
          let age : age_of t (number_at (first t) i) ≡ i = place_back (first t) i (first_small t) (omega (arith, few)) in
          took.received (number_at (first t) i) (omega arith)
          ∙ ap (λ (x : ℕ). either (received_b m (number_at (first t) i)) (within_b k n x)) age
          ∙ go (ltb i k) refl
        where
          go : (x : Bool) → ltb i k ≡ x → either (received_b m (number_at (first t) i)) (within_b k n i) ≡ true
          go true e = rw (before i (ltb-true i k e))
          go false e = rw (within_yes k n i (ltb-false i k e) (omega arith)) (either_all (received_b m (number_at (first t) i)))

      nothing : propose_of (fetched (told_by t) m notes) (told_by t) ≡ Ok None
      nothing = proposes_nothing t (fetched (told_by t) m notes) sd (omega (arith, r.some)) took.words all_received

      went_on : (u : List ℕ) → Bytes u → sound_b u ≡ true → next u ≡ a → let c = kept_in u notes in (c.fine ≡ true) × WentOn t u c.table
      went_on u hu su e =
          let age : age_of t (next u) ≡ k = ap (age_of t) (e ∙ r.first) ∙ place_back (first t) k (first_small t) (omega (arith, few)) in
          let newer : matching (Range a b) t ≡ drop (age_of t (next u)) (held t) =
          run_matches
          ∙ take_all n (drop k (held t)) (omega (arith, length-drop k (held t), length_held t))
          ∙ ap (λ (x : ℕ). drop x (held t)) (sym age) in
          goes_on v (request_bytes a b) o u (Range a b) hb hu su accepted (omega (arith, r.some)) newer ks calm closed

pub fetches_run : FetchesRun
fetches_run v o ks m a b hb sd missing accepted calm closed =
    let t = v.table in
    let r = missing_run t m a b sd missing in
    run_received v m a b sd r (took v m a b sd r o ks hb (missing_whole m (told_by t) a b missing) accepted calm closed)

pub fetches_rest : FetchesRest
unfolding newest_number
fetches_rest v o ks m g hb sd whole h first-g = (
  proposes_rest t m sd (omega arith) whole g h received (λ k a b. first-g k b ∙ le-ltb k g a),
  λ accepted calm closed.
      record {
        nothing = nothing v m a b sd rest o ks hb whole accepted calm closed all received;
        copied = went_on v m a b sd rest o ks hb whole accepted calm closed all received;
      },
)
  where
    t : List ℕ
    t = v.table

    a : ℕ
    a = number_at (first t) g

    b : ℕ
    b = newest_number t

    received : (k : ℕ) → k < g → received_b m (number_at (first t) k) ≡ true
    received k l = first-g k (omega arith) ∙ lt-ltb k g l

    rest : RunOf (first t) (count t) a b
    rest =
        let e : count t - 1 ≡ g + (count t - g) - 1 = omega arith in
        record {
          before = g;
          size = count t - g;
          some = omega arith;
          inside = omega arith;
          first = refl;
          last = ap (number_at (first t)) e;
        }

    all : g + (count t - g) ≡ count t
    all = omega arith
