-- Fetching what is missing over bytes: telling leaves what is inside as it was, and what is taken in over bytes is what is taken in by value.
-- Assumes nothing.
use mathlib.Core.Path.{◌≡◌, refl, sym, ap, ap₂, ◌∙◌, subst}
use mathlib.Core.Bool.{true}
use mathlib.Core.List.{List, [], ◌∷◌, map}
use Prim.Native.Nat.{ℕ, ◌<◌}
use native.Mathlib.Omega.{arith}
use borrow.Author.Tests.{ne_eqb}
use lib.Dec.{ltb}
use lib.IntN.{pos}
use lib.ListN.{length}
use Rattle.octets.specs.Choice.{both}
use Rattle.octets.specs.Numbers.{at, bytes2}
use Rattle.octets.specs.Parts.{Bytes}
use Rattle.octets.proofs.NumberLaws.{bytes_two}
use Rattle.octets.proofs.PartLaws.{bytes_append}
use Rattle.filter.specs.declared.filter.Filter.TheVariants.{Range}
use Rattle.record.specs.Fields.{sequence_of}
use Rattle.record.specs.declared.kinds.Record.{Record}
use Rattle.record.specs.declared.kinds.Record.TheVariants.{TimeUpdate, TimeFault}
use Rattle.table.specs.Table.{count, first, sound_b}
use Rattle.joining.specs.Joining.{empty_joining}
use Rattle.std.proofs.Common.{Option, Some, None, Ok}
use Rattle.fetch_told.specs.Told.{span, inside_b}
use Rattle.fetch_told.specs.declared.told.Span.{Span}
use Rattle.fetch_map.specs.Map.{map_words, inside_from, take_of, mapped_number}
use Rattle.fetch_map.proofs.MapLaws.{inside_length, tell_done}
use Rattle.fetch_map.proofs.ReceivedLaws.{tell_bit, both_true}
use Rattle.fetch_propose.specs.Propose.{number_at, Proposal, propose_of}
use Rattle.tablet_bytes.specs.Calls.{fields_in}
use Rattle.fetch_bytes.specs.Told.{told_at, range_of, told_numbers, told_after}
use Rattle.fetch_bytes.specs.Request.{request_bytes, request_after}
use Rattle.fetch_bytes.specs.Calls.{mapped_result, told, tell_at, proposal_result, proposed, propose_at, take_at}
use Rattle.theorems_reports.specs.World.{World, new_world}
use Rattle.theorems_reports.specs.Reports.{Accepted, report_begun}
use Rattle.theorems_reports.specs.Hearing.{Hearing, hearing_of}
use Rattle.theorems_reports.specs.Joined.{join_all}
use Rattle.theorems_stamps.proofs.WriteLaws.{bytes_cons}
use Rattle.theorems_bytes.specs.World.{ByteWorld, ByteCall, racp_write, called_at, step_at, calls_of, image_in, history_of}
use Rattle.theorems_bytes.specs.Reports.{hearing_at, GotAt, all_quiet_at}
use Rattle.theorems_bytes.proofs.ImageLaws.{Fit, reached, reached_fit}
use Rattle.theorems_bytes.proofs.ReportLaws.{numbers_of, from_zeros, accepted_is, heard_is, undisturbed}
use Rattle.theorems_fetched.specs.Fetched.{newest_number, told_by, take_readings, fetched, FirstReceived}
use Rattle.theorems_fetched.specs.FetchedAt.{take_all_at, fetched_at, RestAt, ToldRestAt, FetchesRestAt}
use Rattle.theorems_fetched.proofs.ProposalLaws.{told_held}
use Rattle.theorems_fetched.proofs.TakenLaws.{inside_told}
use Rattle.theorems_fetched.proofs.FetchedLaws.{asks_for_run, fetches_rest}

-- ---- what is taken in

number_shown : (r : Record) → at (fields_in r) 0 ≡ sequence_of r
unfolding fields_in sequence_of
number_shown (TimeUpdate u) = refl
number_shown (TimeFault f) = refl

takes_shown : (e n : List ℕ) (l : List (Option Record)) (m : List ℕ) → take_all_at n m (map (numbers_of e) l) ≡ take_readings (told_at n) m l
unfolding take_all_at take_readings take_at
takes_shown e n [] m = refl
takes_shown e n (Some r ∷ l) m =
    ap (λ (s : ℕ). take_all_at n (take_of m (told_at n) s).map (map (numbers_of e) l)) (number_shown r)
    ∙ takes_shown e n l (take_of m (told_at n) (sequence_of r)).map
takes_shown e n (None ∷ l) m = takes_shown e n l m

fetched_is : (e n m : List ℕ) (notes : List (List ℕ)) → fetched_at e n m notes ≡ fetched (told_at n) m notes
fetched_is e n m notes =
    ap (λ (g : GotAt). take_all_at n m g.numbers) (from_zeros e notes) ∙ takes_shown e n (join_all empty_joining notes).records m

pub request_is_bytes : (a b : ℕ) → Bytes (request_bytes a b)
unfolding request_bytes
request_is_bytes a b =
    bytes_cons 1 _ (omega arith)
    (bytes_cons 4 _ (omega arith) (bytes_cons 1 _ (omega arith) (bytes_append (bytes2 a) (bytes2 b) (bytes_two a) (bytes_two b))))

-- ---- a reader's table that holds something, of which the first g numbers are received in the map m

module _ (v : World) (x : Fit v) (m : List ℕ) (g : ℕ) (whole : length m ≡ map_words) (h : g < count v.table) (firsts : FirstReceived g v.table m) where
  abbrev t : List ℕ
  t = v.table

  sd : sound_b t ≡ true
  sd = x.good.sound

  abbrev a : ℕ
  a = number_at (first t) g

  abbrev b : ℕ
  b = newest_number t

  -- the map and the three numbers after the telling
  abbrev inside : List ℕ
  inside = inside_from (Some (span (first t) b)) 0 m

  abbrev range : List ℕ
  range = told_numbers (Some (span (first t) b))

  is_told : told_at range ≡ told_by t
  unfolding told_at told_numbers
  is_told = sym (told_held t m sd (omega arith))

  tells : (before : List ℕ) (any : ℕ) → 0 < any → tell_at m before any (first t) b ≡ told (pos 0) inside range
  unfolding tell_at range_of mapped_result mapped_number told_after
  tells before any some =
      rw (ne_eqb any 0 (λ e. omega arith), sym (tell_done m (Some (span (first t) b)) whole))

  still_first : FirstReceived g t inside
  still_first k l =
      tell_bit (Some (span (first t) b)) m (number_at (first t) k) whole (omega arith)
      ∙ ap₂ both (firsts k l) (ap (λ (r : Option Span). inside_b r (number_at (first t) k)) (sym (told_held t m sd (omega arith))) ∙ inside_told t sd k l)
      ∙ both_true (ltb k g)

  whole_inside : length inside ≡ map_words
  whole_inside = inside_length (Some (span (first t) b)) 0 m ∙ whole

  asked_for : (request : List ℕ) → propose_at inside range request ≡ proposed (pos 7) (request_bytes a b)
  unfolding propose_at proposal_result request_after
  asked_for request =
      let missing = (fetches_rest v [] [] inside g x.good.bytes sd whole_inside h still_first).0 in
      ap (λ (p : Proposal). proposed (proposal_result p) (request_after p request)) (ap (propose_of inside) is_told ∙ missing)

  -- asked for, heard, read and taken in
  module _ (e o r : List ℕ) (ks : List ByteCall) (zero : (called_at (image_in v) (racp_write (request_bytes a b) o (request_is_bytes a b))).result ≡ pos 0)
      (quiet : all_quiet_at (step_at (image_in v) (racp_write (request_bytes a b) o (request_is_bytes a b))) ks ≡ true)
      (closed : (hearing_at (step_at (image_in v) (racp_write (request_bytes a b) o (request_is_bytes a b))) ks).closed ≡ true) where
    abbrev w : List ℕ
    w = request_bytes a b

    abbrev hw : Bytes w
    hw = request_is_bytes a b

    abbrev heard : List (List ℕ)
    heard = (hearing_of (report_begun v w o) (calls_of ks)).notes

    accepted : Accepted v w o (Range a b)
    unfolding newest_number
    accepted = accepted_is v w o hw (Range a b) x (record { asked = asks_for_run a b (omega arith) (omega arith); zero = zero })

    nothing_missing : propose_of (fetched (told_by t) inside heard) (told_by t) ≡ Ok None
    nothing_missing =
        ((fetches_rest v o (calls_of ks) inside g x.good.bytes sd whole_inside h still_first).1
        accepted (undisturbed v w o hw (Range a b) ks x accepted quiet) (ap (λ (y : Hearing). y.closed) (sym (heard_is v w o hw ks x)) ∙ closed)).nothing

    answers_0 : (propose_at (fetched_at e range inside (hearing_at (step_at (image_in v) (racp_write w o hw)) ks).notes) range r).result ≡ pos 0
    unfolding propose_at proposal_result
    answers_0 =
        ap (λ (y : List ℕ). proposal_result (propose_of y (told_at range)))
        (fetched_is e range inside _ ∙ ap (λ (y : Hearing). fetched (told_at range) inside y.notes) (heard_is v w o hw ks x))
        ∙ ap (λ (y : Option Span). proposal_result (propose_of (fetched y inside heard) y)) is_told
        ∙ ap proposal_result nothing_missing

  at_image : (before request : List ℕ) (any : ℕ) → 0 < any → ToldRestAt (image_in v) request (tell_at m before any (first t) b)
  at_image before request any some =
      subst (ToldRestAt (image_in v) request) (sym (tells before any some)) (record { done = refl; fetched = asked })
    where
      asked : RestAt (image_in v) inside range (propose_at inside range request)
      asked =
          subst (RestAt (image_in v) inside range) (sym (asked_for request))
          (record { asks = refl; bytes = request_is_bytes a b; nothing = answers_0 })

-- what is fetched at b, from the map m on
abbrev Fetches : List ℕ → List ℕ → List ℕ → ℕ → ℕ → ByteWorld → Type 0
Fetches m before request any g b = g < count b.table → FirstReceived g b.table m
    → ToldRestAt b request (tell_at m before any (first b.table) (newest_number b.table))

pub fetches_rest_at : FetchesRestAt
fetches_rest_at s t before m told request any g hs ht whole some =
    subst (Fetches m told request any g) (sym (reached s t hs ht before))
    (λ h firsts. at_image (history_of (new_world t) before) (reached_fit s t hs ht before) m g whole h firsts told request any some)
