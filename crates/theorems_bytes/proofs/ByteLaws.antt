-- Every element of the image of a clock that was reached is a byte.
-- Assumes nothing.
use mathlib.Core.Path.{◌≡◌, refl}
use mathlib.Core.Bool.{Bool, true, false}
use mathlib.Core.List.{List, [], ◌∷◌}
use Prim.Native.Nat.{ℕ, ◌<◌}
use native.Mathlib.Omega.{arith}
use borrow.Author.Tests.{leb-true, eqb-true, ltb-true}
use lib.Dec.{ltb, eqb}
use lib.ListN.{drop, length}
use Rattle.octets.specs.Choice.{either, pick}
use Rattle.octets.specs.Numbers.{bytes2, bytes4}
use Rattle.octets.specs.Parts.{Bytes}
use Rattle.octets.proofs.NumberLaws.{bytes_two, bytes_four}
use Rattle.octets.proofs.PartLaws.{bytes_append}
use Rattle.octets.proofs.Tests.{clash, both_reads}
use Rattle.rules.specs.Fields.{dst_b, source_b}
use Rattle.filter.specs.Filter.{matches_b}
use Rattle.filter.specs.declared.filter.Filter.{Filter}
use Rattle.filter.specs.declared.filter.Filter.TheVariants.{All, AtMost, AtLeast, Range, First, Last}
use Rattle.record.specs.declared.kinds.Record.{Record}
use Rattle.record_write.specs.Layout.{bytes_of}
use Rattle.record_read.proofs.RoundTrip.{length_bytes}
use Rattle.table.specs.Table.{count, held, age_of}
use Rattle.clock.specs.State.{new_reader}
use Rattle.clock.specs.Events.{with_base, disconnected, Event}
use Rattle.clock.specs.Obeys.{opcode_b, running_b}
use Rattle.clock.specs.declared.state.Clock.{Clock}
use Rattle.clock.proofs.RuleLaws.{clock_reads, running_reads}
use Rattle.clock.proofs.EventLaws.{Seconds, refuses_2, refuses_7, rises, Changed, changes, seconds_is, switches_is, disconnect_is}
use Rattle.update_judge.specs.Proposal.{proposal_at}
use Rattle.update_judge.specs.declared.proposal.Proposal.{Proposal}
use Rattle.update_judge.proofs.ProposalLaws.{proposal_sized}
use Rattle.update_decide.specs.Accept.{accuracy_of, accepted_of}
use Rattle.rows.specs.Reply.{done_b}
use Rattle.rows.specs.Rows.{unsent_b, left_b}
use Rattle.rows.specs.Rows as rows
use Rattle.update.specs.Fault.{faulted_of, fault_of}
use Rattle.update_logged.specs.Theorems.{success_b}
use Rattle.update.specs.TimeUpdate.{update_of}
use Rattle.update_logged.proofs.PromiseLaws.{logged, refused_unchanged}
use Rattle.state_bytes.specs.State.{switches_of, bounds_of, unsent_of, fields_of, field_bytes, image_of}
use Rattle.theorems_reports.specs.World.{World, Call, seconds, switches, disconnect, fault, time_update, record_access, notify, step_by, step_of}
use Rattle.theorems_reports.specs.Reach.{Good}
use Rattle.theorems_reports.proofs.ReachLaws.{Turned, same, turns, access_turned, notify_turned}
use Rattle.theorems_stamps.proofs.WriteLaws.{bytes_cons, bytes_nil}
use Rattle.theorems_bytes.specs.Fitting.{ByteFields}
use Rattle.clock.specs.declared.state.Report.{Report}
use Rattle.std.proofs.Common.{None, Option, Some}

-- "DST offset: 0, 2, 4, 8, or 255", "Source: 0 to 7"
dst_byte : (d : ℕ) → dst_b d ≡ true → d < 256
unfolding dst_b
dst_byte d h = go (eqb d 0) (eqb d 2) (eqb d 4) (eqb d 8) (eqb d 255) refl refl refl refl refl h
  where
    go : (a b c e f : Bool) → eqb d 0 ≡ a → eqb d 2 ≡ b → eqb d 4 ≡ c → eqb d 8 ≡ e → eqb d 255 ≡ f
        → either a (either b (either c (either e f))) ≡ true → d < 256
    go true b c e f p q r s u k = omega (arith, eqb-true d 0 p)
    go false true c e f p q r s u k = omega (arith, eqb-true d 2 q)
    go false false true e f p q r s u k = omega (arith, eqb-true d 4 r)
    go false false false true f p q r s u k = omega (arith, eqb-true d 8 s)
    go false false false false true p q r s u k = omega (arith, eqb-true d 255 u)
    go false false false false false p q r s u k = absurd (clash false k refl)

source_byte : (n : ℕ) → source_b n ≡ true → n < 256
unfolding source_b
source_byte n h = omega (arith, leb-true n 7 h)

opcode_byte : (n : ℕ) → opcode_b n ≡ true → n < 256
unfolding opcode_b
opcode_byte n h = go (eqb n 1) (eqb n 7) refl refl h
  where
    go : (a b : Bool) → eqb n 1 ≡ a → eqb n 7 ≡ b → either a b ≡ true → n < 256
    go true b p q k = omega (arith, eqb-true n 1 p)
    go false true p q k = omega (arith, eqb-true n 7 q)
    go false false p q k = absurd (clash false k refl)

switches_byte : (a b d : Bool) → switches_of a b d < 256
unfolding switches_of
switches_byte true true true = omega arith
switches_byte true true false = omega arith
switches_byte true false true = omega arith
switches_byte true false false = omega arith
switches_byte false true true = omega arith
switches_byte false true false = omega arith
switches_byte false false true = omega arith
switches_byte false false false = omega arith

operator_byte : (f : Filter) → (bounds_of f).operator < 256
unfolding bounds_of
operator_byte All = omega arith
operator_byte (AtMost max) = omega arith
operator_byte (AtLeast min) = omega arith
operator_byte (Range min max) = omega arith
operator_byte First = omega arith
operator_byte Last = omega arith

-- a record's bytes that are sent are fewer than it has
sent_byte : (sent : ℕ) (l : List Record) → unsent_b sent l ≡ true → sent < 256
sent_byte sent [] h = absurd (clash false h refl)
sent_byte sent (r ∷ l) h = omega (arith, ltb-true sent (length (bytes_of r)) h, length_bytes r)

left_byte : (l : Option (ℕ × ℕ)) → (unsent_of l).left < 256
unfolding unsent_of
left_byte None = omega arith
left_byte (Some (n, s)) = omega arith

left_sent : (t : List ℕ) (f : Filter) (l : Option (ℕ × ℕ)) → left_b t f l ≡ true → (unsent_of l).sent < 256
unfolding unsent_of left_b
left_sent t f None h = omega arith
left_sent t f (Some (n, s)) h =
    let a = both_reads (ltb (age_of t n) (count t)) _ h in
    let b = both_reads (matches_b f (count t) (age_of t n) n) _ a.1 in
    sent_byte s (drop (age_of t n) (held t)) b.1

running_bytes : (t : List ℕ) (r : Option Report) → running_b r ≡ true → rows.running_whole_b t r ≡ true → Bytes (field_bytes (fields_of r))
unfolding field_bytes fields_of rows.running_whole_b
running_bytes t None h k =
    bytes_cons 0 _ (omega arith)
    (bytes_cons 0 _ (omega arith)
    (bytes_append (bytes2 0) _ (bytes_two 0)
    (bytes_append (bytes2 0) _ (bytes_two 0)
    (bytes_cons 0 _ (omega arith)
    (bytes_cons 0 _ (omega arith)
    (bytes_append (bytes2 0) _ (bytes_two 0) (bytes_cons 0 [] (omega arith) bytes_nil)))))))
running_bytes t (Some r) h k =
    let x = running_reads r h in
    bytes_cons r.opcode _ (opcode_byte r.opcode x.opcode)
    (bytes_cons (bounds_of r.filter).operator _ (operator_byte r.filter)
    (bytes_append (bytes2 (bounds_of r.filter).minimum) _ (bytes_two _)
    (bytes_append (bytes2 (bounds_of r.filter).maximum) _ (bytes_two _)
    (bytes_cons r.counter _ (omega arith)
    (bytes_cons (unsent_of r.left).left _ (left_byte r.left)
    (bytes_append (bytes2 (unsent_of r.left).next) _ (bytes_two _)
    (bytes_cons (unsent_of r.left).sent [] (left_sent t r.filter r.left k) bytes_nil)))))))

pub image_bytes : (v : World) → Good v → ByteFields v.clock → Bytes (image_of v.clock)
unfolding image_of
image_bytes v g b =
    let c = v.clock in
    let x = clock_reads c g.clock in
    let zeros : Bytes (0 ∷ 0 ∷ 0 ∷ 0 ∷ []) = bytes_four 0 in
    bytes_append (bytes4 c.time.base) _ (bytes_four _)
    (bytes_cons c.time.zone _ b.zone
    (bytes_cons c.time.dst _ (dst_byte _ x.time.dst)
    (bytes_cons c.time.source _ (source_byte _ x.time.source)
    (bytes_cons c.time.accuracy _ b.accuracy
    (bytes_append (bytes2 c.time.status) _ (bytes_two _)
    (bytes_append (bytes2 c.time.faults) _ (bytes_two _)
    (bytes_append (bytes4 c.time.aligned) _ (bytes_four _)
    (bytes_cons (switches_of c.switches.dtcp c.switches.racp c.switches.log) _ (switches_byte _ _ _)
    (bytes_append (field_bytes (fields_of c.running)) _ (running_bytes v.table c.running x.running g.running) zeros)))))))))

-- zone and accuracy come from writes, which are bytes
pub new_bytes : ByteFields new_reader
unfolding new_reader
new_bytes = record { zone = omega arith; accuracy = omega arith }

seconds_bytes : {c : Clock} {n : ℕ} {e : Event} → Seconds c n e → ByteFields c → ByteFields e.clock
unfolding with_base
seconds_bytes (refuses_2 h) b = b
seconds_bytes (refuses_7 h l) b = b
seconds_bytes (rises h l) b = record { zone = b.zone; accuracy = b.accuracy }

changed_bytes : {c after : Clock} {e : Event} → Changed c after e → ByteFields c → ByteFields after → ByteFields e.clock
changed_bytes (refuses_2 h) b a = b
changed_bytes (changes h) b a = a

turned_bytes : {v w : World} → Turned v w → ByteFields v.clock → ByteFields w.clock
turned_bytes same b = b
turned_bytes (turns r ok left) b = record { zone = b.zone; accuracy = b.accuracy }

fault_bytes_lem : (c : Clock) (t o : List ℕ) → ByteFields c → ByteFields (fault_of c t o).reply.clock
unfolding faulted_of
fault_bytes_lem c t o x = go (done_b (fault_of c t o).reply.answer) refl
  where
    go : (b : Bool) → done_b (fault_of c t o).reply.answer ≡ b → ByteFields (fault_of c t o).reply.clock
    go true h = rw (logged.fault c t o h).0 (record { zone = x.zone; accuracy = omega arith })
    go false h = rw (refused_unchanged.fault c t o h) x

accuracy_byte : (p : Proposal) → p.accuracy < 256 → accuracy_of p < 256
unfolding accuracy_of
accuracy_byte p h = go (either (eqb p.source 0) (eqb p.source 4))
  where
    go : (b : Bool) → pick b 255 p.accuracy < 256
    go true = omega arith
    go false = h

update_bytes_lem : (v : World) (w o : List ℕ) → Bytes w → Good v → ByteFields v.clock
    → ByteFields (update_of v.clock v.table w o).reply.clock
unfolding accepted_of
update_bytes_lem v w o hw g x = go (success_b (update_of v.clock v.table w o)) refl
  where
    go : (b : Bool) → success_b (update_of v.clock v.table w o) ≡ b → ByteFields (update_of v.clock v.table w o).reply.clock
    go true h =
        let z = proposal_sized w hw in
        rw (logged.taken v.clock v.table w o hw g.faults g.next h).clock
        (record { zone = z.zone; accuracy = accuracy_byte (proposal_at w) z.accuracy })
    go false h = rw (logged.else v.clock v.table w o h).0 x

pub call_bytes : (v : World) (k : Call) → Good v → ByteFields v.clock → ByteFields (step_of v k).clock
unfolding step_by disconnected
call_bytes v (seconds n) g b = seconds_bytes (seconds_is v.clock n) b
call_bytes v (switches x y z) g b = changed_bytes (switches_is v.clock x y z) b (record { zone = b.zone; accuracy = b.accuracy })
call_bytes v disconnect g b = changed_bytes (disconnect_is v.clock) b (record { zone = b.zone; accuracy = b.accuracy })
call_bytes v (fault o) g b = fault_bytes_lem v.clock v.table o b
call_bytes v (time_update w o h) g b = update_bytes_lem v w o h g b
call_bytes v (record_access w o) g b = turned_bytes (access_turned v w o g) b
call_bytes v (notify p o) g b = turned_bytes (notify_turned v p o g) b
