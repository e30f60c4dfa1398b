-- A state that is no image: a clock that breaks a rule, which every call by value refuses, and a refusal writes nothing.
-- Assumes nothing.
use mathlib.Core.Path.{◌≡◌, refl, ap, ◌∙◌}
use mathlib.Core.Bool.{Bool, true, false}
use mathlib.Core.List.{List}
use Prim.Native.Nat.{ℕ}
use lib.IntN.{ℤ, negsuc}
use Rattle.octets.specs.Choice.{pick}
use Rattle.table.specs.Table.{sound_b}
use Rattle.clock.specs.Answers.{number_of, Answer}
use Rattle.clock.specs.Events.{event, seconds_of, switches_of, disconnect_of, Event}
use Rattle.clock.specs.Obeys.{clock_b}
use Rattle.clock.specs.declared.state.Clock.{Clock}
use Rattle.clock.proofs.EventLaws.{seconds_2, switches_2, disconnect_2}
use Rattle.rows.specs.Reply.{done_b}
use Rattle.rows.proofs.ReplyLaws.{broken_of}
use Rattle.update.specs.Fault.{fault_of}
use Rattle.update.specs.TimeUpdate.{update_of}
use Rattle.update.proofs.ReplyLaws.{fault_replies, update_replies}
use Rattle.characteristics.specs.Value.{device_time_of}
use Rattle.characteristics.proofs.ReplyLaws.{device_time_replies}
use Rattle.racp_access.specs.Access.{access_of}
use Rattle.racp_access.proofs.ReplyLaws.{access_replies}
use Rattle.racp_notify.specs.Notify.{notify_of}
use Rattle.racp_notify.proofs.ReplyLaws.{notify_replies}
use Rattle.state_bytes.specs.State.{image_b, clock_in, clock_of}
use Rattle.state_bytes.proofs.StateLaws.{of_image, no_image_lem}
use Rattle.state_bytes.specs.Results.{refusal}
use Rattle.server_bytes.specs.Results.{result_of, state_after, ran, settled_of}
use Rattle.server_bytes.specs.Start.{start_at}
use Rattle.server_bytes.specs.Events.{eventful, on_b, seconds_at, switches_at, disconnect_at}
use Rattle.server_bytes.specs.Calls.{Called, called, replied, notified, fault_at, dtcp_at, racp_at, notify_at}
use Rattle.server_bytes.specs.ValuesRead.{shown, answered_bytes, device_time_at}
use Rattle.theorems_entry.specs.Theorems.{unless_no_image, no_image, unread, NoImage}
use Rattle.theorems_entry.proofs.PromiseLaws.{unchanged}
use Rattle.clock.specs.declared.answers.Refusal.TheVariants.{ClockBroken, TableNotSound}
use Rattle.std.proofs.Common.{Err}

-- a call on the clock that bytes stand for, which refuses a clock that breaks a rule
over : {A : Type 0} (s : List ℕ) (none : A) (f : Clock → A) → (clock_b (clock_of s) ≡ false → f (clock_of s) ≡ none)
    → f (clock_of s) ≡ unless_no_image s none f
over s none f refuses = go (image_b s) refl
  where
    go : (b : Bool) → image_b s ≡ b → f (clock_of s) ≡ pick b (f (clock_in s)) none
    go true e = ap f (of_image s e)
    go false e = refuses (no_image_lem s e)

-- an event: 2
event_broken : (s : List ℕ) {c : Clock} {e : Event} → e ≡ event (Err ClockBroken) c → eventful s e ≡ ran (refusal 2) s
unfolding settled_of result_of state_after done_b number_of
event_broken s h = ap (eventful s) h

-- a call with a table: 1, then 2
number : List ℕ → ℕ
number t = pick (sound_b t) 1 0

below : (t : List ℕ) {a : Answer} (n : ℕ) → a ≡ broken_of t → result_of a n ≡ negsuc (number t)
unfolding result_of done_b number_of number
below t n e = ap (λ (x : Answer). result_of x n) e ∙ go (sound_b t)
  where
    go : (b : Bool) → result_of (pick b (Err ClockBroken) (Err TableNotSound)) n ≡ negsuc (pick b 1 0)
    go true = refl
    go false = refl

none_below : (t : List ℕ) → negsuc (number t) ≡ no_image t
unfolding no_image number
none_below t = go (sound_b t)
  where
    go : (b : Bool) → negsuc (pick b 1 0) ≡ refusal (pick b 2 1)
    go true = refl
    go false = refl

called_none : (s t o : List ℕ) {x : Called} → x ≡ called (negsuc (number t)) s t o → x ≡ unread s t o
called_none s t o e = e ∙ ap (λ (z : ℤ). called z s t o) (none_below t)

shown_none : (t o : List ℕ) {z : ℤ} {o' : List ℕ} → z ≡ negsuc (number t) → o' ≡ o → shown z o' ≡ shown (no_image t) o
shown_none t o e d = rw (e ∙ none_below t, d)

pub no_images : NoImage
unfolding start_at seconds_at switches_at disconnect_at fault_at dtcp_at racp_at notify_at device_time_at
no_images =
    record {
      start = λ s t. refl;
      seconds = λ s n. over s (ran (refusal 2) s) (λ (c : Clock). eventful s (seconds_of c n)) (λ h. event_broken s (seconds_2 (clock_of s) n h));
      switches = λ s a b d.
          over s (ran (refusal 2) s) (λ (c : Clock). eventful s (switches_of c (on_b a) (on_b b) (on_b d)))
          (λ h. event_broken s (switches_2 (clock_of s) (on_b a) (on_b b) (on_b d) h));
      disconnect = λ s. over s (ran (refusal 2) s) (λ (c : Clock). eventful s (disconnect_of c)) (λ h. event_broken s (disconnect_2 (clock_of s) h));
      fault = λ s t o.
          over s (unread s t o) (λ (c : Clock). replied s (fault_of c t o))
          (λ h. called_none s t o (unchanged.fault s t o (number t) (below t _ ((fault_replies t o).broken (clock_of s) h))));
      dtcp_write_lem = λ s t w o.
          over s (unread s t o) (λ (c : Clock). replied s (update_of c t w o))
          (λ h. called_none s t o (unchanged.dtcp_write_lem s t w o (number t) (below t _ ((update_replies t w o).broken (clock_of s) h))));
      racp_write_lem = λ s t w o.
          over s (unread s t o) (λ (c : Clock). replied s (access_of c t w o))
          (λ h. called_none s t o (unchanged.racp_write_lem s t w o (number t) (below t _ ((access_replies t w o).broken (clock_of s) h))));
      notify = λ s t p o.
          over s (unread s t o) (λ (c : Clock). notified s t (notify_of c t p o))
          (λ h. called_none s t o (unchanged.notify s t p o (number t) (below t _ ((notify_replies t p o).broken (clock_of s) h))));
      device_time_lem = λ s t o.
          over s (shown (no_image t) o) (λ (c : Clock). answered_bytes (device_time_of c t o))
          (λ h. let e = below t _ ((device_time_replies t o).broken (clock_of s) h) in shown_none t o e (unchanged.device_time_lem s t o (number t) e));
    }
