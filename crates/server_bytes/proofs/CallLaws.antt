-- Calls by value over the clock that the state's bytes stand for: what `settle` asks of each, and what it then comes to.
-- Assumes nothing.
use mathlib.Core.Path.{◌≡◌, refl, ap, ◌∙◌}
use mathlib.Core.Bool.{Bool, true, false}
use mathlib.Core.List.{List}
use Prim.Native.Nat.{ℕ, ◌≤◌}
use native.Mathlib.Omega.{arith}
use lib.IntN.{ℤ}
use lib.ListN.{length}
use Rattle.clock.specs.Answers.{number_of, Answer}
use Rattle.clock.specs.Events.{event, Event}
use Rattle.clock.specs.Obeys.{clock_b}
use Rattle.clock.specs.declared.state.Clock.{Clock}
use Rattle.rows.specs.Reply.{Outcome, outcome, done_b, Reply}
use Rattle.rows.proofs.ReplyLaws.{Replies, obeyed, broken_refused}
use Rattle.racp_notify.specs.Notify.{Notice, notice, Notified}
use Rattle.state_bytes.specs.State.{state_bytes, clock_of}
use Rattle.state_bytes.proofs.StateLaws.{obeys_size}
use Rattle.server_bytes.specs.Results.{closing_length, reply_of, Ran, ran, settled_of}
use Rattle.server_bytes.specs.Events.{eventful}
use Rattle.server_bytes.specs.Calls.{called, replied, notified}
use Rattle.clock.specs.declared.answers.Refusal.TheVariants.{ClockBroken}
use Rattle.std.proofs.Common.{Err}

-- a call that is done was lent an image
abbrev pub Sized : List ℕ → Answer → Type 0
Sized s a = done_b a ≡ true → length s ≡ state_bytes

clock_refused : done_b (Err ClockBroken) ≡ false
unfolding done_b number_of
clock_refused = refl

written_short : (closes : Bool) (n : ℕ) → n ≤ 255 → closing_length closes n ≤ 511
written_short true n h = omega arith
written_short false n h = omega arith

sized_by : (s : List ℕ) (a : Answer) → (clock_b (clock_of s) ≡ false → done_b a ≡ false) → Sized s a
sized_by s a refuses h = obeys_size s (obeyed (clock_of s) a refuses h)

-- the clock that was read, and a call by value
module _ (s : List ℕ) {c : Clock} (e : c ≡ clock_of s) where
  module _ (f : Clock → Event) {v : Event} (u : v ≡ f c) where
    value : v ≡ f (clock_of s)
    value = u ∙ ap f e

    pub event_sized : ((k : Clock) → clock_b k ≡ false → f k ≡ event (Err ClockBroken) k) → Sized s v.answer
    event_sized broken =
        sized_by s v.answer (λ h. ap (λ (x : Event). done_b x.answer) (value ∙ broken (clock_of s) h) ∙ clock_refused)

    pub event_settled : {z y : ℤ} {s' : List ℕ} → y ≡ z → ran z s' ≡ eventful s v → ran y s' ≡ eventful s (f (clock_of s))
    event_settled {s' = s'} q w = ap (λ (x : ℤ). ran x s') q ∙ w ∙ ap (eventful s) value

  module _ (f : Clock → Outcome) {r : Reply} {t' o' : List ℕ} (u : outcome r t' o' ≡ f c) where
    outcomes : outcome r t' o' ≡ f (clock_of s)
    outcomes = u ∙ ap f e

    module _ {t : List ℕ} (k : Replies t (λ x. (f x).reply.answer) (λ x. (f x).reply.len)) where
      pub reply_short : r.len ≤ 255
      reply_short = rw (ap (λ (x : Outcome). x.reply.len) outcomes) (k.short (clock_of s))

      pub reply_sized : (r.len ≤ 511) × Sized s r.answer
      reply_sized = (
        omega (arith, reply_short),
        sized_by s r.answer (λ h. ap (λ (x : Outcome). done_b x.reply.answer) outcomes ∙ ap done_b (k.broken (clock_of s) h) ∙ broken_refused t),
      )

    pub reply_settled : {z y : ℤ} {s' : List ℕ} → y ≡ z → ran z s' ≡ settled_of s r.answer r.clock r.len
        → called y s' t' o' ≡ replied s (f (clock_of s))
    unfolding settled_of
    reply_settled {s' = s'} q w =
        ap (λ (x : ℤ). called x s' t' o') q ∙ ap (λ (x : Ran). called x.result x.state t' o') w ∙ ap (replied s) outcomes

  module _ (f : Clock → Notice) {r : Notified} {o' : List ℕ} (u : notice r o' ≡ f c) where
    notices : notice r o' ≡ f (clock_of s)
    notices = u ∙ ap f e

    module _ {t : List ℕ} (k : Replies t (λ x. (f x).reply.answer) (λ x. (f x).reply.len)) where
      pub notice_short : r.len ≤ 255
      notice_short = rw (ap (λ (x : Notice). x.reply.len) notices) (k.short (clock_of s))

      pub notice_sized : {v : Reply} → v ≡ reply_of r → (v.len ≤ 511) × Sized s v.answer
      unfolding reply_of
      notice_sized d =
          rw d (
            written_short r.closes r.len notice_short,
            sized_by s r.answer (λ h. ap (λ (x : Notice). done_b x.reply.answer) notices ∙ ap done_b (k.broken (clock_of s) h) ∙ broken_refused t),
          )

    pub notice_settled : {v : Reply} → v ≡ reply_of r → (t : List ℕ) {z y : ℤ} {s' : List ℕ} → y ≡ z
        → ran z s' ≡ settled_of s v.answer v.clock v.len
        → called y s' t o' ≡ notified s t (f (clock_of s))
    unfolding settled_of reply_of
    notice_settled d t {s' = s'} q w =
        ap (λ (x : ℤ). called x s' t o') q
        ∙ ap (λ (x : Ran). called x.result x.state t o') (w ∙ ap (λ (x : Reply). settled_of s x.answer x.clock x.len) d)
        ∙ ap (notified s t) notices
