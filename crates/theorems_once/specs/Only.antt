-- One outcome: what a call promises settles its whole outcome. It is said here once for every signature, over the contract that the
-- function itself must meet, and not over a copy of it: where an `ensures` is made weaker, two outcomes fit, and the crate is refused.
--
-- The checker makes modules of its own for each function of a crate. Two of them are named here, as in
--     use Rattle.clock.proofs.events.seconds.Kinds as seconds-kinds
--     use Rattle.clock.proofs.events.seconds.Reads as seconds-reads
-- Kinds is the signature: `ps` the parameters' kinds, `r` the result's. Reads is the contract as it is proved of the code: `Pre` what the
-- function requires of its arguments, `Post` what it ensures of its arguments, its result and its references at the exit.
--
-- A call is its lifetimes κs and its arguments a. An outcome is a result, x or y, and what the parameters last hold, u or v: a tuple with a
-- component for each parameter in order, closed by `tt`. That of a `&mut` is its bytes, its number or its clock; of all else it is `tt`, since
-- nothing of it changes.
--
-- A call has four lines: the two above, its field in the file of its family, and that field's proof. Of a function that hands back a part of what
-- was lent, the part that is one is what stands there, `x.now`.
use Rattle.std.specs.Prelude.{◌≡◌, List, ℕ}
use contract.Lifetimes.{Lfts}
use denote.Triple.Clauses.{Lasts, at_exit}
use borrow.Fn.Kinds.{ParamKind, ResultKind, In, Out, Dens, res_t, ended_of}

module _ {n : ℕ} (ps : List (ParamKind n)) (r : ResultKind n) where
  -- Two outcomes that meet the promise, for arguments that meet what is required: a part of the result is one, and all that is lent.
  abbrev pub OnlyPart : {A : Lfts n → Type 0} → ((κs : Lfts n) → (res_t r κs).Denot → A κs) → In n ps → Out n ps r → Type 0
  OnlyPart part Pre Post =
      (κs : Lfts n) (a : Dens κs ps) (x y : (res_t r κs).Denot) (u v : Lasts (ended_of n ps r) κs a)
      → Pre κs a
      → Post κs a x (at_exit (ended_of n ps r) κs a u)
      → Post κs a y (at_exit (ended_of n ps r) κs a v)
      → (part κs x ≡ part κs y) × (u ≡ v)

  -- a door: it requires nothing of its caller, whatever the arguments are
  abbrev pub DoorPart : {A : Lfts n → Type 0} → ((κs : Lfts n) → (res_t r κs).Denot → A κs) → In n ps → Out n ps r → Type 0
  DoorPart part Pre Post = ((κs : Lfts n) (a : Dens κs ps) → Pre κs a) × OnlyPart part Pre Post

  -- the same with the whole result for the part
  abbrev pub Only : In n ps → Out n ps r → Type 0
  Only = OnlyPart (λ κs x. x)

  abbrev pub Door : In n ps → Out n ps r → Type 0
  Door = DoorPart (λ κs x. x)

  -- An outcome that meets the promise: a result, and what is last held.
  pub record Outcome (Post : Out n ps r) (κs : Lfts n) (a : Dens κs ps) : Type 0 where
    pub result : (res_t r κs).Denot
    pub lasts : Lasts (ended_of n ps r) κs a
    pub meets : Post κs a result (at_exit (ended_of n ps r) κs a lasts)

  -- whatever is lent, there is one
  abbrev pub Some : Out n ps r → Type 0
  Some Post = (κs : Lfts n) (a : Dens κs ps) → Outcome Post κs a
