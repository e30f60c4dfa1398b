-- Wholes: a call that lends buffers promises one record of its result and its buffers, which are then one with it.
-- Assumes nothing.
use mathlib.Core.Path.{◌≡◌, sym, ◌∙◌, ap}

pub split : {A B W : Type 0} {x y z : W} → x ≡ z → y ≡ z → (f : W → A) (g : W → B) → (f x ≡ f y) × (g x ≡ g y)
split p q f g = let e = p ∙ sym q in (ap f e, ap g e)

-- the same, where a part says what the call answered
pub split_back : {A B W : Type 0} {x y z : W} → x ≡ z → y ≡ z → (f : W → A) (g : W → B) {a b : A} → f x ≡ a → f y ≡ b → (a ≡ b) × (g x ≡ g y)
split_back p q f g s t = let e = p ∙ sym q in (sym s ∙ ap f e ∙ t, ap g e)
