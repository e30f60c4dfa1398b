-- How large a carried stamp can be, by the promise Bounded of carrying: what the functions behind the call require.
use Rattle.std.specs.Prelude.{◌≡◌, ℕ, ◌≤◌, ℤ, nat_abs, Ok, Result}
use Rattle.carry.specs.declared.stamp.CarryError.{CarryError}

abbrev pub carried_bound : ℕ
carried_bound = 4398046510080

abbrev pub Sized : Result ℤ CarryError → Type 0
Sized c = (z : ℤ) → c ≡ Ok z → nat_abs z ≤ carried_bound
