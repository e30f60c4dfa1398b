-- What a call over bytes answers: "at least 0 is done (bytes written to `out`), below 0 is minus the paper's refusal number".
use Rattle.std.specs.Prelude.{ℕ, ℤ, pos, neg_ℤ}

abbrev pub refusal : ℕ → ℤ
refusal n = neg_ℤ (pos n)
