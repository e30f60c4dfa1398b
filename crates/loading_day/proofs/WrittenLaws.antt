-- A day read from its numbers, one after the other.
-- Assumes nothing.
use mathlib.Core.Path.{◌≡◌, sym, ◌∙◌}
use Rattle.std.proofs.Common.{ℕ, ◌<◌, List, length, get_or, map, arith}
use Rattle.std.proofs.lemmas.List.{same_lists, get_or-map, length-map}
use Rattle.day_play.specs.declared.play.Happening.{Happening}
use Rattle.loading_day.specs.Written.{happening_of, happenings_of}

pub read_all : (ws : List ℕ) (day : List Happening) → length day ≡ length ws
    → ((k : ℕ) (d : Happening) → k < length ws → get_or day k d ≡ happening_of (get_or ws k 0)) → day ≡ happenings_of ws
unfolding happenings_of
read_all ws day long each =
    same_lists day (map happening_of ws) (rw length-map long)
    (λ k d h. each k d (omega (arith, long)) ∙ sym (get_or-map happening_of ws k 0 d (omega (arith, long))))
