-- The time sign of a score.
-- Assumes nothing.
use Rattle.std.specs.Prelude.{Option, ℕ}

-- the time sign of a score, if it has one: m beats to the bar, each a 1/n note
abbrev pub Time : Type 0
Time = Option (ℕ × ℕ)
