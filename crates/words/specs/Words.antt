-- A word of 64 bits: from the lowest bit a kind in 8 bits, then two numbers in 28 bits each.
-- Assumes nothing.
use Rattle.std.specs.Prelude.{Bool, cond, ◌&&◌, ℕ, ◌+◌, ◌*◌, ◌/◌, ◌%◌, ltb}
use Rattle.words.specs.declared.Parts.{Parts}

abbrev pub parts : ℕ → ℕ → ℕ → Parts
parts kind a b = record { kind = kind; first = a; second = b }

-- a number that 28 bits hold
abbrev pub fits : ℕ → Bool
fits n = ltb n 268435456

-- a kind and two numbers in one word; 0 where a number does not fit
abbrev pub packed : Parts → ℕ
packed p = cond (fits p.first && fits p.second) (p.kind + 256 * p.first + 68719476736 * p.second) 0

-- the kind and the two numbers of a word
abbrev pub parts_in : ℕ → Parts
parts_in w = parts (w % 256) (w / 256 % 268435456) (w / 68719476736)
