-- Numbers in the signs: the rule of each, and the first sign that breaks its rule.
-- Assumes nothing.
use Rattle.std.specs.Prelude.{Bool, true, false, cond, ◌&&◌, ◌||◌, not, List, [], ◌∷◌, ℕ, suc, ◌+◌, eqb, ltb, Option, None, Some}
use Rattle.refusals.specs.Limits.{Limits}
use Rattle.signs.specs.declared.sign.Sign.{Sign}
use Rattle.signs.specs.declared.sign.Sign.TheVariants.{Block, Time, LeftRepeat, RightRepeat, OpenEnding, CloseEnding, Jump, Segno, Coda, ToCoda, Fine}

-- the rule of a block, where the one before ends at beat e: it starts there, its length is at least 1, and its end is within the limit
abbrev pub block_keeps : Limits → ℕ → ℕ → ℕ → Bool
block_keeps l e k n = eqb k e && (ltb 0 n && not (ltb l.number (k + n)))

-- one of the numbers
abbrev pub among : ℕ → List ℕ → Bool
among n [] = false
among n (x ∷ xs) = eqb n x || among n xs

-- the rule of a time sign
abbrev pub time_keeps : ℕ → ℕ → Bool
time_keeps m n = ltb 0 m && (ltb m 100 && among n (1 ∷ 2 ∷ 4 ∷ 8 ∷ 16 ∷ 32 ∷ 64 ∷ []))

-- a sign keeps its rule, where the blocks before it end at beat e
abbrev pub keeps : Limits → ℕ → Sign → Bool
keeps l e (Block k n) = block_keeps l e k n
keeps l e (Time m n) = time_keeps m n
keeps l e LeftRepeat = true
keeps l e RightRepeat = true
keeps l e OpenEnding = true
keeps l e CloseEnding = true
keeps l e (Jump j) = true
keeps l e Segno = true
keeps l e Coda = true
keeps l e ToCoda = true
keeps l e Fine = true

-- the beats that a sign writes
abbrev pub beats_of : Sign → ℕ
beats_of (Block k n) = n
beats_of (Time m n) = 0
beats_of LeftRepeat = 0
beats_of RightRepeat = 0
beats_of OpenEnding = 0
beats_of CloseEnding = 0
beats_of (Jump j) = 0
beats_of Segno = 0
beats_of Coda = 0
beats_of ToCoda = 0
beats_of Fine = 0

-- the beats that signs write: blocks that keep their rule end there
abbrev pub written : List Sign → ℕ
written [] = 0
written (x ∷ s) = beats_of x + written s

-- one place later
abbrev pub later : Option ℕ → Option ℕ
later None = None
later (Some i) = Some (suc i)

-- the place of the first sign that breaks its rule, if one does; the blocks before end at beat e
abbrev pub first_break : Limits → ℕ → List Sign → Option ℕ
first_break l e [] = None
first_break l e (x ∷ s) = cond (keeps l e x) (later (first_break l (e + beats_of x) s)) (Some 0)
