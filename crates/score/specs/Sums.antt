-- Sums over a played list and over the calls of a score, and the blocks of a list of signs.
-- Assumes nothing.
use Rattle.std.specs.Prelude.{Bool, cond, ◌&&◌, List, [], ◌∷◌, ℕ, ◌+◌, ◌*◌, eqb}
use Rattle.signs.specs.declared.sign.Sign.{Sign}
use Rattle.signs.specs.declared.sign.Sign.TheVariants.{Block, Time, LeftRepeat, RightRepeat, OpenEnding, CloseEnding, Jump, Segno, Coda, ToCoda, Fine}
use Rattle.score.specs.Trees.{Leaf, block}
use Rattle.score.specs.Calls.{Call}

-- the sum of a weight over what is played
abbrev pub total : (Leaf → ℕ) → List Leaf → ℕ
total w [] = 0
total w (x ∷ xs) = w x + total w xs

-- the sum of a weight over what is written, each as often as its place calls for it
abbrev pub called : (Leaf → ℕ) → List Call → ℕ
called w [] = 0
called w (c ∷ cs) = w c.what * c.often + called w cs

-- the weights: each leaf counts 1, or only those that are x
abbrev pub each : Leaf → ℕ
each x = 1

abbrev pub same : Leaf → Leaf → Bool
same (block k l) (block m n) = eqb k m && eqb l n

abbrev pub only : Leaf → Leaf → ℕ
only x y = cond (same x y) 1 0

-- the blocks of a list of signs, in order
abbrev pub leaves : List Sign → List Leaf
leaves [] = []
leaves (Block k l ∷ s) = block k l ∷ leaves s
leaves (Time m n ∷ s) = leaves s
leaves (LeftRepeat ∷ s) = leaves s
leaves (RightRepeat ∷ s) = leaves s
leaves (OpenEnding ∷ s) = leaves s
leaves (CloseEnding ∷ s) = leaves s
leaves (Jump j ∷ s) = leaves s
leaves (Segno ∷ s) = leaves s
leaves (Coda ∷ s) = leaves s
leaves (ToCoda ∷ s) = leaves s
leaves (Fine ∷ s) = leaves s
