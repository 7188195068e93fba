-- The scores to check by: document 01's rows marked with a star, then document 000's that it keeps, as one table under one claim.
-- Assumes nothing.
use Rattle.std.specs.Prelude.{◌≡◌, true, List, [], ◌∷◌, map, ℕ}
use Rattle.signs.specs.declared.sign.Jumped.TheVariants.{DcFine, Ds, DsCoda}
use Rattle.signs.specs.declared.sign.Sign.{Sign}
use Rattle.signs.specs.declared.sign.Sign.TheVariants.{Block, Time, LeftRepeat, RightRepeat, OpenEnding, CloseEnding, Jump, Segno, Coda, ToCoda, Fine}
use Rattle.std.specs.Prelude.{Some as Packed}
use Rattle.score.specs.Trees.{Leaf, block}
use Rattle.score.specs.Readings.{Answer, reading, refused, Right}
use Rattle.played.specs.declared.Played.{Played}
use Rattle.played.specs.Played.{entries}
use Rattle.score.specs.Played.{block_of, played}
use Rattle.score.specs.Steps.{steps}

-- what is said of a score: its played list and steps, or the place of the refusal
pub data Said : Type 0 where
  heard : List Played → ℕ → Said
  refused_at_sign : ℕ → Said

abbrev pub say : Answer → Said
say (reading t) = heard (played t) (steps t)
say (refused i) = refused_at_sign i

pub record Row : Type 0 where
  pub signs : List Sign
  pub said : Said

-- a row that plays these blocks in so many steps
abbrev plays : List Sign → List Leaf → ℕ → Row
plays s l n = record { signs = s; said = heard (entries 0 (map block_of l)) n }

-- a row that is refused at a place
abbrev refuses : List Sign → ℕ → Row
refuses s i = record { signs = s; said = refused_at_sign i }

abbrev a : Sign
a = Block 0 4

abbrev b : Sign
b = Block 4 4

abbrev c : Sign
c = Block 8 4

abbrev d : Sign
d = Block 12 4

abbrev e : Sign
e = Block 16 4

-- the same blocks, played
abbrev a' : Leaf
a' = block 0 4

abbrev b' : Leaf
b' = block 4 4

abbrev c' : Leaf
c' = block 8 4

abbrev d' : Leaf
d' = block 12 4

abbrev e' : Leaf
e' = block 16 4

-- the table
abbrev pub rows : List Row
rows =
    plays (a ∷ []) (a' ∷ []) 1
    ∷ plays (a ∷ RightRepeat ∷ b ∷ []) (a' ∷ a' ∷ b' ∷ []) 6
    ∷ plays (LeftRepeat ∷ a ∷ LeftRepeat ∷ b ∷ RightRepeat ∷ c ∷ RightRepeat ∷ d ∷ []) (a' ∷ b' ∷ b' ∷ c' ∷ a' ∷ b' ∷ b' ∷ c' ∷ d' ∷ []) 18
    ∷ plays (LeftRepeat ∷ a ∷ OpenEnding ∷ b ∷ CloseEnding ∷ RightRepeat ∷ OpenEnding ∷ c ∷ CloseEnding ∷ []) (a' ∷ b' ∷ a' ∷ c' ∷ []) 15
    ∷ plays (a ∷ Fine ∷ b ∷ Jump DcFine ∷ []) (a' ∷ b' ∷ a' ∷ []) 8
    ∷ plays (a ∷ Segno ∷ b ∷ ToCoda ∷ c ∷ Jump DsCoda ∷ Coda ∷ d ∷ []) (a' ∷ b' ∷ c' ∷ b' ∷ d' ∷ []) 10
    ∷ plays (a ∷ RightRepeat ∷ b ∷ RightRepeat ∷ c ∷ []) (a' ∷ a' ∷ b' ∷ a' ∷ a' ∷ b' ∷ c' ∷ []) 16
    ∷ plays (a ∷ OpenEnding ∷ b ∷ CloseEnding ∷ RightRepeat ∷ OpenEnding ∷ c ∷ CloseEnding ∷ RightRepeat ∷ OpenEnding ∷ d ∷ CloseEnding ∷ []) (a' ∷ b' ∷ a' ∷ c' ∷ a' ∷ d' ∷ []) 28
    ∷ plays (a ∷ OpenEnding ∷ b ∷ CloseEnding ∷ RightRepeat ∷ OpenEnding ∷ c ∷ CloseEnding ∷ RightRepeat ∷ d ∷ []) (a' ∷ b' ∷ a' ∷ c' ∷ a' ∷ b' ∷ a' ∷ c' ∷ d' ∷ []) 34
    ∷ plays (a ∷ RightRepeat ∷ Segno ∷ b ∷ Jump Ds ∷ []) (a' ∷ a' ∷ b' ∷ b' ∷ []) 10
    ∷ refuses [] 0
    ∷ refuses (LeftRepeat ∷ a ∷ []) 2
    ∷ refuses (LeftRepeat ∷ a ∷ OpenEnding ∷ b ∷ CloseEnding ∷ RightRepeat ∷ c ∷ []) 6
    ∷ plays
    (Time 4 4 ∷ a ∷ Fine ∷ LeftRepeat ∷ Block 4 12 ∷ RightRepeat ∷ LeftRepeat ∷ e ∷ OpenEnding ∷ Block 20 4 ∷ CloseEnding ∷ RightRepeat ∷ OpenEnding ∷ Block 24 4 ∷ CloseEnding ∷ Jump DcFine ∷ [])
    (a' ∷ block 4 12 ∷ block 4 12 ∷ e' ∷ block 20 4 ∷ e' ∷ block 24 4 ∷ a' ∷ [])
    27
    ∷ plays (a ∷ LeftRepeat ∷ b ∷ RightRepeat ∷ c ∷ RightRepeat ∷ d ∷ []) (a' ∷ b' ∷ b' ∷ c' ∷ a' ∷ b' ∷ b' ∷ c' ∷ d' ∷ []) 18
    ∷ plays
    (a ∷ OpenEnding ∷ b ∷ CloseEnding ∷ RightRepeat ∷ OpenEnding ∷ c ∷ CloseEnding ∷ OpenEnding ∷ d ∷ CloseEnding ∷ RightRepeat ∷ OpenEnding ∷ e ∷ CloseEnding ∷ [])
    (a' ∷ b' ∷ a' ∷ c' ∷ d' ∷ a' ∷ b' ∷ a' ∷ c' ∷ e' ∷ [])
    43
    ∷ []

-- The claim: for each row there is a right answer, and it says what the row says.
abbrev pub Hold : List Row → Type 0
Hold [] = Unit {0}
Hold (r ∷ rs) = ((o : Answer) × Right true (map Packed r.signs) o × (say o ≡ r.said)) × Hold rs
