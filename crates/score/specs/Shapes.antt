-- The seven shapes of a score, as one table, and a score.
-- Assumes nothing.
use Rattle.std.specs.Prelude.{cond, List, [], ◌∷◌, ℕ, ◌+◌, eqb}
use Rattle.signs.specs.declared.sign.Jumped.TheVariants.{Dc, DcCoda, DcFine, Ds, DsCoda, DsFine}
use Rattle.signs.specs.declared.sign.Sign.{Sign}
use Rattle.signs.specs.declared.sign.Sign.TheVariants.{Jump, Segno, Coda, ToCoda, Fine}
use Rattle.score.specs.declared.Shape.{Shape}
use Rattle.score.specs.declared.Shape.TheVariants.{Straight, DaCapo, DalSegno, DaCapoFine, DalSegnoFine, DaCapoCoda, DalSegnoCoda}
use Rattle.score.specs.Times.{Time}
use Rattle.std.specs.Prelude.{None as Untimed}
use Rattle.score.specs.Trees.{Run}

-- The runs of a shape go by letters.
pub data Letter : Type 0 where
  A B C D : Letter

-- A shape is written as runs with signs between them.
pub data Piece : Type 0 where
  run : Letter → Piece
  sign : Sign → Piece

-- A run is played the first time, or replayed after the jump.
pub data Turn : Type 0 where
  first again : Letter → Turn

-- A row of the table: how the shape is written, what it plays, and the steps beside those of what it plays.
pub record Row : Type 0 where
  pub signs : List Piece
  pub plays : List Turn
  pub steps : ℕ

abbrev row : List Piece → List Turn → ℕ → Row
row s p n = record { signs = s; plays = p; steps = n }

-- The table.
abbrev pub table : Shape → Row
table Straight = row (run A ∷ []) (first A ∷ []) 0
table DaCapo = row (run A ∷ sign (Jump Dc) ∷ []) (first A ∷ again A ∷ []) 3
table DalSegno = row (run A ∷ sign Segno ∷ run B ∷ sign (Jump Ds) ∷ []) (first A ∷ first B ∷ again B ∷ []) 3
table DaCapoFine = row (run A ∷ sign Fine ∷ run B ∷ sign (Jump DcFine) ∷ []) (first A ∷ first B ∷ again A ∷ []) 5
table DalSegnoFine = row (run A ∷ sign Segno ∷ run B ∷ sign Fine ∷ run C ∷ sign (Jump DsFine) ∷ []) (first A ∷ first B ∷ first C ∷ again B ∷ []) 5
table DaCapoCoda = row (run A ∷ sign ToCoda ∷ run B ∷ sign (Jump DcCoda) ∷ sign Coda ∷ run C ∷ []) (first A ∷ first B ∷ again A ∷ first C ∷ []) 5
table DalSegnoCoda = row (run A ∷ sign Segno ∷ run B ∷ sign ToCoda ∷ run C ∷ sign (Jump DsCoda) ∷ sign Coda ∷ run D ∷ []) (first A ∷ first B ∷ first C ∷ again B ∷ first D ∷ []) 5

-- A score is its time, its shape, and the runs A, B, C and D, of which those that its shape lacks are empty.
pub data Score : Type 0 where
  score : Time → Shape → Run → Run → Run → Run → Score

abbrev pub time_of : Score → Time
time_of (score t h a b c d) = t

abbrev pub shape_of : Score → Shape
shape_of (score t h a b c d) = h

-- the score without its time sign
abbrev pub untimed_of : Score → Score
untimed_of (score t h a b c d) = score Untimed h a b c d

-- the run of a letter
abbrev pub run_of : Score → Letter → Run
run_of (score t h a b c d) A = a
run_of (score t h a b c d) B = b
run_of (score t h a b c d) C = c
run_of (score t h a b c d) D = d

-- the letters that are written, in order
abbrev pub letters_of : List Piece → List Letter
letters_of [] = []
letters_of (run x ∷ ps) = x ∷ letters_of ps
letters_of (sign y ∷ ps) = letters_of ps

-- the letter of a turn
abbrev pub letter_of : Turn → Letter
letter_of (first x) = x
letter_of (again x) = x

abbrev number : Letter → ℕ
number A = 0
number B = 1
number C = 2
number D = 3

-- how often a letter stands in a list
abbrev pub times : Letter → List Letter → ℕ
times x [] = 0
times x (y ∷ ys) = cond (eqb (number x) (number y)) 1 0 + times x ys
