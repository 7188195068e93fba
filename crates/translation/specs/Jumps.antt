-- What the signs of a D.C. or D.S. give, and where.
-- Assumes nothing.
use Rattle.std.specs.Prelude.{List, [], ◌∷◌, ◌++◌}
use Rattle.signs.specs.declared.sign.Jumped.TheVariants.{Dc, DcCoda, DcFine, Ds, DsCoda, DsFine}
use Rattle.signs.specs.declared.sign.Sign.{Sign}
use Rattle.signs.specs.declared.sign.Sign.TheVariants.{Block, Time, LeftRepeat, RightRepeat, OpenEnding, CloseEnding, Jump, Segno, Coda, ToCoda, Fine}
use Rattle.score.specs.Shapes.{Letter, Piece, run, sign}

-- A part of a score's listing: a run, or one of the jump's own four instructions.
pub data Part : Type 0 where
  the_run : Letter → Part
  the_loop the_rep the_jmp the_lb : Part

-- what a piece of a shape gives before everything else, at its place, and at the end
pub record Gives : Type 0 where
  pub first : List Part
  pub here : List Part
  pub last : List Part

abbrev row : List Part → List Part → List Part → Gives
row f h l = record { first = f; here = h; last = l }

-- The table: `DC..` puts `loop` before everything else and `DS..` puts it at Segno; at the sign itself stands `rep`. Fine and ToCoda give `jmp`; its `lb` stands at the end for Fine and at Coda for ToCoda.
abbrev pub sign_gives : Sign → Gives
sign_gives (Jump Dc) = row (the_loop ∷ []) (the_rep ∷ []) []
sign_gives (Jump DcCoda) = row (the_loop ∷ []) (the_rep ∷ []) []
sign_gives (Jump DcFine) = row (the_loop ∷ []) (the_rep ∷ []) []
sign_gives (Jump Ds) = row [] (the_rep ∷ []) []
sign_gives (Jump DsCoda) = row [] (the_rep ∷ []) []
sign_gives (Jump DsFine) = row [] (the_rep ∷ []) []
sign_gives Segno = row [] (the_loop ∷ []) []
sign_gives Fine = row [] (the_jmp ∷ []) (the_lb ∷ [])
sign_gives ToCoda = row [] (the_jmp ∷ []) []
sign_gives Coda = row [] (the_lb ∷ []) []
sign_gives (Block k l) = row [] [] []
sign_gives (Time m n) = row [] [] []
sign_gives LeftRepeat = row [] [] []
sign_gives RightRepeat = row [] [] []
sign_gives OpenEnding = row [] [] []
sign_gives CloseEnding = row [] [] []

abbrev pub piece_gives : Piece → Gives
piece_gives (run x) = row [] (the_run x ∷ []) []
piece_gives (sign y) = sign_gives y

-- one column of the table, for all pieces of a shape
abbrev pub column : (Gives → List Part) → List Piece → List Part
column c [] = []
column c (p ∷ ps) = c (piece_gives p) ++ column c ps

-- the parts of a listing, in order
abbrev pub parts_of : List Piece → List Part
parts_of ps = column (λ g. g.first) ps ++ (column (λ g. g.here) ps ++ column (λ g. g.last) ps)
