-- The signs that a tree is written with.
-- Assumes nothing.
use Rattle.std.specs.Prelude.{List, [], ◌∷◌, ◌++◌}
use Rattle.signs.specs.declared.sign.Sign.{Sign}
use Rattle.signs.specs.declared.sign.Sign.TheVariants.{Block, LeftRepeat, RightRepeat, OpenEnding, CloseEnding}
use Rattle.signs.specs.declared.sign.Sign.TheVariants.{Time as TimeSign}
use Rattle.score.specs.Trees.{Leaf, block, Left, written, lacking, Run, nil, ◌▸◌, Item, leaf, repeat, group, Ends, no_more, ◌then◌}
use Rattle.score.specs.Times.{Time}
use Rattle.std.specs.Prelude.{None as Untimed, Some as Timed}
use Rattle.score.specs.Shapes.{Piece, run, sign, table, Score, time_of, shape_of, run_of}

abbrev pub leaf_sign : Leaf → Sign
leaf_sign (block k l) = Block k l

-- a `|:`, where it is written
abbrev pub left_signs : Left → List Sign
left_signs written = LeftRepeat ∷ []
left_signs lacking = []

abbrev mutual
  pub run_signs : Run → List Sign
  run_signs nil = []
  run_signs (r ▸ i) = run_signs r ++ item_signs i

  pub item_signs : Item → List Sign
  item_signs (leaf x) = leaf_sign x ∷ []
  item_signs (repeat o r) = left_signs o ++ (run_signs r ++ (RightRepeat ∷ []))
  item_signs (group o m es e) = left_signs o ++ (run_signs m ++ (ends_signs es ++ (OpenEnding ∷ (run_signs e ++ (CloseEnding ∷ [])))))

  -- endings, with a `:|` after each
  pub ends_signs : Ends → List Sign
  ends_signs no_more = []
  ends_signs (es then e) = ends_signs es ++ (OpenEnding ∷ (run_signs e ++ (CloseEnding ∷ RightRepeat ∷ [])))

abbrev pub time_signs : Time → List Sign
time_signs Untimed = []
time_signs (Timed (m, n)) = TimeSign m n ∷ []

-- the pieces of a shape, with the score's runs
abbrev pub spelled : Score → List Piece → List Sign
spelled t [] = []
spelled t (run x ∷ ps) = run_signs (run_of t x) ++ spelled t ps
spelled t (sign y ∷ ps) = y ∷ spelled t ps

-- the signs of a score
abbrev pub signs_of : Score → List Sign
signs_of t = time_signs (time_of t) ++ spelled t (table (shape_of t)).signs
