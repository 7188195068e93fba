-- The played list: for each block played k, l and z.
-- Assumes nothing.
use Rattle.std.specs.Prelude.{List, [], ◌∷◌, ◌++◌, map, ℕ}
use Rattle.played.specs.declared.Played.{Played}
use Rattle.played.specs.Played.{Block, entries}
use Rattle.score.specs.Trees.{Leaf, block, Run, nil, ◌▸◌, Item, leaf, repeat, group, Ends, no_more, ◌then◌}
use Rattle.score.specs.Shapes.{Turn, letter_of, table, Score, shape_of, run_of}

-- the leaves in the order in which they are played
abbrev mutual
  pub run_plays : Run → List Leaf
  run_plays nil = []
  run_plays (r ▸ i) = run_plays r ++ item_plays i

  pub item_plays : Item → List Leaf
  item_plays (leaf x) = x ∷ []
  item_plays (repeat o r) = run_plays r ++ run_plays r
  item_plays (group o m es e) = ends_play (run_plays m) es ++ (run_plays m ++ run_plays e)

  -- M before each ending
  pub ends_play : List Leaf → Ends → List Leaf
  ends_play m no_more = []
  ends_play m (es then e) = ends_play m es ++ (m ++ run_plays e)

-- what the turns of a shape play; a replayed run is played with all its repeats
abbrev pub turns_play : Score → List Turn → List Leaf
turns_play t [] = []
turns_play t (x ∷ xs) = run_plays (run_of t (letter_of x)) ++ turns_play t xs

abbrev pub plays : Score → List Leaf
plays t = turns_play t (table (shape_of t)).plays

-- the block that a leaf plays
abbrev pub block_of : Leaf → Block
block_of (block k l) = record { k = k; l = l }

-- the beats of a leaf
abbrev pub beats : Leaf → ℕ
beats x = (block_of x).l

-- the blocks that a score plays
abbrev pub heard : Score → List Block
heard t = map block_of (plays t)

abbrev pub played : Score → List Played
played t = entries 0 (heard t)
