-- The steps of a score, by document 01's formulas.
-- Assumes nothing.
use Rattle.std.specs.Prelude.{List, [], ◌∷◌, ℕ, suc, ◌+◌, ◌*◌}
use Rattle.score.specs.Trees.{Run, nil, ◌▸◌, Item, leaf, repeat, group, Ends, no_more, ◌then◌}
use Rattle.score.specs.Shapes.{Turn, letter_of, table, Score, shape_of, run_of}

-- the number of endings but the last
abbrev pub count : Ends → ℕ
count no_more = 0
count (es then e) = suc (count es)

abbrev mutual
  pub run_steps : Run → ℕ
  run_steps nil = 0
  run_steps (r ▸ i) = run_steps r + item_steps i

  pub item_steps : Item → ℕ
  item_steps (leaf x) = 1
  item_steps (repeat o r) = 3 + 2 * run_steps r
  item_steps (group o m es e) = 1 + suc (count es) * (run_steps m + 2 * suc (count es) + 1) + (ends_steps es + run_steps e)

  pub ends_steps : Ends → ℕ
  ends_steps no_more = 0
  ends_steps (es then e) = ends_steps es + run_steps e

-- the steps of what the turns of a shape play
abbrev pub turns_steps : Score → List Turn → ℕ
turns_steps t [] = 0
turns_steps t (x ∷ xs) = run_steps (run_of t (letter_of x)) + turns_steps t xs

abbrev pub steps : Score → ℕ
steps t = turns_steps t (table (shape_of t)).plays + (table (shape_of t)).steps
