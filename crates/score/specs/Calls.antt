-- The times that each written block's place calls for it: a product, which never looks at the played list.
-- Assumes nothing.
use Rattle.std.specs.Prelude.{List, [], ◌∷◌, ◌++◌, map, ℕ, suc, ◌*◌}
use Rattle.score.specs.Trees.{Leaf, Run, nil, ◌▸◌, Item, leaf, repeat, group, Ends, no_more, ◌then◌}
use Rattle.score.specs.Shapes.{Letter, letter_of, letters_of, times, table, Score, shape_of, run_of}
use Rattle.score.specs.Steps.{count}

-- a written leaf, and how often its place calls for it
pub record Call : Type 0 where
  pub what : Leaf
  pub often : ℕ

-- the calls in written order; f is the product of what is around
abbrev mutual
  pub run_calls : Run → ℕ → List Call
  run_calls nil f = []
  run_calls (r ▸ i) f = run_calls r f ++ item_calls i f

  pub item_calls : Item → ℕ → List Call
  item_calls (leaf x) f = record { what = x; often = f } ∷ []
  item_calls (repeat o r) f = run_calls r (2 * f)
  item_calls (group o m es e) f = run_calls m (suc (count es) * f) ++ (ends_calls es f ++ run_calls e f)

  pub ends_calls : Ends → ℕ → List Call
  ends_calls no_more f = []
  ends_calls (es then e) f = ends_calls es f ++ run_calls e f

-- the times that a score's shape plays a run
abbrev pub times_of : Score → Letter → ℕ
times_of t x = times x (map letter_of (table (shape_of t)).plays)

abbrev pub letters_calls : Score → List Letter → List Call
letters_calls t [] = []
letters_calls t (x ∷ xs) = run_calls (run_of t x) (times_of t x) ++ letters_calls t xs

abbrev pub calls : Score → List Call
calls t = letters_calls t (letters_of (table (shape_of t)).signs)

-- the written leaves of calls, in order
abbrev pub names : List Call → List Leaf
names = map (λ c. c.what)
