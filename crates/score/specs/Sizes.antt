-- The loops, labels and instructions of a score's listing.
-- Assumes nothing.
use Rattle.std.specs.Prelude.{List, [], ◌∷◌, ℕ, suc, ◌+◌, ◌*◌, length}
use Rattle.signs.specs.declared.sign.Sign.{Sign}
use Rattle.signs.specs.declared.sign.Sign.TheVariants.{Block, Time, LeftRepeat, RightRepeat, OpenEnding, CloseEnding, Jump, Segno, Coda, ToCoda, Fine}
use Rattle.score.specs.Trees.{Left, written, lacking, Run, nil, ◌▸◌, Item, leaf, repeat, group, Ends, no_more, ◌then◌}
use Rattle.score.specs.Shapes.{Piece, run, sign, table, Score, score, shape_of}
use Rattle.score.specs.Spelling.{signs_of}
use Rattle.score.specs.Steps.{count}
use Rattle.score.specs.Sums.{leaves}

-- every repeat and every group is a loop
abbrev mutual
  pub run_loops : Run → ℕ
  run_loops nil = 0
  run_loops (r ▸ i) = run_loops r + item_loops i

  pub item_loops : Item → ℕ
  item_loops (leaf x) = 0
  item_loops (repeat o r) = 1 + run_loops r
  item_loops (group o m es e) = 1 + run_loops m + (ends_loops es + run_loops e)

  pub ends_loops : Ends → ℕ
  ends_loops no_more = 0
  ends_loops (es then e) = ends_loops es + run_loops e

-- a loop whose `|:` lacks
abbrev pub lacks : Left → ℕ
lacks written = 0
lacks lacking = 1

-- the loops whose `|:` lacks: they nest, each at the start of the next
abbrev mutual
  pub run_implied : Run → ℕ
  run_implied nil = 0
  run_implied (r ▸ i) = run_implied r + item_implied i

  pub item_implied : Item → ℕ
  item_implied (leaf x) = 0
  item_implied (repeat o r) = lacks o + run_implied r
  item_implied (group o m es e) = lacks o + run_implied m + (ends_implied es + run_implied e)

  pub ends_implied : Ends → ℕ
  ends_implied no_more = 0
  ends_implied (es then e) = ends_implied es + run_implied e

-- every ending is a label
abbrev mutual
  pub run_labels : Run → ℕ
  run_labels nil = 0
  run_labels (r ▸ i) = run_labels r + item_labels i

  pub item_labels : Item → ℕ
  item_labels (leaf x) = 0
  item_labels (repeat o r) = run_labels r
  item_labels (group o m es e) = suc (count es) + run_labels m + (ends_labels es + run_labels e)

  pub ends_labels : Ends → ℕ
  ends_labels no_more = 0
  ends_labels (es then e) = ends_labels es + run_labels e

-- the loop that a sign between runs makes: D.C. or D.S.
abbrev pub sign_loops : Sign → ℕ
sign_loops (Jump j) = 1
sign_loops (Block k n) = 0
sign_loops (Time m n) = 0
sign_loops LeftRepeat = 0
sign_loops RightRepeat = 0
sign_loops OpenEnding = 0
sign_loops CloseEnding = 0
sign_loops Segno = 0
sign_loops Coda = 0
sign_loops ToCoda = 0
sign_loops Fine = 0

-- the label that a sign between runs makes: Fine or ToCoda
abbrev pub sign_labels : Sign → ℕ
sign_labels ToCoda = 1
sign_labels Fine = 1
sign_labels (Block k n) = 0
sign_labels (Time m n) = 0
sign_labels LeftRepeat = 0
sign_labels RightRepeat = 0
sign_labels OpenEnding = 0
sign_labels CloseEnding = 0
sign_labels (Jump j) = 0
sign_labels Segno = 0
sign_labels Coda = 0

-- what the signs between the runs of a shape come to
abbrev pub between : (Sign → ℕ) → List Piece → ℕ
between f [] = 0
between f (run x ∷ ps) = between f ps
between f (sign y ∷ ps) = f y + between f ps

-- what the runs of a score come to; those that its shape lacks are empty
abbrev pub over_runs : (Run → ℕ) → Score → ℕ
over_runs f (score t h a b c d) = f a + (f b + (f c + f d))

abbrev pub loops : Score → ℕ
loops t = between sign_loops (table (shape_of t)).signs + over_runs run_loops t

abbrev pub implied : Score → ℕ
implied t = over_runs run_implied t

abbrev pub labels : Score → ℕ
labels t = between sign_labels (table (shape_of t)).signs + over_runs run_labels t

-- a block is one instruction; a loop two, its mark and its `rep`; a label two, its mark and the jump to it
abbrev pub instructions : Score → ℕ
instructions t = length (leaves (signs_of t)) + (2 * loops t + 2 * labels t)
