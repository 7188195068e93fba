-- The written `|:` that are open around each sign, and the first that is too deep.
-- Assumes nothing.
use Rattle.std.specs.Prelude.{Bool, true, false, cond, ◌&&◌, not, List, [], ◌∷◌, ◌++◌, ℕ, suc, ltb, Option, None, Some}
use Rattle.signs.specs.declared.sign.Sign.{Sign}
use Rattle.signs.specs.declared.sign.Sign.TheVariants.{Block, LeftRepeat, RightRepeat, OpenEnding, CloseEnding, Jump, Segno, Coda, ToCoda, Fine}
use Rattle.signs.specs.declared.sign.Sign.TheVariants.{Time as TimeSign}
use Rattle.score.specs.Times.{Time}
use Rattle.std.specs.Prelude.{None as Untimed, Some as Timed}
use Rattle.score.specs.Trees.{Left, written, lacking, Run, nil, ◌▸◌, Item, leaf, repeat, group, Ends, no_more, ◌then◌}
use Rattle.score.specs.Shapes.{Piece, run, sign, table, Score, time_of, shape_of, run_of}
use Rattle.score.specs.Spelling.{signs_of}
use Rattle.score.specs.Numbers.{later}

-- one more is open inside a repeat whose `|:` is written
abbrev pub inner : ℕ → Left → ℕ
inner d written = suc d
inner d lacking = d

-- around the `|:` itself, where it is written
abbrev pub left_around : ℕ → Left → List ℕ
left_around d written = d ∷ []
left_around d lacking = []

-- around each sign of what stands where d are open: a repeat is open up to its `:|`, a group up to its last `]`
abbrev mutual
  pub run_around : ℕ → Run → List ℕ
  run_around d nil = []
  run_around d (r ▸ i) = run_around d r ++ item_around d i

  pub item_around : ℕ → Item → List ℕ
  item_around d (leaf x) = d ∷ []
  item_around d (repeat o r) = left_around d o ++ (run_around (inner d o) r ++ (d ∷ []))
  item_around d (group o m es e) =
      left_around d o ++ (run_around (inner d o) m ++ (ends_around (inner d o) es ++ (inner d o ∷ (run_around (inner d o) e ++ (d ∷ [])))))

  pub ends_around : ℕ → Ends → List ℕ
  ends_around d no_more = []
  ends_around d (es then e) = ends_around d es ++ (d ∷ (run_around d e ++ (d ∷ d ∷ [])))

abbrev pub time_around : Time → List ℕ
time_around Untimed = []
time_around (Timed (m, n)) = 0 ∷ []

abbrev pub pieces_around : Score → List Piece → List ℕ
pieces_around t [] = []
pieces_around t (run x ∷ ps) = run_around 0 (run_of t x) ++ pieces_around t ps
pieces_around t (sign y ∷ ps) = 0 ∷ pieces_around t ps

-- around each sign of a score
abbrev pub around : Score → List ℕ
around t = time_around (time_of t) ++ pieces_around t (table (shape_of t)).signs

abbrev pub is_left : Sign → Bool
is_left (Block k n) = false
is_left (TimeSign m n) = false
is_left LeftRepeat = true
is_left RightRepeat = false
is_left OpenEnding = false
is_left CloseEnding = false
is_left (Jump j) = false
is_left Segno = false
is_left Coda = false
is_left ToCoda = false
is_left Fine = false

-- the place of the first `|:` with n or more around it, if there is one
abbrev pub first_deep : ℕ → List Sign → List ℕ → Option ℕ
first_deep n [] ds = None
first_deep n (x ∷ s) [] = None
first_deep n (x ∷ s) (d ∷ ds) = cond (is_left x && not (ltb d n)) (Some 0) (later (first_deep n s ds))

-- where n may be open around a sign, the place of the first `|:` that opens one more
abbrev pub too_deep : ℕ → Score → Option ℕ
too_deep n t = first_deep n (signs_of t) (around t)
