-- The played list and the calls of a score agree: each block is played as often as its place calls for it.
-- Assumes nothing.
use mathlib.Core.Path.{◌≡◌, refl, sym, ◌∙◌}
use mathlib.Core.List.{List, [], ◌∷◌, ◌++◌}
use Prim.Native.Nat.{ℕ, suc, ◌+◌, ◌*◌}
use native.Mathlib.Omega.{arith}
use lib.ListN.{length}
use Rattle.score.specs.Trees.{Leaf, Run, nil, ◌▸◌, Item, leaf, repeat, group, Ends, no_more, ◌then◌}
use Rattle.score.specs.declared.Shape.{Shape}
use Rattle.score.specs.declared.Shape.TheVariants.{Straight, DaCapo, DalSegno, DaCapoFine, DalSegnoFine, DaCapoCoda, DalSegnoCoda}
use Rattle.score.specs.Times.{Time}
use Rattle.score.specs.Shapes.{Letter, letter_of, Turn, letters_of, table, Score, score, run_of}
use Rattle.score.specs.Played.{run_plays, item_plays, ends_play, turns_play, plays, beats}
use Rattle.score.specs.Steps.{count}
use Rattle.score.specs.Calls.{Call, run_calls, item_calls, ends_calls, times_of, letters_calls, calls}
use Rattle.score.specs.Sums.{total, called, each, only}

module _ (w : Leaf → ℕ) where
  pub total-append : (u v : List Leaf) → total w (u ++ v) ≡ total w u + total w v
  total-append [] v = omega arith
  total-append (x ∷ u) v = let e = total-append u v in omega arith

  called-append : (u v : List Call) → called w (u ++ v) ≡ called w u + called w v
  called-append [] v = omega arith
  called-append (c ∷ u) v = let e = called-append u v in omega arith

  mutual
    run_called : (r : Run) (f : ℕ) → called w (run_calls r f) ≡ f * total w (run_plays r)
    run_called nil f = omega arith
    run_called (r ▸ i) f =
        let a = called-append (run_calls r f) (item_calls i f) in
        let b = total-append (run_plays r) (item_plays i) in
        let c = run_called r f in
        let d = item_called i f in
        rw b (omega arith)

    item_called : (i : Item) (f : ℕ) → called w (item_calls i f) ≡ f * total w (item_plays i)
    item_called (leaf x) f = omega arith
    item_called (repeat o r) f = rw (total-append (run_plays r) (run_plays r)) (run_called r (2 * f) ∙ omega arith)
    item_called (group o m es e) f =
        let a = called-append (run_calls m (suc (count es) * f)) (ends_calls es f ++ run_calls e f) in
        let b = called-append (ends_calls es f) (run_calls e f) in
        let c = run_called m (suc (count es) * f) in
        let d = ends_called es f (run_plays m) in
        let g = run_called e f in
        rw (total-append (ends_play (run_plays m) es) (run_plays m ++ run_plays e), total-append (run_plays m) (run_plays e)) (omega arith)

    ends_called : (es : Ends) (f : ℕ) (m : List Leaf) → called w (ends_calls es f) + count es * f * total w m ≡ f * total w (ends_play m es)
    ends_called no_more f m = omega arith
    ends_called (es then e) f m =
        let a = called-append (ends_calls es f) (run_calls e f) in
        let b = ends_called es f m in
        let c = run_called e f in
        rw (total-append (ends_play m es) (m ++ run_plays e), total-append m (run_plays e)) (omega arith)

  -- what the runs of a shape weigh, by its letters and by its turns
  written : Score → List Letter → ℕ
  written t [] = 0
  written t (x ∷ xs) = times_of t x * total w (run_plays (run_of t x)) + written t xs

  heard : Score → List Turn → ℕ
  heard t [] = 0
  heard t (y ∷ ys) = total w (run_plays (run_of t (letter_of y))) + heard t ys

  letters_called : (t : Score) (xs : List Letter) → called w (letters_calls t xs) ≡ written t xs
  unfolding written
  letters_called t [] = refl
  letters_called t (x ∷ xs) =
      let a = called-append (run_calls (run_of t x) (times_of t x)) (letters_calls t xs) in
      let b = run_called (run_of t x) (times_of t x) in
      let c = letters_called t xs in
      omega arith

  turns_total : (t : Score) (ys : List Turn) → total w (turns_play t ys) ≡ heard t ys
  unfolding heard
  turns_total t [] = refl
  turns_total t (y ∷ ys) =
      let a = total-append (run_plays (run_of t (letter_of y))) (turns_play t ys) in
      let b = turns_total t ys in
      omega arith

  shape_balance : (t : Time) (h : Shape) (a b c d : Run) → written (score t h a b c d) (letters_of (table h).signs) ≡ heard (score t h a b c d) (table h).plays
  unfolding written heard
  shape_balance t Straight a b c d = omega arith
  shape_balance t DaCapo a b c d = omega arith
  shape_balance t DalSegno a b c d = omega arith
  shape_balance t DaCapoFine a b c d = omega arith
  shape_balance t DalSegnoFine a b c d = omega arith
  shape_balance t DaCapoCoda a b c d = omega arith
  shape_balance t DalSegnoCoda a b c d = omega arith

  -- Whatever the blocks weigh, the played list weighs as much as the calls.
  pub balance : (t : Score) → total w (plays t) ≡ called w (calls t)
  balance (score t h a b c d) =
      let s : Score = score t h a b c d in
      turns_total s (table h).plays ∙ sym (shape_balance t h a b c d) ∙ sym (letters_called s (letters_of (table h).signs))

pub total_each : (l : List Leaf) → total each l ≡ length l
total_each [] = refl
total_each (x ∷ l) = let e = total_each l in omega arith

-- The blocks played are the sum of the calls.
pub blocks_played : (t : Score) → length (plays t) ≡ called each (calls t)
blocks_played t = sym (total_each (plays t)) ∙ balance each t

-- The beats played are the sum of the calls, each times its length.
pub beats_played : (t : Score) → total beats (plays t) ≡ called beats (calls t)
beats_played = balance beats

-- A block stands in the played list as often as the calls for it say.
pub played_as_called : (x : Leaf) (t : Score) → total (only x) (plays t) ≡ called (only x) (calls t)
played_as_called x = balance (only x)
