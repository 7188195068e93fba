-- What is kept of a score says its sums, up to the bound.
-- Assumes nothing.
use Rattle.std.proofs.Common.{◌≡◌, ◌∙◌, refl, ap, arith, true, List, [], ◌∷◌, map, ℕ, ◌+◌, length}
use Rattle.score.specs.declared.Shape.{Shape}
use Rattle.score.specs.declared.Shape.TheVariants.{Straight, DaCapo, DalSegno, DaCapoFine, DalSegnoFine, DaCapoCoda, DalSegnoCoda}
use Rattle.score.specs.Times.{Time}
use Rattle.score.specs.Trees.{Leaf, Run, nil}
use Rattle.score.specs.Shapes.{Turn, letter_of, table, Score, score, run_of}
use Rattle.score.specs.Readings.{Valid}
use Rattle.score.specs.Played.{run_plays, turns_play, plays, block_of, beats, heard}
use Rattle.score.specs.Steps.{run_steps, turns_steps, steps}
use Rattle.score.specs.Sums.{total, each}
use Rattle.score.specs.Sizes.{loops, implied, labels}
use Rattle.score.proofs.Calls.{total-append, total_each}
use Rattle.grammar.specs.Tallies.{capped}
use Rattle.grammar.specs.Stretches.{run_tally}
use Rattle.grammar.specs.Parts.{four, once_of, replayed, whole_of}
use Rattle.grammar.proofs.Capped.{add_left, add_right}
use Rattle.played.specs.Played.{total as beats_total}
use Rattle.examining.specs.Figured.{written_of, played_of}

-- what the turns of a shape come to
turns_sum : (Run → ℕ) → Score → List Turn → ℕ
turns_sum f t [] = 0
turns_sum f t (x ∷ xs) = f (run_of t (letter_of x)) + turns_sum f t xs

-- each run once, and the replayed one again
shape_turns : (f : Run → ℕ) → f nil ≡ 0 → (t : Time) (h : Shape) (a b c d : Run) → Valid true (score t h a b c d)
    → four f a b c d + f (replayed h a b) ≡ turns_sum f (score t h a b c d) (table h).plays
unfolding turns_sum
shape_turns f z t Straight a b c d g = omega (arith, ap f g.1, ap f g.2, ap f g.3)
shape_turns f z t DaCapo a b c d g = omega (arith, ap f g.1, ap f g.2, ap f g.3)
shape_turns f z t DalSegno a b c d g = omega (arith, ap f g.2, ap f g.3)
shape_turns f z t DaCapoFine a b c d g = omega (arith, ap f g.2, ap f g.3)
shape_turns f z t DalSegnoFine a b c d g = omega (arith, ap f g.3)
shape_turns f z t DaCapoCoda a b c d g = omega (arith, ap f g.3)
shape_turns f z t DalSegnoCoda a b c d g = omega arith

turns_total : (w : Leaf → ℕ) (t : Score) (xs : List Turn) → turns_sum (λ r. total w (run_plays r)) t xs ≡ total w (turns_play t xs)
unfolding turns_sum
turns_total w t [] = refl
turns_total w t (x ∷ xs) =
    let a = total-append w (run_plays (run_of t (letter_of x))) (turns_play t xs) in
    let b = turns_total w t xs in
    omega arith

steps_total : (t : Score) (xs : List Turn) → turns_sum run_steps t xs ≡ turns_steps t xs
unfolding turns_sum
steps_total t [] = refl
steps_total t (x ∷ xs) = let b = steps_total t xs in omega arith

-- the beats played, by leaves
pub heard_total : (xs : List Leaf) → beats_total (map block_of xs) ≡ total beats xs
heard_total [] = refl
heard_total (x ∷ xs) = let e = heard_total xs in omega arith

-- a weight of the leaves, over all that is played
played_total : (w : Leaf → ℕ) (t : Time) (h : Shape) (a b c d : Run) → Valid true (score t h a b c d)
    → four (λ r. total w (run_plays r)) a b c d + total w (run_plays (replayed h a b)) ≡ total w (plays (score t h a b c d))
played_total w t h a b c d v = shape_turns (λ r. total w (run_plays r)) refl t h a b c d v ∙ turns_total w (score t h a b c d) (table h).plays

pub loops_kept : (t : Score) → (written_of (whole_of t)).loops ≡ capped (loops t)
unfolding once_of
loops_kept (score t h a b c d) = simp add_left (ap capped (omega arith))

pub implied_kept : (t : Score) → (written_of (whole_of t)).implied ≡ capped (implied t)
unfolding once_of
implied_kept (score t h a b c d) = simp add_left (ap capped (omega arith))

pub labels_kept : (t : Score) → (written_of (whole_of t)).labels ≡ capped (labels t)
unfolding once_of
labels_kept (score t h a b c d) = simp add_left (ap capped (omega arith))

pub blocks_kept : (t : Score) → Valid true t → (played_of (whole_of t)).blocks ≡ capped (length (plays t))
unfolding once_of run_tally
blocks_kept (score t h a b c d) v =
    let e = played_total each t h a b c d v in
    let n = total_each (plays (score t h a b c d)) in
    simp (add_left, add_right) (ap capped (omega arith))

pub beats_kept : (t : Score) → Valid true t → (played_of (whole_of t)).beats ≡ capped (beats_total (heard t))
unfolding once_of run_tally
beats_kept (score t h a b c d) v =
    let e = played_total beats t h a b c d v in
    let n = heard_total (plays (score t h a b c d)) in
    simp (add_left, add_right) (ap capped (omega arith))

pub steps_kept : (t : Score) → Valid true t → (played_of (whole_of t)).steps ≡ capped (steps t)
unfolding once_of run_tally
steps_kept (score t h a b c d) v =
    let e = shape_turns run_steps refl t h a b c d v in
    let n = steps_total (score t h a b c d) (table h).plays in
    simp (add_left, add_right) (ap capped (omega arith))
