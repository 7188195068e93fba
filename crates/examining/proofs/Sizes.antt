-- The figures of a score are small beside its signs, its loops and its blocks played.
-- Assumes nothing.
use Rattle.std.proofs.Common.{◌≡◌, ◌∙◌, refl, sym, ap, arith, true, List, [], ◌∷◌, ℕ, ◌+◌, ◌*◌, ◌≤◌, length, length-append}
use Rattle.signs.specs.declared.sign.Sign.{Sign}
use Rattle.signs.specs.declared.sign.Sign.TheVariants.{Block}
use Rattle.score.specs.declared.Shape.TheVariants.{Straight, DaCapo, DalSegno, DaCapoFine, DalSegnoFine, DaCapoCoda, DalSegnoCoda}
use Rattle.score.specs.Trees.{Leaf, Left, written, lacking, Run, nil, ◌▸◌, Item, leaf, repeat, group, Ends, no_more, ◌then◌}
use Rattle.score.specs.Shapes.{Score, score}
use Rattle.score.specs.Spelling.{run_signs, item_signs, ends_signs, signs_of}
use Rattle.score.specs.Readings.{Valid}
use Rattle.score.specs.Played.{plays, beats}
use Rattle.score.specs.Steps.{count}
use Rattle.score.specs.Numbers.{written as beats_written}
use Rattle.score.specs.Calls.{calls, names}
use Rattle.score.specs.Sums.{total, leaves}
use Rattle.score.specs.Sizes.{lacks, run_loops, item_loops, ends_loops, run_implied, item_implied, ends_implied, run_labels, item_labels, ends_labels, loops, implied, labels}
use Rattle.score.proofs.Bound.{AllLow, called_low}
use Rattle.score.proofs.Calls.{blocks_played, beats_played}
use Rattle.score.proofs.Written.{block_signs}

-- the loops whose `|:` lacks are among the loops
lacks_few : (o : Left) → lacks o ≤ 1
lacks_few written = omega arith
lacks_few lacking = omega arith

mutual
  run_implied_few : (r : Run) → run_implied r ≤ run_loops r
  run_implied_few nil = omega arith
  run_implied_few (r ▸ i) = omega (arith, run_implied_few r, item_implied_few i)

  item_implied_few : (i : Item) → item_implied i ≤ item_loops i
  item_implied_few (leaf x) = omega arith
  item_implied_few (repeat o r) = omega (arith, lacks_few o, run_implied_few r)
  item_implied_few (group o m es e) = omega (arith, lacks_few o, run_implied_few m, ends_implied_few es, run_implied_few e)

  ends_implied_few : (es : Ends) → ends_implied es ≤ ends_loops es
  ends_implied_few no_more = omega arith
  ends_implied_few (es then e) = omega (arith, ends_implied_few es, run_implied_few e)

pub implied_few : (t : Score) → implied t ≤ loops t
implied_few (score t h a b c d) = omega (arith, run_implied_few a, run_implied_few b, run_implied_few c, run_implied_few d)

-- a label has a sign of its own
mutual
  run_labels_few : (r : Run) → run_labels r ≤ length (run_signs r)
  run_labels_few nil = omega arith
  run_labels_few (r ▸ i) = simp length-append (omega (arith, run_labels_few r, item_labels_few i))

  item_labels_few : (i : Item) → item_labels i ≤ length (item_signs i)
  item_labels_few (leaf x) = omega arith
  item_labels_few (repeat o r) = simp length-append (omega (arith, run_labels_few r))
  item_labels_few (group o m es e) = simp length-append (omega (arith, run_labels_few m, ends_labels_few es, run_labels_few e))

  ends_labels_few : (es : Ends) → ends_labels es + count es ≤ length (ends_signs es)
  ends_labels_few no_more = omega arith
  ends_labels_few (es then e) = simp length-append (omega (arith, ends_labels_few es, run_labels_few e))

pub labels_few : (t : Score) → Valid true t → labels t ≤ length (signs_of t)
labels_few (score t Straight a b c d) g = simp length-append (omega (arith, run_labels_few a, ap run_labels g.1, ap run_labels g.2, ap run_labels g.3))
labels_few (score t DaCapo a b c d) g = simp length-append (omega (arith, run_labels_few a, ap run_labels g.1, ap run_labels g.2, ap run_labels g.3))
labels_few (score t DalSegno a b c d) g = simp length-append (omega (arith, run_labels_few a, run_labels_few b, ap run_labels g.2, ap run_labels g.3))
labels_few (score t DaCapoFine a b c d) g = simp length-append (omega (arith, run_labels_few a, run_labels_few b, ap run_labels g.2, ap run_labels g.3))
labels_few (score t DalSegnoFine a b c d) g = simp length-append (omega (arith, run_labels_few a, run_labels_few b, run_labels_few c, ap run_labels g.3))
labels_few (score t DaCapoCoda a b c d) g = simp length-append (omega (arith, run_labels_few a, run_labels_few b, run_labels_few c, ap run_labels g.3))
labels_few (score t DalSegnoCoda a b c d) g = simp length-append (omega (arith, run_labels_few a, run_labels_few b, run_labels_few c, run_labels_few d))

-- the beats of the blocks are those that the signs write
leaves_total : (s : List Sign) → total beats (leaves s) ≡ beats_written s
leaves_total [] = refl
leaves_total (Block k l ∷ s) = let e = leaves_total s in omega arith
leaves_total (_ ∷ s) = let e = leaves_total s in omega arith

total_low : (n : ℕ) (xs : List Leaf) → total beats xs ≤ n → AllLow n xs
total_low n [] h = tt
total_low n (x ∷ xs) h = (omega arith, total_low n xs (omega arith))

-- each block played has at most the beats that are written
pub beats_few : (t : Score) → total beats (plays t) ≤ beats_written (signs_of t) * length (plays t)
beats_few t =
    let e : total beats (names (calls t)) ≡ beats_written (signs_of t) = ap (total beats) (sym (block_signs t)) ∙ leaves_total (signs_of t) in
    let a = called_low (beats_written (signs_of t)) (calls t) (total_low (beats_written (signs_of t)) (names (calls t)) (omega arith)) in
    rw (beats_played t, blocks_played t) a
