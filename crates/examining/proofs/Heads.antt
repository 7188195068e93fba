-- The time sign and the blocks of a score are those of its words.
-- Assumes nothing.
use Rattle.std.proofs.Common.{◌≡◌, ◌∙◌, refl, ap, arith, cond, List, [], ◌∷◌, ◌++◌, append_assoc, map, ℕ, ◌+◌, length, Some, None}
use Rattle.std.proofs.lemmas.List.Sums.{sum_by-cons}
use Rattle.signs.specs.declared.sign.Sign.{Sign}
use Rattle.signs.specs.declared.sign.Sign.TheVariants.{Block, RightRepeat, OpenEnding, CloseEnding}
use Rattle.signs.specs.Words.{sign_of}
use Rattle.score.specs.declared.Shape.TheVariants.{Straight, DaCapo, DalSegno, DaCapoFine, DalSegnoFine, DaCapoCoda, DalSegnoCoda}
use Rattle.score.specs.Times.{Time as TimeOf}
use Rattle.score.specs.Trees.{block, written, lacking, Run, nil, ◌▸◌, Item, leaf, repeat, group, Ends, no_more, ◌then◌}
use Rattle.score.specs.Shapes.{Score, score, time_of}
use Rattle.score.specs.Spelling.{run_signs, item_signs, ends_signs, signs_of}
use Rattle.score.specs.Sums.{leaves}
use Rattle.examining.specs.Figured.{time_sign, time_in, is_block, blocks_in}

abbrev first_time : List Sign → TimeOf
first_time [] = None
first_time (x ∷ s) = time_sign (Some x)

-- no run begins with a time sign
mutual
  run_time : (r : Run) (s : List Sign) → first_time s ≡ None → first_time (run_signs r ++ s) ≡ None
  run_time nil s h = h
  run_time (r ▸ i) s h = rw (append_assoc (run_signs r) (item_signs i) s) (run_time r (item_signs i ++ s) (item_time i s h))

  item_time : (i : Item) (s : List Sign) → first_time s ≡ None → first_time (item_signs i ++ s) ≡ None
  item_time (leaf (block k l)) s h = refl
  item_time (repeat written r) s h = refl
  item_time (repeat lacking r) s h = rw (append_assoc (run_signs r) (RightRepeat ∷ []) s) (run_time r (RightRepeat ∷ s) refl)
  item_time (group written m es e) s h = refl
  item_time (group lacking m es e) s h =
      simp append_assoc (run_time m (ends_signs es ++ (OpenEnding ∷ (run_signs e ++ (CloseEnding ∷ s)))) (ends_time es (OpenEnding ∷ (run_signs e ++ (CloseEnding ∷ s))) refl))

  ends_time : (es : Ends) (s : List Sign) → first_time s ≡ None → first_time (ends_signs es ++ s) ≡ None
  ends_time no_more s h = h
  ends_time (es then e) s h =
      simp append_assoc (ends_time es (OpenEnding ∷ (run_signs e ++ (CloseEnding ∷ RightRepeat ∷ s))) refl)

time_first : (t : Score) → first_time (signs_of t) ≡ time_of t
time_first (score (Some (m, n)) h a b c d) = refl
time_first (score None Straight a b c d) = run_time a [] refl
time_first (score None DaCapo a b c d) = run_time a _ refl
time_first (score None DalSegno a b c d) = run_time a _ refl
time_first (score None DaCapoFine a b c d) = run_time a _ refl
time_first (score None DalSegnoFine a b c d) = run_time a _ refl
time_first (score None DaCapoCoda a b c d) = run_time a _ refl
time_first (score None DalSegnoCoda a b c d) = run_time a _ refl

first_word : (w : List ℕ) (s : List Sign) → map sign_of w ≡ map Some s → time_in w ≡ first_time s
first_word [] [] e = refl
first_word [] (x ∷ s) e = absurd (cc)
first_word (v ∷ w) [] e = absurd (cc)
first_word (v ∷ w) (x ∷ s) e = let h : sign_of v ≡ Some x = cc in ap time_sign h

-- the time sign of the words is that of the score
pub time_is : (w : List ℕ) (t : Score) → map sign_of w ≡ map Some (signs_of t) → time_in w ≡ time_of t
time_is w t e = first_word w (signs_of t) e ∙ time_first t

block_leaves : (x : Sign) (s : List Sign) → length (leaves (x ∷ s)) ≡ cond (is_block (Some x)) 1 0 + length (leaves s)
block_leaves (Block k l) s = omega arith
block_leaves _ s = omega arith

-- the blocks of the words are the score's
pub blocks_is : (w : List ℕ) (s : List Sign) → map sign_of w ≡ map Some s → blocks_in w ≡ length (leaves s)
blocks_is [] [] e = refl
blocks_is [] (x ∷ s) e = absurd (cc)
blocks_is (v ∷ w) [] e = absurd (cc)
blocks_is (v ∷ w) (x ∷ s) e =
    let h : sign_of v ≡ Some x = cc in
    let r : map sign_of w ≡ map Some s = cc in
    let i = blocks_is w s r in
    sum_by-cons (λ y. cond (is_block (sign_of y)) 1 0) v w ∙ rw (h, block_leaves x s, i)
