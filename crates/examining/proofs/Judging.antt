-- What is answered for words that are a score is what the definition says of it.
-- Assumes nothing.
use Rattle.std.proofs.Common.{◌≡◌, ◌∙◌, refl, sym, ap, arith, Bool, true, false, List, map, ℕ, ◌+◌, ◌*◌, ◌≤◌, mul-le-mul, ltb, length, Option, Some, None, Ok}
use Rattle.std.proofs.lemmas.Bool.Decides.{nat_tests}
use Rattle.std.proofs.lemmas.List.{length-map}
use Rattle.std.proofs.lemmas.List.Sums.{count_by-le-length}
use Rattle.refusals.specs.Limits.{document01}
use Rattle.refusals.specs.declared.Refusal.TheVariants.{TooDeep}
use Rattle.signs.specs.Words.{sign_of}
use Rattle.played.specs.Played.{total as beats_total}
use Rattle.score.specs.declared.Shape.{Shape}
use Rattle.score.specs.declared.Figures.{Figures}
use Rattle.score.specs.Times.{Time}
use Rattle.score.specs.Shapes.{Score, score, shape_of}
use Rattle.score.specs.Spelling.{signs_of}
use Rattle.score.specs.Readings.{Valid}
use Rattle.score.specs.Played.{plays, beats, heard}
use Rattle.score.specs.Steps.{steps}
use Rattle.score.specs.Sums.{total, leaves}
use Rattle.score.specs.Numbers.{written, first_break}
use Rattle.score.specs.Depth.{too_deep}
use Rattle.score.specs.Sizes.{loops, implied, labels}
use Rattle.score.specs.Examined.{figures, refused_at}
use Rattle.score.specs.Examined.{sized as sized_score, judged as judged_score}
use Rattle.grammar.specs.declared.tally.Tally.{Tally}
use Rattle.grammar.specs.Tallies.{capped}
use Rattle.grammar.specs.Stretches.{deep_of, deep_from}
use Rattle.grammar.specs.Parts.{whole_of}
use Rattle.numbers.proofs.Listed.{numbers_of_signs, written_within, beats_of_signs}
use Rattle.examining.specs.Figured.{written_of, is_block, figured}
use Rattle.examining.specs.Figured.{instructions as instructions_of}
use Rattle.examining.specs.Judged.{sized, judged, beats_written}
use Rattle.examining.proofs.Heads.{time_is, blocks_is}
use Rattle.examining.proofs.Sizes.{implied_few, labels_few, beats_few}
use Rattle.score.proofs.Bound.{steps_within}
use Rattle.examining.proofs.Totals.{loops_kept, implied_kept, labels_kept, blocks_kept, beats_kept, steps_kept, heard_total}

-- a number within the bound is itself
within_bound : (n : ℕ) → n ≤ 1000000000000 → capped n ≡ n
unfolding capped
within_bound n h = omega arith

-- a limit within the bound is passed by a number as by that number up to the bound
past_bound : (l n : ℕ) → l ≤ 999999999999 → ltb l (capped n) ≡ ltb l n
unfolding capped
past_bound l n h = grind (arith, nat_tests)

same_figures : {h h' : Shape} {t t' : Time} {a b c d e f g k a' b' c' d' e' f' g' k' : ℕ} → h ≡ h' → t ≡ t' → a ≡ a' → b ≡ b' → c ≡ c' → d ≡ d' → e ≡ e' → f ≡ f' → g ≡ g' → k ≡ k'
    → ◌≡◌ {A = Figures} (record { shape = h; time = t; loops = a; implied = b; labels = c; instructions = d; blocks = e; written = f; beats = g; steps = k })
    (record { shape = h'; time = t'; loops = a'; implied = b'; labels = c'; instructions = d'; blocks = e'; written = f'; beats = g'; steps = k' })
same_figures p q r s t u v w x y = cc

-- the instructions of so many blocks, loops and labels
instructions_are : (n x y : ℕ) (k : Tally) → k.loops ≡ x → k.labels ≡ y → n + (2 * x + 2 * y) ≤ 1000000000000 → instructions_of n k ≡ n + (2 * x + 2 * y)
unfolding capped
instructions_are n x y k e f h = omega arith

shape_is : (t : Score) → (whole_of t).shape ≡ shape_of t
shape_is (score t h a b c d) = refl

from_start : (o : Option ℕ) → deep_from 0 o ≡ o
from_start None = refl
from_start (Some i) = ap Some (omega arith)

deep_is : (t : Score) → (whole_of t).deep ≡ too_deep document01.depth t
unfolding deep_of
deep_is (score t h a b c d) = from_start (too_deep document01.depth (score t h a b c d))

-- figures that agree with a score's on the limits, and are the score's within them
sized_is : (f : Figures) (t : Score) → f.loops ≡ capped (loops t) → f.blocks ≡ capped (length (plays t))
    → (loops t ≤ document01.loops → length (plays t) ≤ document01.blocks → f ≡ figures t) → sized f ≡ sized_score document01 t
sized_is f t l b h = go (ltb 64 (loops t)) (ltb 65535 (length (plays t))) refl refl
  where
    n : ltb 64 f.loops ≡ ltb 64 (loops t)
    n = ap (ltb 64) l ∙ past_bound 64 (loops t) (omega arith)

    m : ltb 65535 f.blocks ≡ ltb 65535 (length (plays t))
    m = ap (ltb 65535) b ∙ past_bound 65535 (length (plays t)) (omega arith)

    go : (p q : Bool) → ltb 64 (loops t) ≡ p → ltb 65535 (length (plays t)) ≡ q → sized f ≡ sized_score document01 t
    go true q x y = rw (n, x)
    go false true x y = rw (n, x, m, y)
    go false false x y =
        let i : loops t ≤ 64 = grind (arith, nat_tests) in
        let j : length (plays t) ≤ 65535 = grind (arith, nat_tests) in
        rw (n, x, m, y) (ap Ok (h i j))

-- words that are the signs of a score
module _ (w : List ℕ) (t : Score) (v : Valid true t) (same : map sign_of w ≡ map Some (signs_of t)) (short : length w ≤ document01.signs) where
  as_long : length w ≡ length (signs_of t)
  as_long = sym (length-map w sign_of) ∙ ap length same ∙ length-map (signs_of t) Some

  blocks_few : length (leaves (signs_of t)) ≤ length w
  blocks_few = rw (← blocks_is w (signs_of t) same) (count_by-le-length (λ x. is_block (sign_of x)) w)

  -- the figures, where the score is within the limits
  figures_are : first_break document01 0 (signs_of t) ≡ None → loops t ≤ document01.loops → length (plays t) ≤ document01.blocks
      → figured w (whole_of t) (beats_written w) ≡ figures t
  figures_are keeps few heard_few =
      let i = implied_few t in
      let n = labels_few t v in
      let k = written_within document01 0 (signs_of t) keeps (omega arith) in
      let e : beats_total (heard t) ≡ total beats (plays t) = heard_total (plays t) in
      let b = beats_few t in
      let low : written (signs_of t) ≤ 999999 = omega arith in
      let m : written (signs_of t) * length (plays t) ≤ 999999 * 65535 = mul-le-mul low heard_few in
      let s = steps_within true t 1024 65535 v (omega (arith, as_long)) heard_few in
      let loops_are : (written_of (whole_of t)).loops ≡ loops t = loops_kept t ∙ within_bound (loops t) (omega arith) in
      let labels_are : (written_of (whole_of t)).labels ≡ labels t = labels_kept t ∙ within_bound (labels t) (omega (arith, as_long)) in
      same_figures (shape_is t) (time_is w t same) loops_are
      (implied_kept t ∙ within_bound (implied t) (omega arith))
      labels_are
      (ap (λ x. instructions_of x (written_of (whole_of t))) (blocks_is w (signs_of t) same)
      ∙ instructions_are (length (leaves (signs_of t))) (loops t) (labels t) (written_of (whole_of t)) loops_are labels_are (omega (arith, as_long, blocks_few)))
      (blocks_kept t v ∙ within_bound (length (plays t)) (omega arith))
      (beats_of_signs w (signs_of t) same keeps)
      (beats_kept t v ∙ within_bound (beats_total (heard t)) (omega arith))
      (steps_kept t v ∙ within_bound (steps t) (omega arith))

  -- the answer
  pub judged_is : judged w (whole_of t) ≡ judged_score document01 t
  judged_is = go (first_break document01 0 (signs_of t)) refl
    where
      go : (o : Option ℕ) → first_break document01 0 (signs_of t) ≡ o → judged w (whole_of t) ≡ judged_score document01 t
      go (Some i) e = rw (numbers_of_signs w (signs_of t) same, e)
      go None e =
          rw (numbers_of_signs w (signs_of t) same, e, deep_is t)
          (ap (refused_at TooDeep (too_deep document01.depth t)) (sized_is (figured w (whole_of t) (beats_written w)) t (loops_kept t) (blocks_kept t v) (figures_are e)))
