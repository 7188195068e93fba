-- What is right to answer for sign words: refusals 3 to 8 in their order, or what the reading is.
-- Assumes nothing.
use Rattle.std.specs.Prelude.{◌≡◌, true, cond, List, map, ℕ, ltb, length, Result, Ok, Err, Option, None, Some}
use Rattle.refusals.specs.Limits.{Limits}
use Rattle.refusals.specs.declared.Refusal.{Refusal}
use Rattle.refusals.specs.declared.Refusal.TheVariants.{TooManySigns, NoScore, BadNumber, TooDeep, TooManyLoops, TooManyPlayed}
use Rattle.signs.specs.Words.{sign_of}
use Rattle.played.specs.Played.{total}
use Rattle.score.specs.declared.Figures.{Figures}
use Rattle.score.specs.Shapes.{Score, time_of, shape_of}
use Rattle.score.specs.Spelling.{signs_of}
use Rattle.score.specs.Readings.{Answer, reading, refused, Right}
use Rattle.score.specs.Played.{plays, heard}
use Rattle.score.specs.Steps.{steps}
use Rattle.score.specs.Numbers.{written, first_break}
use Rattle.score.specs.Depth.{too_deep}
use Rattle.score.specs.Sizes.{loops, implied, labels, instructions}

-- what a score is
abbrev pub figures : Score → Figures
figures t =
    record {
      shape = shape_of t;
      time = time_of t;
      loops = loops t;
      implied = implied t;
      labels = labels t;
      instructions = instructions t;
      blocks = length (plays t);
      written = written (signs_of t);
      beats = total (heard t);
      steps = steps t;
    }

-- what is answered for a list of sign words: what the score is, or a refusal
abbrev pub Examined : Type 0
Examined = Result Figures Refusal

-- a refusal at a place, if there is one, or what else is answered
abbrev pub refused_at : (ℕ → Refusal) → Option ℕ → Examined → Examined
refused_at f None x = x
refused_at f (Some i) x = Err (f i)

-- the limits of loops and of blocks played
abbrev pub sized : Limits → Score → Examined
sized l t = cond (ltb l.loops (loops t)) (Err TooManyLoops) (cond (ltb l.blocks (length (plays t))) (Err TooManyPlayed) (Ok (figures t)))

-- the numbers, the depth, and the limits
abbrev pub judged : Limits → Score → Examined
judged l t = refused_at BadNumber (first_break l 0 (signs_of t)) (refused_at TooDeep (too_deep l.depth t) (sized l t))

abbrev pub answered : Limits → Answer → Examined
answered l (reading t) = judged l t
answered l (refused i) = Err (NoScore i)

-- the answer for n words, of which the grammar says o
abbrev pub examined : Limits → ℕ → Answer → Examined
examined l n o = cond (ltb l.signs n) (Err TooManySigns) (answered l o)

-- x is the answer for words
pub record Examines (l : Limits) (words : List ℕ) (x : Examined) : Type 0 where
  pub grammar : Answer
  pub right : Right true (map sign_of words) grammar
  pub answer : x ≡ examined l (length words) grammar

-- the refusal, whose number and place are its own
abbrev pub refusal_of : Examined → Option Refusal
refusal_of (Ok f) = None
refusal_of (Err r) = Some r
