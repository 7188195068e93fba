-- What is answered for a score that was read: its first wrong number, its depth, the limits, and else its figures.
-- Assumes nothing.
use Rattle.std.specs.Prelude.{cond, List, ℕ, ◌-◌, ◌^◌, ltb, min, Ok, Err}
use Rattle.refusals.specs.Limits.{document01}
use Rattle.refusals.specs.declared.Refusal.TheVariants.{BadNumber, TooDeep, TooManyLoops, TooManyPlayed}
use Rattle.score.specs.declared.Figures.{Figures}
use Rattle.score.specs.Examined.{Examined, refused_at}
use Rattle.score.specs.Numbers.{written, first_break}
use Rattle.grammar.specs.declared.whole.Whole.{Whole}
use Rattle.numbers.specs.Listed.{listed}
use Rattle.examining.specs.Figured.{figured}

-- the limits of loops and of blocks played
abbrev pub sized : Figures → Examined
sized f = cond (ltb document01.loops f.loops) (Err TooManyLoops) (cond (ltb document01.blocks f.blocks) (Err TooManyPlayed) (Ok f))

-- the beats that words write
abbrev pub beats_written : List ℕ → ℕ
beats_written w = min (written (listed w)) (2 ^ 64 - 1)

abbrev pub judged : List ℕ → Whole → Examined
judged w x = refused_at BadNumber (first_break document01 0 (listed w)) (refused_at TooDeep x.deep (sized (figured w x (beats_written w))))
