-- What is kept of a stretch of signs, made step by step, and of which tree it is.
-- Assumes nothing.
use Rattle.std.specs.Prelude.{cond, List, ◌++◌, ℕ, ◌+◌, ltb, length, Option, Some, None}
use Rattle.std.specs.Option.{option_or}
use Rattle.refusals.specs.Limits.{document01}
use Rattle.signs.specs.declared.sign.Sign.{Sign}
use Rattle.score.specs.Trees.{Leaf, Run, nil, ◌▸◌, Ends, no_more, ◌then◌}
use Rattle.score.specs.Trees.{Left as LeftOf}
use Rattle.score.specs.Spelling.{left_signs, run_signs, ends_signs}
use Rattle.score.specs.Readings.{is_group}
use Rattle.score.specs.Played.{run_plays, beats}
use Rattle.score.specs.Steps.{count, run_steps, ends_steps}
use Rattle.score.specs.Sums.{total, each}
use Rattle.score.specs.Depth.{inner, left_around, run_around, ends_around, first_deep}
use Rattle.score.specs.Sizes.{lacks, run_loops, ends_loops, run_implied, ends_implied, run_labels, ends_labels}
use Rattle.grammar.specs.declared.tally.Tally.{Tally}
use Rattle.grammar.specs.declared.stretch.Last.{Last}
use Rattle.grammar.specs.declared.stretch.Last.TheVariants.{NoItem, Plain, Group}
use Rattle.grammar.specs.declared.stretch.Left.{Left}
use Rattle.grammar.specs.declared.stretch.Left.TheVariants.{Written, Lacking}
use Rattle.grammar.specs.declared.stretch.Stretch.{Stretch}
use Rattle.grammar.specs.declared.stretch.Begun.{Begun}
use Rattle.grammar.specs.Tallies.{capped, tally, nothing, block_tally, joined, repeated, grouped}

-- the place of a `|:`, if it is too deep
unfoldable pub too_deep : Left → Option ℕ
too_deep (Written d at) = cond (ltb d document01.depth) None (Some at)
too_deep Lacking = None

-- 1 where it lacks
abbrev pub lack_count : Left → ℕ
lack_count (Written d at) = 0
lack_count Lacking = 1

abbrev pub stretch : ℕ → Last → Option ℕ → Tally → Stretch
stretch at last deep t = record { at = at; last = last; deep = deep; tally = t }

abbrev pub empty_stretch : ℕ → Stretch
empty_stretch at = stretch at NoItem None nothing

abbrev pub block_stretch : ℕ → ℕ → Stretch
block_stretch next n = stretch next Plain None (block_tally n)

abbrev pub followed : Stretch → Stretch → Stretch
followed r i = stretch i.at i.last (option_or r.deep i.deep) (joined r.tally i.tally)

abbrev pub closed_as : Left → Stretch → Stretch
closed_as o r = stretch (r.at + 1) Plain (option_or (too_deep o) r.deep) (repeated (lack_count o) r.tally)

abbrev pub beginning : ℕ → Option ℕ → ℕ → ℕ → Tally → Tally → Begun
beginning at deep endings n r es = record { at = at; deep = deep; endings = endings; lacks = n; run = r; ends = es }

abbrev pub begun_as : Left → Stretch → Begun
begun_as o r = beginning (r.at + 1) (option_or (too_deep o) r.deep) 0 (lack_count o) r.tally nothing

abbrev pub went_on : Begun → Stretch → Begun
went_on g e = beginning (e.at + 3) (option_or g.deep e.deep) (capped (g.endings + 1)) g.lacks g.run (joined g.ends e.tally)

abbrev pub finished_as : Begun → Stretch → Stretch
finished_as g e = stretch (e.at + 1) Group (option_or g.deep e.deep) (grouped g.lacks (capped (g.endings + 1)) g.run (joined g.ends e.tally))

-- how a run ends
abbrev pub last_of : Run → Last
last_of nil = NoItem
last_of (r ▸ i) = cond (is_group i) Group Plain

-- what the endings but the last weigh
abbrev pub ends_total : (Leaf → ℕ) → Ends → ℕ
ends_total w no_more = 0
ends_total w (es then e) = ends_total w es + total w (run_plays e)

unfoldable pub run_tally : Run → Tally
run_tally r =
    tally (capped (run_loops r)) (capped (run_implied r)) (capped (run_labels r)) (capped (total each (run_plays r))) (capped (total beats (run_plays r))) (capped (run_steps r))

unfoldable pub ends_tally : Ends → Tally
ends_tally es =
    tally (capped (ends_loops es)) (capped (ends_implied es)) (capped (ends_labels es)) (capped (ends_total each es)) (capped (ends_total beats es)) (capped (ends_steps es))

-- a place, from p on
abbrev pub deep_from : ℕ → Option ℕ → Option ℕ
deep_from p None = None
deep_from p (Some i) = Some (p + i)

-- the first `|:` that is too deep among signs that stand from place p on
unfoldable pub deep_of : ℕ → List Sign → List ℕ → Option ℕ
deep_of p s ds = deep_from p (first_deep document01.depth s ds)

-- a run that stands from place p on, where d are open
abbrev pub summed : ℕ → ℕ → Run → Stretch
summed d p r = stretch (p + length (run_signs r)) (last_of r) (deep_of p (run_signs r) (run_around d r)) (run_tally r)

-- the signs of a group before an ending's `[`, and the `|:` open around each
abbrev pub open_signs : LeftOf → Run → Ends → List Sign
open_signs o m es = left_signs o ++ (run_signs m ++ ends_signs es)

abbrev pub open_around : ℕ → LeftOf → Run → Ends → List ℕ
open_around d o m es = left_around d o ++ (run_around (inner d o) m ++ ends_around (inner d o) es)

-- a group up to behind that `[`
abbrev pub begun : ℕ → ℕ → LeftOf → Run → Ends → Begun
begun d p o m es =
    beginning (p + length (open_signs o m es) + 1) (deep_of p (open_signs o m es) (open_around d o m es)) (capped (count es)) (lacks o) (run_tally m) (ends_tally es)
