-- Sums that stop at a bound, and how the sums of a run, a repeat and a group are made of those inside.
-- Assumes nothing.
use Rattle.std.specs.Prelude.{ℕ, ◌+◌, ◌*◌, min}
use Rattle.grammar.specs.declared.tally.Tally.{Tally}

abbrev pub most : ℕ
most = 1000000000000

-- a number, up to the bound
unfoldable pub capped : ℕ → ℕ
capped n = min n most

abbrev pub tally : ℕ → ℕ → ℕ → ℕ → ℕ → ℕ → Tally
tally loops implied labels blocks beats steps = record { loops = loops; implied = implied; labels = labels; blocks = blocks; beats = beats; steps = steps }

abbrev pub nothing : Tally
nothing = tally 0 0 0 0 0 0

-- a block of so many beats
abbrev pub block_tally : ℕ → Tally
block_tally n = tally 0 0 0 1 (capped (n + 0)) 1

-- one after the other
abbrev pub joined : Tally → Tally → Tally
joined a b =
    tally (capped (a.loops + b.loops)) (capped (a.implied + b.implied)) (capped (a.labels + b.labels)) (capped (a.blocks + b.blocks)) (capped (a.beats + b.beats)) (capped (a.steps + b.steps))

-- a plain repeat of a run
abbrev pub repeated : ℕ → Tally → Tally
repeated lacks r =
    tally (capped (1 + r.loops)) (capped (lacks + r.implied)) r.labels (capped (2 * r.blocks)) (capped (2 * r.beats)) (capped (3 + capped (2 * r.steps)))

-- a group of n endings after a run
abbrev pub grouped : ℕ → ℕ → Tally → Tally → Tally
grouped lacks n r es =
    tally (capped (1 + capped (r.loops + es.loops))) (capped (lacks + capped (r.implied + es.implied))) (capped (n + capped (r.labels + es.labels))) (capped (capped (n * r.blocks) + es.blocks))
    (capped (capped (n * r.beats) + es.beats))
    (capped (1 + capped (capped (n * capped (r.steps + capped (capped (2 * n) + 1))) + es.steps)))
