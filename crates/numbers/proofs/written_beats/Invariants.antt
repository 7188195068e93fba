use Rattle.std.proofs.Common.{◌≡◌, ◌+◌, ◌-◌, ◌^◌, ◌≤◌, min, drop}
use Rattle.score.specs.Numbers.{written}
use Rattle.numbers.specs.Listed.{listed}
use Rattle.numbers.proofs.written_beats.Given as goal

-- the beats so far and those of the signs left are the beats of all
abbrev pub invariant-loop-word : goal.invariant-loop-word
invariant-loop-word l =
    (l.beats ≤ 2 ^ 64 - 1) × (min (written (listed l.words)) (2 ^ 64 - 1) ≡ min (l.beats + written (listed (drop l.word-index l.words))) (2 ^ 64 - 1))
