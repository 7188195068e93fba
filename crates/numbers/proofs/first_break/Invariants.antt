use Rattle.std.proofs.Common.{◌≡◌, ◌≤◌, drop}
use Rattle.refusals.specs.Limits.{document01}
use Rattle.score.specs.Numbers.{first_break}
use Rattle.numbers.specs.Listed.{listed}
use Rattle.numbers.proofs.Onward.{on}
use Rattle.numbers.proofs.first_break.Given as goal

-- the blocks so far end within the limit, and what the signs left break is what all of them break
abbrev pub invariant-loop-place : goal.invariant-loop-place
invariant-loop-place l = (l.end ≤ document01.number) × (first_break document01 0 (listed l.words) ≡ on l.place (first_break document01 l.end (listed (drop l.place l.words))))
