use Rattle.std.proofs.Common.{◌≡◌, ◌≤◌, ◌<◌, ◌-◌}
use Rattle.signs.specs.Spellings.{letters_of}
use Rattle.signs.proofs.Scan.{Known, Agrees}
use Rattle.signs.proofs.spelling.sign_at.Given as goal

-- the spellings before i do not stand
abbrev pub invariant-scan : goal.invariant-scan
invariant-scan l = (l.i ≤ 16) × Known l.text l.at l.i

abbrev pub decreases-scan : goal.decreases-scan
decreases-scan l = 16 - l.i

-- of spelling i the first j letters agree with the text
abbrev pub invariant-loop-j : goal.invariant-loop-j
invariant-loop-j l = (l.i ≡ l.initial.i) × (l.letters ≡ letters_of l.i) × (l.i < 16) × Known l.text l.at l.i × Agrees l.text l.at l.i l.j
