use Rattle.std.proofs.Common.{◌-◌, length}
use Rattle.reading.proofs.Scanning.{ReadTo}
use Rattle.reading.proofs.scan.Given as goal

-- n signs are read up to a place, and the words kept of them are those for which there is room
abbrev pub invariant-loop-sign : goal.invariant-loop-sign
invariant-loop-sign l = ReadTo l.text l.initial.words l.words l.at l.n

abbrev pub decreases-loop-sign : goal.decreases-loop-sign
decreases-loop-sign l = length l.text - l.at
