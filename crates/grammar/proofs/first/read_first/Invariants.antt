-- What was read leads on; the signs left fall from round to round.
use Rattle.std.proofs.Common.{◌-◌, length}
use Rattle.grammar.proofs.FirstWays.{FirstLeadsOn}
use Rattle.grammar.proofs.first.read_first.Given as goal

abbrev pub invariant-closes : goal.invariant-closes
invariant-closes l = FirstLeadsOn l.words l.initial.read l.read

abbrev pub decreases-closes : goal.decreases-closes
decreases-closes l = length l.words - l.read.at
