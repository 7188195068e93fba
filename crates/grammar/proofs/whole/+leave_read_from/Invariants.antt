-- The signs left fall from part to part; a rank orders the calls of one part.
use Rattle.std.proofs.Common.{◌+◌, ◌-◌, ◌*◌, length}
use Rattle.grammar.proofs.whole.+leave_read_from.Given as goal

abbrev pub decreases-leave : goal.decreases-leave
decreases-leave l = 2 * (length l.words.now - l.run.at)

abbrev pub decreases-read_from : goal.decreases-read_from
decreases-read_from l = 2 * (length l.words.now - l.s.at) + 1
