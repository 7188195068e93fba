-- The signs left fall from round to round of calls; a rank orders the calls of one round.
use Rattle.std.proofs.Common.{◌+◌, ◌-◌, ◌*◌, length}
use Rattle.grammar.proofs.Ways.{LeadsOn, EndsLeadOn}
use Rattle.grammar.proofs.run.+read_endings_read_group_read_items_read_run.Given as goal

abbrev pub decreases-read_endings : goal.decreases-read_endings
decreases-read_endings l = 3 * (length l.words.now - l.group.at) + 2

abbrev pub decreases-read_group : goal.decreases-read_group
decreases-read_group l = 3 * (length l.words.now - (l.at + 1)) + 2

abbrev pub decreases-read_items : goal.decreases-read_items
decreases-read_items l = 3 * (length l.words.now - l.at) + 1

abbrev pub decreases-read_run : goal.decreases-read_run
decreases-read_run l = 3 * (length l.words.now - l.run.at)

-- what was read leads on
abbrev pub invariant-read_run-items : goal.invariant-read_run-items
invariant-read_run-items l = LeadsOn l.words l.depth l.initial.read l.read

abbrev pub decreases-read_run-items : goal.decreases-read_run-items
decreases-read_run-items l = length l.words - l.read.at

abbrev pub invariant-read_endings-endings : goal.invariant-read_endings-endings
invariant-read_endings-endings l = EndsLeadOn l.words l.depth l.initial.begun l.begun

abbrev pub decreases-read_endings-endings : goal.decreases-read_endings-endings
decreases-read_endings-endings l = length l.words - l.begun.at
