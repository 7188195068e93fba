-- `instructions::listing::Tables::test`: no instruction below i breaks a rule.
use Rattle.refusals.specs.Limits.{document01}
use Rattle.instructions.proofs.Passed.{Passed}
use Rattle.instructions.proofs.listing.Tables.test.Given as goal

abbrev pub invariant-loop-i : goal.invariant-loop-i
invariant-loop-i l = Passed document01 l.listing l.i
