-- `instructions::listing::Tables::fill`: the tables are filled from i on.
use Rattle.refusals.specs.Limits.{document01}
use Rattle.instructions.specs.Tables.{Filled}
use Rattle.instructions.proofs.listing.Tables.fill.Given as goal

abbrev pub invariant-loop-i : goal.invariant-loop-i
invariant-loop-i l = Filled document01 l.listing l.i (record { loops = l.self.loops; labels = l.self.labels })
