-- `stand::program::Program::fits`: place and beat are inside, so the counts decide.
use Rattle.std.proofs.Common.{sym, ◌∙◌, arith, rules, leb-true}
use Rattle.refusals.specs.Limits.{document01}
use Rattle.stand.proofs.Positions.{counts_decide}
use Rattle.stand.proofs.program.Program.fits.Goals.{then-position-self, else-position-self}
use Rattle.stand.proofs.program.Program.fits.Goals as goal

pub returns-then-position-le-BEAT : goal.returns-then-position-le-BEAT
returns-then-position-le-BEAT c =
    elim c.if-position-self.branch [
      | then-position-self w ↦ counts_decide document01 _ _ _ _ w.if-position-self.true (leb-true _ _ (sym w.value-is ∙ c.if-position-le-BEAT.true)) c.args.self.now.placed (search rules) c.counts_fit.ensures
      | else-position-self w ↦ absurd (omega (arith, leb-true _ _ (sym w.value-is ∙ c.if-position-le-BEAT.true)))
    ]
