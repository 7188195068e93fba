-- `instructions::listing::Tables::test`: it stops at the first instruction that breaks a rule.
use Rattle.std.proofs.Common.{◌∙◌, arith}
use Rattle.refusals.specs.Limits.{document01}
use Rattle.instructions.proofs.Passed.{told, is_bad}
use Rattle.instructions.proofs.listing.Tables.test.Goals as goal

pub returns-then-not-keeps : goal.returns-then-not-keeps
returns-then-not-keeps c =
    let listing = c.args.listing.now in
    let at = c.loop-i in
    is_bad document01 listing at.i (omega arith) at.invariant
    (told document01 listing c.args.self.now c.requires at.i c.keeps.result c.keeps.ensures ∙ c.if-not-keeps.true)
