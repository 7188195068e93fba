-- the two kinds that carry numbers
use Rattle.std.proofs.Common.{refl, ◌∙◌}
use Rattle.signs.specs.declared.sign.Sign.TheVariants.{Block, Time}
use Rattle.signs.proofs.Finish.{finish_block, finish_time}
use Rattle.signs.proofs.spelling.finished.Goals as goal

pub returns-in-0 : goal.returns-in-0
returns-in-0 c = c.numbered.ensures Block (λ a b s p. p) ∙ finish_block c.args.text.now c.args.at c.args.i c.in-0.is _ refl

pub returns-in-1 : goal.returns-in-1
returns-in-1 c = c.numbered-in-1.ensures Time (λ a b s p. p) ∙ finish_time c.args.text.now c.args.at c.args.i c.in-1.is _ refl
