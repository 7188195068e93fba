-- the letters are laid, and the numbers behind them where the kind carries any
use Rattle.std.proofs.Common.{◌∙◌}
use Rattle.writing.proofs.Spelling.{letters_alone, letters_numbered}
use Rattle.writing.proofs.Laying.{laid_as, laid_join}
use Rattle.writing.proofs.page.Page.put_sign.Goals as goal

pub returns-then-parts-le2 : goal.returns-then-parts-le2
returns-then-parts-le2 c = λ s e.
    laid_as (letters_numbered s c.args.parts e c.if-parts-le2.true) (laid_join (laid_as c.letters.ensures c.put.ensures) c.put_pair.ensures)

pub returns-else-parts-le2 : goal.returns-else-parts-le2
returns-else-parts-le2 c = λ s e. laid_as (c.letters.ensures ∙ letters_alone s c.args.parts e c.if-parts-le2.false) c.put.ensures
