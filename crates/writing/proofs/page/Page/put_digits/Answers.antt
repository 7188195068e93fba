-- two digits are laid as bytes
use Rattle.writing.proofs.Laying.{laid_as, two_digits}
use Rattle.writing.proofs.page.Page.put_digits.Goals as goal

pub returns-then-n-lt100 : goal.returns-then-n-lt100
returns-then-n-lt100 c = laid_as (two_digits c.args.n c.requires c.if-n-lt100.true) c.put.ensures
