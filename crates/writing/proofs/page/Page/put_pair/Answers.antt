-- four texts are laid one behind the other
use Rattle.writing.proofs.Laying.{laid_pair}
use Rattle.writing.proofs.page.Page.put_pair.Goals as goal

pub returns : goal.returns
returns c = laid_pair c.args.k c.args.l c.requires c.put_number.ensures c.put.ensures c.put_number-2.ensures c.put-2.ensures
