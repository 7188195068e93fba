-- one digit is a byte
use Rattle.std.proofs.Common.{sym}
use Rattle.std.proofs.lemmas.Fmt.{decimal_digit}
use Rattle.writing.proofs.Laying.{laid_as}
use Rattle.writing.proofs.page.Page.put_number.Goals as goal

pub returns-then-n-lt10 : goal.returns-then-n-lt10
returns-then-n-lt10 c = laid_as (sym (decimal_digit c.args.n c.if-n-lt10.true)) c.put_byte.ensures
