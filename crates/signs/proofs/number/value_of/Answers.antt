-- one digit more
use Rattle.signs.proofs.Digits.{one_more}
use Rattle.signs.proofs.number.value_of.Goals as goal

pub loop-digit-preserved : goal.loop-digit-preserved
loop-digit-preserved c =
    let l = c.loop-digit in
    one_more c.args.digits.now l.digit-index l.value l.invariant c.loop-digit-test.true (c.requires.all l.digit-index c.loop-digit-test.true)
