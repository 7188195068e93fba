-- past the text no number stands, and what passes the test are digits
use Rattle.signs.proofs.Digits.{digits_all}
use Rattle.signs.specs.Numbers.{digit}
use Rattle.signs.proofs.number.read_digits.Goals as goal

pub value_of-requires-clause-all : goal.value_of-requires-clause-all
value_of-requires-clause-all c = digits_all c.args.text.now c.in_ok-digits.digits.now c.args.at c.past-end.result (c.past-end.ensures digit (λ b t p. p)) c.in_ok-digits.ensures.lookup.0.2
