use Rattle.signs.proofs.Digits.{Said}
use Rattle.signs.proofs.number.value_of.Given as goal

-- the digits before this one say the value
abbrev pub invariant-loop-digit : goal.invariant-loop-digit
invariant-loop-digit l = Said l.digits l.digit-index l.value
