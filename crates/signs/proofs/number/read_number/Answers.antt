-- the place behind a number lies in the text
use Rattle.std.proofs.Common.{sym, ◌∙◌, arith}
use Rattle.std.proofs.lemmas.Grind.{common_steps}
use Rattle.signs.proofs.Digits.{number_reach}
use Rattle.signs.proofs.number.read_number.Goals as goal

pub overflow_add-result : goal.overflow_add-result
overflow_add-result c =
    let r = number_reach _ 0 c.in_ok-value.value c.in_ok-value.count (sym (c.read_front.ensures) ∙ c.in_ok-value.was) in
    grind (arith, common_steps, r)
