-- The reader of a whole score answers by the law of its way.
use Rattle.std.proofs.Common.{sym, ap, ◌∙◌, arith}
use Rattle.std.proofs.lemmas.Result.{err_from_is_err_and}
use Rattle.grammar.specs.Kinds.{halt}
use Rattle.grammar.proofs.WholeWays.{led, refused, leave_lost, leave_on, from_waits, from_halts, from_wrong, from_run}
use Rattle.grammar.proofs.whole.+leave_read_from.Goals as goal

pub leave-returns-in_err-sign : goal.leave-returns-in_err-sign
leave-returns-in_err-sign t c =
    let p = err_from_is_err_and c.from_residual-in_err-sign.result c.from_residual-in_err-sign.ensures.1 in
    let z = c.in_err-sign.ensures.ok_part in
    rw (p.1, p.2)
    (leave_lost c.args.words.now c.args.s c.args.run (omega arith) c.in_err-sign.field-0.0 (refused c.sign_at.result (halt c.args.run.at) c.in_err-sign.field-0.0 c.in_err-sign.ensures.value z) (ap (led c.args.s.part) (sym c.sign_at.ensures ∙ z)))

pub leave-returns-in_err-part : goal.leave-returns-in_err-part
leave-returns-in_err-part t c =
    let p = err_from_is_err_and c.from_residual-in_err-part.result c.from_residual-in_err-part.ensures.1 in
    let z = c.in_err-part.ensures.ok_part in
    rw (p.1, p.2)
    (leave_lost c.args.words.now c.args.s c.args.run (omega arith) c.in_err-part.field-0.0 (refused c.leads_to.result (halt c.args.run.at) c.in_err-part.field-0.0 c.in_err-part.ensures.value z)
    (ap (led c.args.s.part) (sym c.sign_at.ensures ∙ c.in_ok-sign.ensures.ok_part) ∙ sym c.leads_to.ensures ∙ z))

pub leave-returns : goal.leave-returns
leave-returns t c =
    leave_on c.args.words.now c.args.s c.args.run (omega arith) c.in_ok-sign.sign (sym c.sign_at.ensures ∙ c.in_ok-sign.ensures.ok_part) c.in_ok-part.part (sym c.leads_to.ensures ∙ c.in_ok-part.ensures.ok_part) c.moved.result c.moved.ensures c.read_from.result c.read_from.ensures

pub read_from-returns-then-not-has_run : goal.read_from-returns-then-not-has_run
read_from-returns-then-not-has_run t c = from_waits c.args.words.now c.args.s (sym c.has_run.ensures ∙ c.if-not-has_run.true) c.empty.result c.empty.ensures c.leave.result c.leave.ensures

pub read_from-returns-in_err-run : goal.read_from-returns-in_err-run
read_from-returns-in_err-run t c =
    let p = err_from_is_err_and c.from_residual.result c.from_residual.ensures.1 in
    rw (p.1, p.2) (from_halts c.args.words.now c.args.s (sym c.has_run.ensures ∙ c.if-not-has_run.false) c.in_err-run.field-0.0 c.in_err-run.ensures)

pub read_from-returns-then-not-ends_here : goal.read_from-returns-then-not-ends_here
read_from-returns-then-not-ends_here t c =
    from_wrong c.args.words.now c.args.s (sym c.has_run.ensures ∙ c.if-not-has_run.false) c.in_ok-run.run' c.in_ok-run.ensures (sym c.ends_here.ensures ∙ c.if-not-ends_here.true) c.halt_at.result c.halt_at.ensures

pub read_from-returns : goal.read_from-returns
read_from-returns t c =
    from_run c.args.words.now c.args.s (sym c.has_run.ensures ∙ c.if-not-has_run.false) c.in_ok-run.run' c.in_ok-run.ensures (sym c.ends_here.ensures ∙ c.if-not-ends_here.false) c.leave-2.result c.leave-2.ensures
