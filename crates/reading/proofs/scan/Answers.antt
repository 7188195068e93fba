-- by what comes next: the end, a refusal, or a sign
use Rattle.std.proofs.Common.{sym, ap, ◌∙◌, arith, Ok}
use Rattle.std.proofs.lemmas.Result.{err_from_is_err_and}
use Rattle.refusals.specs.Limits.{document01}
use Rattle.signs.proofs.Coming.{next_short}
use Rattle.reading.proofs.Scanning.{at_found, at_end, at_bad}
use Rattle.reading.proofs.scan.Goals as goal

pub returns-in_default : goal.returns-in_default
returns-in_default c =
    let l = c.loop-sign in
    let d = at_end c.args.text.now c.args.words.now l.words l.at l.n l.invariant (sym (next_short document01 c.args.text.now l.at c.requires) ∙ sym c.next_sign.ensures.answer ∙ c.in_ok-sign.was ∙ ap Ok c.in_default.is) in
    record { count = d.0; kept = d.1 }

pub returns-in_err-sign : goal.returns-in_err-sign
returns-in_err-sign c =
    let l = c.loop-sign in
    let p = err_from_is_err_and c.from_residual.result c.from_residual.ensures.1 in
    let d = at_bad c.args.text.now c.args.words.now l.words l.at l.n l.invariant c.in_err-sign.field-0.0 (sym (next_short document01 c.args.text.now l.at c.requires) ∙ sym c.next_sign.ensures.answer ∙ c.in_err-sign.was) in
    record { count = rw (p.1, p.2) d.0; kept = d.1 }

pub loop-sign-smaller : goal.loop-sign-smaller
loop-sign-smaller c =
    let l = c.loop-sign in
    let f = at_found c.args.text.now c.args.words.now l.words l.at l.n l.invariant c.in-Some.sign c.in-Some.end (sym (next_short document01 c.args.text.now l.at c.requires) ∙ sym c.next_sign.ensures.answer ∙ c.in_ok-sign.was ∙ ap Ok c.in-Some.is) in
    omega (arith, f.0, f.1.within)

pub loop-sign-preserved : goal.loop-sign-preserved
loop-sign-preserved c =
    let l = c.loop-sign in
    rw c.keep.ensures
    (at_found c.args.text.now c.args.words.now l.words l.at l.n l.invariant c.in-Some.sign c.in-Some.end (sym (next_short document01 c.args.text.now l.at c.requires) ∙ sym c.next_sign.ensures.answer ∙ c.in_ok-sign.was ∙ ap Ok c.in-Some.is)).1
