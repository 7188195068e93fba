-- one more word is laid, and the byte 10 behind the last
use Rattle.std.proofs.Common.{◌∙◌}
use Rattle.refusals.specs.Limits.{document01}
use Rattle.writing.specs.Writing.{writable}
use Rattle.writing.proofs.Lining.{writes, all_pass, none_lined, first_more, next_more, all_counted}
use Rattle.writing.proofs.lay_signs.Goals as goal
use Rattle.writing.proofs.lay_signs.Goals.{then-i-gt0, else-i-gt0}

pub loop-i-init : goal.loop-i-init
loop-i-init c = none_lined c.args.words.now c.new-page.result

pub put_sign-requires : goal.put_sign-requires
put_sign-requires c =
    let r = writes _ (all_pass (writable document01) c.args.words.now c.requires.good c.loop-i.i c.loop-i-test.true) in
    (r.the, c.from.ensures ∙ r.same, r.good)

pub loop-i-preserved : goal.loop-i-preserved
loop-i-preserved c =
    let l = c.loop-i in
    let t = all_pass (writable document01) c.args.words.now c.requires.good l.i c.loop-i-test.true in
    elim c.if-i-gt0.branch [
      | then-i-gt0 w ↦ next_more c.args.words.now c.new-page.result l.page l.i l.invariant c.loop-i-test.true t w.if-i-gt0.true _ _ w.put.ensures (λ s e. (rw w.page-is at c.put_sign.ensures) s (c.from.ensures ∙ e))
      | else-i-gt0 w ↦ first_more c.args.words.now c.new-page.result l.page l.i l.invariant c.loop-i-test.true t w.if-i-gt0.false _ (λ s e. (rw w.page-is at c.put_sign.ensures) s (c.from.ensures ∙ e))
    ]

pub returns-clause-answer : goal.returns-clause-answer
returns-clause-answer c =
    let l = c.loop-i in
    all_counted c.args.words.now c.new-page.result l.page l.i l.invariant c.loop-i-test.false _ c.put-2.ensures c.new-page.ensures.place c.requires.few
