-- the spellings before i do not stand, and of spelling i the letters read agree with the text
use Rattle.std.proofs.Common.{sym, ap, ◌∙◌, arith, get_or}
use Rattle.signs.proofs.Scan.{known_more, known_stands, agrees_more, differs, agrees_all}
use Rattle.signs.proofs.spelling.sign_at.Goals as goal

pub scan-preserved-then-peek-letter : goal.scan-preserved-then-peek-letter
scan-preserved-then-peek-letter c =
    let l = c.loop-j in
    let v = l.invariant in
    let d = differs c.args.text.now c.args.at l.i l.j v.2 v.4 (rw (← v.1) c.loop-j-test.true)
    (λ e. c.if-peek-letter.true (c.peek-in-loop-j.ensures ∙ e ∙ ap (λ w. get_or w l.j 0) (sym v.1))) in
    (omega arith, known_more c.args.text.now c.args.at l.i v.2 d v.3)

pub loop-j-preserved : goal.loop-j-preserved
loop-j-preserved c =
    let l = c.loop-j in
    let v = l.invariant in (
      v.0,
      v.1,
      v.2,
      v.3,
      agrees_more c.args.text.now c.args.at l.i l.j v.2 v.4 (rw (← v.1) c.loop-j-test.true)
          (sym c.peek-in-loop-j.ensures ∙ c.if-peek-letter.false ∙ ap (λ w. get_or w l.j 0) v.1),
    )

pub returns-in-Some : goal.returns-in-Some
returns-in-Some c =
    let l = c.loop-j in
    let v = l.invariant in
    known_stands c.args.text.now c.args.at l.i v.2 _ _
    (agrees_all c.args.text.now c.args.at l.i l.j v.2 v.4 (rw (← v.1) (omega (arith, c.loop-j-test.false))) ∙ rw (← v.1) (sym c.finished.ensures ∙ c.in-Some.is))
    v.3
