-- a law for each return, by what stands at the places read
use Rattle.std.proofs.Common.{sym, ◌∙◌}
use Rattle.std.specs.Prelude.{None}
use Rattle.signs.proofs.Digits.{pair_second, pair_open, pair_closed}
use Rattle.signs.proofs.number.read_pair.Goals as goal

pub returns-in_err-l : goal.returns-in_err-l
returns-in_err-l c =
    c.from_residual-in_err-l.ensures
    ∙ pair_second c.args.text.now c.args.at c.in_ok-k.k c.in_ok-k.p (rw (← c.past.ensures) (sym c.read_number.ensures ∙ c.in_ok-k.was)) (cc) None (rw (← c.past-2.ensures) (sym c.read_number-2.ensures ∙ c.in_err-l.was))

pub returns-then-peek-ne41 : goal.returns-then-peek-ne41
returns-then-peek-ne41 c = pair_open c.args.text.now c.args.at c.in_ok-k.k c.in_ok-k.p (rw (← c.past.ensures) (sym c.read_number.ensures ∙ c.in_ok-k.was)) (cc) c.in_ok-l.l c.in_ok-l.q (rw (← c.past-2.ensures) (sym c.read_number-2.ensures ∙ c.in_ok-l.was)) (λ q. c.if-peek-ne41.true (c.peek-2.ensures ∙ q))

pub returns : goal.returns
returns c = pair_closed c.args.text.now c.args.at c.in_ok-k.k c.in_ok-k.p (rw (← c.past.ensures) (sym c.read_number.ensures ∙ c.in_ok-k.was)) (cc) c.in_ok-l.l c.in_ok-l.q (rw (← c.past-2.ensures) (sym c.read_number-2.ensures ∙ c.in_ok-l.was)) (cc)
