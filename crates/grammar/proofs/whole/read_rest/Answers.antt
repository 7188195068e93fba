-- Behind the first item the score is left, or the first run halts.
use Rattle.std.proofs.lemmas.Result.{err_from_is_err_and}
use Rattle.grammar.proofs.StartWays.{rest_leaves, rest_halts}
use Rattle.grammar.proofs.whole.read_rest.Goals as goal

pub returns-in_err-run : goal.returns-in_err-run
returns-in_err-run c =
    let p = err_from_is_err_and c.from_residual.result c.from_residual.ensures.1 in
    rw (p.1, p.2) (rest_halts c.args.words.now c.args.start c.args.item c.in_err-run.field-0.0 c.in_err-run.ensures)

pub returns : goal.returns
returns c = rest_leaves c.args.words.now c.args.start c.args.item c.in_ok-run.run' c.in_ok-run.ensures c.opened.result c.opened.ensures c.leave.result c.leave.ensures
