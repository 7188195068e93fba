-- A score begins with a block or a group, behind its time sign.
use Rattle.std.proofs.Common.{sym, ap, ◌∙◌, rules}
use Rattle.std.proofs.lemmas.Result.{err_from_is_err_and}
use Rattle.grammar.proofs.Heads.{starts_item}
use Rattle.grammar.proofs.StartWays.{score_wrong, score_block, score_group, score_halts}
use Rattle.grammar.proofs.whole.read_score.Goals as goal

pub returns-in-Some-Block : goal.returns-in-Some-Block
returns-in-Some-Block c =
    score_block c.args.words.now c.start_of-start.result c.start_of-start.ensures c.in-Some-Block.field-0-0 c.in-Some-Block.beats (cc) c.block.result c.block.ensures c.read_rest.result c.read_rest.ensures

pub returns-in_err-item-in-Some-LeftRepeat : goal.returns-in_err-item-in-Some-LeftRepeat
returns-in_err-item-in-Some-LeftRepeat c =
    let p = err_from_is_err_and c.from_residual.result c.from_residual.ensures.1 in
    rw (p.1, p.2) (score_halts c.args.words.now c.start_of-start.result c.start_of-start.ensures (cc) c.in_err-item-in-Some-LeftRepeat.field-0.0 c.in_err-item-in-Some-LeftRepeat.ensures)

pub returns-in_ok-item-in-Some-LeftRepeat : goal.returns-in_ok-item-in-Some-LeftRepeat
returns-in_ok-item-in-Some-LeftRepeat c =
    score_group c.args.words.now c.start_of-start.result c.start_of-start.ensures (cc) c.in_ok-item-in-Some-LeftRepeat.item c.in_ok-item-in-Some-LeftRepeat.ensures c.read_rest-in-Some-LeftRepeat.result c.read_rest-in-Some-LeftRepeat.ensures

pub returns-in_default : goal.returns-in_default
returns-in_default c = score_wrong c.args.words.now c.start_of-start.result c.start_of-start.ensures (ap starts_item (sym c.sign_at.ensures) ∙ search rules)

pub returns-in_default-2 : goal.returns-in_default-2
returns-in_default-2 c = score_wrong c.args.words.now c.start_of-start.result c.start_of-start.ensures (ap starts_item (sym c.sign_at.ensures) ∙ search rules)
