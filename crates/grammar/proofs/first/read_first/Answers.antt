-- The reader of the first run answers by the law of its way.
use Rattle.std.proofs.Common.{sym, ap, ◌∙◌, rules, Ok, Err}
use Rattle.std.proofs.lemmas.Result.{err_from_is_err_and}
use Rattle.grammar.specs.Kinds.{halt}
use Rattle.grammar.proofs.Heads.{ends_left}
use Rattle.grammar.proofs.FirstWays.{first_halts, first_empty, first_wrongs, first_ends, first_stops, past_close, past_group}
use Rattle.grammar.proofs.first.read_first.Goals as goal

pub returns-in_err-first : goal.returns-in_err-first
returns-in_err-first c =
    let p = err_from_is_err_and c.from_residual.result c.from_residual.ensures.1 in
    let h = c.in_err-first.field-0.0 in
    rw (p.1, p.2) (c.closes.invariant.2 (Err h) (first_halts c.args.words.now c.closes.read h c.in_err-first.ensures))

pub returns-in-NoItem : goal.returns-in-NoItem
returns-in-NoItem c = c.closes.invariant.2 (Err (halt c.in_ok-first.first.at)) (first_empty c.args.words.now c.closes.read c.in_ok-first.first c.in_ok-first.ensures c.in-NoItem.is)

pub closes-preserved-in-RightRepeat-1 : goal.closes-preserved-in-RightRepeat-1
closes-preserved-in-RightRepeat-1 c =
    past_close c.args.words.now c.args.run c.closes.read c.closes.invariant c.in_ok-first.first c.in_ok-first.ensures c.in_default.not-NoItem c.close-read.result c.close-read.ensures (cc)

pub returns-in_err-read-in-Some-OpenEnding : goal.returns-in_err-read-in-Some-OpenEnding
returns-in_err-read-in-Some-OpenEnding c =
    let p = err_from_is_err_and c.from_residual-in_err-read-in-Some-OpenEnding.result c.from_residual-in_err-read-in-Some-OpenEnding.ensures.1 in
    let h = c.in_err-read-in-Some-OpenEnding.field-0.0 in
    rw (p.1, p.2)
    (c.closes.invariant.2 (Err h) (first_stops c.args.words.now c.closes.read c.in_ok-first.first c.in_ok-first.ensures c.in_default.not-NoItem c.begin.result c.begin.ensures (cc) h c.in_err-read-in-Some-OpenEnding.ensures))

pub closes-preserved : goal.closes-preserved
closes-preserved c =
    past_group c.args.words.now c.args.run c.closes.read c.closes.invariant c.in_ok-first.first c.in_ok-first.ensures c.in_default.not-NoItem c.in_ok-read-in-Some-OpenEnding.read c.begin.result c.begin.ensures (cc) c.in_ok-read-in-Some-OpenEnding.ensures

pub returns-in_default-sign_at : goal.returns-in_default-sign_at
returns-in_default-sign_at c =
    c.closes.invariant.2 (Ok c.in_ok-first.first) (first_ends c.args.words.now c.closes.read c.in_ok-first.first c.in_ok-first.ensures c.in_default.not-NoItem (sym c.ends_here.ensures ∙ c.if-ends_here.true))

pub returns-in_default-2 : goal.returns-in_default-2
returns-in_default-2 c =
    c.closes.invariant.2 (Err (halt c.in_ok-first.first.at))
    (first_wrongs c.args.words.now c.closes.read c.in_ok-first.first c.in_ok-first.ensures c.in_default.not-NoItem (ap ends_left (sym c.sign_at.ensures) ∙ search rules) (sym c.ends_here.ensures ∙ c.if-ends_here.false))
