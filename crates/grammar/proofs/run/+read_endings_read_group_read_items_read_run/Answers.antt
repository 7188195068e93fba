-- The readers of runs, groups and endings: each answers by the law of its way.
use Rattle.std.proofs.Common.{sym, ap, ◌∙◌, rules, Ok, Err}
use Rattle.std.proofs.lemmas.Result.{err_from_is_err_and}
use Rattle.grammar.specs.Stretches.{followed}
use Rattle.grammar.proofs.Heads.{starts_item, ends_left, ends_ending}
use Rattle.grammar.proofs.Ways.{run_stops, run_halts, past_block, past_item, items_none, items_some, group_wrong, group_closes, group_endings, ends_halt, ends_wrong, ends_once, ends_done, past_ending}
use Rattle.grammar.proofs.run.+read_endings_read_group_read_items_read_run.Goals as goal

pub read_run-returns-in_default : goal.read_run-returns-in_default
read_run-returns-in_default t c =
    let m = c.items.invariant in
    m.2 (Ok c.items.read) (run_stops c.args.words.now c.args.depth c.items.read m.1 (ap starts_item (sym c.sign_at.ensures) ∙ search rules))

pub read_run-returns-in_default-2 : goal.read_run-returns-in_default-2
read_run-returns-in_default-2 t c =
    let m = c.items.invariant in
    m.2 (Ok c.items.read) (run_stops c.args.words.now c.args.depth c.items.read m.1 (ap starts_item (sym c.sign_at.ensures) ∙ search rules))

pub read_run-returns-in_err-item-in-Some-LeftRepeat : goal.read_run-returns-in_err-item-in-Some-LeftRepeat
read_run-returns-in_err-item-in-Some-LeftRepeat t c =
    let p = err_from_is_err_and c.from_residual.result c.from_residual.ensures.1 in
    let h = c.in_err-item-in-Some-LeftRepeat.field-0.0 in
    rw (p.1, p.2) (c.items.invariant.2 (Err h) (run_halts c.args.words.now c.args.depth c.items.read (cc) h c.in_err-item-in-Some-LeftRepeat.ensures))

pub read_run-items-preserved-in-Block-1 : goal.read_run-items-preserved-in-Block-1
read_run-items-preserved-in-Block-1 t c =
    past_block c.args.words.now c.args.depth c.args.run c.items.read c.items.invariant c.in-Some-Block.field-0-0 c.in-Some-Block.beats (cc) c.follow-read.result (c.follow-read.ensures ∙ ap (followed c.items.read) c.block-block.ensures)

pub read_run-items-preserved : goal.read_run-items-preserved
read_run-items-preserved t c =
    past_item c.args.words.now c.args.depth c.args.run c.items.read c.items.invariant (cc) c.in_ok-item-in-Some-LeftRepeat.item c.in_ok-item-in-Some-LeftRepeat.ensures c.follow-read-in-Some-LeftRepeat.result c.follow-read-in-Some-LeftRepeat.ensures

pub read_items-returns-in-NoItem : goal.read_items-returns-in-NoItem
read_items-returns-in-NoItem t c = items_none c.args.words.now c.args.depth c.args.at c.empty.result c.empty.ensures c.in_ok-run.run' c.in_ok-run.ensures c.in-NoItem.is

pub read_items-returns-in_default : goal.read_items-returns-in_default
read_items-returns-in_default t c = items_some c.args.words.now c.args.depth c.args.at c.empty.result c.empty.ensures c.in_ok-run.run' c.in_ok-run.ensures c.in_default.not-NoItem

pub read_group-returns-in-Some-RightRepeat : goal.read_group-returns-in-Some-RightRepeat
read_group-returns-in-Some-RightRepeat t c = group_closes c.args.words.now c.args.depth c.args.at c.in_ok-run.run' c.in_ok-run.ensures c.close.result c.close.ensures (cc)

pub read_group-returns-in-Some-OpenEnding : goal.read_group-returns-in-Some-OpenEnding
read_group-returns-in-Some-OpenEnding t c =
    group_endings c.args.words.now c.args.depth c.args.at c.in_ok-run.run' c.in_ok-run.ensures c.begin.result c.begin.ensures (cc) c.read_endings.result c.read_endings.ensures

pub read_group-returns-in_default : goal.read_group-returns-in_default
read_group-returns-in_default t c = group_wrong c.args.words.now c.args.depth c.args.at c.in_ok-run.run' c.in_ok-run.ensures (ap ends_left (sym c.sign_at.ensures) ∙ search rules)

pub read_group-returns-in_default-2 : goal.read_group-returns-in_default-2
read_group-returns-in_default-2 t c = group_wrong c.args.words.now c.args.depth c.args.at c.in_ok-run.run' c.in_ok-run.ensures (ap ends_left (sym c.sign_at.ensures) ∙ search rules)

pub read_endings-returns-in_err-ending : goal.read_endings-returns-in_err-ending
read_endings-returns-in_err-ending t c =
    let p = err_from_is_err_and c.from_residual.result c.from_residual.ensures.1 in
    let h = c.in_err-ending.field-0.0 in
    rw (p.1, p.2) (c.endings.invariant.2 (Err h) (ends_halt c.args.words.now c.args.depth c.endings.begun h c.in_err-ending.ensures))

pub read_endings-returns-in_default : goal.read_endings-returns-in_default
read_endings-returns-in_default t c =
    c.endings.invariant.2 (Err c.halt_at.result)
    (ends_wrong c.args.words.now c.args.depth c.endings.begun c.in_ok-ending.ending c.in_ok-ending.ensures c.halt_at.result c.halt_at.ensures (ap ends_ending (sym c.sign_at.ensures) ∙ search rules))

pub read_endings-endings-preserved : goal.read_endings-endings-preserved
read_endings-endings-preserved t c =
    past_ending c.args.words.now c.args.depth c.args.group c.endings.begun c.endings.invariant c.in_ok-ending.ending c.in_ok-ending.ensures (cc) (sym c.goes_on.ensures ∙ c.if-goes_on.true) c.go_on-begun.result c.go_on-begun.ensures

pub read_endings-returns-then-begun-eq0 : goal.read_endings-returns-then-begun-eq0
read_endings-returns-then-begun-eq0 t c =
    c.endings.invariant.2 (Err c.halt_at-then-begun-eq0.result)
    (ends_once c.args.words.now c.args.depth c.endings.begun c.in_ok-ending.ending c.in_ok-ending.ensures (cc) c.halt_at-then-begun-eq0.result c.halt_at-then-begun-eq0.ensures (sym c.goes_on.ensures ∙ c.if-goes_on.false) c.if-begun-eq0.true)

pub read_endings-returns-in-endings : goal.read_endings-returns-in-endings
read_endings-returns-in-endings t c =
    c.endings.invariant.2 (Ok c.finish.result)
    (ends_done c.args.words.now c.args.depth c.endings.begun c.in_ok-ending.ending c.in_ok-ending.ensures (cc) c.finish.result c.finish.ensures (sym c.goes_on.ensures ∙ c.if-goes_on.false) c.if-begun-eq0.false)
