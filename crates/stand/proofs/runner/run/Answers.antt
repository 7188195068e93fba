-- `stand::runner::run`: a refused run answers as the tests say; another is the run of a good listing from a good position.
use Rattle.std.proofs.Common.{ℕ, List, length, ap, ◌∙◌}
use Rattle.std.proofs.lemmas.Result.{err_from_is_err_and}
use Rattle.refusals.specs.Limits.{document01}
use Rattle.machine.specs.Machine.{run}
use Rattle.stand.specs.Steps.{program}
use Rattle.stand.specs.Runs.{ran}
use Rattle.stand.proofs.Opening.{early, refuses, runs}
use Rattle.stand.proofs.runner.run.Goals as goal

pub returns-in_err-program : goal.returns-in_err-program
returns-in_err-program c =
    let (why, is, same) = err_from_is_err_and c.from_residual.result c.from_residual.ensures.1 in
    rw (is, same) (refuses document01 _ _ _ _ _ c.in_err-program.ensures)

pub run-requires : goal.run-requires
run-requires c = early document01 _ _ c.in_ok-program.ensures.0

pub returns : goal.returns
returns c =
    let (good, same) = c.in_ok-program.ensures in
    c.run.ensures ∙ ap (λ (xs : List ℕ). ran (run (program xs) c.args.allowance (length c.args.play.now) c.args.position) c.args.play.now) same ∙ runs document01 _ _ _ _ good
