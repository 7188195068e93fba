-- `stand::program::Program::run`: what is done and what is left make the whole.
use Rattle.std.proofs.Common.{length}
use Rattle.refusals.specs.Limits.{document01}
use Rattle.machine.specs.Machine.{run}
use Rattle.stand.specs.Runs.{ran}
use Rattle.stand.specs.Steps.{program}
use Rattle.stand.proofs.Running.{Going}
use Rattle.stand.proofs.program.Program.run.Given as goal

abbrev pub invariant-loop-steps : goal.invariant-loop-steps
invariant-loop-steps l =
    Going document01 (program l.self.listing.now) l.allowance
    (ran (run (program l.self.listing.now) l.allowance (length l.fn.play) l.fn.position) l.fn.play)
    l.steps l.entries l.position l.play
