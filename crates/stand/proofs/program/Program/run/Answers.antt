-- `stand::program::Program::run`: at first nothing is done.
use Rattle.std.proofs.Common.{arith}
use Rattle.refusals.specs.Limits.{document01}
use Rattle.stand.proofs.Running.{starts}
use Rattle.stand.proofs.program.Program.run.Goals as goal

pub loop-steps-init : goal.loop-steps-init
loop-steps-init c = starts document01 _ _ _ _ (omega arith)
