-- `stand::program::Program::find_label`: the mark's word is the label's, and there is one.
use Rattle.std.proofs.Common.{◌≡◌, refl, sym, subst, ◌∙◌, arith}
use Rattle.std.specs.Option.{IsSome}
use Rattle.refusals.specs.Limits.{document01}
use Rattle.machine.specs.Machine.{label_at}
use Rattle.stand.specs.Steps.{program}
use Rattle.stand.proofs.Jumps.{found, label_inside}
use Rattle.stand.proofs.program.Program.find_label.Goals as goal

pub unwrap-requires : goal.unwrap-requires
unwrap-requires c = subst IsSome (sym (c.first_place.ensures ∙ found document01 _ _ c.args.self.now.good c.requires _ c.from-mark.ensures)) refl

pub overflow_cast-result : goal.overflow_cast-result
overflow_cast-result c =
    let e = found document01 _ _ c.args.self.now.good c.requires _ c.from-mark.ensures in
    let is : c.unwrap.result ≡ label_at (program c.args.self.now.listing.now) c.args.label = cc in
    omega (arith, label_inside document01 _ _ c.args.self.now.good c.requires)

pub returns : goal.returns
returns c =
    let e = found document01 _ _ c.args.self.now.good c.requires _ c.from-mark.ensures in
    cc
