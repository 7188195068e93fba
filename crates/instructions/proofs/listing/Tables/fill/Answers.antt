-- `instructions::listing::Tables::fill`: the tables start with the length everywhere, and each round puts the instruction before into them.
use Rattle.std.proofs.Common.{◌≡◌, ◌-◌, ◌∙◌, sym, arith, length}
use Rattle.std.proofs.Math.ListN.{replicate}
use Rattle.refusals.specs.Limits.{document01}
use Rattle.instructions.proofs.Tables.{filled_none, put_some, read_ok}
use Rattle.instructions.proofs.listing.Tables.fill.Goals as goal

pub loop-i-init : goal.loop-i-init
loop-i-init c =
    let long : length c.args.self.now.labels ≡ document01.labels = omega arith in
    let started : c.fill.new.self ≡ replicate (length c.args.self.now.labels) (length c.args.listing.now) = c.fill.ensures.after (λ y same. same) in
    rw (started, long) (filled_none document01 c.args.listing.now)

pub loop-i-preserved-in-Ok : goal.loop-i-preserved-in-Ok
loop-i-preserved-in-Ok c =
    put_some document01 c.args.listing.now (c.loop-i.i - 1) c.loop-i.i c.loop-i.self (omega arith) (omega arith) c.loop-i.invariant c.in-Ok.x c.put.new.self
    (read_ok _ _ c.in-Ok.x (sym c.try_from.ensures ∙ c.in-Ok.is))
    c.put.ensures
