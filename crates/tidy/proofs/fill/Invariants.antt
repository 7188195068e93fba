use Rattle.std.proofs.Common.{◌≤◌, length, take}
use Rattle.std.specs.Io.KnownBytes.{Consumes}
use Rattle.tidy.proofs.fill.Given as goal

-- the bytes that came stand at the front, and no more of them than fit
abbrev pub invariant-loop : goal.invariant-loop
invariant-loop g l = record {
  within : l.n ≤ length l.text;
  bytes : Consumes (g.R.Read.remaining l.initial.input) (g.R.Read.remaining l.input) (take l.n l.text);
}
