-- What the private functions of one step are given, and what they promise.
-- Assumes nothing.
use Rattle.std.specs.Prelude.{◌≡◌, List, map, ℕ, ◌+◌, ◌<◌, ◌^◌, length, get_or, Ok}
use Rattle.refusals.specs.Limits.{Limits}
use Rattle.instructions.specs.declared.Instruction.{Instruction}
use Rattle.instructions.specs.Words.{decoded}
use Rattle.instructions.specs.Test.{test_listing}
use Rattle.machine.specs.declared.Position.{Position}

-- the instructions of a listing's words
abbrev pub program : List ℕ → List Instruction
program listing = map decoded listing

-- the listing passes test 11
abbrev pub Tested : Limits → List ℕ → Type 0
Tested l listing = test_listing l listing ≡ Ok tt

-- instruction i stands at the position, and a block more does not pass 64 bits
pub record Stepping (l : Limits) (listing : List ℕ) (i : Instruction) (p : Position) : Type 0 where
  pub inside : p.next < length listing
  pub there : i ≡ decoded (get_or listing p.next 0)
  pub early : p.beat + l.number < 2 ^ 64
