-- Two blocks with an allowance of one step: one entry is written, and the other is as it was. So a run that plays everything in its first step does not meet the contract.
-- Assumes nothing.
use mathlib.Core.Path.{◌≡◌, refl}
use mathlib.Core.List.{List, [], ◌∷◌}
use Prim.Native.Nat.{ℕ}
use Rattle.std.specs.Prelude.{Ok}
use Rattle.refusals.specs.Limits.{document01}
use Rattle.played.specs.declared.Played.{Played}
use Rattle.instructions.specs.Forms.{block}
use Rattle.instructions.specs.Words.{packed, decoded, unpacked}
use Rattle.instructions.specs.Places.{least}
use Rattle.instructions.specs.Test.{keeps, test_listing}
use Rattle.machine.specs.Machine.{run, step, plays, find, position, fresh_of}
use Rattle.stand.specs.declared.chunk.TheConstants.{CHUNK}
use Rattle.stand.specs.declared.Stop.TheVariants.{AllowanceUsed, BufferFull}
use Rattle.stand.specs.Positions.{position_fits}
use Rattle.stand.specs.Runs.{ended, outcome, running}

pub two : List ℕ
two = packed (block 0 4) ∷ packed (block 4 4) ∷ []

abbrev entry : ℕ → ℕ → ℕ → Played
entry k l z = record { k = k; l = l; z = z }

pub one_at_a_time : (a b : Played)
    → running document01 two (fresh_of document01) 1 (a ∷ b ∷ [])
    ≡ outcome (Ok (ended AllowanceUsed 1 1 (position 1 (fresh_of document01).counts 4))) (entry 0 4 0 ∷ b ∷ [])
unfolding two running packed decoded unpacked least keeps test_listing run step plays find position_fits
one_at_a_time a b = refl

-- with no buffer a block is not played
pub no_buffer : running document01 two (fresh_of document01) 5 [] ≡ outcome (Ok (ended BufferFull 0 0 (fresh_of document01))) []
unfolding two running packed decoded unpacked least keeps test_listing run step plays find position_fits
no_buffer = refl

-- the buffer that most callers want has 64 entries
pub chunk_entries : CHUNK ≡ 64
chunk_entries = refl
