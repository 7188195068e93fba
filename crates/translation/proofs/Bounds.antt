-- A score within the limits ends within an allowance of 32 bits, and none of its beats passes the limit of a saved position.
-- Assumes nothing.
use mathlib.Core.Path.{◌≡◌, subst}
use mathlib.Core.Bool.{Bool}
use mathlib.Core.List.{List, [], ◌∷◌, map}
use Prim.Native.Nat.{ℕ, ◌+◌, ◌*◌, ◌^◌, ◌≤◌, ◌<◌}
use native.Mathlib.Nat.{mul-le-mul_left}
use native.Mathlib.Omega.{arith}
use lib.ListN.{length}
use Rattle.refusals.specs.Limits.{Limits, document01}
use Rattle.played.specs.declared.Played.{Played}
use Rattle.score.specs.Trees.{Leaf, block}
use Rattle.score.specs.Shapes.{Score}
use Rattle.score.specs.Readings.{Valid}
use Rattle.played.specs.Played.{entries}
use Rattle.score.specs.Played.{block_of, beats, plays, played}
use Rattle.score.specs.Steps.{steps}
use Rattle.score.specs.Calls.{calls, names}
use Rattle.score.specs.Sums.{total, called}
use Rattle.score.proofs.Bound.{steps_within, AllLow, called_low}
use Rattle.score.proofs.Calls.{blocks_played, beats_played}
use Rattle.score.proofs.Written.{block_signs}
use Rattle.translation.specs.Within.{AllInRange, Within}

-- the steps, in terms of the limits of signs and blocks played
pub steps_at_most : (m : Limits) (implied : Bool) (t : Score) → Valid implied t → Within m t → length (plays t) ≤ m.blocks → steps t ≤ m.blocks * (2 * m.signs) + 5
steps_at_most m implied t v w h = steps_within implied t m.signs m.blocks v w.signs h

-- the beats, in terms of the limits of numbers and blocks played
in_range_low : (m : Limits) (xs : List Leaf) → AllInRange m xs → AllLow m.number xs
in_range_low m [] h = tt
in_range_low m (block k l ∷ xs) h = (h.0.1, in_range_low m xs h.1)

pub beats_at_most : (m : Limits) (t : Score) → Within m t → length (plays t) ≤ m.blocks → total beats (plays t) ≤ m.number * m.blocks
beats_at_most m t w h =
    let r : AllInRange m (names (calls t)) = subst (AllInRange m) (block_signs t) w.numbers in
    let a : called beats (calls t) ≤ m.number * length (plays t) = rw (blocks_played t) (called_low m.number (calls t) (in_range_low m (names (calls t)) r)) in
    let b : total beats (plays t) ≡ called beats (calls t) = beats_played t in
    let c : m.number * length (plays t) ≤ m.number * m.blocks = mul-le-mul_left m.number h in
    omega arith

-- each entry of a played list ends by beat n
abbrev pub EndBy : ℕ → List Played → Type 0
EndBy n [] = Unit {0}
EndBy n (e ∷ es) = (e.z + e.l ≤ n) × EndBy n es

end_by : (n z : ℕ) (ls : List Leaf) → z + total beats ls ≤ n → EndBy n (entries z (map block_of ls))
end_by n z [] h = tt
end_by n z (block k l ∷ ls) h = (omega arith, end_by n (z + l) ls (omega arith))

-- An allowance of 32 bits suffices.
pub allowance_suffices : (implied : Bool) (t : Score) → Valid implied t → Within document01 t → length (plays t) ≤ document01.blocks → steps t < 2 ^ 32
allowance_suffices implied t v w h = let a = steps_at_most document01 implied t v w h in omega arith

-- No beat of a score passes the limit of a saved position.
pub beats_low : (t : Score) → Within document01 t → length (plays t) ≤ document01.blocks → (total beats (plays t) ≤ document01.beat) × EndBy document01.beat (played t)
beats_low t w h =
    let a = beats_at_most document01 t w h in
    let low : total beats (plays t) ≤ document01.beat = omega arith in
    (low, end_by document01.beat 0 (plays t) (omega arith))
