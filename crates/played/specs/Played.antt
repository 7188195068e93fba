-- The played list of blocks: for each k, l and z.
-- Assumes nothing.
use Rattle.std.specs.Prelude.{List, [], ◌∷◌, ℕ, ◌+◌}
use Rattle.played.specs.declared.Played.{Played}

-- a block: its first written beat and its length
pub record Block : Type 0 where
  pub k : ℕ
  pub l : ℕ

-- the entry of a block that is played from performed beat z on
abbrev pub entry : Block → ℕ → Played
entry b z = record { k = b.k; l = b.l; z = z }

-- the entries of blocks played from performed beat z on: each starts where the one before ends
abbrev pub entries : ℕ → List Block → List Played
entries z [] = []
entries z (b ∷ bs) = entry b z ∷ entries (z + b.l) bs

-- the beats of blocks together
abbrev pub total : List Block → ℕ
total [] = 0
total (b ∷ bs) = b.l + total bs
