-- Runs one after the other, each from the position that the one before left, each with a buffer of its own.
-- Assumes nothing.
use Rattle.std.specs.Prelude.{◌≡◌, List, [], ◌∷◌, ◌++◌, ℕ, ◌+◌, take, Ok}
use Rattle.refusals.specs.Limits.{Limits}
use Rattle.played.specs.declared.Played.{Played}
use Rattle.machine.specs.declared.Position.{Position}
use Rattle.stand.specs.declared.Stop.{Stop}
use Rattle.stand.specs.declared.Stop.TheVariants.{BufferFull}
use Rattle.stand.specs.Runs.{ended, outcome, running}

-- one run's allowance, and the buffer that it is lent, with any old content
pub record Lent : Type 0 where
  pub allowance : ℕ
  pub play : List Played

abbrev pub sum : List Lent → ℕ
sum [] = 0
sum (a ∷ rest) = a.allowance + sum rest

-- the runs, none of them refused and none with a full buffer, take so many steps together, play so much, and end at q
pub data Chain (l : Limits) (listing : List ℕ) : Position → List Lent → (steps : ℕ) → (plays : List Played) → (q : Position) → Type 0 where
  none : (p : Position) → Chain l listing p [] 0 [] p
  next : (p q r : Position) (why : Stop) (steps entries more : ℕ) (after plays : List Played) (a : Lent) (rest : List Lent)
      → running l listing p a.allowance a.play ≡ outcome (Ok (ended why steps entries q)) after
      → (why ≡ BufferFull → ⊥)
      → Chain l listing q rest more plays r
      → Chain l listing p (a ∷ rest) (steps + more) (take entries after ++ plays) r
