-- A run in parts, one after the other; and a run with no limit on what it plays.
-- Assumes nothing.
use Rattle.std.specs.Prelude.{◌≡◌, List, [], ◌∷◌, ◌++◌, ℕ, ◌+◌}
use Rattle.instructions.specs.declared.Instruction.{Instruction}
use Rattle.machine.specs.declared.Position.{Position}
use Rattle.machine.specs.Machine.{full, Ran, run}

-- a run with as much room as it has steps: its buffer is never full
abbrev pub freely : List Instruction → (allowance : ℕ) → Position → Ran
freely listing allowance p = run listing allowance allowance p

-- one run and then another: steps added, lists joined
abbrev pub joined : Ran → Ran → Ran
joined r s = record { stop = s.stop; steps = r.steps + s.steps; plays = r.plays ++ s.plays; now = s.now }

-- the allowance of one run and the room that it is lent
pub record Part : Type 0 where
  pub allowance : ℕ
  pub room : ℕ

abbrev pub sum : List Part → ℕ
sum [] = 0
sum (a ∷ rest) = a.allowance + sum rest

-- the runs one after the other, each from where the one before stopped
abbrev pub runs : List Instruction → List Part → Position → Ran
runs listing [] p = run listing 0 0 p
runs listing (a ∷ rest) p = joined (run listing a.allowance a.room p) (runs listing rest (run listing a.allowance a.room p).now)

-- none of them finds its buffer full
abbrev pub Roomy : List Instruction → List Part → Position → Type 0
Roomy listing [] p = Unit {0}
Roomy listing (a ∷ rest) p =
    ((run listing a.allowance a.room p).stop ≡ full → ⊥) × Roomy listing rest (run listing a.allowance a.room p).now
