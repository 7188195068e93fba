-- What one turn of a run promises: it stops, or takes one step, and the run goes on with one step less.
-- Assumes nothing.
use Rattle.std.specs.Prelude.{◌≡◌, List, [], ◌∷◌, ℕ, ◌+◌, ◌-◌, ◌<◌, ◌≤◌, Option, Some, None, Result, Ok, Err}
use Rattle.refusals.specs.Limits.{Limits}
use Rattle.played.specs.declared.Played.{Played}
use Rattle.instructions.specs.declared.Instruction.{Instruction}
use Rattle.machine.specs.declared.Position.{Position}
use Rattle.machine.specs.Machine.{stopped, stepped, run}
use Rattle.machine.specs.Machine as machine
use Rattle.stand.specs.declared.Stop.{Stop}
use Rattle.stand.specs.Runs.{told}

-- the run stops at p, for this reason
pub record Stops (listing : List Instruction) (allowance room : ℕ) (p : Position) (why : Stop) : Type 0 where
  pub stop : machine.Stop
  pub is : told stop ≡ why
  pub run_is : run listing allowance room p ≡ stopped stop p

-- the run plays this in its first step, which leads to q with so much room
pub record Goes (l : Limits) (listing : List Instruction) (allowance room : ℕ) (p : Position) (plays : List Played) (left : ℕ) (q : Position) : Type 0 where
  pub allowed : 0 < allowance
  pub run_is : run listing allowance room p ≡ stepped plays (run listing (allowance - 1) left q)
  pub near : q.beat ≤ p.beat + l.number

-- a turn's answer: why the run stops, or the entry that is played, if there is one
abbrev pub Turned : Limits → List Instruction → (allowance room : ℕ) → Position → Result (Option Played) Stop → Position → Type 0
Turned l listing allowance room p (Err why) q = (q ≡ p) × Stops listing allowance room p why
Turned l listing allowance room p (Ok None) q = Goes l listing allowance room p [] room q
Turned l listing allowance room p (Ok (Some e)) q = (0 < room) × Goes l listing allowance room p (e ∷ []) (room - 1) q
