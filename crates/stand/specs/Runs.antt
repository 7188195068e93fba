-- A run of a listing into a lent play buffer: refusals 11 and 12, else what the machine does.
-- Assumes nothing.
use Rattle.std.specs.Prelude.{cond, List, [], ◌∷◌, ◌++◌, ℕ, length, drop, replicate, Option, Some, None, Result, Ok, Err}
use Rattle.refusals.specs.Limits.{Limits}
use Rattle.refusals.specs.Said.{Said, said, said_refusal}
use Rattle.refusals.specs.declared.Refusal.{Refusal}
use Rattle.refusals.specs.declared.Refusal.TheVariants.{BadPosition}
use Rattle.played.specs.declared.Played.{Played}
use Rattle.instructions.specs.Test.{test_listing}
use Rattle.machine.specs.declared.Position.{Position}
use Rattle.machine.specs.Machine.{halted, used, full, Ran, run}
use Rattle.machine.specs.Machine as machine
use Rattle.stand.specs.declared.Stop.{Stop}
use Rattle.stand.specs.declared.Stop.TheVariants.{Halted, AllowanceUsed, BufferFull}
use Rattle.stand.specs.declared.Ended.{Ended}
use Rattle.stand.specs.Positions.{position_fits}
use Rattle.stand.specs.Steps.{program}

-- how each way to stop is reported
abbrev pub told : machine.Stop → Stop
told halted = Halted
told used = AllowanceUsed
told full = BufferFull

-- why a run stopped, its steps, the entries written, and the new position
abbrev pub ended : Stop → (steps entries : ℕ) → Position → Ended
ended stop steps entries p = record { stop = stop; steps = steps; entries = entries; position = p }

-- document 01's number and values for each report: of a refusal its number and place, else why it stopped (0 halted, 1 allowance used, 2 play buffer full), the steps done and the entries written
abbrev pub said_stop : Stop → ℕ
said_stop Halted = 0
said_stop AllowanceUsed = 1
said_stop BufferFull = 2

abbrev pub said_report : Limits → Result Ended Refusal → Said
said_report l (Ok e) = said 0 (said_stop e.stop ∷ e.steps ∷ e.entries ∷ [])
said_report l (Err why) = said_refusal l why

-- refusal 12, where 11 is not given
abbrev pub refused_by : Limits → List ℕ → Position → Result (Unit {0}) Refusal → Option Refusal
refused_by l listing p (Err why) = Some why
refused_by l listing p (Ok tt) = cond (position_fits l listing p) None (Some BadPosition)

-- refusals 11 and 12
abbrev pub refusal : Limits → List ℕ → Position → Option Refusal
refusal l listing p = refused_by l listing p (test_listing l listing)

-- a play buffer after entries are written from its first on: those behind them are as they were
abbrev pub written : List Played → List Played → List Played
written ps play = ps ++ drop (length ps) play

-- an entry that is all zero, and a buffer of n of them
abbrev pub blank : Played
blank = record { k = 0; l = 0; z = 0 }

abbrev pub blanks : ℕ → List Played
blanks n = replicate n blank

-- what a run answers, and the play buffer after it
pub record Outcome : Type 0 where
  pub answer : Result Ended Refusal
  pub play : List Played

abbrev pub outcome : Result Ended Refusal → List Played → Outcome
outcome answer play = record { answer = answer; play = play }

-- of a run of the machine
abbrev pub ran : Ran → List Played → Outcome
ran r play = outcome (Ok (ended (told r.stop) r.steps (length r.plays) r.now)) (written r.plays play)

-- of a listing from a saved position, where it is refused and where it is not
abbrev pub decided : Limits → (listing : List ℕ) → Position → (allowance : ℕ) → (play : List Played) → Option Refusal → Outcome
decided l listing p allowance play (Some why) = outcome (Err why) play
decided l listing p allowance play None = ran (run (program listing) allowance (length play) p) play

unfoldable pub running : Limits → (listing : List ℕ) → Position → (allowance : ℕ) → (play : List Played) → Outcome
running l listing p allowance play = decided l listing p allowance play (refusal l listing p)
