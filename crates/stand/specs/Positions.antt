-- Refusal 12: what makes a saved position bad, and its test; of a good listing they are the same (proofs/Positions.antt).
-- Assumes nothing.
use Rattle.std.specs.Prelude.{◌≡◌, Bool, ◌&&◌, List, ℕ, ◌<◌, length, get_or, leb, ltb, Option, Some, None}
use Rattle.refusals.specs.Limits.{Limits}
use Rattle.instructions.specs.declared.Operation.{Operation}
use Rattle.instructions.specs.declared.Operation.TheVariants.{Block, Loop, Repeat, Label, Jump, JumpUnless}
use Rattle.instructions.specs.declared.Instruction.{Instruction}
use Rattle.instructions.specs.Forms.{loop, rep}
use Rattle.instructions.specs.Words.{unpacked}
use Rattle.instructions.specs.Rules.{At}
use Rattle.instructions.specs.Places.{least, rep_place}
use Rattle.machine.specs.declared.Position.{Position}

-- the position is bad
pub data Bad (l : Limits) (listing : List ℕ) (p : Position) : Type 0 where
  -- next place beyond the listing's length
  beyond : length listing < p.next → Bad l listing p
  -- a count above its `rep`'s T
  above : (i L T : ℕ) → At listing i (rep L T) → T < get_or p.counts L 0 → Bad l listing p
  -- a nonzero count for a loop not there
  not_there : (L : ℕ) → ((i : ℕ) → At listing i (loop L) → ⊥) → (get_or p.counts L 0 ≡ 0 → ⊥) → Bad l listing p
  -- performed beat above 10^18
  late : l.beat < p.beat → Bad l listing p

-- T of a `rep`, 0 of any other operation
abbrev pub times_by : Operation → ℕ
times_by (Block k l) = 0
times_by Loop = 0
times_by (Repeat T) = T
times_by Label = 0
times_by (Jump T) = 0
times_by (JumpUnless T) = 0

-- the same of what a word is
abbrev pub times_of : Option Instruction → ℕ
times_of (Some x) = times_by x.operation
times_of None = 0

-- T of loop L's `rep`, 0 where it has none
abbrev pub times : List ℕ → ℕ → ℕ
times listing L = times_of (unpacked (get_or listing (rep_place listing L) 0))

-- no count is above its T
abbrev pub counts_fit : List ℕ → List ℕ → Bool
counts_fit listing counts = leb (length counts) (least (λ L. ltb (times listing L) (get_or counts L 0)) (length counts))

-- test 12: the position fits the listing
unfoldable pub position_fits : Limits → List ℕ → Position → Bool
position_fits l listing p = leb p.next (length listing) && leb p.beat l.beat && counts_fit listing p.counts
