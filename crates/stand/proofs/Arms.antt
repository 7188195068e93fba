-- An operation that plays nothing: it is any but a block.
-- Assumes nothing.
use mathlib.Core.Path.{◌≡◌, refl}
use mathlib.Core.Bool.{Bool, true, false, cond}
use mathlib.Core.List.{List, []}
use mathlib.Core.Option.{some}
use Prim.Native.Nat.{ℕ}
use lib.ListN.{get_or}
use lib.Dec.{ltb}
use Rattle.instructions.specs.declared.Operation.{Operation}
use Rattle.instructions.specs.declared.Operation.TheVariants.{Block, Loop, Repeat, Label, Jump, JumpUnless}
use Rattle.instructions.specs.declared.Instruction.{Instruction}
use Rattle.machine.specs.declared.Position.{Position}
use Rattle.machine.specs.Machine.{plays_at, room_behind, does}

-- an operation that plays nothing
pub record Silent (o : Operation) : Type 0 where
  pub plays : (z : ℕ) → plays_at z o ≡ []
  pub room : (r : ℕ) → room_behind r o ≡ some r
  pub beat : (listing : List Instruction) (p : Position) (L B : ℕ) → (does listing p L B o).beat ≡ p.beat

same_beat : (z : ℕ) (t : Bool) (p q : Position) → p.beat ≡ z → q.beat ≡ z → (cond t p q).beat ≡ z
same_beat z true p q a b = a
same_beat z false p q a b = b

-- every operation but a block
pub no_block : (o : Operation) → ((k n : ℕ) → o ≡ Block k n → ⊥) → Silent o
no_block (Block k l) t = absurd (t k l refl)
no_block Loop t = record { plays = λ z. refl; room = λ r. refl; beat = λ listing p L B. refl }
no_block (Repeat T) t = record { plays = λ z. refl; room = λ r. refl; beat = λ listing p L B. same_beat p.beat (ltb (get_or p.counts L 0) T) _ _ refl refl }
no_block Label t = record { plays = λ z. refl; room = λ r. refl; beat = λ listing p L B. refl }
no_block (Jump T) t = record { plays = λ z. refl; room = λ r. refl; beat = λ listing p L B. refl }
no_block (JumpUnless T) t = record { plays = λ z. refl; room = λ r. refl; beat = λ listing p L B. refl }
