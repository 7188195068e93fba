-- A run and its play buffer: it never plays more than there is room for, and with room enough it is the run with no limit.
-- Assumes nothing.
use mathlib.Core.Path.{◌≡◌, refl, ap}
use mathlib.Core.List.{List, ◌++◌}
use mathlib.Core.Option.{none, some}
use Prim.Native.Nat.{ℕ, zero, suc, ◌+◌, ◌-◌, ◌≤◌}
use native.Mathlib.Omega.{arith}
use lib.ListN.{length, get_elem?, length-append}
use Rattle.played.specs.declared.Played.{Played}
use Rattle.instructions.specs.declared.Operation.{Operation}
use Rattle.instructions.specs.declared.Operation.TheVariants.{Block, Loop, Repeat, Label, Jump, JumpUnless}
use Rattle.instructions.specs.declared.Instruction.{Instruction}
use Rattle.machine.specs.declared.Position.{Position}
use Rattle.machine.specs.Machine.{full, room_behind, plays_at, plays, step, stepped, run, Ran}
use Rattle.machine.specs.Parts.{freely}
use Rattle.machine.proofs.Runs.{run_halted, run_used, run_step, by_steps}

-- ---- one operation
-- what it plays and the room that it leaves are the room there was
filled : (z room r : ℕ) (o : Operation) → room_behind room o ≡ some r → length (plays_at z o) + r ≡ room
filled z zero r (Block k l) e = cc
filled z (suc room) r (Block k l) e = let x : room ≡ r = cc in omega arith
filled z room r Loop e = let x : room ≡ r = cc in omega arith
filled z room r (Repeat T) e = let x : room ≡ r = cc in omega arith
filled z room r Label e = let x : room ≡ r = cc in omega arith
filled z room r (Jump T) e = let x : room ≡ r = cc in omega arith
filled z room r (JumpUnless T) e = let x : room ≡ r = cc in omega arith

-- it plays one block at most
one_block : (z : ℕ) (o : Operation) → length (plays_at z o) ≤ 1
one_block z (Block k l) = omega arith
one_block z Loop = omega arith
one_block z (Repeat T) = omega arith
one_block z Label = omega arith
one_block z (Jump T) = omega arith
one_block z (JumpUnless T) = omega arith

-- where there is no room for it, there is none at all
no_room : (room : ℕ) (o : Operation) → room_behind room o ≡ none → room ≡ 0
no_room zero (Block k l) e = refl
no_room (suc room) (Block k l) e = cc
no_room room Loop e = cc
no_room room (Repeat T) e = cc
no_room room Label e = cc
no_room room (Jump T) e = cc
no_room room (JumpUnless T) e = cc

-- where there is room for what it plays and s more, it leaves s
leaves : (z room s : ℕ) (o : Operation) → length (plays_at z o) + s ≡ room → room_behind room o ≡ some s
leaves z zero s (Block k l) e = absurd (omega arith)
leaves z (suc room) s (Block k l) e = ap some (omega arith)
leaves z room s Loop e = ap some (omega arith)
leaves z room s (Repeat T) e = ap some (omega arith)
leaves z room s Label e = ap some (omega arith)
leaves z room s (Jump T) e = ap some (omega arith)
leaves z room s (JumpUnless T) e = ap some (omega arith)

pub fills_by : (p : Position) (i : Instruction) (room r : ℕ) → room_behind room i.operation ≡ some r → length (plays p i) + r ≡ room
unfolding plays
fills_by p i room r e = filled p.beat room r i.operation e

one_at_most : (p : Position) (i : Instruction) → length (plays p i) ≤ 1
unfolding plays
one_at_most p i = one_block p.beat i.operation

pub leaves_by : (p : Position) (i : Instruction) (room s : ℕ) → length (plays p i) + s ≡ room → room_behind room i.operation ≡ some s
unfolding plays
leaves_by p i room s e = leaves p.beat room s i.operation e

-- ---- a run
module _ (listing : List Instruction) where
  -- a run plays no more than there is room for
  pub within_room : (n room : ℕ) (p : Position) → length (run listing n room p).plays ≤ room
  within_room =
      by_steps listing (λ n room p r. length r.plays ≤ room)
      (λ n room p e. omega arith)
      (λ room p i e. omega arith)
      (λ n room p i e f. omega arith)
      (λ n room r p i e f h. omega (arith, length-append (plays p i) (run listing n r (step listing p i)).plays, fills_by p i room r f))

  -- and no more than a block a step
  pub within_steps : (n room : ℕ) (p : Position) → length (run listing n room p).plays ≤ (run listing n room p).steps
  within_steps =
      by_steps listing (λ n room p r. length r.plays ≤ r.steps)
      (λ n room p e. omega arith)
      (λ room p i e. omega arith)
      (λ n room p i e f. omega arith)
      (λ n room r p i e f h. omega (arith, length-append (plays p i) (run listing n r (step listing p i)).plays, one_at_most p i))

  -- with as much room as steps the buffer is never full
  pub never_full : (n room : ℕ) (p : Position) → n ≤ room → (run listing n room p).stop ≡ full → ⊥
  never_full =
      by_steps listing (λ n room p r. n ≤ room → r.stop ≡ full → ⊥)
      (λ n room p e h x. let y : ◌≡◌ {A = ℕ} 0 1 = cc in omega arith)
      (λ room p i e h x. let y : ◌≡◌ {A = ℕ} 0 1 = cc in omega arith)
      (λ n room p i e f h x. let y : room ≡ 0 = no_room room i.operation f in omega arith)
      (λ n room r p i e f h le x. h (omega (arith, fills_by p i room r f, one_at_most p i)) x)

  -- a run that did not find its buffer full is the same in any other with room for what it played
  pub same_run : (n room : ℕ) (p : Position)
      → ((run listing n room p).stop ≡ full → ⊥)
      → (other : ℕ)
      → length (run listing n room p).plays ≤ other
      → run listing n other p ≡ run listing n room p
  same_run =
      by_steps listing (λ n room p r. (r.stop ≡ full → ⊥) → (other : ℕ) → length r.plays ≤ other → run listing n other p ≡ r)
      (λ n room p e no other le. run_halted listing p n other e)
      (λ room p i e no other le. run_used listing p i e other)
      (λ n room p i e f no other le. absurd (no refl))
      (λ n room r p i e f h no other le. goes n p i e (run listing n r (step listing p i)) other (other_rest (plays p i) (run listing n r (step listing p i)) other le) (h no))
    where
      -- the room that is left in the other buffer
      other_rest : (ps : List Played) (r : Ran) (other : ℕ) → length (stepped ps r).plays ≤ other → (s : ℕ) × (length ps + s ≡ other) × (length r.plays ≤ s)
      other_rest ps r other le = let j : length (ps ++ r.plays) ≡ length ps + length r.plays = length-append ps r.plays in (other - length ps, omega arith, omega arith)

      goes : (n : ℕ) (p : Position) (i : Instruction) → get_elem? listing p.next ≡ some i → (r : Ran) (other : ℕ)
          → (s : ℕ) × (length (plays p i) + s ≡ other) × (length r.plays ≤ s)
          → ((other : ℕ) → length r.plays ≤ other → run listing n other (step listing p i) ≡ r)
          → run listing (suc n) other p ≡ stepped (plays p i) r
      goes n p i e r other (s, is, le) h = rw (run_step listing p i e n other s (leaves_by p i other s is), h s le)

  -- a run with room for what it plays is the run with no limit
  pub enough : (n room : ℕ) (p : Position) → length (freely listing n p).plays ≤ room → run listing n room p ≡ freely listing n p
  enough n room p le = same_run n n p (never_full n n p (omega arith)) room le
