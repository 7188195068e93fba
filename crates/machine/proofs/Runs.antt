-- A run by cases, as its definition has them: it stops, or takes one step and goes on; and the steps that it takes.
-- Assumes nothing.
use mathlib.Core.Path.{◌≡◌, refl}
use mathlib.Core.List.{List, []}
use mathlib.Core.Option.{Option, none, some}
use Prim.Native.Nat.{ℕ, zero, suc, ◌≤◌}
use native.Mathlib.Omega.{arith}
use lib.ListN.{get_elem?}
use Rattle.instructions.specs.declared.Instruction.{Instruction}
use Rattle.machine.specs.declared.Position.{Position}
use Rattle.machine.specs.Machine.{halted, used, full, room_behind, plays, step, stopped, stepped, run, Ran}

module _ (listing : List Instruction) (p : Position) where
  pub run_halted : (n room : ℕ) → get_elem? listing p.next ≡ none → run listing n room p ≡ stopped halted p
  unfolding run
  run_halted zero room e = rw (e, run)
  run_halted (suc n) room e = rw (e, run)

  module _ (i : Instruction) (there : get_elem? listing p.next ≡ some i) where
    pub run_used : (room : ℕ) → run listing 0 room p ≡ stopped used p
    unfolding run
    run_used room = rw (there, run)

    pub run_full : (n room : ℕ) → room_behind room i.operation ≡ none → run listing (suc n) room p ≡ stopped full p
    unfolding run
    run_full n room e = rw (there, e, run)

    pub run_step : (n room r : ℕ) → room_behind room i.operation ≡ some r → run listing (suc n) room p ≡ stepped (plays p i) (run listing n r (step listing p i))
    unfolding run
    run_step n room r e = rw (there, e, run)

-- what holds of a run that stops at once, and of one more step where it holds of the rest, holds of every run
module _ (listing : List Instruction) (P : ℕ → ℕ → Position → Ran → Type 0)
    (halts : (n room : ℕ) (p : Position) → get_elem? listing p.next ≡ none → P n room p (stopped halted p))
    (uses : (room : ℕ) (p : Position) (i : Instruction) → get_elem? listing p.next ≡ some i → P 0 room p (stopped used p))
    (fills : (n room : ℕ) (p : Position) (i : Instruction) → get_elem? listing p.next ≡ some i → room_behind room i.operation ≡ none → P (suc n) room p (stopped full p))
    (steps : (n room r : ℕ) (p : Position) (i : Instruction) → get_elem? listing p.next ≡ some i → room_behind room i.operation ≡ some r → P n r (step listing p i) (run listing n r (step listing p i)) → P (suc n) room p (stepped (plays p i) (run listing n r (step listing p i)))) where
  pub by_steps : (n room : ℕ) (p : Position) → P n room p (run listing n room p)
  by_steps zero room p = go (get_elem? listing p.next) refl
    where
      go : (o : Option Instruction) → get_elem? listing p.next ≡ o → P 0 room p (run listing 0 room p)
      go none e = rw (run_halted listing p 0 room e) (halts 0 room p e)
      go (some i) e = rw (run_used listing p i e room) (uses room p i e)
  by_steps (suc n) room p = go (get_elem? listing p.next) refl (λ r q. by_steps n r q)
    where
      Rest : Type 0
      Rest = (r : ℕ) (q : Position) → P n r q (run listing n r q)

      goes : (i : Instruction) → get_elem? listing p.next ≡ some i → (o : Option ℕ) → room_behind room i.operation ≡ o → Rest → P (suc n) room p (run listing (suc n) room p)
      goes i e none f h = rw (run_full listing p i e n room f) (fills n room p i e f)
      goes i e (some r) f h = rw (run_step listing p i e n room r f) (steps n room r p i e f (h r (step listing p i)))

      go : (o : Option Instruction) → get_elem? listing p.next ≡ o → Rest → P (suc n) room p (run listing (suc n) room p)
      go none e h = rw (run_halted listing p (suc n) room e) (halts (suc n) room p e)
      go (some i) e h = goes i e (room_behind room i.operation) refl h

-- a run takes no more steps than its allowance
pub few_steps : (listing : List Instruction) (n room : ℕ) (p : Position) → (run listing n room p).steps ≤ n
few_steps listing =
    by_steps listing (λ n room p r. r.steps ≤ n)
    (λ n room p e. omega arith)
    (λ room p i e. omega arith)
    (λ n room p i e f. omega arith)
    (λ n room r p i e f h. omega arith)

-- with no allowance nothing is done
pub no_steps : (listing : List Instruction) (room : ℕ) (p : Position) → ((run listing 0 room p).steps ≡ 0) × ((run listing 0 room p).plays ≡ []) × ((run listing 0 room p).now ≡ p)
no_steps listing room p = go (get_elem? listing p.next) refl
  where
    go : (o : Option Instruction) → get_elem? listing p.next ≡ o → ((run listing 0 room p).steps ≡ 0) × ((run listing 0 room p).plays ≡ []) × ((run listing 0 room p).now ≡ p)
    go none e = rw (run_halted listing p 0 room e) (refl, refl, refl)
    go (some i) e = rw (run_used listing p i e room) (refl, refl, refl)
