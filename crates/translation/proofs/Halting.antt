-- A run that has gone through its listing has halted; and with a smaller allowance it is unfinished after exactly that many steps.
-- Assumes nothing.
use mathlib.Core.Path.{◌≡◌, refl, ap}
use mathlib.Core.List.{List, [], ◌∷◌, append-nil}
use mathlib.Core.Option.{Option, none, some}
use Prim.Native.Nat.{ℕ, zero, suc, ◌+◌, ◌<◌}
use native.Mathlib.Nat.{add-zero, zero-add}
use native.Mathlib.Omega.{arith}
use lib.ListN.{length, get_elem?}
use Rattle.played.specs.Played.{Block, entries, total}
use Rattle.instructions.specs.declared.Instruction.{Instruction}
use Rattle.machine.specs.declared.Position.{Position}
use Rattle.machine.specs.Machine.{position, step, room_behind, halted, used, full, Ran, stopped, run}
use Rattle.translation.proofs.Goes.{Goes, run_some}

past_end : (prog : List Instruction) → get_elem? prog (length prog) ≡ none
past_end [] = refl
past_end (i ∷ prog) = past_end prog

pub run_end : (prog : List Instruction) (n r : ℕ) (p : Position) → get_elem? prog p.next ≡ none → run prog n r p ≡ stopped halted p
unfolding run
run_end prog zero r p e = rw (e, run)
run_end prog (suc n) r p e = rw (e, run)

pub run_full : (prog : List Instruction) (n r : ℕ) (p : Position) (i : Instruction)
    → get_elem? prog p.next ≡ some i
    → room_behind r i.operation ≡ none
    → run prog (suc n) r p ≡ stopped full p
unfolding run
run_full prog n r p i e f = rw (e, f, run)

pub run_used : (prog : List Instruction) (r : ℕ) (p : Position) (i : Instruction) → get_elem? prog p.next ≡ some i → run prog zero r p ≡ stopped used p
unfolding run
run_used prog r p i e = rw (e, run)

-- to the end
pub halts : {prog : List Instruction} {a n : ℕ} {cs ds : List ℕ} {ps : List Block}
    → Goes prog a cs n ps (length prog) ds
    → (k r : ℕ)
    → run prog (n + k) (length ps + r) (position a cs 0) ≡ record { stop = halted; steps = n; plays = entries 0 ps; now = position (length prog) ds (total ps) }
halts {prog} {a} {n} {cs} {ds} {ps} g k r =
    rw (g.runs k r 0, run_end prog k r (position (length prog) ds (0 + total ps)) (past_end prog), add-zero n, append-nil (entries 0 ps), zero-add (total ps))

-- a run that takes all of its allowance does not halt with less
pub record Unfinished (n : ℕ) (r : Ran) : Type 0 where
  pub stop : r.stop ≡ used
  pub steps : r.steps ≡ n

pub unfinished : (prog : List Instruction) (n r : ℕ) (p : Position) → (run prog n r p).steps ≡ n → (m : ℕ) → m < n → Unfinished m (run prog m r p)
unfinished prog zero r p e m h = absurd (omega arith)
unfinished prog (suc n) r p e m h = go (get_elem? prog p.next) refl (λ r p. unfinished prog n r p)
  where
    Less : Type 0
    Less = (r : ℕ) (p : Position) → (run prog n r p).steps ≡ n → (m : ℕ) → m < n → Unfinished m (run prog m r p)

    none_of : (run prog (suc n) r p).steps ≡ 0 → Unfinished m (run prog m r p)
    none_of z = absurd (omega arith)

    shorter : (i : Instruction) (r' : ℕ) → get_elem? prog p.next ≡ some i → room_behind r i.operation ≡ some r' → Less → (m : ℕ) → m < suc n → Unfinished m (run prog m r p)
    shorter i r' x y less zero l = rw (run_used prog r p i x) (record { stop = refl; steps = refl })
    shorter i r' x y less (suc m) l =
        let u : Unfinished m (run prog m r' (step prog p i)) = less r' (step prog p i) (let s = ap (λ (q : Ran). q.steps) (run_some prog n r r' p i x y) in omega arith) m (omega arith) in
        rw (run_some prog m r r' p i x y) (record { stop = u.stop; steps = ap suc u.steps })

    room : (i : Instruction) → get_elem? prog p.next ≡ some i → (o : Option ℕ) → room_behind r i.operation ≡ o → Less → Unfinished m (run prog m r p)
    room i x none y less = none_of (ap (λ (q : Ran). q.steps) (run_full prog n r p i x y))
    room i x (some r') y less = shorter i r' x y less m h

    go : (o : Option Instruction) → get_elem? prog p.next ≡ o → Less → Unfinished m (run prog m r p)
    go none x less = none_of (ap (λ (q : Ran). q.steps) (run_end prog (suc n) r p x))
    go (some i) x less = room i x (room_behind r i.operation) refl less
