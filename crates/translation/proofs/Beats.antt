-- Wherever a run of a score's listing stops, its performed beat is within the limit of a saved position.
-- Assumes nothing.
use mathlib.Core.Path.{◌≡◌, refl, ap, ◌∙◌}
use mathlib.Core.Bool.{Bool, true, false, cond}
use mathlib.Core.List.{List}
use mathlib.Core.Option.{Option, none, some}
use Prim.Native.Nat.{ℕ, zero, suc, ◌+◌, ◌≤◌}
use native.Mathlib.Nat.{suc-add}
use native.Mathlib.Omega.{arith}
use lib.Dec.{ltb}
use lib.ListN.{length, get_or, get_elem?, set}
use Rattle.refusals.specs.Limits.{Limits, document01}
use Rattle.score.specs.Shapes.{Score}
use Rattle.score.specs.Played.{beats, plays}
use Rattle.score.specs.Steps.{steps}
use Rattle.score.specs.Sums.{total}
use Rattle.instructions.specs.declared.Operation.{Operation}
use Rattle.instructions.specs.declared.Operation.TheVariants.{Block, Loop, Repeat, Label, Jump, JumpUnless}
use Rattle.instructions.specs.declared.Instruction.{Instruction}
use Rattle.instructions.specs.Forms.{loop_of, label_of}
use Rattle.machine.specs.declared.Position.{Position}
use Rattle.machine.specs.Machine.{position, fresh_of, loop_at, does, step, room_behind, Ran, run}
use Rattle.translation.specs.Listing.{whole_of, code}
use Rattle.translation.specs.Within.{Within}
use Rattle.translation.proofs.Goes.{run_some}
use Rattle.translation.proofs.Halting.{run_end, run_full, run_used}
use Rattle.translation.proofs.Plays.{plays_through}
use Rattle.translation.proofs.Bounds.{beats_low}

-- ---- a step never takes a beat back
does_grows : (prog : List Instruction) (p : Position) (L B : ℕ) (o : Operation) → p.beat ≤ (does prog p L B o).beat
does_grows prog p L B (Block k l) = omega arith
does_grows prog p L B Loop = omega arith
does_grows prog p L B (Repeat T) = go (ltb (get_or p.counts L 0) T)
  where
    go : (t : Bool) → p.beat ≤ (cond t (position (suc (loop_at prog L)) (set p.counts L (suc (get_or p.counts L 0))) p.beat) (position (suc p.next) p.counts p.beat)).beat
    go true = omega arith
    go false = omega arith
does_grows prog p L B Label = omega arith
does_grows prog p L B (Jump T) = omega arith
does_grows prog p L B (JumpUnless T) = omega arith

step_grows : (prog : List Instruction) (p : Position) (i : Instruction) → p.beat ≤ (step prog p i).beat
unfolding step
step_grows prog p i = does_grows prog p (loop_of i) (label_of i) i.operation

-- ---- the beat where a run stops
module _ (prog : List Instruction) where
  abbrev beat_after : ℕ → ℕ → Position → ℕ
  beat_after n r p = (run prog n r p).now.beat

  at_end : (n r : ℕ) (p : Position) → get_elem? prog p.next ≡ none → beat_after n r p ≡ p.beat
  at_end n r p e = ap (λ (q : Ran). q.now.beat) (run_end prog n r p e)

  at_full : (n r : ℕ) (p : Position) (i : Instruction) → get_elem? prog p.next ≡ some i → room_behind r i.operation ≡ none → beat_after (suc n) r p ≡ p.beat
  at_full n r p i e f = ap (λ (q : Ran). q.now.beat) (run_full prog n r p i e f)

  at_once : (r : ℕ) (p : Position) → beat_after zero r p ≡ p.beat
  at_once r p = go (get_elem? prog p.next) refl
    where
      go : (o : Option Instruction) → get_elem? prog p.next ≡ o → beat_after zero r p ≡ p.beat
      go none e = at_end zero r p e
      go (some i) e = ap (λ (q : Ran). q.now.beat) (run_used prog r p i e)

  at_some : (n r r' : ℕ) (p : Position) (i : Instruction) → get_elem? prog p.next ≡ some i → room_behind r i.operation ≡ some r' → beat_after (suc n) r p ≡ beat_after n r' (step prog p i)
  at_some n r r' p i e f = ap (λ (q : Ran). q.now.beat) (run_some prog n r r' p i e f)

  run_grows : (n r : ℕ) (p : Position) → p.beat ≤ beat_after n r p
  run_grows zero r p = let a = at_once r p in omega arith
  run_grows (suc n) r p = go (get_elem? prog p.next) refl (λ r p. run_grows n r p)
    where
      Less : Type 0
      Less = (r : ℕ) (p : Position) → p.beat ≤ beat_after n r p

      room : (i : Instruction) → get_elem? prog p.next ≡ some i → (o : Option ℕ) → room_behind r i.operation ≡ o → Less → p.beat ≤ beat_after (suc n) r p
      room i e none f less = let a = at_full n r p i e f in omega arith
      room i e (some r') f less = let a = at_some n r r' p i e f in let b = step_grows prog p i in let c = less r' (step prog p i) in omega arith

      go : (o : Option Instruction) → get_elem? prog p.next ≡ o → Less → p.beat ≤ beat_after (suc n) r p
      go none e less = let a = at_end (suc n) r p e in omega arith
      go (some i) e less = room i e (room_behind r i.operation) refl less

  -- more room, where there is room
  more_room : (j r r' : ℕ) (o : Operation) → room_behind r o ≡ some r' → room_behind (r + j) o ≡ some (r' + j)
  more_room j zero r' (Block k l) e = let z : ◌≡◌ {A = ℕ} 0 1 = cc in absurd (omega arith)
  more_room j (suc r) r' (Block k l) e = let q : r ≡ r' = cc in rw (suc-add r j, q)
  more_room j r r' Loop e = let q : r ≡ r' = cc in rw q
  more_room j r r' (Repeat T) e = let q : r ≡ r' = cc in rw q
  more_room j r r' Label e = let q : r ≡ r' = cc in rw q
  more_room j r r' (Jump T) e = let q : r ≡ r' = cc in rw q
  more_room j r r' (JumpUnless T) e = let q : r ≡ r' = cc in rw q

  -- with a larger allowance and more room a run comes at least as far
  goes_further : (k j n r : ℕ) (p : Position) → beat_after n r p ≤ beat_after (n + k) (r + j) p
  goes_further k j zero r p = let a = at_once r p in let b = run_grows (zero + k) (r + j) p in omega arith
  goes_further k j (suc n) r p = go (get_elem? prog p.next) refl (λ r p. goes_further k j n r p)
    where
      Less : Type 0
      Less = (r : ℕ) (p : Position) → beat_after n r p ≤ beat_after (n + k) (r + j) p

      room : (i : Instruction) → get_elem? prog p.next ≡ some i → (o : Option ℕ) → room_behind r i.operation ≡ o → Less → beat_after (suc n) r p ≤ beat_after (suc n + k) (r + j) p
      room i e none f less = let a = at_full n r p i e f in let b = run_grows (suc n + k) (r + j) p in omega arith
      room i e (some r') f less =
          let a = at_some n r r' p i e f in
          let b : beat_after (suc n + k) (r + j) p ≡ beat_after (n + k) (r' + j) (step prog p i) =
          ap (λ (m : ℕ). beat_after m (r + j) p) (suc-add n k) ∙ at_some (n + k) (r + j) (r' + j) p i e (more_room j r r' i.operation f)
          in
          let c = less r' (step prog p i) in
          omega arith

      go : (o : Option Instruction) → get_elem? prog p.next ≡ o → Less → beat_after (suc n) r p ≤ beat_after (suc n + k) (r + j) p
      go none e less = let a = at_end (suc n) r p e in let b = run_grows (suc n + k) (r + j) p in omega arith
      go (some i) e less = room i e (room_behind r i.operation) refl less

-- at most the score's beats, whatever the allowance and the room
pub at_most_total : (l : Limits) (t : Score) → (whole_of t).loops ≤ l.loops → (n room : ℕ) → (run (code t) n room (fresh_of l)).now.beat ≤ total beats (plays t)
at_most_total l t fits n room =
    let a = goes_further (code t) (steps t) (length (plays t)) n room (fresh_of l) in
    let b = plays_through l t fits (n + steps t) (room + length (plays t)) (omega arith) (omega arith) in
    let c : (run (code t) (n + steps t) (room + length (plays t)) (fresh_of l)).now.beat ≡ total beats (plays t) = ap (λ (r : Ran). r.now.beat) b.done in
    omega arith

pub always_low : (t : Score) → Within document01 t → length (plays t) ≤ document01.blocks → (n room : ℕ) → (run (code t) n room (fresh_of document01)).now.beat ≤ document01.beat
always_low t w h n room = let a = at_most_total document01 t w.loops n room in let b = (beats_low t w h).0 in omega arith
