-- An allowance may be split: the runs one after the other, each with its own buffer, are one run with the sum. And a halted run stays halted.
-- Assumes nothing.
use mathlib.Core.Path.{◌≡◌, refl, sym, ap, ap₂, ◌∙◌}
use mathlib.Core.List.{List, [], ◌∷◌, ◌++◌, append_assoc}
use mathlib.Core.Option.{some}
use Prim.Native.Nat.{ℕ, suc, ◌+◌}
use native.Mathlib.Nat.{zero-add, suc-add}
use native.Mathlib.Omega.{arith}
use lib.ListN.{length, get_elem?, length-append}
use Rattle.played.specs.declared.Played.{Played}
use Rattle.instructions.specs.declared.Instruction.{Instruction}
use Rattle.machine.specs.declared.Position.{Position}
use Rattle.machine.specs.Machine.{Stop, halted, used, full, plays, step, stopped, stepped, run, Ran}
use Rattle.machine.specs.Parts.{freely, joined, Part, sum, runs, Roomy}
use Rattle.machine.proofs.Runs.{run_halted, run_step, by_steps, few_steps}
use Rattle.machine.proofs.Room.{leaves_by, within_steps, never_full, same_run}

-- a run that stopped at once adds nothing before another
nothing_before : (s : Stop) (p : Position) (r : Ran) → joined (stopped s p) r ≡ r
nothing_before s p r = ap (λ (n : ℕ). record { stop = r.stop; steps = n; plays = r.plays; now = r.now }) (zero-add r.steps)

step_before : (ps : List Played) (r s : Ran) → stepped ps (joined r s) ≡ joined (stepped ps r) s
step_before ps r s =
    ap₂ {C = Ran} (λ n qs. record { stop = s.stop; steps = n; plays = qs; now = s.now }) (sym (suc-add r.steps s.steps)) (sym (append_assoc ps r.plays s.plays))

module _ (listing : List Instruction) where
  -- a run that has halted stays so, at the same place
  pub stays_halted : (n room : ℕ) (p : Position) → (run listing n room p).stop ≡ halted → (m other : ℕ) → run listing m other (run listing n room p).now ≡ stopped halted (run listing n room p).now
  stays_halted =
      by_steps listing (λ n room p r. r.stop ≡ halted → (m other : ℕ) → run listing m other r.now ≡ stopped halted r.now)
      (λ n room p e x m other. run_halted listing p m other e)
      (λ room p i e x m other. cc)
      (λ n room p i e f x m other. cc)
      (λ n room r p i e f h x m other. h x m other)

  -- one buffer: the second run goes on with the steps and the room that are left
  pub split_in : (m room : ℕ) (p : Position)
      → ((run listing m room p).stop ≡ full → ⊥)
      → (n left whole : ℕ)
      → length (run listing m room p).plays + left ≡ whole
      → run listing (m + n) whole p ≡ joined (run listing m room p) (run listing n left (run listing m room p).now)
  split_in =
      by_steps listing (λ m room p r. (r.stop ≡ full → ⊥) → (n left whole : ℕ) → length r.plays + left ≡ whole → run listing (m + n) whole p ≡ joined r (run listing n left r.now))
      (λ m room p e no n left whole is. rw (run_halted listing p (m + n) whole e, run_halted listing p n left e))
      (λ room p i e no n left whole is. begins p n left whole (omega arith))
      (λ m room p i e f no n left whole is. absurd (no refl))
      (λ m room r p i e f h no n left whole is. goes m n p i e (run listing m r (step listing p i)) left whole is (h no n left))
    where
      begins : (p : Position) (n left whole : ℕ) → left ≡ whole → run listing (0 + n) whole p ≡ joined (stopped used p) (run listing n left p)
      begins p n left whole is = rw (zero-add n, sym is) (sym (nothing_before used p (run listing n left p)))

      goes : (m n : ℕ) (p : Position) (i : Instruction) → get_elem? listing p.next ≡ some i → (r : Ran) (left whole : ℕ)
          → length (stepped (plays p i) r).plays + left ≡ whole
          → ((rest : ℕ) → length r.plays + left ≡ rest → run listing (m + n) rest (step listing p i) ≡ joined r (run listing n left r.now))
          → run listing (suc m + n) whole p ≡ joined (stepped (plays p i) r) (run listing n left r.now)
      goes m n p i e r left whole is h =
          let j : length (plays p i ++ r.plays) ≡ length (plays p i) + length r.plays = length-append (plays p i) r.plays in
          rw (
            suc-add m n,
            run_step listing p i e (m + n) whole (length r.plays + left) (leaves_by p i whole (length r.plays + left) (omega arith)),
            h (length r.plays + left) refl,
          ) (step_before (plays p i) r (run listing n left r.now))

  -- two buffers, each with room
  pub split : (m room n other : ℕ) (p : Position)
      → ((run listing m room p).stop ≡ full → ⊥)
      → ((run listing n other (run listing m room p).now).stop ≡ full → ⊥)
      → freely listing (m + n) p ≡ joined (run listing m room p) (run listing n other (run listing m room p).now)
  split m room n other p a b =
      let first = run listing m room p in
      let second = run listing n other first.now in
      let whole = length first.plays + other in
      let one : run listing (m + n) whole p ≡ joined first second = split_in m room p a n other whole refl in
      same_run listing (m + n) whole p (λ e. b (ap (λ (r : Ran). r.stop) (sym one) ∙ e)) (m + n) (omega (arith, within_steps listing (m + n) whole p, few_steps listing (m + n) whole p))
      ∙ one

  -- for every list of allowances
  pub in_parts : (parts : List Part) (p : Position) → Roomy listing parts p → runs listing parts p ≡ freely listing (sum parts) p
  in_parts [] p h = refl
  in_parts (a ∷ rest) p (fits, h) =
      let first = run listing a.allowance a.room p in
      ap (joined first) (in_parts rest first.now h)
      ∙ sym (split a.allowance a.room (sum rest) (sum rest) p fits (never_full listing (sum rest) (sum rest) first.now (omega arith)))
