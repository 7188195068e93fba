-- The beats that a run plays add up: its entries stand each where the one before ends, from the position's beat on, and it stops at the beat where the last one ends.
-- Assumes nothing.
use mathlib.Core.Path.{◌≡◌, refl, sym, ap, ap₂, ◌∙◌}
use mathlib.Core.Bool.{Bool, true, false, cond}
use mathlib.Core.List.{List, [], ◌∷◌, ◌++◌}
use Prim.Native.Nat.{ℕ, ◌+◌}
use native.Mathlib.Nat.{add_assoc}
use native.Mathlib.Omega.{arith}
use lib.ListN.{get_or}
use lib.Dec.{ltb}
use Rattle.played.specs.declared.Played.{Played}
use Rattle.played.specs.Played.{Block, entry, entries, total}
use Rattle.instructions.specs.declared.Operation.{Operation}
use Rattle.instructions.specs.declared.Operation.TheVariants.{Block as PlayBlock, Loop, Repeat, Label, Jump, JumpUnless}
use Rattle.instructions.specs.declared.Instruction.{Instruction}
use Rattle.instructions.specs.Forms.{loop_of, label_of}
use Rattle.machine.specs.declared.Position.{Position}
use Rattle.machine.specs.Machine.{plays_at, plays, does, step, run}
use Rattle.machine.proofs.Runs.{by_steps}

-- the blocks that are played from beat z on, up to beat e
abbrev pub Timed : ℕ → List Played → ℕ → Type 0
Timed z ps e = (bs : List Block) × (ps ≡ entries z bs) × (e ≡ z + total bs)

nothing_timed : (z : ℕ) → Timed z [] z
nothing_timed z = ([], refl, omega arith)

entries-append : (z : ℕ) (bs cs : List Block) → entries z (bs ++ cs) ≡ entries z bs ++ entries (z + total bs) cs
entries-append z [] cs = ap (λ (n : ℕ). entries n cs) (omega arith)
entries-append z (b ∷ bs) cs = ap (λ (ps : List Played). entry b z ∷ ps) (entries-append (z + b.l) bs cs ∙ ap (λ (n : ℕ). entries (z + b.l) bs ++ entries n cs) (add_assoc z b.l (total bs)))

total-append : (bs cs : List Block) → total (bs ++ cs) ≡ total bs + total cs
total-append [] cs = omega arith
total-append (b ∷ bs) cs = omega (arith, total-append bs cs)

timed_append : (z m e : ℕ) (ps qs : List Played) → Timed z ps m → Timed m qs e → Timed z (ps ++ qs) e
timed_append z m e ps qs (bs, a, b) (cs, c, d) =
    (bs ++ cs, ap₂ {C = List Played} (λ x y. x ++ y) a (c ∙ ap (λ (n : ℕ). entries n cs) b) ∙ sym (entries-append z bs cs), omega (arith, total-append bs cs))

silent : {z : ℕ} (t : Bool) (p q : Position) → p.beat ≡ z → q.beat ≡ z → Timed z [] (cond t p q).beat
silent {z} true p q a b = ([], refl, omega arith)
silent {z} false p q a b = ([], refl, omega arith)

module _ (listing : List Instruction) (p : Position) where
  step_timed : (o : Operation) (L B : ℕ) → Timed p.beat (plays_at p.beat o) (does listing p L B o).beat
  step_timed (PlayBlock k l) L B = (record { k = k; l = l } ∷ [], refl, omega arith)
  step_timed Loop L B = nothing_timed p.beat
  step_timed (Repeat T) L B = silent (ltb (get_or p.counts L 0) T) _ _ refl refl
  step_timed Label L B = nothing_timed p.beat
  step_timed (Jump T) L B = nothing_timed p.beat
  step_timed (JumpUnless T) L B = nothing_timed p.beat

  timed_step : (i : Instruction) → Timed p.beat (plays p i) (step listing p i).beat
  unfolding plays step
  timed_step i = step_timed i.operation (loop_of i) (label_of i)

-- a run's entries are those of the blocks that it plays, from its position's beat on to where it stops
pub timed : (listing : List Instruction) (n room : ℕ) (p : Position) → Timed p.beat (run listing n room p).plays (run listing n room p).now.beat
timed listing =
    by_steps listing (λ n room p r. Timed p.beat r.plays r.now.beat)
    (λ n room p e. nothing_timed p.beat)
    (λ room p i e. nothing_timed p.beat)
    (λ n room p i e f. nothing_timed p.beat)
    (λ n room r p i e f h. timed_append p.beat (step listing p i).beat _ (plays p i) (run listing n r (step listing p i)).plays (timed_step listing p i) h)
