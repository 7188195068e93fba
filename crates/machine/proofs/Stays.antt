-- A position that fits its listing fits it after every run: the next place and the counts never become bad.
-- Assumes nothing.
use mathlib.Core.Path.{◌≡◌, refl}
use mathlib.Core.Bool.{Bool, true, false, cond}
use mathlib.Core.List.{List, [], ◌∷◌}
use mathlib.Core.Option.{some}
use Prim.Native.Nat.{ℕ, zero, suc, ◌≤◌, ◌<◌}
use native.Mathlib.Omega.{arith}
use lib.ListN.{length, get_or, set, get_elem?}
use lib.Seq.{get_or-set_same, get_or-set_other, set_out}
use lib.Dec.{eqb, ltb}
use borrow.Author.Tests.{eq-eqb, ltb-true}
use Rattle.instructions.specs.declared.Operation.{Operation}
use Rattle.instructions.specs.declared.Operation.TheVariants.{Block, Loop, Repeat, Label, Jump, JumpUnless}
use Rattle.instructions.specs.declared.Instruction.{Instruction}
use Rattle.instructions.specs.Forms.{loop_of, label_of}
use Rattle.machine.specs.declared.Position.{Position}
use Rattle.machine.specs.Machine.{position, find, is_loop, is_label, loop_at, label_at, does, step, run}
use Rattle.std.proofs.lemmas.Bool.{cases_Bool, cases_eq, cases_lt}
use Rattle.machine.proofs.Runs.{by_steps}

-- instruction i of the listing repeats loop L, with T
pub record Repeats (listing : List Instruction) (i L T : ℕ) : Type 0 where
  pub instruction : Instruction
  pub there : get_elem? listing i ≡ some instruction
  pub repeats : instruction.operation ≡ Repeat T
  pub loop : loop_of instruction ≡ L

-- what is needed of a listing: a loop that is repeated is marked, and its `rep`s have one T, which is not 0
pub record Sound (listing : List Instruction) : Type 0 where
  pub marked : (i L T : ℕ) → Repeats listing i L T → loop_at listing L < length listing
  pub times : (i L T : ℕ) → Repeats listing i L T → 1 ≤ T
  pub alike : (i j L S T : ℕ) → Repeats listing i L S → Repeats listing j L T → S ≡ T

-- the position's place is at most the listing's length, no count is above its loop's T, and one of a loop that is not marked is 0
pub record Fits (listing : List Instruction) (p : Position) : Type 0 where
  pub inside : p.next ≤ length listing
  pub low : (i L T : ℕ) → Repeats listing i L T → get_or p.counts L 0 ≤ T
  pub absent : (L : ℕ) → length listing ≤ loop_at listing L → get_or p.counts L 0 ≡ 0

-- ---- what is found
find_most : (f : Instruction → Bool) (listing : List Instruction) → find f listing ≤ length listing
unfolding find
find_most f [] = omega arith
find_most f (x ∷ xs) = let h = find_most f xs in grind (arith, cases_Bool (f x))

find_there : (f : Instruction → Bool) (listing : List Instruction) (i : ℕ) (x : Instruction) → get_elem? listing i ≡ some x → f x ≡ true → find f listing < length listing
unfolding find
find_there f [] i x e t = cc
find_there f (y ∷ ys) zero x e t = let same : y ≡ x = cc in rw (same, t) (omega arith)
find_there f (y ∷ ys) (suc i) x e t = let h = find_there f ys i x e t in grind (arith, cases_Bool (f y))

some_inside : (listing : List Instruction) (i : ℕ) (x : Instruction) → get_elem? listing i ≡ some x → i < length listing
some_inside [] i x e = cc
some_inside (y ∷ ys) zero x e = omega arith
some_inside (y ∷ ys) (suc i) x e = omega (arith, some_inside ys i x e)

module _ (listing : List Instruction) (sound : Sound listing) where
  -- one count stored, of a loop that is marked, and at most its T
  stored : (p : Position) (next L v beat : ℕ) → Fits listing p → next ≤ length listing → loop_at listing L < length listing → ((i T : ℕ) → Repeats listing i L T → v ≤ T) → Fits listing (position next (set p.counts L v) beat)
  stored p next L v beat fits le marked most = record { inside = le; low = low; absent = absent }
    where
      low : (i M T : ℕ) → Repeats listing i M T → get_or (set p.counts L v) M 0 ≤ T
      low i M T r = let a = fits.low i M T r in grind (arith, cases_eq M L, cases_lt L (length p.counts), get_or-set_same {A = ℕ}, get_or-set_other {A = ℕ}, set_out {A = ℕ}, most i T)

      absent : (M : ℕ) → length listing ≤ loop_at listing M → get_or (set p.counts L v) M 0 ≡ 0
      absent M out = let a = fits.absent M out in grind (arith, cases_eq M L, get_or-set_other {A = ℕ})

  moved : (p : Position) (next beat : ℕ) → Fits listing p → next ≤ length listing → Fits listing (position next p.counts beat)
  moved p next beat fits le = record { inside = le; low = fits.low; absent = fits.absent }

  module _ (p : Position) (fits : Fits listing p) (i : Instruction) (there : get_elem? listing p.next ≡ some i) where
    on : suc p.next ≤ length listing
    on = some_inside listing p.next i there

    abbrev To : Operation → Type 0
    To o = i.operation ≡ o → Fits listing (does listing p (loop_of i) (label_of i) o)

    to_label : (t : Bool) → cond t (label_at listing (label_of i)) (suc p.next) ≤ length listing
    to_label true = find_most (is_label (label_of i)) listing
    to_label false = on

    past_label : (t : Bool) → cond t (suc p.next) (label_at listing (label_of i)) ≤ length listing
    past_label true = on
    past_label false = find_most (is_label (label_of i)) listing

    here : (T : ℕ) → i.operation ≡ Repeat T → Repeats listing p.next (loop_of i) T
    here T e = record { instruction = i; there = there; repeats = e; loop = refl }

    marks : i.operation ≡ Loop → is_loop (loop_of i) i ≡ true
    marks e = rw e (eq-eqb (loop_of i) (loop_of i) refl)

    goes : (o : Operation) → To o
    goes (Block k l) e = moved p _ _ fits on
    goes Loop e = stored p _ (loop_of i) 1 _ fits on (find_there (is_loop (loop_of i)) listing p.next i there (marks e)) (λ j T r. sound.times j (loop_of i) T r)
    goes (Repeat T) e = go (ltb (get_or p.counts (loop_of i) 0) T) refl
      where
        again : Position
        again = position (suc (loop_at listing (loop_of i))) (set p.counts (loop_of i) (suc (get_or p.counts (loop_of i) 0))) p.beat

        go : (t : Bool) → ltb (get_or p.counts (loop_of i) 0) T ≡ t → Fits listing (cond t again (position (suc p.next) p.counts p.beat))
        go true q =
            let m : loop_at listing (loop_of i) < length listing = sound.marked p.next (loop_of i) T (here T e) in
            let c : get_or p.counts (loop_of i) 0 < T = ltb-true _ _ q in
            stored p _ (loop_of i) _ _ fits m m (λ j S r. let same : S ≡ T = sound.alike j p.next (loop_of i) S T r (here T e) in omega arith)
        go false q = moved p _ _ fits on
    goes Label e = moved p _ _ fits on
    goes (Jump T) e = moved p _ _ fits (to_label (eqb (get_or p.counts (loop_of i) 0) T))
    goes (JumpUnless T) e = moved p _ _ fits (past_label (eqb (get_or p.counts (loop_of i) 0) T))

    pub step_fits : Fits listing (step listing p i)
    unfolding step
    step_fits = goes i.operation refl

  pub stays : (n room : ℕ) (p : Position) → Fits listing p → Fits listing (run listing n room p).now
  stays =
      by_steps listing (λ n room p r. Fits listing p → Fits listing r.now)
      (λ n room p e fits. fits)
      (λ room p i e fits. fits)
      (λ n room p i e f fits. fits)
      (λ n room r p i e f h fits. h (step_fits p fits i e))
