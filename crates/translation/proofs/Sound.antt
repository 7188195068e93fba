-- Each instruction of a listing is sound by itself and by what stands before it: its numbers are within the limits, and the loop that it names is marked.
-- Assumes nothing.
use mathlib.Core.Path.{◌≡◌, refl, sym, subst}
use mathlib.Core.Bool.{Bool, true, false}
use mathlib.Core.List.{List, [], ◌∷◌, ◌++◌, append-nil, append_assoc}
use Prim.Native.Nat.{ℕ, suc, ◌+◌, ◌≤◌, ◌<◌}
use native.Mathlib.Omega.{arith}
use borrow.Author.Tests.{eq-eqb}
use Rattle.refusals.specs.Limits.{Limits}
use Rattle.instructions.specs.declared.Operation.{Operation}
use Rattle.instructions.specs.declared.Operation.TheVariants.{Block, Loop, Repeat, Label, Jump, JumpUnless}
use Rattle.instructions.specs.declared.Instruction.{Instruction}
use Rattle.instructions.specs.Forms.{loop_of, label_of, block, loop, rep, lb, jmp, njmp}
use Rattle.machine.specs.Machine.{is_loop}
use Rattle.translation.specs.Stretches.{Stretch, empty, single, ◌⨾◌, looped, ending}
use Rattle.translation.proofs.Marks.{often, often-append}
use Rattle.translation.proofs.Leaving.{leaving}

-- loop L is marked
abbrev pub Marked : ℕ → List Instruction → Type 0
Marked L u = 1 ≤ often (is_loop L) u

pub marked_more : (L : ℕ) (u v : List Instruction) → Marked L u → Marked L (u ++ v)
marked_more L u v h = let e = often-append (is_loop L) u v in omega arith

pub marked_here : (L : ℕ) (u : List Instruction) → Marked L (u ++ (loop L ∷ []))
marked_here L u =
    let e = often-append (is_loop L) u (loop L ∷ []) in
    let f : often (is_loop L) (loop L ∷ []) ≡ 1 = rw (eq-eqb L L refl) in
    omega arith

-- the loop L and the T of a `rep` or a jump
pub record Named (m : Limits) (pre : List Instruction) (L T : ℕ) : Type 0 where
  pub low : L < m.loops
  pub some : 1 ≤ T
  pub most : T ≤ m.times
  pub marked : Marked L pre

-- an operation beside loop L and label B behind pre, in a listing with so many labels
abbrev pub SoundAs : Limits → (top : ℕ) → List Instruction → (L B : ℕ) → Operation → Type 0
SoundAs m top pre L B (Block k l) = (1 ≤ l) × (l ≤ m.number) × (k ≤ m.number) × (L ≡ 0) × (B ≡ 0)
SoundAs m top pre L B Loop = (L < m.loops) × (B ≡ 0)
SoundAs m top pre L B (Repeat T) = Named m pre L T × (B ≡ 0)
SoundAs m top pre L B Label = (L ≡ 0) × (B < top)
SoundAs m top pre L B (Jump T) = Named m pre L T × (B < top)
SoundAs m top pre L B (JumpUnless T) = Named m pre L T × (B < top)

abbrev pub Sound : Limits → (top : ℕ) → List Instruction → Instruction → Type 0
Sound m top pre i = SoundAs m top pre (loop_of i) (label_of i) i.operation

module _ (m : Limits) (top : ℕ) where
  -- all instructions behind pre
  abbrev pub Sounds : List Instruction → List Instruction → Type 0
  Sounds pre [] = Unit {0}
  Sounds pre (i ∷ is) = Sound m top pre i × Sounds (pre ++ (i ∷ [])) is

  pub sounds_append : (pre u v : List Instruction) → Sounds pre u → Sounds (pre ++ u) v → Sounds pre (u ++ v)
  sounds_append pre [] v h k = subst (λ (p : List Instruction). Sounds p v) (append-nil pre) k
  sounds_append pre (i ∷ u) v h k =
      (h.0, sounds_append (pre ++ (i ∷ [])) u v h.1 (subst (λ (p : List Instruction). Sounds p v) (sym (append_assoc pre (i ∷ []) u)) k))

  -- what is known of the loop around: nothing, or that it is low and marked
  abbrev pub Given : Bool → ℕ → List Instruction → Type 0
  Given false L pre = Unit {0}
  Given true L pre = (L < m.loops) × Marked L pre

  given_more : (f : Bool) (L : ℕ) (u v : List Instruction) → Given f L u → Given f L (u ++ v)
  given_more false L u v h = tt
  given_more true L u v h = (h.0, marked_more L u v h.1)

  -- a stretch is sound wherever its numbers are free and within the limits
  abbrev pub Stands : Bool → Stretch → Type 0
  Stands f s = (pre : List Instruction) (L l b : ℕ) → Given f L pre → l + s.loops ≤ m.loops → b + s.labels ≤ top → Sounds pre (s.from L l b)

  pub stands_empty : (f : Bool) → Stands f empty
  stands_empty f pre L l b h x y = tt

  pub stands_block : (f : Bool) (k l : ℕ) → 1 ≤ l → l ≤ m.number → k ≤ m.number → Stands f (single 0 0 (block k l))
  stands_block f k l p q r pre L l' b h x y = ((p, q, r, refl, refl), tt)

  pub stands_seq : (f : Bool) (s t : Stretch) → Stands f s → Stands f t → Stands f (s ⨾ t)
  stands_seq f s t g k pre L l b h x y =
      sounds_append pre (s.from L l b) (t.from L (l + s.loops) (b + s.labels))
      (g pre L l b h (omega arith) (omega arith))
      (k (pre ++ s.from L l b) L (l + s.loops) (b + s.labels) (given_more f L pre (s.from L l b) h) (omega arith) (omega arith))

  pub stands_looped : (f : Bool) (s : Stretch) (T : ℕ) → 1 ≤ T → T ≤ m.times → Stands true s → Stands f (looped T s)
  stands_looped f s T p q g pre L l b h x y =
      let mid : List Instruction = pre ++ (loop l ∷ []) in
      let u : List Instruction = s.from l (suc l) b in
      let k : Marked l mid = marked_here l pre in (
        (omega arith, refl),
        sounds_append mid u (rep l T ∷ [])
            (g mid l (suc l) b (omega arith, k) (omega arith) y)
            ((record { low = omega arith; some = p; most = q; marked = marked_more l mid u k }, refl), tt),
      )

  pub stands_ending : (s : Stretch) (i : ℕ) → 1 ≤ i → i ≤ m.times → Stands true s → Stands true (ending i s)
  stands_ending s i p q g pre L l b h x y =
      let B : ℕ = b + s.labels in
      let mid : List Instruction = pre ++ (njmp L i B ∷ []) in
      let u : List Instruction = s.from L l b in (
        (record { low = h.0; some = p; most = q; marked = h.1 }, omega arith),
        sounds_append mid u (lb B ∷ [])
            (g mid L l b (h.0, marked_more L pre (njmp L i B ∷ []) h.1) x (omega arith))
            ((refl, omega arith), tt),
      )

  pub stands_leaving : (f : Bool) (s t : Stretch) → 2 ≤ m.times → Stands true s → Stands true t → Stands f (leaving s t)
  stands_leaving f s t q g k pre L l b h x y =
      let X : ℕ = b + s.labels + t.labels in
      let pre₁ : List Instruction = pre ++ (loop l ∷ []) in
      let u : List Instruction = s.from l (suc l) b in
      let pre₂ : List Instruction = pre₁ ++ u in
      let pre₃ : List Instruction = pre₂ ++ (jmp l 2 X ∷ []) in
      let v : List Instruction = t.from l (suc l + s.loops) (b + s.labels) in
      let low : l < m.loops = omega arith in
      let k₁ : Marked l pre₁ = marked_here l pre in
      let k₂ : Marked l pre₂ = marked_more l pre₁ u k₁ in
      let k₃ : Marked l pre₃ = marked_more l pre₂ (jmp l 2 X ∷ []) k₂ in (
        (low, refl),
        sounds_append pre₁ u _
            (g pre₁ l (suc l) b (low, k₁) (omega arith) (omega arith)) (
              (record { low = low; some = omega arith; most = q; marked = k₂ }, omega arith),
              sounds_append pre₃ v (rep l 2 ∷ lb X ∷ [])
                  (k pre₃ l (suc l + s.loops) (b + s.labels) (low, k₃) (omega arith) (omega arith))
                  ((record { low = low; some = omega arith; most = q; marked = marked_more l pre₃ v k₃ }, refl), ((refl, omega arith), tt)),
            ),
      )

  -- what a place of a sound listing is
  pub sound_at : (pre u : List Instruction) (i : Instruction) (v : List Instruction) → Sounds pre (u ++ (i ∷ v)) → Sound m top (pre ++ u) i
  sound_at pre [] i v h = subst (λ (p : List Instruction). Sound m top p i) (sym (append-nil pre)) h.0
  sound_at pre (j ∷ u) i v h = subst (λ (p : List Instruction). Sound m top p i) (append_assoc pre (j ∷ []) u) (sound_at (pre ++ (j ∷ [])) u i v h.1)
