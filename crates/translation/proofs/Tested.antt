-- A listing whose instructions are sound, with each loop's mark and `rep` and each label's mark once, passes test 11.
-- Assumes nothing.
use mathlib.Core.Path.{◌≡◌, refl, subst}
use mathlib.Core.Bool.{Bool, true, false}
use mathlib.Core.List.{List, [], map}
use mathlib.Core.Logic.{inl, inr}
use Prim.Native.Nat.{ℕ, ◌≤◌, ◌<◌}
use native.Mathlib.Omega.{arith}
use lib.ListN.{length, length-map}
use lib.Dec.{ltb}
use borrow.Author.Tests.{eq-eqb, eqb-true, ltb-true, ltb-false}
use Rattle.refusals.specs.Limits.{Limits}
use Rattle.instructions.specs.declared.Operation.{Operation}
use Rattle.instructions.specs.declared.Operation.TheVariants.{Block, Loop, Repeat, Label, Jump, JumpUnless}
use Rattle.instructions.specs.declared.Instruction.{Instruction}
use Rattle.std.specs.Prelude.{Ok}
use Rattle.instructions.specs.Forms.{beside, loop_of, label_of, block, loop, rep, lb, jmp, njmp}
use Rattle.instructions.specs.Words.{packed}
use Rattle.instructions.specs.Places.{marks_loop, repeats_loop, marks_label, is}
use Rattle.instructions.specs.Test.{test_listing}
use Rattle.instructions.specs.Rules.{At, Names, by_rep, by_jmp, by_njmp, Jumps, jmp_to, njmp_to, Breaks, beyond, unreadable, high_loop, high_label, loop_again, label_again, no_rep, second_rep, no_loop, no_label, bad_times, bad_block}
use Rattle.instructions.proofs.Listings.{good_exactly}
use Rattle.machine.specs.Machine.{is_loop, is_label}
use Rattle.translation.proofs.Marks.{is_rep, often, Once}
use Rattle.translation.proofs.Sound.{Marked, Named, SoundAs, Sound, Sounds, sound_at}
use Rattle.translation.proofs.Places.{Stood, stood, stands_there, is_at, passing, once_there, twice, earlier}
use Rattle.translation.proofs.Packs.{Packs, packed_some}

differ : false ≡ true → ⊥
differ e = let z : ◌≡◌ {A = ℕ} 0 1 = cc in omega arith

-- a number is named at most once
at_most_once : {f : ℕ → Instruction → Bool} {hi : ℕ} {u : List Instruction} → Once f 0 hi u → (k : ℕ) → often (f k) u ≤ 1
at_most_once {f} {hi} {u} o k = go (ltb k hi) refl
  where
    go : (t : Bool) → ltb k hi ≡ t → often (f k) u ≤ 1
    go true e = let i = o.inside k (omega arith) (ltb-true k hi e) in omega arith
    go false e = let i = o.outside k (λ a b. let l = ltb-false k hi e in omega arith) in omega arith

named_below : {f : ℕ → Instruction → Bool} {hi : ℕ} {u : List Instruction} → Once f 0 hi u → (k : ℕ) → 1 ≤ often (f k) u → k < hi
named_below {f} {hi} {u} o k h = go (ltb k hi) refl
  where
    go : (t : Bool) → ltb k hi ≡ t → k < hi
    go true e = ltb-true k hi e
    go false e = let i = o.outside k (λ a b. let l = ltb-false k hi e in omega arith) in absurd (omega arith)

-- ---- what passes the tests for marks and `rep`s
module _ (m : Limits) (top : ℕ) (pre : List Instruction) (k : ℕ) where
  the_loop : (o : Operation) (L B : ℕ) → SoundAs m top pre L B o → is (marks_loop o L) k ≡ true → beside o L B ≡ loop k
  the_loop (Block j l) L B h e = absurd (differ e)
  the_loop Loop L B h e = rw (eqb-true L k e, h.1)
  the_loop (Repeat T) L B h e = absurd (differ e)
  the_loop Label L B h e = absurd (differ e)
  the_loop (Jump T) L B h e = absurd (differ e)
  the_loop (JumpUnless T) L B h e = absurd (differ e)

  the_rep : (o : Operation) (L B : ℕ) → SoundAs m top pre L B o → is (repeats_loop o L) k ≡ true → (T : ℕ) × (beside o L B ≡ rep k T)
  the_rep (Block j l) L B h e = absurd (differ e)
  the_rep Loop L B h e = absurd (differ e)
  the_rep (Repeat T) L B h e = (T, rw (eqb-true L k e, h.1))
  the_rep Label L B h e = absurd (differ e)
  the_rep (Jump T) L B h e = absurd (differ e)
  the_rep (JumpUnless T) L B h e = absurd (differ e)

  the_label : (o : Operation) (L B : ℕ) → SoundAs m top pre L B o → is (marks_label o B) k ≡ true → beside o L B ≡ lb k
  the_label (Block j l) L B h e = absurd (differ e)
  the_label Loop L B h e = absurd (differ e)
  the_label (Repeat T) L B h e = absurd (differ e)
  the_label Label L B h e = rw (eqb-true B k e, h.0)
  the_label (Jump T) L B h e = absurd (differ e)
  the_label (JumpUnless T) L B h e = absurd (differ e)

  low_loop : (o : Operation) (L B : ℕ) → 1 ≤ m.loops → SoundAs m top pre L B o → L < m.loops
  low_loop (Block j l) L B p h = omega (arith, h.3)
  low_loop Loop L B p h = h.0
  low_loop (Repeat T) L B p h = h.0.low
  low_loop Label L B p h = omega (arith, h.0)
  low_loop (Jump T) L B p h = h.0.low
  low_loop (JumpUnless T) L B p h = h.0.low

  low_label : (o : Operation) (L B : ℕ) → 1 ≤ m.labels → top ≤ m.labels → SoundAs m top pre L B o → B < m.labels
  low_label (Block j l) L B p q h = omega (arith, h.4)
  low_label Loop L B p q h = omega (arith, h.1)
  low_label (Repeat T) L B p q h = omega (arith, h.1)
  low_label Label L B p q h = omega (arith, h.1)
  low_label (Jump T) L B p q h = omega (arith, h.1)
  low_label (JumpUnless T) L B p q h = omega (arith, h.1)

-- what is known of a listing
pub record Tidy (m : Limits) (prog : List Instruction) (n top : ℕ) : Type 0 where
  pub short : length prog ≤ m.instructions
  pub some_loops : 1 ≤ m.loops
  pub some_labels : 1 ≤ m.labels
  pub labels_low : top ≤ m.labels
  pub sounds : Sounds m top [] prog
  pub loops : Once is_loop 0 n prog
  pub reps : Once is_rep 0 n prog
  pub labels : Once is_label 0 top prog

module _ {m : Limits} {prog : List Instruction} {n top : ℕ} (packs : Packs m) (tidy : Tidy m prog n top) where
  sound : {i : ℕ} {x : Instruction} (s : Stood prog i x) → Sound m top s.before x
  sound {i} {x} s = sound_at m top [] s.before x s.behind (subst (Sounds m top []) s.same tidy.sounds)

  readable : {i : ℕ} {x : Instruction} → Stood prog i x → At (map packed prog) i x
  readable {i} {x} s = is_at s (packed_some m packs top tidy.labels_low s.before x (sound s))

  -- a place that names a loop with T, and one that jumps to a label
  names : {i L T : ℕ} → Names (map packed prog) i L T → (x : Instruction) × (s : Stood prog i x) × Named m s.before L T
  names {i} {L} {T} (by_rep a) = let s = stood prog i (rep L T) a in (rep L T, s, (sound s).0)
  names {i} {L} {T} (by_jmp B a) = let s = stood prog i (jmp L T B) a in (jmp L T B, s, (sound s).0)
  names {i} {L} {T} (by_njmp B a) = let s = stood prog i (njmp L T B) a in (njmp L T B, s, (sound s).0)

  target : {i B : ℕ} → Jumps (map packed prog) i B → B < top
  target {i} {B} (jmp_to L T a) = (sound (stood prog i (jmp L T B) a)).1
  target {i} {B} (njmp_to L T a) = (sound (stood prog i (njmp L T B) a)).1

  -- the mark of a loop that is marked before a place
  mark_before : {i L : ℕ} {x : Instruction} (s : Stood prog i x) → Marked L s.before → (j : ℕ) × (j < i) × Stood prog j (loop L)
  mark_before {i} {L} s h =
      let p = passing (is_loop L) s.before h in
      let r = earlier s p.there in
      let e : p.what ≡ loop L = the_loop m top r.0.before L p.what.operation (loop_of p.what) (label_of p.what) (sound r.0) p.passes in
      (p.place, r.1, subst (Stood prog p.place) e r.0)

  -- no number is named twice
  no_two : {f : ℕ → Instruction → Bool} {hi i j : ℕ} {x y : Instruction} (k : ℕ)
      → Once f 0 hi prog
      → Stood prog i x
      → Stood prog j y
      → j < i
      → f k x ≡ true
      → f k y ≡ true
      → ⊥
  no_two {f} k o s r h p q = let two = twice (f k) s r h p q in let one = at_most_once o k in omega arith

  is_loop_lem : (L : ℕ) → is_loop L (loop L) ≡ true
  is_loop_lem L = eq-eqb L L refl

  one_mark : (i j L : ℕ) → Stood prog i (loop L) → Stood prog j (loop L) → i ≡ j
  one_mark i j L s r =
      let p : (j < i → ⊥) = λ h. no_two L tidy.loops s r h (is_loop_lem L) (is_loop_lem L) in
      let q : (i < j → ⊥) = λ h. no_two L tidy.loops r s h (is_loop_lem L) (is_loop_lem L) in
      omega arith

  -- the `rep` of a loop stands behind its mark
  rep_behind : {i L : ℕ} → Stood prog i (loop L) → (j T : ℕ) × (i < j) × Stood prog j (rep L T)
  rep_behind {i} {L} s =
      let low : L < n = named_below tidy.loops L (once_there (is_loop L) s (is_loop_lem L)) in
      let p = passing (is_rep L) prog (let o = tidy.reps.inside L (omega arith) low in omega arith) in
      let (T, e) = the_rep m top p.there.before L p.what.operation (loop_of p.what) (label_of p.what) (sound p.there) p.passes in
      let r : Stood prog p.place (rep L T) = subst (Stood prog p.place) e p.there in
      (p.place, T, behind p.place (mark_before r (sound r).0.marked), r)
    where
      behind : (j : ℕ) → (k : ℕ) × (k < j) × Stood prog k (loop L) → i < j
      behind j (k, lt, q) = let e = one_mark i k L s q in omega arith

  never : (i : ℕ) → Breaks m (map packed prog) i → ⊥
  never i (beyond h far) = omega (arith, tidy.short, length-map prog packed)
  never i (unreadable h e) =
      let (x, s) = stands_there prog i (omega (arith, length-map prog packed)) in
      let a = readable s in
      let z : ◌≡◌ {A = ℕ} 0 1 = cc in
      omega arith
  never i (high_loop x a h) = let s = stood prog i x a in let l = low_loop m top s.before 0 x.operation (loop_of x) (label_of x) tidy.some_loops (sound s) in omega arith
  never i (high_label x a h) =
      let s = stood prog i x a in let l = low_label m top s.before 0 x.operation (loop_of x) (label_of x) tidy.some_labels tidy.labels_low (sound s) in omega arith
  never i (loop_again L j a h b) = no_two L tidy.loops (stood prog i (loop L) a) (stood prog j (loop L) b) h (is_loop_lem L) (is_loop_lem L)
  never i (label_again B j a h b) = no_two B tidy.labels (stood prog i (lb B) a) (stood prog j (lb B) b) h (eq-eqb B B refl) (eq-eqb B B refl)
  never i (no_rep L a none) = let (j, T, h, r) = rep_behind (stood prog i (loop L) a) in none j T h (readable r)
  never i (second_rep L k j S T a h b g c) = no_two L tidy.reps (stood prog i (rep L T) c) (stood prog j (rep L S) b) g (eq-eqb L L refl) (eq-eqb L L refl)
  never i (no_loop L T a none) =
      let (x, s, d) = names a in
      let (j, h, r) = mark_before s d.marked in
      none j h (readable r)
  never i (no_label B a none) =
      let p = passing (is_label B) prog (let o = tidy.labels.inside B (omega arith) (target a) in omega arith) in
      let e = the_label m top p.there.before B p.what.operation (loop_of p.what) (label_of p.what) (sound p.there) p.passes in
      none p.place (readable (subst (Stood prog p.place) e p.there))
  never i (bad_times L T a (inl h)) = let (x, s, d) = names a in omega (arith, d.some)
  never i (bad_times L T a (inr h)) = let (x, s, d) = names a in omega (arith, d.most)
  never i (bad_block k l a (inl (inl h))) = let s = sound (stood prog i (block k l) a) in omega (arith, s.0)
  never i (bad_block k l a (inl (inr h))) = let s = sound (stood prog i (block k l) a) in omega (arith, s.1)
  never i (bad_block k l a (inr h)) = let s = sound (stood prog i (block k l) a) in omega (arith, s.2)

  pub passes_test : test_listing m (map packed prog) ≡ Ok tt
  passes_test = (good_exactly m (map packed prog)).1 never
