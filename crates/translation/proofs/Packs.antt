-- A sound instruction has a word.
-- Assumes nothing.
use mathlib.Core.Path.{◌≡◌}
use mathlib.Core.List.{List}
use Prim.Native.Nat.{ℕ, ◌+◌, ◌*◌, ◌^◌, ◌≤◌, ◌<◌}
use native.Mathlib.Omega.{arith}
use borrow.Author.Tests.{lt-ltb}
use Rattle.refusals.specs.Limits.{Limits}
use Rattle.instructions.specs.declared.Operation.{Operation}
use Rattle.instructions.specs.declared.Operation.TheVariants.{Block, Loop, Repeat, Label, Jump, JumpUnless}
use Rattle.instructions.specs.declared.Instruction.{Instruction}
use Rattle.instructions.specs.Forms.{loop_of, label_of}
use Rattle.instructions.specs.Words.{word, block_word, packing, packed}
use Rattle.translation.proofs.Sound.{SoundAs, Sound}

-- the numbers within the limits fit into a word
pub record Packs (m : Limits) : Type 0 where
  pub loops : m.loops ≤ 2 ^ 8
  pub times : m.times < 2 ^ 16
  pub labels : m.labels ≤ 2 ^ 32
  pub number : m.number < 2 ^ 28

word_some : (kind L T B : ℕ) → 1 ≤ kind → L < 2 ^ 8 → T < 2 ^ 16 → B < 2 ^ 32 → word kind L T B ≡ 0 → ⊥
word_some kind L T B h a b c e =
    let v : word kind L T B ≡ kind + 2 ^ 8 * L + 2 ^ 16 * T + 2 ^ 32 * B = rw (lt-ltb L (2 ^ 8) a, lt-ltb T (2 ^ 16) b, lt-ltb B (2 ^ 32) c) in
    omega arith

block_some : (k l : ℕ) → k < 2 ^ 28 → l < 2 ^ 28 → block_word k l ≡ 0 → ⊥
block_some k l a b e =
    let v : block_word k l ≡ 1 + 2 ^ 8 * k + 2 ^ 36 * l = rw (lt-ltb k (2 ^ 28) a, lt-ltb l (2 ^ 28) b) in
    omega arith

module _ (m : Limits) (p : Packs m) (top : ℕ) (low : top ≤ m.labels) (pre : List Instruction) where
  packing_some : (o : Operation) (L B : ℕ) → SoundAs m top pre L B o → packing o L B ≡ 0 → ⊥
  packing_some (Block k l) L B h e = block_some k l (omega (arith, p.number, h.2)) (omega (arith, p.number, h.1)) (rw (h.3, h.4) at e)
  packing_some Loop L B h e = word_some 2 L 0 0 (omega arith) (omega (arith, p.loops, h.0)) (omega arith) (omega arith) (rw h.1 at e)
  packing_some (Repeat T) L B h e =
      word_some 3 L T 0 (omega arith) (omega (arith, p.loops, h.0.low)) (omega (arith, p.times, h.0.most)) (omega arith) (rw h.1 at e)
  packing_some Label L B h e = word_some 4 0 0 B (omega arith) (omega arith) (omega arith) (omega (arith, p.labels, h.1)) (rw h.0 at e)
  packing_some (Jump T) L B h e =
      word_some 5 L T B (omega arith) (omega (arith, p.loops, h.0.low)) (omega (arith, p.times, h.0.most)) (omega (arith, p.labels, h.1)) e
  packing_some (JumpUnless T) L B h e =
      word_some 6 L T B (omega arith) (omega (arith, p.loops, h.0.low)) (omega (arith, p.times, h.0.most)) (omega (arith, p.labels, h.1)) e

  pub packed_some : (i : Instruction) → Sound m top pre i → packed i ≡ 0 → ⊥
  unfolding packed
  packed_some i h = packing_some i.operation (loop_of i) (label_of i) h
