-- Packing and unpacking are inverse: a word is an instruction exactly when it is that instruction's packing, and not 0.
-- Assumes nothing.
use mathlib.Core.Path.{◌≡◌, sym, ap, ◌∙◌}
use mathlib.Core.Logic.{◌↔◌}
use Prim.Native.Nat.{ℕ}
use native.Mathlib.Omega.{arith}
use borrow.Author.Tests.{eq-eqb, ne_eqb}
use Rattle.std.specs.Prelude.{Some}
use Rattle.std.proofs.lemmas.Bool.Decides.{nat_tests}
use Rattle.instructions.specs.declared.Operation.{Operation}
use Rattle.instructions.specs.declared.Operation.TheVariants.{Block, Loop, Repeat, Label, Jump, JumpUnless}
use Rattle.instructions.specs.declared.Instruction.{Instruction}
use Rattle.instructions.specs.Forms.{beside, loop_of, label_of}
use Rattle.instructions.specs.Words.{packing, packed, decoded, unpacked}

-- a word's numbers are those that were packed
back : (o : Operation) (L B : ℕ) → (packing o L B ≡ 0 → ⊥) → decoded (packing o L B) ≡ beside o L B
unfolding decoded
back (Block k l) L B n = grind (arith, nat_tests)
back Loop L B n = grind (arith, nat_tests)
back (Repeat T) L B n = grind (arith, nat_tests)
back Label L B n = grind (arith, nat_tests)
back (Jump T) L B n = grind (arith, nat_tests)
back (JumpUnless T) L B n = grind (arith, nat_tests)

packing_read : (w : ℕ) (i : Instruction) → unpacked w ≡ Some i → (packed i ≡ w) × (w ≡ 0 → ⊥)
unfolding unpacked
packing_read w i e = grind (arith, nat_tests)

reads_back : (w : ℕ) (i : Instruction) → packed i ≡ w → (w ≡ 0 → ⊥) → unpacked w ≡ Some i
unfolding unpacked packed
reads_back w i e n =
    let d : decoded w ≡ i = ap decoded (sym e) ∙ back i.operation (loop_of i) (label_of i) (λ z. n (sym e ∙ z)) in
    rw (ne_eqb w 0 n, d, eq-eqb (packed i) w e)

-- a word is the instruction i exactly when it is i's packing and not 0
pub inverse : (w : ℕ) (i : Instruction) → (unpacked w ≡ Some i) ↔ ((packed i ≡ w) × (w ≡ 0 → ⊥))
inverse w i = (packing_read w i, λ h. reads_back w i h.0 h.1)
