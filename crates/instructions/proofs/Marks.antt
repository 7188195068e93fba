-- A word that is an instruction is one of document 01's six, and the places of marks and `rep`s are theirs.
-- Assumes nothing.
use mathlib.Core.Path.{◌≡◌, subst}
use mathlib.Core.Bool.{true}
use mathlib.Core.List.{List}
use Prim.Native.Nat.{ℕ, ◌<◌, ◌/◌, ◌%◌, ◌^◌}
use native.Mathlib.Omega.{arith}
use lib.ListN.{length, get_or, get_or-eq_default}
use Rattle.std.specs.Prelude.{Option, Some}
use Rattle.std.proofs.lemmas.Bool.Decides.{nat_tests}
use Rattle.instructions.specs.declared.Instruction.{Instruction}
use Rattle.instructions.specs.Forms.{block, loop, rep, lb, jmp, njmp}
use Rattle.instructions.specs.Words.{decoded, unpacked}
use Rattle.instructions.specs.Places.{loop_mark, loop_repeat, label_mark, is, names, first_place}
use Rattle.instructions.specs.Tables.{FirstFrom}
use Rattle.instructions.specs.Rules.{At}
use Rattle.instructions.proofs.Least.{never, least_first}
use Rattle.instructions.proofs.Inverse.{inverse}

-- one of the six
pub data Form : Instruction → Type 0 where
  as_block : (k l : ℕ) → Form (block k l)
  as_loop : (L : ℕ) → Form (loop L)
  as_rep : (L T : ℕ) → Form (rep L T)
  as_lb : (B : ℕ) → Form (lb B)
  as_jmp : (L T B : ℕ) → Form (jmp L T B)
  as_njmp : (L T B : ℕ) → Form (njmp L T B)

decoded_form : (w : ℕ) → Form (decoded w)
unfolding decoded
decoded_form w = grind (arith, nat_tests, as_block, as_loop, as_rep, as_lb, as_jmp, as_njmp)

pub is_decoded : (w : ℕ) (x : Instruction) → unpacked w ≡ Some x → decoded w ≡ x
unfolding unpacked
is_decoded w x e = grind (arith, nat_tests)

pub form : (w : ℕ) (x : Instruction) → unpacked w ≡ Some x → Form x
form w x e = subst Form (is_decoded w x e) (decoded_form w)

-- an instruction of a listing stands inside it
pub inside : (listing : List ℕ) (i : ℕ) (x : Instruction) → At listing i x → i < length listing
inside listing i x e = let p = (inverse (get_or listing i 0) x).0 e in grind (arith, get_or-eq_default {A = ℕ})

-- ---- what names a number
read_loop : (w x : ℕ) → is (loop_mark (unpacked w)) x ≡ true → unpacked w ≡ Some (loop x)
unfolding unpacked decoded
read_loop w x h = grind (arith, nat_tests)

read_rep : (w x : ℕ) → is (loop_repeat (unpacked w)) x ≡ true → (T : ℕ) × (unpacked w ≡ Some (rep x T))
unfolding unpacked decoded
read_rep w x h = (w / 2 ^ 16 % 2 ^ 16, grind (arith, nat_tests))

read_label : (w x : ℕ) → is (label_mark (unpacked w)) x ≡ true → unpacked w ≡ Some (lb x)
unfolding unpacked decoded
read_label w x h = grind (arith, nat_tests)

module _ (listing : List ℕ) (x i : ℕ) where
  pub loop_there : names loop_mark listing x i ≡ true → At listing i (loop x)
  loop_there h = read_loop (get_or listing i 0) x h

  pub rep_there : names loop_repeat listing x i ≡ true → (T : ℕ) × At listing i (rep x T)
  rep_there h = read_rep (get_or listing i 0) x h

  pub label_there : names label_mark listing x i ≡ true → At listing i (lb x)
  label_there h = read_label (get_or listing i 0) x h

  pub there_loop : At listing i (loop x) → names loop_mark listing x i ≡ true
  there_loop e = grind (arith, nat_tests)

  pub there_rep : (T : ℕ) → At listing i (rep x T) → names loop_repeat listing x i ≡ true
  there_rep T e = grind (arith, nat_tests)

  pub there_label : At listing i (lb x) → names label_mark listing x i ≡ true
  there_label e = grind (arith, nat_tests)

-- ---- the first place of what names a number
module _ (named : Option Instruction → Option ℕ) (listing : List ℕ) (x : ℕ) where
  first : FirstFrom (names named listing x) 0 (length listing) (first_place named listing x)
  first = least_first (names named listing x) (length listing)

  pub at_first : first_place named listing x < length listing → names named listing x (first_place named listing x) ≡ true
  at_first = first.found

  pub not_before : (j : ℕ) → j < first_place named listing x → names named listing x j ≡ true → ⊥
  not_before j h e = never (names named listing x j) e (first.before j (omega arith) h)
