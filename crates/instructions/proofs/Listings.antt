-- Test 11 answers as its rules say: good where no instruction breaks one, else the first that does; and no other answer is right.
-- Assumes nothing.
use mathlib.Core.Path.{◌≡◌, refl, ap, subst}
use mathlib.Core.Logic.{◌↔◌, ◌⊎◌, inl, inr}
use mathlib.Core.Bool.{Bool, true, false, cond, not, ◌&&◌}
use mathlib.Core.List.{List}
use Prim.Native.Nat.{ℕ, ◌≤◌, ◌<◌}
use native.Mathlib.Omega.{arith}
use lib.ListN.{length, get_or}
use lib.Dec.{ltb, eqb}
use borrow.Author.Tests.{eqb-true, eqb-false, ltb-true, ltb-false, not-true, not-false}
use Rattle.std.specs.Prelude.{Option, Some, None, Result, Ok, Err}
use Rattle.std.proofs.lemmas.Bool.{and_parts, cases_lt}
use Rattle.std.proofs.lemmas.Bool.Decides.{nat_tests}
use Rattle.refusals.specs.Limits.{Limits}
use Rattle.refusals.specs.declared.Refusal.{Refusal}
use Rattle.refusals.specs.declared.Refusal.TheVariants.{BadListing}
use Rattle.instructions.specs.declared.Instruction.{Instruction}
use Rattle.instructions.specs.Forms.{loop_of, label_of, block, loop, rep, lb, jmp, njmp}
use Rattle.instructions.specs.Words.{unpacked}
use Rattle.instructions.specs.Places.{loop_mark, loop_repeat, label_mark, loop_place, rep_place, label_place}
use Rattle.instructions.specs.Test.{within, obeys, keeps, first_break, test_listing}
use Rattle.instructions.specs.Tables.{FirstFrom}
use Rattle.instructions.specs.Rules.{At, Names, by_rep, by_jmp, by_njmp, Jumps, jmp_to, njmp_to, Outside, Breaks, beyond, unreadable, high_loop, high_label, loop_again, label_again, no_rep, second_rep, no_loop, no_label, bad_times, bad_block, First, Right, good, refused}
use Rattle.instructions.proofs.Least.{never, least_first}
use Rattle.instructions.proofs.Marks.{Form, as_block, as_loop, as_rep, as_lb, as_jmp, as_njmp, form, inside, loop_there, rep_there, label_there, there_loop, there_rep, there_label, at_first, not_before}
use Rattle.instructions.proofs.Passed.{too_far}

pub and_true : (a b : Bool) → (a && b) ≡ true → (a ≡ true) × (b ≡ true)
and_true = and_parts

module _ (l : Limits) (listing : List ℕ) where
  -- ---- an instruction that breaks a rule does not keep them
  abbrev pub Obeys : ℕ → Instruction → Bool
  Obeys i x = obeys l (length listing) i (loop_place listing (loop_of x)) (rep_place listing (loop_of x)) (label_place listing (label_of x)) x.operation

  pub record Keeps (i : ℕ) (x : Instruction) : Type 0 where
    pub near : i < l.instructions
    pub loop_low : loop_of x < l.loops
    pub label_low : label_of x < l.labels
    pub obeyed : Obeys i x ≡ true

  pub kept : (i : ℕ) → keeps l listing i ≡ true → (x : Instruction) → At listing i x → Keeps i x
  unfolding keeps
  kept i e x a = grind (arith, nat_tests)

  -- a loop's mark stands where its first mark does, its one `rep` behind it
  pub kept_loop : (i L : ℕ) → keeps l listing i ≡ true → At listing i (loop L) → (loop_place listing L ≡ i) × (i < rep_place listing L) × (rep_place listing L < length listing)
  kept_loop i L e a = let k = kept i e (loop L) a in grind (arith, nat_tests)

  pub kept_rep : (i L T : ℕ) → keeps l listing i ≡ true → At listing i (rep L T) → (within 1 l.times T ≡ true) × (loop_place listing L < i) × (rep_place listing L ≡ i)
  kept_rep i L T e a = let k = kept i e (rep L T) a in grind (arith, nat_tests)

  kept_jump : (i L T B : ℕ) → (x : Instruction)
      → keeps l listing i ≡ true
      → At listing i x
      → Obeys i x ≡ (within 1 l.times T && ltb (loop_place listing L) i && ltb (label_place listing B) (length listing))
      → (within 1 l.times T ≡ true) × (loop_place listing L < i) × (label_place listing B < length listing)
  kept_jump i L T B x e a same = let k = kept i e x a in grind (arith, nat_tests)

  kept_names : (i L T : ℕ) → keeps l listing i ≡ true → Names listing i L T → (within 1 l.times T ≡ true) × (loop_place listing L < i)
  kept_names i L T e (by_rep a) = let k = kept_rep i L T e a in (k.0, k.1)
  kept_names i L T e (by_jmp B a) = let k = kept_jump i L T B (jmp L T B) e a refl in (k.0, k.1)
  kept_names i L T e (by_njmp B a) = let k = kept_jump i L T B (njmp L T B) e a refl in (k.0, k.1)

  pub kept_jumps : (i B : ℕ) → keeps l listing i ≡ true → Jumps listing i B → label_place listing B < length listing
  kept_jumps i B e (jmp_to L T a) = (kept_jump i L T B (jmp L T B) e a refl).2
  kept_jumps i B e (njmp_to L T a) = (kept_jump i L T B (njmp L T B) e a refl).2

  -- what names a number stands at or behind the first that does
  behind_loop : (i L : ℕ) → At listing i (loop L) → loop_place listing L ≤ i
  behind_loop i L a = let h : (i < loop_place listing L → ⊥) = λ lt. not_before loop_mark listing L i lt (there_loop listing L i a) in omega arith

  behind_rep : (i L T : ℕ) → At listing i (rep L T) → rep_place listing L ≤ i
  behind_rep i L T a = let h : (i < rep_place listing L → ⊥) = λ lt. not_before loop_repeat listing L i lt (there_rep listing L i T a) in omega arith

  behind_label : (i B : ℕ) → At listing i (lb B) → label_place listing B ≤ i
  behind_label i B a = let h : (i < label_place listing B → ⊥) = λ lt. not_before label_mark listing B i lt (there_label listing B i a) in omega arith

  pub none_kept : (i : ℕ) → unpacked (get_or listing i 0) ≡ None → keeps l listing i ≡ true → ⊥
  unfolding keeps
  none_kept i n e = grind (arith, nat_tests)

  pub kept_block : (i k n : ℕ) → keeps l listing i ≡ true → At listing i (block k n) → (within 1 l.number n ≡ true) × (k ≤ l.number)
  kept_block i k n e a = let h = kept i e (block k n) a in grind (arith, nat_tests)

  names_inside : (i L T : ℕ) → Names listing i L T → i < length listing
  names_inside i L T (by_rep a) = inside listing i (rep L T) a
  names_inside i L T (by_jmp B a) = inside listing i (jmp L T B) a
  names_inside i L T (by_njmp B a) = inside listing i (njmp L T B) a

  -- a label's mark stands where its first does
  pub kept_label : (i B : ℕ) → keeps l listing i ≡ true → At listing i (lb B) → label_place listing B ≡ i
  kept_label i B e a = eqb-true _ _ (kept i e (lb B) a).obeyed

  broken : (i : ℕ) → Breaks l listing i → keeps l listing i ≡ true → ⊥
  broken i (beyond h far) e = never (keeps l listing i) e (too_far l listing i far)
  broken i (unreadable h n) e = none_kept i n e
  broken i (high_loop x a h) e = let k = (kept i e x a).loop_low in omega arith
  broken i (high_label x a h) e = let k = (kept i e x a).label_low in omega arith
  broken i (loop_again L j a lt b) e = let k = kept_loop i L e a in let m = behind_loop j L b in omega arith
  broken i (label_again B j a lt b) e = let k = kept_label i B e a in let m = behind_label j B b in omega arith
  broken i (no_rep L a none) e =
      let k = kept_loop i L e a in
      let (T, r) = rep_there listing L (rep_place listing L) (at_first loop_repeat listing L k.2) in
      none (rep_place listing L) T k.1 r
  broken i (second_rep L m j S T a lt b less c) e = let k = kept_rep i L T e c in let r = behind_rep j L S b in omega arith
  broken i (no_loop L T n none) e =
      let k = kept_names i L T e n in
      none (loop_place listing L) k.1 (loop_there listing L (loop_place listing L) (at_first loop_mark listing L (omega (arith, names_inside i L T n))))
  broken i (no_label B n none) e =
      none (label_place listing B) (label_there listing B (label_place listing B) (at_first label_mark listing B (kept_jumps i B e n)))
  broken i (bad_times L T n out) e = let k = kept_names i L T e n in grind (arith, nat_tests)
  broken i (bad_block k n a out) e = let h = kept_block i k n e a in grind (arith, nat_tests)

  -- ---- where the rules are not kept, one is broken there or before
  abbrev pub Below : ℕ → Type 0
  Below i = (j : ℕ) × (j ≤ i) × Breaks l listing j

  here : (i : ℕ) → Breaks l listing i → Below i
  here i b = (i, omega arith, b)

  -- the first `rep` of a loop, with no mark before it
  early_rep : (i L : ℕ) → rep_place listing L < length listing → rep_place listing L ≤ i → rep_place listing L ≤ loop_place listing L → Below i
  early_rep i L h le m =
      let (T, a) = rep_there listing L (rep_place listing L) (at_first loop_repeat listing L h) in
      (rep_place listing L, le, no_loop L T (by_rep a) (λ j lt b. not_before loop_mark listing L j (omega arith) (there_loop listing L j b)))

  module _ (i : ℕ) (lt : i < length listing) where
    no_mark : (L T : ℕ) → Names listing i L T → i ≤ loop_place listing L → Below i
    no_mark L T n m = here i (no_loop L T n (λ j h b. not_before loop_mark listing L j (omega arith) (there_loop listing L j b)))

    loop_broken : (L : ℕ) → At listing i (loop L) → Obeys i (loop L) ≡ false → Below i
    loop_broken L a e = go (grind (arith, nat_tests))
      where
        go : (loop_place listing L ≡ i → ⊥) ⊎ ((loop_place listing L ≡ i) × (rep_place listing L ≤ i)) ⊎ (length listing ≤ rep_place listing L) → Below i
        go (inl ne) =
            let m = behind_loop i L a in
            here i (loop_again L (loop_place listing L) a (omega arith) (loop_there listing L (loop_place listing L) (at_first loop_mark listing L (omega arith))))
        go (inr (inl (m, r))) = early_rep i L (omega arith) r (omega arith)
        go (inr (inr t)) = here i (no_rep L a (λ j T h b. let r = behind_rep j L T b in let s = inside listing j (rep L T) b in omega arith))

    rep_broken : (L T : ℕ) → At listing i (rep L T) → Obeys i (rep L T) ≡ false → Below i
    rep_broken L T a e = go (grind (arith, nat_tests))
      where
        second : loop_place listing L < i → rep_place listing L < i → (loop_place listing L < rep_place listing L) ⊎ (rep_place listing L ≤ loop_place listing L) → Below i
        second m h (inl q) =
            let (S, b) = rep_there listing L (rep_place listing L) (at_first loop_repeat listing L (omega arith)) in
            here i (second_rep L (loop_place listing L) (rep_place listing L) S T (loop_there listing L (loop_place listing L) (at_first loop_mark listing L (omega arith))) q b h a)
        second m h (inr q) = early_rep i L (omega arith) (omega arith) q

        go : Outside 1 l.times T ⊎ (i ≤ loop_place listing L) ⊎ ((loop_place listing L < i) × (rep_place listing L ≡ i → ⊥)) → Below i
        go (inl out) = here i (bad_times L T (by_rep a) out)
        go (inr (inl m)) = no_mark L T (by_rep a) m
        go (inr (inr (m, ne))) = let r = behind_rep i L T a in second m (omega arith) (cases_lt _ _)

    jump_broken : (L T B : ℕ)
        → Names listing i L T
        → Jumps listing i B
        → (within 1 l.times T && ltb (loop_place listing L) i && ltb (label_place listing B) (length listing)) ≡ false
        → Below i
    jump_broken L T B n j e = go (grind (arith, nat_tests))
      where
        go : Outside 1 l.times T ⊎ (i ≤ loop_place listing L) ⊎ (length listing ≤ label_place listing B) → Below i
        go (inl out) = here i (bad_times L T n out)
        go (inr (inl m)) = no_mark L T n m
        go (inr (inr t)) = here i (no_label B j (λ k b. let m = behind_label k B b in let s = inside listing k (lb B) b in omega arith))

    label_broken : (B : ℕ) → At listing i (lb B) → eqb (label_place listing B) i ≡ false → Below i
    label_broken B a e =
        let m = behind_label i B a in
        let ne : (label_place listing B ≡ i → ⊥) = eqb-false _ _ e in
        here i (label_again B (label_place listing B) a (omega arith) (label_there listing B (label_place listing B) (at_first label_mark listing B (omega arith))))

    form_broken : (x : Instruction) → Form x → At listing i x → Obeys i x ≡ false → Below i
    form_broken x (as_block k n) a e = here i (bad_block k n a (grind (arith, nat_tests)))
    form_broken x (as_loop L) a e = loop_broken L a e
    form_broken x (as_rep L T) a e = rep_broken L T a e
    form_broken x (as_lb B) a e = label_broken B a e
    form_broken x (as_jmp L T B) a e = jump_broken L T B (by_jmp B a) (jmp_to L T a) e
    form_broken x (as_njmp L T B) a e = jump_broken L T B (by_njmp B a) (njmp_to L T a) e

    read_broken : (x : Instruction) → At listing i x → (l.loops ≤ loop_of x) ⊎ (l.labels ≤ label_of x) ⊎ (Obeys i x ≡ false) → Below i
    read_broken x a (inl h) = here i (high_loop x a h)
    read_broken x a (inr (inl h)) = here i (high_label x a h)
    read_broken x a (inr (inr e)) = form_broken x (form _ x a) a e

    not_kept : keeps l listing i ≡ false → Below i
    unfolding keeps
    not_kept e = go (cases_lt i l.instructions) (unpacked (get_or listing i 0)) refl
      where
        go : (i < l.instructions) ⊎ (l.instructions ≤ i) → (u : Option Instruction) → unpacked (get_or listing i 0) ≡ u → Below i
        go (inl h) (Some x) a = read_broken x a (grind (arith, nat_tests))
        go (inl h) None a = here i (unreadable lt a)
        go (inr h) u a = here i (beyond lt h)

  -- ---- the answer
  breaks_inside : (i : ℕ) → Breaks l listing i → i < length listing
  breaks_inside i (beyond h far) = h
  breaks_inside i (unreadable h n) = h
  breaks_inside i (high_loop x a h) = inside listing i x a
  breaks_inside i (high_label x a h) = inside listing i x a
  breaks_inside i (loop_again L j a lt b) = inside listing i (loop L) a
  breaks_inside i (label_again B j a lt b) = inside listing i (lb B) a
  breaks_inside i (no_rep L a none) = inside listing i (loop L) a
  breaks_inside i (second_rep L m j S T a lt b less c) = inside listing i (rep L T) c
  breaks_inside i (no_loop L T n none) = names_inside i L T n
  breaks_inside i (no_label B (jmp_to L T a) none) = inside listing i (jmp L T B) a
  breaks_inside i (no_label B (njmp_to L T a) none) = inside listing i (njmp L T B) a
  breaks_inside i (bad_times L T n out) = names_inside i L T n
  breaks_inside i (bad_block k n a out) = inside listing i (block k n) a

  found : FirstFrom (λ i. not (keeps l listing i)) 0 (length listing) (first_break l listing)
  found = least_first (λ i. not (keeps l listing i)) (length listing)

  none_before : (j : ℕ) → j < first_break l listing → Breaks l listing j → ⊥
  none_before j h b = broken j b (not-false (keeps l listing j) (found.before j (omega arith) h))

  is_first : first_break l listing < length listing → First l listing (first_break l listing)
  is_first h = (go (not_kept (first_break l listing) h (not-true (keeps l listing (first_break l listing)) (found.found h))), none_before)
    where
      go : Below (first_break l listing) → Breaks l listing (first_break l listing)
      go (j, le, b) =
          let same : j ≡ first_break l listing = (let ge : (j < first_break l listing → ⊥) = λ lt. none_before j lt b in omega arith) in
          subst (Breaks l listing) same b

  -- test 11 answers as its rules say
  pub right : Right l listing (test_listing l listing)
  unfolding test_listing
  right = go (ltb (first_break l listing) (length listing)) refl
    where
      go : (t : Bool) → ltb (first_break l listing) (length listing) ≡ t → Right l listing (cond t (Err (BadListing (first_break l listing))) (Ok tt))
      go true e = refused (first_break l listing) (is_first (ltb-true _ _ e))
      go false e = good (λ i b. none_before i (let h : length listing ≤ first_break l listing = ltb-false _ _ e in omega (arith, breaks_inside i b)) b)

  -- in a good listing every instruction keeps the rules
  pub all_kept : test_listing l listing ≡ Ok tt → (i : ℕ) → i < length listing → keeps l listing i ≡ true
  unfolding test_listing
  all_kept e i h = not-false (keeps l listing i) (found.before i (omega arith) (let m : length listing ≤ first_break l listing = grind (arith, nat_tests) in omega arith))

  -- and any two right answers are equal
  first_same : (i j : ℕ) → First l listing i → First l listing j → i ≡ j
  first_same i j (b, h) (c, k) =
      let p : (i < j → ⊥) = λ lt. k i lt b in
      let q : (j < i → ⊥) = λ lt. h j lt c in
      omega arith

  pub only : (a b : Result (Unit {0}) Refusal) → Right l listing a → Right l listing b → a ≡ b
  only a b (good h) (good k) = refl
  only a b (good h) (refused j (c, k)) = absurd (h j c)
  only a b (refused i (c, k)) (good h) = absurd (h i c)
  only a b (refused i p) (refused j q) = ap (λ (n : ℕ). Err (BadListing n)) (first_same i j p q)

  -- refused at instruction i exactly when i breaks a rule and no lower one does
  pub exactly : (i : ℕ) → (test_listing l listing ≡ Err (BadListing i)) ↔ First l listing i
  exactly i = (λ e. is_refused (subst (Right l listing) e right), λ f. only _ _ right (refused i f))
    where
      is_refused : Right l listing (Err (BadListing i)) → First l listing i
      is_refused (refused i f) = f

  pub good_exactly : (test_listing l listing ≡ Ok tt) ↔ ((i : ℕ) → Breaks l listing i → ⊥)
  good_exactly = (λ e. is_good (subst (Right l listing) e right), λ h. only _ _ right (good h))
    where
      is_good : Right l listing (Ok tt) → (i : ℕ) → Breaks l listing i → ⊥
      is_good (good h) = h
