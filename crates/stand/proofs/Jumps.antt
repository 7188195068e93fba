-- Where marks stand: in a listing that passes test 11 its words are instructions, so the place of a mark is the same in the words and in the instructions.
-- Assumes nothing.
use mathlib.Core.Path.{◌≡◌, refl, sym, ap, ap₂, ◌∙◌}
use mathlib.Core.Bool.{Bool, true, false, cond}
use mathlib.Core.List.{List, [], ◌∷◌}
use Rattle.std.specs.Bool.{◌==◌}
use Rattle.std.specs.Prelude.{Option, Some, None}
use Rattle.std.specs.List.{position, position_or_len}
use Rattle.std.proofs.lemmas.List.Sums.{position_or_len_is}
use Prim.Native.Nat.{ℕ, zero, suc, ◌<◌, ◌≤◌}
use native.Mathlib.Omega.{arith}
use lib.ListN.{length, get_or}
use lib.Dec.{ltb}
use borrow.Author.Tests.{ltb-true, ltb-false, lt-ltb, eq-eqb, ne_eqb}
use Rattle.refusals.specs.Limits.{Limits}
use Rattle.instructions.specs.declared.Instruction.{Instruction}
use Rattle.instructions.specs.Forms.{lb}
use Rattle.instructions.specs.Words.{packed, decoded, unpacked}
use Rattle.instructions.specs.Rules.{At}
use Rattle.instructions.specs.Places.{least, is, loop_mark, label_mark, first_place, loop_place, label_place}
use Rattle.instructions.specs.Test.{keeps}
use Rattle.instructions.proofs.Least.{never}
use Rattle.instructions.proofs.Inverse.{inverse}
use Rattle.instructions.proofs.Passed.{too_far}
use Rattle.instructions.proofs.Marks.{is_decoded, label_there, there_label, at_first, not_before}
use Rattle.instructions.proofs.Listings.{all_kept, none_kept}
use Rattle.machine.specs.Machine.{find, loop_at, label_at}
use Rattle.stand.specs.Steps.{program, Tested}

-- every word is the instruction that it decodes to
abbrev pub Words : List ℕ → Type 0
Words listing = (i : ℕ) → i < length listing → At listing i (decoded (get_or listing i 0))

pub words : (l : Limits) (listing : List ℕ) → Tested l listing → Words listing
words l listing tested i h = go (unpacked (get_or listing i 0)) refl
  where
    go : (u : Option Instruction) → unpacked (get_or listing i 0) ≡ u → unpacked (get_or listing i 0) ≡ Some (decoded (get_or listing i 0))
    go (Some x) e = e ∙ ap Some (sym (is_decoded _ x e))
    go None e = absurd (none_kept l listing i e (all_kept l listing tested i h))

-- the listing is not too long
pub short_listing : (l : Limits) (listing : List ℕ) → Tested l listing → length listing ≤ l.instructions
short_listing l listing tested = go (ltb l.instructions (length listing)) refl
  where
    go : (t : Bool) → ltb l.instructions (length listing) ≡ t → length listing ≤ l.instructions
    go true q = never (keeps l listing l.instructions) (all_kept l listing tested l.instructions (ltb-true _ _ q)) (too_far l listing l.instructions (omega arith))
    go false q = ltb-false _ _ q

-- the first instruction that names x is the first word that does
find_is : (named : Option Instruction → Option ℕ) (x : ℕ) (listing : List ℕ) → Words listing → find (λ i. is (named (Some i)) x) (program listing) ≡ first_place named listing x
unfolding find least
find_is named x [] h = refl
find_is named x (w ∷ ws) h =
    ap₂ (λ (t : Bool) (n : ℕ). cond t zero (suc n))
    (ap (λ (u : Option Instruction). is (named u) x) (sym (h 0 (omega arith))))
    (find_is named x ws (λ i lt. h (suc i) (omega arith)))

pub loop_at_lem : (l : Limits) (listing : List ℕ) (L : ℕ) → Tested l listing → loop_at (program listing) L ≡ loop_place listing L
loop_at_lem l listing L tested = find_is loop_mark L listing (words l listing tested)

-- ---- the search for a label's word, which is its packing
module _ (l : Limits) (listing : List ℕ) (B : ℕ) (tested : Tested l listing) (marked : label_place listing B < length listing) where
  placed : label_at (program listing) B ≡ label_place listing B
  placed = find_is label_mark B listing (words l listing tested)

  pub label_inside : label_at (program listing) B < l.instructions
  label_inside = omega (arith, placed, short_listing l listing tested)

  module _ (mark : ℕ) (packs : mark ≡ packed (lb B)) where
    -- a word is the mark's where the label stands
    there : (i : ℕ) → At listing i (lb B) → get_or listing i 0 ≡ mark
    there i a = sym (packs ∙ ((inverse (get_or listing i 0) (lb B)).0 a).0)

    at_mark : At listing (label_place listing B) (lb B)
    at_mark = label_there listing B (label_place listing B) (at_first label_mark listing B marked)

    -- and at no place above
    none_above : (i : ℕ) → i < label_place listing B → (get_or listing i 0 == mark) ≡ false
    none_above i lt = ne_eqb _ _ other
      where
        other : get_or listing i 0 ≡ mark → ⊥
        other e =
            let (p, n) = (inverse (get_or listing (label_place listing B) 0) (lb B)).0 at_mark in
            let a : At listing i (lb B) = (inverse (get_or listing i 0) (lb B)).1 (sym (e ∙ packs), λ z. n (sym p ∙ sym packs ∙ sym e ∙ z)) in
            not_before label_mark listing B i lt (there_label listing B i a)

    pub found : position (λ w. w == mark) listing ≡ Some (label_at (program listing) B)
    found =
        let first : position_or_len (λ w. w == mark) listing ≡ label_place listing B = position_or_len_is (λ w. w == mark) listing (label_place listing B) 0 (omega arith) none_above (λ lt. eq-eqb _ _ (there (label_place listing B) at_mark)) in
        rw (first, lt-ltb _ _ marked) (ap Some (sym placed))
