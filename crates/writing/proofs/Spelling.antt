-- How a sign is spelled: how many bytes that takes, and its letters and numbers.
-- Assumes nothing.
use Rattle.std.proofs.Common.{◌≡◌, refl, ap, Bool, true, false, cond, ℕ, zero, suc, ◌+◌, ◌-◌, ◌/◌, ◌%◌, ◌<◌, ◌≤◌, [], ◌∷◌, ◌++◌, length, arith, length-append}
use lib.Dec.{ltb}
use Rattle.signs.specs.Words.{parts_of}
use Rattle.signs.specs.Spellings.{spellings, letters_of}
use Rattle.signs.specs.declared.sign.Jumped.TheVariants.{Dc, DcCoda, DcFine, Ds, DsCoda, DsFine}
use Rattle.signs.specs.declared.sign.Sign.{Sign}
use Rattle.signs.specs.declared.sign.Sign.TheVariants.{Block, Time, LeftRepeat, RightRepeat, OpenEnding, CloseEnding, Jump, Segno, Coda, ToCoda, Fine}
use Rattle.words.specs.declared.Parts.{Parts}
use Rattle.writing.specs.Spell.{digits_in, digits, pair_text, spell}

few_digits : (f n : ℕ) → length (digits_in f n) ≤ f
unfolding digits_in
few_digits zero n = omega arith
few_digits (suc f) n = go (ltb n 10) (few_digits f (n / 10))
  where
    go : (t : Bool) → length (digits_in f (n / 10)) ≤ f → length (cond t ((48 + n) ∷ []) (digits_in f (n / 10) ++ ((48 + n % 10) ∷ []))) ≤ suc f
    go true h = omega arith
    go false h = omega (arith, length-append (digits_in f (n / 10)) ((48 + n % 10) ∷ []))

pair_length : (k l : ℕ) → length (pair_text k l) ≤ 14
pair_length k l =
    omega (arith, length-append (digits k) (44 ∷ (digits l ++ (41 ∷ []))), length-append (digits l) (41 ∷ []), few_digits 6 k, few_digits 6 l)

-- a sign takes at most 21 bytes
pub spell_length : (s : Sign) → length (spell s) ≤ 21
unfolding spell
spell_length (Block k l) = omega (arith, pair_length k l)
spell_length (Time m n) = omega (arith, pair_length m n)
spell_length LeftRepeat = omega arith
spell_length RightRepeat = omega arith
spell_length OpenEnding = omega arith
spell_length CloseEnding = omega arith
spell_length (Jump Dc) = omega arith
spell_length (Jump DcCoda) = omega arith
spell_length (Jump DcFine) = omega arith
spell_length (Jump Ds) = omega arith
spell_length (Jump DsCoda) = omega arith
spell_length (Jump DsFine) = omega arith
spell_length Segno = omega arith
spell_length Coda = omega arith
spell_length ToCoda = omega arith
spell_length Fine = omega arith

-- a sign is spelled by its letters alone, or by them and its numbers
pub letters_alone : (s : Sign) (p : Parts) → p ≡ parts_of s → 2 < p.kind → letters_of (p.kind - 1) ≡ spell s
unfolding spell spellings
letters_alone (Block k l) p e h = absurd (omega (arith, ap (λ x. x.kind) e))
letters_alone (Time m n) p e h = absurd (omega (arith, ap (λ x. x.kind) e))
letters_alone LeftRepeat p e h = rw e refl
letters_alone RightRepeat p e h = rw e refl
letters_alone OpenEnding p e h = rw e refl
letters_alone CloseEnding p e h = rw e refl
letters_alone (Jump Dc) p e h = rw e refl
letters_alone (Jump DcCoda) p e h = rw e refl
letters_alone (Jump DcFine) p e h = rw e refl
letters_alone (Jump Ds) p e h = rw e refl
letters_alone (Jump DsCoda) p e h = rw e refl
letters_alone (Jump DsFine) p e h = rw e refl
letters_alone Segno p e h = rw e refl
letters_alone Coda p e h = rw e refl
letters_alone ToCoda p e h = rw e refl
letters_alone Fine p e h = rw e refl

pub letters_numbered : (s : Sign) (p : Parts) → p ≡ parts_of s → p.kind ≤ 2 → letters_of (p.kind - 1) ++ pair_text p.first p.second ≡ spell s
unfolding spell spellings
letters_numbered (Block k l) p e h = rw e refl
letters_numbered (Time m n) p e h = rw e refl
letters_numbered LeftRepeat p e h = absurd (omega (arith, ap (λ x. x.kind) e))
letters_numbered RightRepeat p e h = absurd (omega (arith, ap (λ x. x.kind) e))
letters_numbered OpenEnding p e h = absurd (omega (arith, ap (λ x. x.kind) e))
letters_numbered CloseEnding p e h = absurd (omega (arith, ap (λ x. x.kind) e))
letters_numbered (Jump Dc) p e h = absurd (omega (arith, ap (λ x. x.kind) e))
letters_numbered (Jump DcCoda) p e h = absurd (omega (arith, ap (λ x. x.kind) e))
letters_numbered (Jump DcFine) p e h = absurd (omega (arith, ap (λ x. x.kind) e))
letters_numbered (Jump Ds) p e h = absurd (omega (arith, ap (λ x. x.kind) e))
letters_numbered (Jump DsCoda) p e h = absurd (omega (arith, ap (λ x. x.kind) e))
letters_numbered (Jump DsFine) p e h = absurd (omega (arith, ap (λ x. x.kind) e))
letters_numbered Segno p e h = absurd (omega (arith, ap (λ x. x.kind) e))
letters_numbered Coda p e h = absurd (omega (arith, ap (λ x. x.kind) e))
letters_numbered ToCoda p e h = absurd (omega (arith, ap (λ x. x.kind) e))
letters_numbered Fine p e h = absurd (omega (arith, ap (λ x. x.kind) e))
