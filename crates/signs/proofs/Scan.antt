-- The steps of the scan over the spellings: a letter agrees, a letter differs, the letters end.
-- Assumes nothing.
use Rattle.std.specs.Prelude.{None, Some}
use mathlib.Core.Path.{◌≡◌, refl, sym, ◌∙◌}
use mathlib.Core.Bool.{Bool, true, false, ◌&&◌}
use mathlib.Core.Logic.{◌⊎◌, inl, inr, ⊎_elim}
use mathlib.Core.List.{List, [], ◌∷◌}
use Prim.Native.Nat.{ℕ, zero, suc, ◌+◌, ◌≤◌, ◌<◌}
use native.Mathlib.Numerals.{add-one}
use native.Mathlib.Omega.{arith}
use borrow.Author.Tests.{eq-eqb, ne_eqb}
use lib.Dec.{T, eqb, leb, leb→le}
use lib.ListN.{length, get_or, drop, drop_of_length-le}
use lib.Seq.{drop-cons}
use Rattle.signs.specs.declared.sign.Sign.{Sign}
use Rattle.signs.specs.declared.sign.Sign.TheVariants.{Fine}
use Rattle.signs.specs.Text.{starts}
use Rattle.signs.specs.Spellings.{alone, spells, spellings, spelling, spelled, letters_of, letter_of, finished_by, longest}
use Rattle.signs.proofs.Gaps.{starts_here, there}
use Rattle.signs.proofs.Table.{both_left, both_right, below}
use Rattle.signs.proofs.Longest.{or_else, first, longest_first}

-- bytes other than 0
abbrev pub proper : List ℕ → Bool
proper [] = true
proper (b ∷ bs) = leb 1 b && (leb b 255 && proper bs)

pub proper_range : (b : ℕ) (bs : List ℕ) → T (proper (b ∷ bs)) → (1 ≤ b) × (b ≤ 255) × T (proper bs)
proper_range b bs t =
    let r = both_right (leb 1 b) (leb b 255 && proper bs) t in
    (leb→le 1 b (both_left (leb 1 b) (leb b 255 && proper bs) t), leb→le b 255 (both_left (leb b 255) (proper bs) r), both_right (leb b 255) (proper bs) r)

pub letters_proper : (i : ℕ) → i < 16 → T (proper (letters_of i))
unfolding spellings
letters_proper i h = below 16 (λ i. proper (letters_of i)) tt i h

pub letters_some : (i : ℕ) → i < 16 → 1 ≤ length (letters_of i)
unfolding spellings
letters_some i h = leb→le 1 (length (letters_of i)) (below 16 (λ i. leb 1 (length (letters_of i))) tt i h)

-- there are sixteen
pub sixteen : length spellings ≡ 16
unfolding spellings
sixteen = refl

-- the spellings above i do not stand
abbrev pub Known : List ℕ → ℕ → ℕ → Type 0
Known text at i = longest text at spellings ≡ first text at (drop i spellings)

pub known_none : (text : List ℕ) (at i : ℕ) → i ≡ 16 → Known text at i → None ≡ longest text at spellings
unfolding spellings
known_none text at i e k = sym (rw e at k)

next_spelling : (text : List ℕ) (at i : ℕ) → i < 16 → first text at (drop i spellings) ≡ or_else (spelled text at (spelling i)) (first text at (drop (i + 1) spellings))
next_spelling text at i h = rw (add-one, drop-cons spellings i (spells "" (alone Fine)) (omega (arith, sixteen)))

pub known_more : (text : List ℕ) (at i : ℕ) → i < 16 → spelled text at (spelling i) ≡ None → Known text at i → Known text at (i + 1)
known_more text at i h e k = k ∙ next_spelling text at i h ∙ rw e

pub known_stands : (text : List ℕ) (at i : ℕ) → i < 16 → (s : Sign) (p : ℕ) → spelled text at (spelling i) ≡ Some (s, p) → Known text at i → Some (s, p) ≡ longest text at spellings
known_stands text at i h s p e k = sym (k ∙ next_spelling text at i h ∙ rw e)

head_differs : (text : List ℕ) (at : ℕ) (w : List ℕ) → 1 ≤ length w → T (proper w) → (get_or w 0 0 ≡ get_or text at 0 → ⊥) → starts w (drop at text) ≡ false
head_differs text at [] h t n = absurd (omega arith)
head_differs text at (b ∷ bs) h t n =
    let r = proper_range b bs t in
    starts_here (b ∷ bs) text 0 at (λ z. omega arith) ∙ rw (ne_eqb b (get_or text at 0) n)

-- those that begin with another byte do not stand
pub known_start : (text : List ℕ) (at i : ℕ) → i ≤ 16 → ((k : ℕ) → k < i → letter_of k 0 ≡ get_or text at 0 → ⊥) → Known text at i
known_start text at zero h n = longest_first text at
known_start text at (suc i) h n =
    rw (← add-one i)
    (known_more text at i (omega arith) (rw (head_differs text at (letters_of i) (letters_some i (omega arith)) (letters_proper i (omega arith)) (n i (omega arith))))
    (known_start text at i (omega arith) (λ k l. n k (omega arith))))

-- a letter of a spelling is a byte other than 0
proper_at : (w : List ℕ) → T (proper w) → (j : ℕ) → j < length w → 1 ≤ get_or w j 0
proper_at [] t j h = absurd (omega arith)
proper_at (b ∷ bs) t zero h = (proper_range b bs t).0
proper_at (b ∷ bs) t (suc j) h = proper_at bs (proper_range b bs t).2 j (omega arith)

-- spelling i agrees with the text in its first j letters
pub record Agrees (text : List ℕ) (at i j : ℕ) : Type 0 where
  pub near : (j ≡ 0) ⊎ (at + j ≤ length text)
  pub inside : j ≤ length (letters_of i)
  pub same : starts (letters_of i) (drop at text) ≡ starts (drop j (letters_of i)) (drop (at + j) text)

pub agrees_none : (text : List ℕ) (at i : ℕ) → Agrees text at i 0
agrees_none text at i = let q : at + 0 ≡ at = omega arith in record { near = inl refl; inside = omega arith; same = rw q refl }

module _ (text : List ℕ) (at i j : ℕ) (f : i < 16) (a : Agrees text at i j) where
  module _ (h : j < length (letters_of i)) where
    some : 1 ≤ get_or (letters_of i) j 0
    some = proper_at (letters_of i) (letters_proper i f) j h

    tested : starts (letters_of i) (drop at text)
        ≡ eqb (get_or (letters_of i) j 0) (get_or text (at + j) 0) && starts (drop (j + 1) (letters_of i)) (drop (at + j + 1) text)
    tested = a.same ∙ starts_here (letters_of i) text j (at + j) (λ z. omega (arith, some))

    pub agrees_more : get_or text (at + j) 0 ≡ get_or (letters_of i) j 0 → Agrees text at i (j + 1)
    agrees_more e =
        let q : at + j + 1 ≡ at + (j + 1) = omega arith in
        record {
          near = inr (omega (arith, there text (at + j) (λ z. omega (arith, some))));
          inside = omega arith;
          same = tested ∙ rw (eq-eqb (get_or (letters_of i) j 0) (get_or text (at + j) 0) (sym e), q);
        }

    pub differs : (get_or text (at + j) 0 ≡ get_or (letters_of i) j 0 → ⊥) → spelled text at (spelling i) ≡ None
    differs n = rw (tested, ne_eqb (get_or (letters_of i) j 0) (get_or text (at + j) 0) (λ e. n (sym e)))

  pub agrees_fits : (b : ℕ) → at < b → length text < b → at + j < b
  agrees_fits b g h = ⊎_elim (λ e. omega (arith, e)) (λ e. omega (arith, e)) a.near

  -- the letters end: what stands is what follows them
  pub agrees_all : length (letters_of i) ≤ j → spelled text at (spelling i) ≡ finished_by text (at + length (letters_of i)) i
  unfolding starts
  agrees_all z = rw (a.same, drop_of_length-le (letters_of i) z)
