-- The steps of reading a number and a pair: one digit more; the answer by the digits read; the pair by what stands at its places.
-- Assumes nothing.
use Rattle.std.specs.Prelude.{None, Option, Some}
use mathlib.Core.Path.{◌≡◌, refl, sym, ap, ◌∙◌}
use mathlib.Core.Bool.{Bool, true, false, cond, ◌&&◌}
use mathlib.Core.List.{List, [], ◌∷◌}
use Prim.Native.Nat.{ℕ, zero, suc, ◌+◌, ◌*◌, ◌-◌, ◌^◌, ◌≤◌, ◌<◌}
use native.Mathlib.Nat.{zero-add, not-suc-le-zero, pow-suc, pow-le-pow_right}
use native.Mathlib.Numerals.{add-one}
use native.Mathlib.Omega.{arith}
use borrow.Author.Tests.{leb-true, eq-eqb, ne_eqb}
use lib.Dec.{leb}
use lib.ListN.{length, get_or, take, drop, length-drop, drop_of_length-le}
use lib.Seq.{drop-cons}
use Rattle.signs.specs.Text.{front, beyond, past}
use Rattle.std.proofs.lemmas.List.{length-take-le, take_all}
use Rattle.std.proofs.lemmas.Bool.{leb-false, lt-leb}
use Rattle.signs.specs.Numbers.{digit, AreDigits, leading, decimal, numeral, number_of, number_at, closed, pair_at}
use mathlib.Core.Logic.{◌⊎◌, inl, inr}
use Rattle.signs.proofs.Gaps.{same_place, clash, both_true, front_le}

pub digit_range : (b : ℕ) → digit b ≡ true → (48 ≤ b) × (b ≤ 57)
digit_range b e = let h = both_true (leb 48 b) (leb b 57) e in (leb-true 48 b h.0, leb-true b 57 h.1)

leading_le : (l : List ℕ) → length (leading l) ≤ length l
unfolding leading
leading_le [] = omega arith
leading_le (b ∷ bs) = go (digit b) (leading_le bs)
  where
    go : (t : Bool) → length (leading bs) ≤ length bs → length (cond t (b ∷ leading bs) []) ≤ suc (length bs)
    go true h = omega arith
    go false h = omega arith

-- the digits at the front are what passes the test
pub leading_taken : (l : List ℕ) → take (front digit l) l ≡ leading l
unfolding leading
leading_taken [] = refl
leading_taken (b ∷ bs) = go (digit b) (leading_taken bs)
  where
    go : (t : Bool) → take (front digit bs) bs ≡ leading bs → take (cond t (suc (front digit bs)) 0) (b ∷ bs) ≡ cond t (b ∷ leading bs) []
    go true h = ap (λ l. b ∷ l) h
    go false h = refl

pub leading_count : (l : List ℕ) → front digit l ≡ length (leading l)
unfolding leading
leading_count [] = refl
leading_count (b ∷ bs) = go (digit b) (leading_count bs)
  where
    go : (t : Bool) → front digit bs ≡ length (leading bs) → cond t (suc (front digit bs)) 0 ≡ length (cond t (b ∷ leading bs) [])
    go true h = ap suc h
    go false h = refl

pub leading_digits : (l : List ℕ) → AreDigits (leading l)
unfolding leading
leading_digits [] i h = absurd (not-suc-le-zero h)
leading_digits (b ∷ bs) i h = go (digit b) refl (leading_digits bs) i h
  where
    go : (t : Bool) → digit b ≡ t → AreDigits (leading bs) → (i : ℕ) → i < length (cond t (b ∷ leading bs) []) → digit (get_or (cond t (b ∷ leading bs) []) i 0) ≡ true
    go true e k zero h = e
    go true e k (suc i) h = k i (omega arith)
    go false e k i h = absurd (not-suc-le-zero h)

-- the digits from a place up to where they end are those of the number there
pub digits_there : (text ds : List ℕ) (at end : ℕ) → end ≡ beyond digit text at → ds ≡ take (end - at) (drop at text) → ds ≡ leading (drop at text)
digits_there text ds at end e d = d ∙ ap (λ n. take n (drop at text)) (omega (arith, e)) ∙ leading_taken (drop at text)

pub digits_all : (text ds : List ℕ) (at end : ℕ) → end ≡ beyond digit text at → ds ≡ take (end - at) (drop at text) → AreDigits ds
digits_all text ds at end e d = rw (digits_there text ds at end e d) (leading_digits (drop at text))

pub numeral_few : (ds : List ℕ) → numeral ds ≡ true → length ds ≤ 6
unfolding numeral
numeral_few ds e = leb-true (length ds) 6 (both_true (leb (length ds) 6) _ (both_true (leb 1 (length ds)) _ e).1).0

pub digits_end : (text : List ℕ) (at end : ℕ) → end ≡ beyond digit text at → end ≡ at + length (leading (drop at text))
digits_end text at end e = e ∙ ap (λ n. at + n) (leading_count (drop at text))

-- where the text has ended no number stands
pub number_past : (text : List ℕ) (at : ℕ) → length text ≤ at → None ≡ number_at text at
unfolding numeral leading
number_past text at h = rw (drop_of_length-le text {i = at} (omega arith)) refl

-- nor past the text
pub number_none : (text : List ℕ) (at end : ℕ) → end ≡ beyond digit text at → (end < at) ⊎ (length text < end) → None ≡ number_at text at
number_none text at end e (inl h) = absurd (omega arith)
number_none text at end e (inr h) = number_past text at (omega (arith, front_le digit (drop at text), length-drop at text))

-- the digits at the front of the first n bytes are the first n of the digits
leading_near : (n : ℕ) (l : List ℕ) → leading (take n l) ≡ take n (leading l)
unfolding leading
leading_near zero [] = refl
leading_near zero (b ∷ bs) = refl
leading_near (suc n) [] = refl
leading_near (suc n) (b ∷ bs) = go (digit b) (leading_near n bs)
  where
    go : (t : Bool) → leading (take n bs) ≡ take n (leading bs) → cond t (b ∷ leading (take n bs)) [] ≡ take (suc n) (cond t (b ∷ leading bs) [])
    go true h = ap (λ l. b ∷ l) h
    go false h = refl

-- seven digits and more are no number
numeral_many : (ds : List ℕ) → 6 < length ds → numeral ds ≡ false
unfolding numeral
numeral_many ds h = rw (lt-leb (length ds) 6 h) (go (leb 1 (length ds)))
  where
    go : (t : Bool) → t && false ≡ false
    go true = refl
    go false = refl

-- the first seven digits tell of all of them what number they are
number_of_seven : (at : ℕ) (ds : List ℕ) → number_of at (take 7 ds) ≡ number_of at ds
number_of_seven at ds = go (leb (length ds) 7) refl
  where
    go : (t : Bool) → leb (length ds) 7 ≡ t → number_of at (take 7 ds) ≡ number_of at ds
    go true e = ap (number_of at) (take_all 7 ds (leb-true (length ds) 7 e))
    go false e =
        let h = leb-false (length ds) 7 e in
        rw (numeral_many ds (omega arith), numeral_many (take 7 ds) (rw (length-take-le 7 ds (omega arith)) (omega arith))) refl

-- the first seven bytes tell what number stands at the front
pub number_near : (text near : List ℕ) → near ≡ take 7 text → number_at near 0 ≡ number_at text 0
number_near text near e = ap (λ l. number_of 0 (leading l)) e ∙ ap (number_of 0) (leading_near 7 text) ∙ number_of_seven 0 (leading text)

-- the first i digits say v
pub record Said (ds : List ℕ) (i v : ℕ) : Type 0 where
  pub small : v < 10 ^ i
  pub says : decimal 0 ds ≡ decimal v (drop i ds)

pub none_said : (ds : List ℕ) → Said ds 0 0
none_said ds = record { small = omega arith; says = refl }

pub room : (n v : ℕ) → n ≤ 5 → v < 10 ^ n → v < 100000
room n v h l = omega (arith, pow-le-pow_right {n = 10} (omega arith) {i = n} {j = 5} h)

pub one_more : (ds : List ℕ) (i v : ℕ) → Said ds i v → i < length ds → digit (get_or ds i 0) ≡ true → Said ds (i + 1) (v * 10 + (get_or ds i 0 - 48))
unfolding decimal
one_more ds i v s h e =
    let g = digit_range (get_or ds i 0) e in
    record {
      small = rw (add-one, pow-suc) (omega (arith, s.small));
      says = s.says ∙ ap (decimal v) (drop-cons ds i 0 h) ∙ rw (add-one i);
    }

pub all_said : (ds : List ℕ) (i v : ℕ) → Said ds i v → length ds ≤ i → v ≡ decimal 0 ds
unfolding decimal
all_said ds i v s h = sym (s.says ∙ ap (decimal v) (drop_of_length-le ds h))

-- a number reaches past its start, and not past the text
pub number_reach : (text : List ℕ) (at k p : ℕ) → number_at text at ≡ Some (k, p) → (at < p) × (p ≤ length text)
unfolding numeral
number_reach text at k p e =
    let g = go (leading (drop at text)) (numeral (leading (drop at text))) refl e in
    (omega arith, omega (arith, leading_le (drop at text), length-drop at text))
  where
    go : (ds : List ℕ) (t : Bool) → numeral ds ≡ t → cond {A = Option (ℕ × ℕ)} t (Some (decimal 0 ds, at + length ds)) None ≡ Some (k, p) → (1 ≤ length ds) × (at + length ds ≡ p)
    go ds true n f = (leb-true 1 (length ds) (both_true (leb 1 (length ds)) _ n).0, same_place _ _ _ _ f)
    go ds false n f = clash (cc)

-- a number at the front of what follows a place, with the place behind it in the whole
abbrev from_place : ℕ → Option (ℕ × ℕ) → Option (ℕ × ℕ)
from_place at None = None
from_place at (Some (v, n)) = Some (v, at + n)

-- a number at a place is the one at the front of what follows
module _ (text rest : List ℕ) (at : ℕ) (e : rest ≡ drop at text) where
  number_there : from_place at (number_at rest 0) ≡ number_at text at
  number_there = ap (λ l. from_place at (number_at l 0)) e ∙ go (leading (drop at text)) (numeral (leading (drop at text)))
    where
      go : (ds : List ℕ) (t : Bool) → from_place at (cond t (Some (decimal 0 ds, 0 + length ds)) None) ≡ cond t (Some (decimal 0 ds, at + length ds)) None
      go ds true = ap (λ n. Some (decimal 0 ds, at + n)) (zero-add (length ds))
      go ds false = refl

  pub number_absent : number_at rest 0 ≡ None → None ≡ number_at text at
  number_absent f = ap (from_place at) (sym f) ∙ number_there

  pub number_from : (v n : ℕ) → number_at rest 0 ≡ Some (v, n) → Some (v, at + n) ≡ number_at text at
  number_from v n f = ap (from_place at) (sym f) ∙ number_there

-- a pair, by what stands at its four places
module _ (text : List ℕ) (at : ℕ) where
  pub pair_none : number_at text (past true text at) ≡ None → None ≡ pair_at text at
  unfolding pair_at
  pair_none e = sym (rw e)

  module _ (k p : ℕ) (e : number_at text (past true text at) ≡ Some (k, p)) where
    pub pair_no_comma : (get_or text p 0 ≡ 44 → ⊥) → None ≡ pair_at text at
    unfolding pair_at
    pair_no_comma h = sym (rw (e, ne_eqb (get_or text p 0) 44 h))

    pub pair_second : get_or text p 0 ≡ 44 → (n : Option (ℕ × ℕ)) → number_at text (past true text (p + 1)) ≡ n → closed text k n ≡ pair_at text at
    unfolding pair_at
    pair_second h n f = sym (rw (e, eq-eqb (get_or text p 0) 44 h, f))

    module _ (h : get_or text p 0 ≡ 44) (l q : ℕ) (f : number_at text (past true text (p + 1)) ≡ Some (l, q)) where
      pub pair_open : (get_or text q 0 ≡ 41 → ⊥) → None ≡ pair_at text at
      pair_open g = rw (ne_eqb (get_or text q 0) 41 g) at (pair_second h (Some (l, q)) f)

      pub pair_closed : get_or text q 0 ≡ 41 → Some (k, l, (q + 1)) ≡ pair_at text at
      pair_closed g = rw (eq-eqb (get_or text q 0) 41 g) at (pair_second h (Some (l, q)) f)
