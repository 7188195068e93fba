-- A text from a place on, by the byte that stands there; a byte past the end reads as 0.
-- Assumes nothing.
use Rattle.std.specs.Prelude.{Option, Some, None}
use mathlib.Core.Path.{◌≡◌, refl, ap, ◌∙◌}
use mathlib.Core.Bool.{Bool, true, false, cond, ◌&&◌}
use mathlib.Core.List.{List, [], ◌∷◌}
use Prim.Native.Nat.{ℕ, zero, suc, ◌+◌, ◌≤◌, ◌<◌}
use native.Mathlib.Numerals.{add-one}
use native.Mathlib.Omega.{arith}
use borrow.Author.Tests.{ne_eqb}
use lib.Dec.{eqb}
use lib.ListN.{length, get_or, drop}
use Rattle.signs.specs.Text.{front, gap, past, starts}

pub clash : {A : Type 0} → ◌≡◌ {A = ℕ} 0 1 → A
clash e = absurd (omega arith)

-- the place behind what was read
place_behind : {A : Type 0} → Option (A × ℕ) → ℕ
place_behind None = 0
place_behind (Some (x, p)) = p

pub same_place : {A : Type 0} (x y : A) (p q : ℕ) → ◌≡◌ {A = Option (A × ℕ)} (Some (x, p)) (Some (y, q)) → p ≡ q
unfolding place_behind
same_place x y p q e = ap place_behind e

read_or : {A : Type 0} → A → Option (A × ℕ) → A
read_or d None = d
read_or d (Some (x, p)) = x

-- what was read
pub same_read : {A : Type 0} (x y : A) (p q : ℕ) → ◌≡◌ {A = Option (A × ℕ)} (Some (x, p)) (Some (y, q)) → x ≡ y
unfolding read_or
same_read x y p q e = ap (read_or x) e

place_behind_two : Option (ℕ × ℕ × ℕ) → ℕ
place_behind_two None = 0
place_behind_two (Some (k, l, p)) = p

pub same_place_two : (k l p k' l' q : ℕ) → ◌≡◌ {A = Option (ℕ × ℕ × ℕ)} (Some (k, l, p)) (Some (k', l', q)) → p ≡ q
unfolding place_behind_two
same_place_two k l p k' l' q e = ap place_behind_two e

pub both_true : (a b : Bool) → a && b ≡ true → (a ≡ true) × (b ≡ true)
both_true true b e = (refl, e)
both_true false b e = clash (cc)

-- a byte that is not 0 stands in the text
pub there : (text : List ℕ) (i : ℕ) → (get_or text i 0 ≡ 0 → ⊥) → i < length text
there [] i h = absurd (h refl)
there (b ∷ bs) zero h = omega arith
there (b ∷ bs) (suc i) h = omega (arith, there bs i h)

-- a test that byte 0 does not pass, at the front of a list from place i on
module _ (f : ℕ → Bool) (z : f 0 ≡ false) where
  front_here : (l : List ℕ) (i : ℕ) → front f (drop i l) ≡ cond (f (get_or l i 0)) (suc (front f (drop (suc i) l))) 0
  front_here [] zero = rw z
  front_here [] (suc i) = rw z
  front_here (b ∷ bs) zero = refl
  front_here (b ∷ bs) (suc i) = front_here bs i

  pub front_more : (l : List ℕ) (i : ℕ) → f (get_or l i 0) ≡ true → i + front f (drop i l) ≡ i + 1 + front f (drop (i + 1) l)
  front_more l i e = rw (front_here l i, e, add-one) (omega arith)

  pub front_stop : (l : List ℕ) (i : ℕ) → f (get_or l i 0) ≡ false → i + front f (drop i l) ≡ i
  front_stop l i e = rw (front_here l i, e) (omega arith)

pub front_le : (f : ℕ → Bool) (l : List ℕ) → front f l ≤ length l
front_le f [] = omega arith
front_le f (b ∷ bs) = go (f b) (front_le f bs)
  where
    go : (t : Bool) → front f bs ≤ length bs → cond t (suc (front f bs)) 0 ≤ suc (length bs)
    go true h = omega arith
    go false h = omega arith

gap_zero : (inside : Bool) → gap inside 0 ≡ false
gap_zero true = refl
gap_zero false = refl

module _ (inside : Bool) (text : List ℕ) where
  pub past_more : (i : ℕ) → gap inside (get_or text i 0) ≡ true → past inside text i ≡ past inside text (i + 1)
  past_more i e = front_more (gap inside) (gap_zero inside) text i e

  pub past_here : (i : ℕ) → gap inside (get_or text i 0) ≡ false → past inside text i ≡ i
  past_here i e = front_stop (gap inside) (gap_zero inside) text i e

-- letters from place j on against a text from place i on
starts_step : (w text : List ℕ) (j i : ℕ) → (get_or w j 0 ≡ 0 → ⊥)
    → starts (drop j w) (drop i text) ≡ eqb (get_or w j 0) (get_or text i 0) && starts (drop (suc j) w) (drop (suc i) text)
unfolding starts
starts_step [] text zero i h = absurd (h refl)
starts_step [] text (suc j) i h = absurd (h refl)
starts_step (x ∷ w) [] zero zero h = rw (ne_eqb x 0 h)
starts_step (x ∷ w) [] zero (suc i) h = rw (ne_eqb x 0 h)
starts_step (x ∷ w) (b ∷ bs) zero zero h = refl
starts_step (x ∷ w) (b ∷ bs) zero (suc i) h = starts_step (x ∷ w) bs zero i h
starts_step (x ∷ w) text (suc j) i h = starts_step w text j i h

pub starts_here : (w text : List ℕ) (j i : ℕ) → (get_or w j 0 ≡ 0 → ⊥)
    → starts (drop j w) (drop i text) ≡ eqb (get_or w j 0) (get_or text i 0) && starts (drop (j + 1) w) (drop (i + 1) text)
starts_here w text j i h = starts_step w text j i h ∙ rw (← add-one j, ← add-one i)

pub starts-length : (w l : List ℕ) → starts w l ≡ true → length w ≤ length l
unfolding starts
starts-length [] l e = omega arith
starts-length (x ∷ w) [] e = clash (cc)
starts-length (x ∷ w) (b ∷ bs) e = omega (arith, starts-length w bs (both_true (eqb x b) (starts w bs) e).1)
