-- There is one right answer.
-- Assumes nothing.
use mathlib.Core.Path.{◌≡◌, sym, ap}
use mathlib.Core.Bool.{Bool}
use mathlib.Core.List.{List, ◌++◌}
use Prim.Native.Nat.{ℕ, suc, ◌<◌}
use native.Mathlib.Omega.{arith}
use native.Mathlib.Decide.{dec_lt}
use lib.ListN.{take, drop, take-append-drop}
use lib.Seq.{take-take}
use Rattle.signs.specs.Words.{Unpacked}
use Rattle.score.specs.Readings.{Answer, reading, refused, Refused, Right}
use Rattle.score.proofs.Viable.{cut}

module _ (implied : Bool) where
  -- two refusals name one place
  not_before : (l : List Unpacked) (i j : ℕ) → Refused implied l i → Refused implied l j → i < j → ⊥
  not_before l i j h k w =
      let e : take j l ≡ take (suc i) l ++ drop (suc i) (take j l) = rw (← take-take (suc i) j l w) (sym (take-append-drop (suc i) (take j l))) in
      let z = k.within in
      h.first (omega arith) (cut implied (take (suc i) l) (drop (suc i) (take j l)) (take j l) e k.before)

  same_place : (l : List Unpacked) (i j : ℕ) → Refused implied l i → Refused implied l j → Dec (i < j) → Dec (j < i) → i ≡ j
  same_place l i j h k (yes p) d = absurd (not_before l i j h k p)
  same_place l i j h k (no p) (yes q) = absurd (not_before l j i k h q)
  same_place l i j h k (no p) (no q) = omega arith

  -- Any two right answers are equal.
  pub one_answer : (l : List Unpacked) (o p : Answer) → Right implied l o → Right implied l p → o ≡ p
  one_answer l (reading t) (reading u) h k = ap reading (k.1 t h.0)
  one_answer l (reading t) (refused i) h k = absurd (k.unread t h.0)
  one_answer l (refused i) (reading t) h k = absurd (h.unread t k.0)
  one_answer l (refused i) (refused j) h k = ap refused (same_place l i j h k (dec_lt i j) (dec_lt j i))
