-- A rule of a table, by a test that is computed at each of its entries.
-- Assumes nothing.
use mathlib.Core.Path.{◌≡◌}
use mathlib.Core.Bool.{Bool, true, false, ◌&&◌}
use Prim.Native.Nat.{ℕ, zero, suc, ◌+◌, ◌<◌, ◌≤◌}
use native.Mathlib.Decide.{ℕ_discrete}
use native.Mathlib.Nat.{not-suc-le-zero}
use native.Mathlib.Omega.{arith}
use lib.Dec.{T}

-- the test passes at each number below n
abbrev pub upto : ℕ → (ℕ → Bool) → Bool
upto zero f = true
upto (suc n) f = f n && upto n f

pub both_left : (a b : Bool) → T (a && b) → T a
both_left true b t = tt
both_left false b t = t

pub both_right : (a b : Bool) → T (a && b) → T b
both_right true b t = t
both_right false b t = absurd t

pub below : (n : ℕ) (f : ℕ → Bool) → T (upto n f) → (k : ℕ) → k < n → T (f k)
below zero f t k h = absurd (not-suc-le-zero h)
below (suc n) f t k h = go (below n f (both_right (f n) (upto n f) t) k) (ℕ_discrete k n)
  where
    go : (k < n → T (f k)) → Dec (k ≡ n) → T (f k)
    go r (yes e) = rw e (both_left (f n) (upto n f) t)
    go r (no d) = r (omega arith)

-- past j, where it is not j itself
pub over : (j : ℕ) {k : ℕ} → j ≤ k → (k ≡ j → ⊥) → j + 1 ≤ k
over j h n = omega arith
