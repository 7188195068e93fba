-- The laws of sums that stop at a bound.
-- Assumes nothing.
use mathlib.Core.Path.{◌≡◌, refl, ap}
use mathlib.Core.Bool.{Bool, true, false}
use Prim.Native.Nat.{ℕ, zero, suc, ◌+◌, ◌*◌, ◌≤◌, min}
use native.Mathlib.Nat.{mul_comm, mul-le-mul_left}
use native.Mathlib.Omega.{arith}
use lib.Dec.{ltb}
use borrow.Author.Tests.{ltb-true, ltb-false}
use Rattle.grammar.specs.Tallies.{most, capped}

pub add_left : (a b : ℕ) → capped (capped a + b) ≡ capped (a + b)
unfolding capped
add_left a b = omega arith

pub add_right : (a b : ℕ) → capped (a + capped b) ≡ capped (a + b)
unfolding capped
add_right a b = omega arith

pub times_right : (n a : ℕ) → capped (n * capped a) ≡ capped (n * a)
unfolding capped
times_right zero a = ap capped (omega arith)
times_right (suc n) a = go (ltb most a) refl
  where
    go : (b : Bool) → ltb most a ≡ b → capped (suc n * capped a) ≡ capped (suc n * a)
    go true e =
        let h = ltb-true most a e in
        let m : min a most ≡ most = omega arith in
        let l : suc n * most ≤ suc n * a = mul-le-mul_left (suc n) (omega arith) in
        rw m (omega arith)
    go false e =
        let h = ltb-false most a e in
        let m : min a most ≡ a = omega arith in
        rw m

pub times_left : (n a : ℕ) → capped (capped n * a) ≡ capped (n * a)
times_left n a = rw (mul_comm (capped n) a, mul_comm n a) (times_right a n)

pub none_of_some : (n : ℕ) → capped (suc n) ≡ 0 → ⊥
unfolding capped
none_of_some n e = omega arith
