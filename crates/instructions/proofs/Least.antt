-- The least number at which a test holds, told by what is known of it and of the numbers below.
-- Assumes nothing.
use mathlib.Core.Path.{◌≡◌, refl}
use mathlib.Core.Bool.{Bool, true, false, cond}
use Prim.Native.Nat.{ℕ, zero, suc, ◌≤◌, ◌<◌}
use native.Mathlib.Omega.{arith}
use Rattle.std.proofs.lemmas.Bool.{cases_order, cases_Bool}
use Rattle.instructions.specs.Places.{least}
use Rattle.instructions.specs.Tables.{FirstFrom}

pub never : {A : Type 0} (b : Bool) → b ≡ true → b ≡ false → A
never b p q = cc

pub first_none : (f : ℕ → Bool) (n : ℕ) → FirstFrom f n n n
first_none f n = record { low = omega arith; high = omega arith; before = λ j a b. absurd (omega arith); found = λ h. absurd (omega arith) }

-- from one number before: that number where the test holds there, else as it was
pub first_more : (f : ℕ → Bool) (i n m k : ℕ) → i < n → FirstFrom f (suc i) n m → k ≡ cond (f i) i m → FirstFrom f i n k
first_more f i n m k lt h e =
    record {
      low = grind (arith, cases_Bool (f i), h.low);
      high = grind (arith, cases_Bool (f i), h.high);
      before = λ j a b. grind (arith, cases_order, cases_Bool (f i), h.before j);
      found = λ c. grind (arith, cases_Bool (f i), h.found);
    }

-- one number further up
shifted : (f : ℕ → Bool) (n m : ℕ) → FirstFrom (λ k. f (suc k)) 0 n m → FirstFrom f 1 (suc n) (suc m)
shifted f n m h = record { low = omega arith; high = omega (arith, h.high); before = before; found = λ a. h.found (omega arith) }
  where
    before : (j : ℕ) → 1 ≤ j → j < suc m → f j ≡ false
    before zero a b = absurd (omega arith)
    before (suc k) a b = h.before k (omega arith) (omega arith)

pub least_first : (f : ℕ → Bool) (n : ℕ) → FirstFrom f 0 n (least f n)
unfolding least
least_first f zero = first_none f 0
least_first f (suc n) = first_more f 0 (suc n) _ _ (omega arith) (shifted f n _ (least_first (λ k. f (suc k)) n)) refl

-- there is one such number only
pub first_is_least : (f : ℕ → Bool) (n m : ℕ) → FirstFrom f 0 n m → m ≡ least f n
first_is_least f n m h = let k = least_first f n in grind (arith, cases_order, h.before (least f n), k.before m)
