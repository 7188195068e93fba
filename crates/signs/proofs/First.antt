-- Before a spelling of the table none begins with a byte, if a test says so at each place.
-- Assumes nothing.
use Rattle.std.proofs.Common.{◌≡◌, ℕ, ◌<◌, eqb, not, T, T_not}
use Rattle.std.proofs.Math.Dec.{eqb_refl}
use Rattle.signs.specs.Spellings.{letter_of}
use Rattle.signs.proofs.Table.{upto, below}

pub none_before : (r b : ℕ) → T (upto r (λ i. not (eqb (letter_of i 0) b))) → (c : ℕ) → c ≡ b → (i : ℕ) → i < r → letter_of i 0 ≡ c → ⊥
none_before r b t c d i h e = T_not (eqb (letter_of i 0) b) (below r (λ i. not (eqb (letter_of i 0) b)) t i h) (rw (e, d) (eqb_refl b))
