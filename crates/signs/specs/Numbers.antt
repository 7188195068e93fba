-- Numbers by their digits, and the two numbers that a sign carries.
-- Assumes nothing.
use Rattle.std.specs.Prelude.{◌≡◌, ◌<◌, Bool, true, not, cond, ◌&&◌, ◌||◌, List, [], ◌∷◌, ℕ, ◌+◌, ◌*◌, ◌-◌, leb, eqb, length, get_or, drop, None, Option, Some}
use Rattle.signs.specs.Text.{past}

abbrev pub digit : ℕ → Bool
digit b = leb 48 b && leb b 57

-- each byte is a digit
abbrev pub AreDigits : List ℕ → Type 0
AreDigits ds = (i : ℕ) → i < length ds → digit (get_or ds i 0) ≡ true

-- the digits at the front
unfoldable pub leading : List ℕ → List ℕ
leading [] = []
leading (b ∷ bs) = cond (digit b) (b ∷ leading bs) []

-- what digits say in decimal, after v
unfoldable pub decimal : ℕ → List ℕ → ℕ
decimal v [] = v
decimal v (d ∷ ds) = decimal (v * 10 + (d - 48)) ds

-- 1 to 6 digits, no leading zero except 0 alone
unfoldable pub numeral : List ℕ → Bool
numeral ds = leb 1 (length ds) && (leb (length ds) 6 && (eqb (length ds) 1 || not (eqb (get_or ds 0 0) 48)))

-- the number that these digits at a place are
abbrev pub number_of : ℕ → List ℕ → Option (ℕ × ℕ)
number_of at ds = cond (numeral ds) (Some (decimal 0 ds, at + length ds)) None

-- the number at a place
abbrev pub number_at : List ℕ → ℕ → Option (ℕ × ℕ)
number_at text at = number_of at (leading (drop at text))

-- the second number's end is a closing bracket
abbrev pub closed : List ℕ → ℕ → Option (ℕ × ℕ) → Option (ℕ × ℕ × ℕ)
closed text k None = None
closed text k (Some (l, p)) = cond (eqb (get_or text p 0) 41) (Some (k, l, p + 1)) None

-- the first number's end is a comma, after which spaces and the second follow
abbrev pub parted : List ℕ → Option (ℕ × ℕ) → Option (ℕ × ℕ × ℕ)
parted text None = None
parted text (Some (k, p)) = cond (eqb (get_or text p 0) 44) (closed text k (number_at text (past true text (p + 1)))) None

-- after a comma: spaces, a number, a comma, spaces, a number and a closing bracket
unfoldable pub pair_at : List ℕ → ℕ → Option (ℕ × ℕ × ℕ)
pair_at text at = parted text (number_at text (past true text at))
