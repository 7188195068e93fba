-- What stands in a text from a place on: separators, spaces, given letters.
-- Assumes nothing.
use Rattle.std.specs.Prelude.{Bool, true, false, cond, ◌&&◌, ◌||◌, List, [], ◌∷◌, ℕ, suc, ◌+◌, eqb, drop}

-- how many numbers at the front of a list pass a test
abbrev pub front : (ℕ → Bool) → List ℕ → ℕ
front f [] = 0
front f (b ∷ bs) = cond (f b) (suc (front f bs)) 0

-- bytes 32, 9, 10 and 13 separate signs
abbrev pub separator : ℕ → Bool
separator b = eqb b 32 || (eqb b 9 || (eqb b 10 || eqb b 13))

-- byte 32 may follow a comma
abbrev pub space : ℕ → Bool
space b = eqb b 32

-- a byte that may stand in a gap: inside a sign (true), or between signs (false)
abbrev pub gap : Bool → ℕ → Bool
gap true = space
gap false = separator

-- the first place from `at` on whose byte does not pass a test
abbrev pub beyond : (ℕ → Bool) → List ℕ → ℕ → ℕ
beyond test text at = at + front test (drop at text)

-- the first place from `at` on that is not in the gap there
abbrev pub past : Bool → List ℕ → ℕ → ℕ
past inside = beyond (gap inside)

-- the bytes begin with the letters
unfoldable pub starts : List ℕ → List ℕ → Bool
starts [] bs = true
starts (x ∷ xs) [] = false
starts (x ∷ xs) (b ∷ bs) = eqb x b && starts xs bs
