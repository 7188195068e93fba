-- How a sign, and a list of signs, is written.
-- Assumes nothing.
use Rattle.std.specs.Prelude.{cond, List, [], ◌∷◌, ◌++◌, map, ℕ, zero, suc, ◌+◌, ◌/◌, ◌%◌, ltb, codes}
use Rattle.signs.specs.declared.sign.Jumped.{Jumped}
use Rattle.signs.specs.declared.sign.Jumped.TheVariants.{Dc, DcCoda, DcFine, Ds, DsCoda, DsFine}
use Rattle.signs.specs.declared.sign.Sign.{Sign}
use Rattle.signs.specs.declared.sign.Sign.TheVariants.{Block, Time, LeftRepeat, RightRepeat, OpenEnding, CloseEnding, Jump, Segno, Coda, ToCoda, Fine}

-- n in decimal; of a number with more than f digits the last f
unfoldable pub digits_in : ℕ → ℕ → List ℕ
digits_in zero n = []
digits_in (suc f) n = cond (ltb n 10) ((48 + n) ∷ []) (digits_in f (n / 10) ++ ((48 + n % 10) ∷ []))

-- a number of at most six digits, which is all that is written
abbrev pub digits : ℕ → List ℕ
digits n = digits_in 6 n

-- two numbers, with no space after the comma, and the closing bracket
abbrev pub pair_text : ℕ → ℕ → List ℕ
pair_text k l = digits k ++ (codes "," ++ (digits l ++ codes ")"))

abbrev pub spell_jump : Jumped → List ℕ
spell_jump Dc = codes "DC"
spell_jump DcCoda = codes "DC.Coda"
spell_jump DcFine = codes "DC.Fine"
spell_jump Ds = codes "DS"
spell_jump DsCoda = codes "DS.Coda"
spell_jump DsFine = codes "DS.Fine"

-- a sign as it is written
unfoldable pub spell : Sign → List ℕ
spell (Block k l) = codes "(b," ++ pair_text k l
spell (Time m n) = codes "(ts," ++ pair_text m n
spell LeftRepeat = codes "|:"
spell RightRepeat = codes ":|"
spell OpenEnding = codes "["
spell CloseEnding = codes "]"
spell (Jump j) = spell_jump j
spell Segno = codes "Segno"
spell Coda = codes "Coda"
spell ToCoda = codes "ToCoda"
spell Fine = codes "Fine"

-- one space between signs
abbrev pub spaced : List (List ℕ) → List ℕ
spaced [] = []
spaced (w ∷ []) = w
spaced (w ∷ v ∷ vs) = w ++ (32 ∷ spaced (v ∷ vs))

-- a list of signs as it is written: one byte 10 at the end, also for no signs
unfoldable pub text_of : List Sign → List ℕ
text_of ss = spaced (map spell ss) ++ (10 ∷ [])
