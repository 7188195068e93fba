-- The sixteen spellings, and the longest of them that stands at a place.
-- Assumes nothing.
use Rattle.std.specs.Prelude.{cond, List, [], ◌∷◌, ℕ, ◌+◌, ltb, length, get_or, drop, None, Option, Some, codes}
use Prim.Native.String.{String}
use Rattle.signs.specs.declared.sign.Jumped.TheVariants.{Dc, DcCoda, DcFine, Ds, DsCoda, DsFine}
use Rattle.signs.specs.declared.sign.Sign.{Sign}
use Rattle.signs.specs.declared.sign.Sign.TheVariants.{Block, Time, LeftRepeat, RightRepeat, OpenEnding, CloseEnding, Jump, Segno, Coda, ToCoda, Fine}
use Rattle.signs.specs.Text.{starts}
use Rattle.signs.specs.Numbers.{pair_at}

-- what letters mean: a sign by themselves, or a sign with the two numbers that follow them
pub data Meaning : Type 0 where
  alone : Sign → Meaning
  numbered : (ℕ → ℕ → Sign) → Meaning

-- letters and what they mean
pub record Spelling : Type 0 where
  pub letters : List ℕ
  pub means : Meaning

abbrev pub spells : String → Meaning → Spelling
spells s m = record { letters = codes s; means = m }

-- each sign's spelling, in the order of the signs' kinds
unfoldable pub spellings : List Spelling
spellings =
    spells "(b," (numbered Block)
    ∷ spells "(ts," (numbered Time)
    ∷ spells "|:" (alone LeftRepeat)
    ∷ spells ":|" (alone RightRepeat)
    ∷ spells "[" (alone OpenEnding)
    ∷ spells "]" (alone CloseEnding)
    ∷ spells "DC.Coda" (alone (Jump DcCoda))
    ∷ spells "DC.Fine" (alone (Jump DcFine))
    ∷ spells "DS.Coda" (alone (Jump DsCoda))
    ∷ spells "DS.Fine" (alone (Jump DsFine))
    ∷ spells "DC" (alone (Jump Dc))
    ∷ spells "DS" (alone (Jump Ds))
    ∷ spells "Segno" (alone Segno)
    ∷ spells "Coda" (alone Coda)
    ∷ spells "ToCoda" (alone ToCoda)
    ∷ spells "Fine" (alone Fine)
    ∷ []

-- a sign that two numbers make
abbrev pub made : (ℕ → ℕ → Sign) → Option (ℕ × ℕ × ℕ) → Option (Sign × ℕ)
made f None = None
made f (Some (k, l, p)) = Some (f k l, p)

-- what stands where the letters end at a place
abbrev pub finished_as : List ℕ → ℕ → Meaning → Option (Sign × ℕ)
finished_as text at (alone s) = Some (s, at)
finished_as text at (numbered f) = made f (pair_at text at)

-- a spelling stands at a place if its bytes do
abbrev pub spelled : List ℕ → ℕ → Spelling → Option (Sign × ℕ)
spelled text at s =
    cond (starts s.letters (drop at text)) (finished_as text (at + length s.letters) s.means) None

-- of two that stand the one that ends later
abbrev pub longer : Option (Sign × ℕ) → Option (Sign × ℕ) → Option (Sign × ℕ)
longer None b = b
longer (Some (s, p)) None = Some (s, p)
longer (Some (s, p)) (Some (t, q)) = cond (ltb p q) (Some (t, q)) (Some (s, p))

-- of all that stand at a place the longest
unfoldable pub longest : List ℕ → ℕ → List Spelling → Option (Sign × ℕ)
longest text at [] = None
longest text at (s ∷ ss) = longer (spelled text at s) (longest text at ss)

-- spelling i, with no letters past the last; its letters, one of them, and what stands where they end
abbrev pub spelling : ℕ → Spelling
spelling i = get_or spellings i (spells "" (alone Fine))

abbrev pub letters_of : ℕ → List ℕ
letters_of i = (spelling i).letters

abbrev pub letter_of : ℕ → ℕ → ℕ
letter_of i j = get_or (letters_of i) j 0

abbrev pub finished_by : List ℕ → ℕ → ℕ → Option (Sign × ℕ)
finished_by text at i = finished_as text at (spelling i).means
