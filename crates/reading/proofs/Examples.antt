-- Texts of document 01, what is read there, and how they are refused; by computation on the definitions.
-- Assumes nothing.
use Rattle.std.specs.Prelude.{codes}
use mathlib.Core.Path.{◌≡◌, refl, ap}
use mathlib.Core.List.{List, [], ◌∷◌, ◌++◌}
use Prim.Native.Nat.{ℕ, suc, ◌≤◌}
use native.Mathlib.Omega.{arith}
use borrow.Author.Tests.{le-ltb}
use lib.ListN.{length}
use Rattle.refusals.specs.Limits.{document01}
use Rattle.refusals.specs.Said.{Said, said}
use Rattle.signs.specs.declared.sign.Sign.TheVariants.{Block, Time, LeftRepeat, RightRepeat, Jump, ToCoda}
use Rattle.signs.specs.declared.sign.Jumped.TheVariants.{Dc, DcCoda, Ds}
use Rattle.signs.specs.declared.sign.Sign.{Sign}
use Rattle.signs.specs.Text.{starts}
use Rattle.signs.specs.Words.{said_sign}
use Rattle.signs.specs.Numbers.{leading, decimal, numeral, pair_at}
use Rattle.signs.specs.Spellings.{spellings, longest}
use Rattle.signs.specs.Next.{unreadable, coming, next_sign, said_next}
use Rattle.signs.proofs.Coming.{next_long}
use Rattle.reading.specs.Reading.{scan_from, scanned, reading_of, said_reading}
use Rattle.reading.proofs.Scanning.{long_text}

-- a text, a place in it, and what is said there
pub record Example : Type 0 where
  pub text : List ℕ
  pub at : ℕ
  pub says : Said

abbrev a_sign : List ℕ → ℕ → Sign → ℕ → Example
a_sign t a s e = record { text = t; at = a; says = said 0 (said_sign s ++ (e ∷ [])) }

abbrev no_more : List ℕ → ℕ → Example
no_more t a = record { text = t; at = a; says = said 0 [] }

abbrev bad : List ℕ → ℕ → ℕ → Example
bad t a b = record { text = t; at = a; says = said 2 (b ∷ []) }

abbrev table : List Example
table =
    a_sign (codes ":||:") 0 RightRepeat 2
    ∷ a_sign (codes ":||:") 2 LeftRepeat 4
    ∷ a_sign (codes "DC.Cod") 0 (Jump Dc) 2
    ∷ bad (codes "DC.Cod") 2 2
    ∷ a_sign (codes "DC.Coda") 0 (Jump DcCoda) 7
    ∷ a_sign (codes "DS.coda") 0 (Jump Ds) 2
    ∷ bad (codes "DS.coda") 2 2
    ∷ a_sign (codes "(b,0,  4)") 0 (Block 0 4) 9
    ∷ bad (codes "(b ,0,4)") 0 0
    ∷ bad (codes "(b,0,4 )") 0 0
    ∷ bad (codes "(b,\t0,4)") 0 0
    ∷ bad (codes "(b,0,\n4)") 0 0
    ∷ bad (codes "(b,00,4)") 0 0
    ∷ bad (codes "(b,1234567,4)") 0 0
    ∷ a_sign (codes "(b,123456,999999)") 0 (Block 123456 999999) 17
    ∷ bad (codes "  (") 0 2
    ∷ a_sign (codes " \t\n\r(ts,3,4)DC.Coda") 0 (Time 3 4) 12
    ∷ a_sign (codes "ToCodaCoda") 0 ToCoda 6
    ∷ no_more (codes " \t\n\r") 0
    ∷ no_more [] 0
    ∷ no_more (codes "Fine") 9
    ∷ []

abbrev All : List Example → Type 0
All [] = Unit
All (e ∷ es) = (said_next document01 (next_sign document01 e.text e.at) ≡ e.says) × All es

pub examples : All table
unfolding next_sign coming longest spellings starts pair_at leading decimal numeral
examples =
    (refl, (refl, (refl, (refl, (refl, (refl, (refl, (refl, (refl, (refl, (refl, (refl, (refl, (refl, (refl, (refl, (refl, (refl, (refl, (refl, (refl, tt)))))))))))))))))))))

-- whole texts: how many signs they have, or 2, or 9 where there is room for one
pub whole_texts : (said_reading document01 (reading_of document01 (codes ":||:") 2) ≡ said 0 (2 ∷ []))
    × (said_reading document01 (reading_of document01 (codes ":||:") 1) ≡ said 9 (2 ∷ []))
    × (said_reading document01 (reading_of document01 (codes "DC.Cod") 8) ≡ said 2 (2 ∷ []))
    × (said_reading document01 (reading_of document01 [] 0) ≡ said 0 (0 ∷ []))
unfolding reading_of scanned scan_from coming longest spellings starts pair_at leading decimal numeral
whole_texts = (refl, refl, refl, refl)

-- a text one byte over the limit is refused by 1, wherever the reader stands
pub one_byte_over : (text : List ℕ) → length text ≡ suc document01.bytes → (at room : ℕ)
    → (said_next document01 (next_sign document01 text at) ≡ said 1 (16384 ∷ [])) × (said_reading document01 (reading_of document01 text room) ≡ said 1 (16384 ∷ []))
one_byte_over text e at room = (
  ap (said_next document01) (next_long document01 text at (omega arith)),
  ap (said_reading document01) (long_text document01 text room (omega arith)),
)

-- a byte that can't be read gives 2, however many signs stand before it
pub unreadable_first : (text : List ℕ) (b room : ℕ) → length text ≤ document01.bytes → (scanned text 0).stop ≡ unreadable b → said_reading document01 (reading_of document01 text room) ≡ said 2 (b ∷ [])
unfolding reading_of
unreadable_first text b room h e = rw (le-ltb 16384 (length text) h, e)
