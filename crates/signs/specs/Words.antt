-- A sign as a word: its kind in 8 bits, then two numbers of 28 bits each.
-- Assumes nothing.
use Rattle.std.specs.Prelude.{codes, ◌++◌, cond, ◌&&◌, List, [], ◌∷◌, ℕ, ◌/◌, ◌%◌, eqb, get_or, None, Option, Some}
use Rattle.std.specs.Fmt.{decimal}
use Rattle.signs.specs.declared.word.NotASign.{NotASign}
use Rattle.words.specs.declared.Parts.{Parts}
use Rattle.words.specs.Words.{parts, packed}
use Rattle.refusals.specs.Said.{Said, said}
use Rattle.signs.specs.declared.sign.Jumped.{Jumped}
use Rattle.signs.specs.declared.sign.Jumped.TheVariants.{Dc, DcCoda, DcFine, Ds, DsCoda, DsFine}
use Rattle.signs.specs.declared.sign.Sign.{Sign}
use Rattle.signs.specs.declared.sign.Sign.TheVariants.{Block, Time, LeftRepeat, RightRepeat, OpenEnding, CloseEnding, Jump, Segno, Coda, ToCoda, Fine}

abbrev pub jump_kind : Jumped → ℕ
jump_kind DcCoda = 7
jump_kind DcFine = 8
jump_kind DsCoda = 9
jump_kind DsFine = 10
jump_kind Dc = 11
jump_kind Ds = 12

-- the kind of a sign and the numbers that it carries, 0 where it carries none
abbrev pub parts_of : Sign → Parts
parts_of (Block k l) = parts 1 k l
parts_of (Time m n) = parts 2 m n
parts_of LeftRepeat = parts 3 0 0
parts_of RightRepeat = parts 4 0 0
parts_of OpenEnding = parts 5 0 0
parts_of CloseEnding = parts 6 0 0
parts_of (Jump j) = parts (jump_kind j) 0 0
parts_of Segno = parts 13 0 0
parts_of Coda = parts 14 0 0
parts_of ToCoda = parts 15 0 0
parts_of Fine = parts 16 0 0

-- the word of a sign; 0, which no sign has, where a number does not fit
abbrev pub word_of : Sign → ℕ
word_of s = packed (parts_of s)

-- what a word is: a sign, or nothing
abbrev pub Unpacked : Type 0
Unpacked = Option Sign

-- the signs that carry no number, at their kinds
abbrev pub plain_signs : List Unpacked
plain_signs =
    None
    ∷ None
    ∷ None
    ∷ Some LeftRepeat
    ∷ Some RightRepeat
    ∷ Some OpenEnding
    ∷ Some CloseEnding
    ∷ Some (Jump DcCoda)
    ∷ Some (Jump DcFine)
    ∷ Some (Jump DsCoda)
    ∷ Some (Jump DsFine)
    ∷ Some (Jump Dc)
    ∷ Some (Jump Ds)
    ∷ Some Segno
    ∷ Some Coda
    ∷ Some ToCoda
    ∷ Some Fine
    ∷ []

abbrev pub plain_sign : ℕ → Unpacked
plain_sign kind = get_or plain_signs kind None

-- what a kind and two numbers say
abbrev pub unpacked : ℕ → ℕ → ℕ → Unpacked
unpacked kind a b =
    cond (eqb kind 1) (Some (Block a b))
    (cond (eqb kind 2) (Some (Time a b))
    (cond (eqb a 0 && eqb b 0) (plain_sign kind) None))

-- the sign of a word
abbrev pub sign_of : ℕ → Unpacked
sign_of w = unpacked (w % 256) (w / 256 % 268435456) (w / 68719476736)

-- what is said of a sign: its kind and the numbers that it carries
abbrev pub said_sign : Sign → List ℕ
said_sign s = (parts_of s).kind ∷ (parts_of s).first ∷ (parts_of s).second ∷ []

-- the values for each answer: of a sign these, of none nothing
abbrev pub said_unpacked : Unpacked → Said
said_unpacked (Some s) = said 0 (said_sign s)
said_unpacked None = said 0 []

-- what is printed of a word that packs none
abbrev pub not_a_sign : NotASign → List ℕ
not_a_sign e = codes "no sign has the word " ++ decimal e.0
