-- What the writer answers and what it leaves in the buffer, with the refusals 3, 5, 1 and 9.
-- Assumes nothing.
use Rattle.std.specs.Prelude.{Bool, false, cond, ◌&&◌, List, [], ◌∷◌, ◌++◌, map, ℕ, ltb, leb, length, drop, None, Option, Some, Result, Ok, Err}
use Rattle.refusals.specs.declared.Refusal.{Refusal}
use Rattle.refusals.specs.declared.Refusal.TheVariants.{TextTooLong, TooManySigns, NoRoom, Unwritable}
use Rattle.refusals.specs.Limits.{Limits}
use Rattle.refusals.specs.Said.{Said, said, said_refusal}
use Rattle.signs.specs.declared.sign.Sign.{Sign}
use Rattle.signs.specs.declared.sign.Sign.TheVariants.{Fine}
use Rattle.signs.specs.Text.{front}
use Rattle.signs.specs.Words.{parts_of, sign_of}
use Rattle.writing.specs.Spell.{spell, text_of}

-- how many bytes are written, or a refusal
abbrev pub Written : Type 0
Written = Result ℕ Refusal

-- two numbers that are not above the largest
abbrev pub both_small : Limits → ℕ → ℕ → Bool
both_small l a b = leb a l.number && leb b l.number

-- a sign whose numbers are so
abbrev pub small : Limits → Sign → Bool
small l s = both_small l (parts_of s).first (parts_of s).second

abbrev pub small_in : Limits → Option Sign → Bool
small_in l (Some s) = small l s
small_in l None = false

-- a word that is such a sign
abbrev pub writable : Limits → ℕ → Bool
writable l w = small_in l (sign_of w)

-- the sign of a word that is one (of another, which is never written, Fine)
abbrev pub sign_in : Option Sign → Sign
sign_in (Some s) = s
sign_in None = Fine

abbrev pub signs_in : List ℕ → List Sign
signs_in ws = map (λ w. sign_in (sign_of w)) ws

-- the answer where n bytes are to be written: 1 where the text would be too long, 9 where the room is too small
abbrev pub fitted : Limits → ℕ → ℕ → Written
fitted l room n = cond (ltb l.bytes n) (Err TextTooLong) (cond (ltb room n) (Err (NoRoom n)) (Ok n))

-- how many bytes the signs take, or 5 at the first word that can't be written
abbrev pub measured : Limits → List ℕ → Written
measured l ws = cond (ltb (front (writable l) ws) (length ws)) (Err (Unwritable (front (writable l) ws))) (Ok (length (text_of (signs_in ws))))

-- the answer where so many bytes are measured
abbrev pub fitted_as : Limits → ℕ → Written → Written
fitted_as l room (Err r) = Err r
fitted_as l room (Ok n) = fitted l room n

-- the answer for a list of words and a buffer's length: 3, then 5, then whether the text fits
unfoldable pub writing_of : Limits → List ℕ → ℕ → Written
writing_of l ws room = cond (ltb l.signs (length ws)) (Err TooManySigns) (fitted_as l room (measured l ws))

-- the bytes in front of the buffer's old content, which a refusal leaves as it was
abbrev pub content_by : List ℕ → List ℕ → Written → List ℕ
content_by bs out (Err r) = out
content_by bs out (Ok n) = bs ++ drop n out

unfoldable pub content_of : Limits → List ℕ → List ℕ → List ℕ
content_of l ws out = content_by (text_of (signs_in ws)) out (writing_of l ws (length out))

-- the same for one sign by itself, without a space or a byte 10
unfoldable pub writing_one : Limits → Sign → ℕ → Written
writing_one l s room = cond (small l s) (fitted l room (length (spell s))) (Err (Unwritable 0))

unfoldable pub content_one : Limits → Sign → List ℕ → List ℕ
content_one l s out = content_by (spell s) out (writing_one l s (length out))

-- document 01's number and values for each answer: of bytes how many there are
abbrev pub said_written : Limits → Written → Said
said_written l (Ok n) = said 0 (n ∷ [])
said_written l (Err r) = said_refusal l r

-- the same for words, and for a sign, and a buffer's length
abbrev pub writing_said : Limits → List ℕ → ℕ → Said
writing_said l ws room = said_written l (writing_of l ws room)

abbrev pub writing_said_one : Limits → Sign → ℕ → Said
writing_said_one l s room = said_written l (writing_one l s room)
