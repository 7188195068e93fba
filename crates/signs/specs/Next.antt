-- The next sign of a text, from a place on.
-- Assumes nothing.
use Rattle.std.specs.Prelude.{false, cond, List, [], ◌∷◌, ◌++◌, ℕ, ltb, length, Err, None, Ok, Option, Result, Some}
use Rattle.refusals.specs.declared.Refusal.{Refusal}
use Rattle.refusals.specs.declared.Refusal.TheVariants.{TextTooLong, Unreadable}
use Rattle.refusals.specs.Limits.{Limits}
use Rattle.refusals.specs.Said.{Said, said, said_refusal}
use Rattle.signs.specs.declared.sign.Sign.{Sign}
use Rattle.signs.specs.Text.{past}
use Rattle.signs.specs.Words.{said_sign}
use Rattle.signs.specs.Spellings.{spellings, longest}

-- what comes next: a sign with where it begins and ends, the end of the text, or no sign at the byte where one would begin
pub data Coming : Type 0 where
  sign : (s : Sign) (begin end : ℕ) → Coming
  nothing : Coming
  unreadable : (begin : ℕ) → Coming

abbrev pub coming_as : ℕ → Option (Sign × ℕ) → Coming
coming_as begin (Some (s, end)) = sign s begin end
coming_as begin None = unreadable begin

abbrev pub coming_at : List ℕ → ℕ → Coming
coming_at text begin = cond (ltb begin (length text)) (coming_as begin (longest text begin spellings)) nothing

-- separators are passed, and the longest sign is taken
unfoldable pub coming : List ℕ → ℕ → Coming
coming text at = coming_at text (past false text at)

-- what is answered: a sign and the place after it, nothing at the end of the text, or a refusal
abbrev pub Next : Type 0
Next = Result (Option (Sign × ℕ)) Refusal

-- the part of what comes that is answered
abbrev pub answered : Coming → Next
answered (sign s begin end) = Ok (Some (s, end))
answered nothing = Ok None
answered (unreadable begin) = Err (Unreadable begin)

-- the answer for a text and a place: its length is tested first
unfoldable pub next_sign : Limits → List ℕ → ℕ → Next
next_sign l text at = cond (ltb l.bytes (length text)) (Err TextTooLong) (answered (coming text at))

-- document 01's number and values for each answer: of a sign what is said of it and the next place, of the end nothing
abbrev pub said_next : Limits → Next → Said
said_next l (Ok (Some (s, end))) = said 0 (said_sign s ++ (end ∷ []))
said_next l (Ok None) = said 0 []
said_next l (Err r) = said_refusal l r

-- the same for a text and a place
abbrev pub next_said : Limits → List ℕ → ℕ → Said
next_said l text at = said_next l (next_sign l text at)
