-- All signs of a text, in order, with the refusals 1, 2, 3 and 9.
-- Assumes nothing.
use Rattle.std.specs.Prelude.{cond, List, [], ◌∷◌, ◌++◌, map, ℕ, zero, suc, ◌-◌, ltb, length, drop, Result, Ok, Err}
use Rattle.refusals.specs.declared.Refusal.{Refusal}
use Rattle.refusals.specs.declared.Refusal.TheVariants.{TextTooLong, Unreadable, TooManySigns, NoRoom}
use Rattle.refusals.specs.Limits.{Limits}
use Rattle.refusals.specs.Said.{Said, said, said_refusal}
use Rattle.signs.specs.declared.sign.Sign.{Sign}
use Rattle.signs.specs.Words.{word_of}
use Rattle.signs.specs.Next.{Coming, sign, nothing, unreadable, coming}

-- a sign with where it begins and ends
pub record Placed : Type 0 where
  pub the : Sign
  pub begin : ℕ
  pub end : ℕ

-- signs one after the other, and what comes after the last: the end, or a byte that can't be read
pub record Scanned : Type 0 where
  pub placed : List Placed
  pub stop : Coming

abbrev pub onward : Coming → (ℕ → Scanned) → Scanned
onward nothing k = record { placed = []; stop = nothing }
onward (unreadable b) k = record { placed = []; stop = unreadable b }
onward (sign s b e) k = let r = k e in record { placed = record { the = s; begin = b; end = e } ∷ r.placed; stop = r.stop }

-- at most f signs from a place on, each directly behind the one before; where f runs out, as if at the end
unfoldable pub scan_from : ℕ → List ℕ → ℕ → Scanned
scan_from zero text at = record { placed = []; stop = nothing }
scan_from (suc f) text at = onward (coming text at) (λ e. scan_from f text e)

-- all signs from a place on: each takes a byte, so there are at most as many as bytes left
unfoldable pub scanned : List ℕ → ℕ → Scanned
scanned text at = scan_from (suc (length text - at)) text at

-- the signs of a text
abbrev pub signs_of : List ℕ → List Sign
signs_of text = map (λ p. p.the) (scanned text 0).placed

-- what is answered: how many signs there are, or a refusal
abbrev pub Reading : Type 0
Reading = Result ℕ Refusal

-- how many there are, or 2 where one can't be read; no sign comes after the last
abbrev pub counted_by : ℕ → Coming → Reading
counted_by n nothing = Ok n
counted_by n (sign s b e) = Ok n
counted_by n (unreadable b) = Err (Unreadable b)

abbrev pub counted : List ℕ → Reading
counted text = counted_by (length (signs_of text)) (scanned text 0).stop

-- 3 where they are too many, 9 where the room is too small
abbrev pub room_for : Limits → ℕ → Reading → Reading
room_for l room (Err r) = Err r
room_for l room (Ok n) = cond (ltb l.signs n) (Err TooManySigns) (cond (ltb room n) (Err (NoRoom n)) (Ok n))

-- the answer for a text and a buffer's length, 1 tested first
unfoldable pub reading_of : Limits → List ℕ → ℕ → Reading
reading_of l text room = cond (ltb l.bytes (length text)) (Err TextTooLong) (room_for l room (counted text))

-- the words in front of the buffer's old content, which a refusal leaves as it was
abbrev pub buffer_by : List ℕ → List ℕ → Reading → List ℕ
buffer_by words out (Err r) = out
buffer_by words out (Ok n) = words ++ drop n out

unfoldable pub buffer_of : Limits → List ℕ → List ℕ → List ℕ
buffer_of l text out = buffer_by (map word_of (signs_of text)) out (reading_of l text (length out))

-- document 01's number and values for each answer: of signs how many there are
abbrev pub said_reading : Limits → Reading → Said
said_reading l (Ok n) = said 0 (n ∷ [])
said_reading l (Err r) = said_refusal l r

-- the same for a text and a buffer's length
abbrev pub reading_said : Limits → List ℕ → ℕ → Said
reading_said l text room = said_reading l (reading_of l text room)
