-- Document 01's number and place for each way to be refused.
-- Assumes nothing.
use Rattle.std.specs.Prelude.{ℕ}
use Rattle.refusals.specs.declared.Refusal.{Refusal}
use Rattle.refusals.specs.declared.Refusal.TheVariants.{TextTooLong, Unreadable, TooManySigns, NoScore, BadNumber, TooDeep, TooManyLoops, TooManyPlayed, NoRoom, PastTotal, BadListing, BadPosition, Unwritable}
use Rattle.refusals.specs.Limits.{Limits}

-- the number
abbrev pub number_of : Refusal → ℕ
number_of TextTooLong = 1
number_of (Unreadable byte) = 2
number_of TooManySigns = 3
number_of (NoScore sign) = 4
number_of (BadNumber sign) = 5
number_of (TooDeep sign) = 6
number_of TooManyLoops = 7
number_of TooManyPlayed = 8
number_of (NoRoom needed) = 9
number_of (PastTotal total) = 10
number_of (BadListing instruction) = 11
number_of BadPosition = 12
number_of (Unwritable sign) = 5

-- the place, under the limits in force
abbrev pub place_of : Limits → Refusal → ℕ
place_of l TextTooLong = l.bytes
place_of l (Unreadable byte) = byte
place_of l TooManySigns = l.signs
place_of l (NoScore sign) = sign
place_of l (BadNumber sign) = sign
place_of l (TooDeep sign) = sign
place_of l TooManyLoops = l.loops
place_of l TooManyPlayed = l.blocks
place_of l (NoRoom needed) = needed
place_of l (PastTotal total) = total
place_of l (BadListing instruction) = instruction
place_of l BadPosition = 0
place_of l (Unwritable sign) = sign
