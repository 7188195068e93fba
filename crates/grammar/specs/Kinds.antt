-- The kinds of a list of words, and what is told of the signs from a place on.
-- Assumes nothing.
use Rattle.std.specs.Prelude.{Bool, true, false, List, map, ℕ, ◌+◌, leb, length, Option, Some, None, option_and_then, slice_get}
use Rattle.signs.specs.declared.sign.Sign.{Sign}
use Rattle.signs.specs.declared.sign.Sign.TheVariants.{RightRepeat, OpenEnding, Jump, Segno, Coda, ToCoda, Fine}
use Rattle.signs.specs.Words.{sign_of}
use Rattle.score.proofs.Alphabet.{Kind, kind_of}
use Rattle.grammar.specs.declared.place.Halt.{Halt}
use Rattle.grammar.specs.declared.stretch.Last.{Last}
use Rattle.grammar.specs.declared.stretch.Last.TheVariants.{Group}

-- the kinds of a list of words
abbrev pub kinds_of : List ℕ → List Kind
kinds_of w = map kind_of (map sign_of w)

-- the sign at a place, if one stands there
unfoldable pub sign_at : List ℕ → ℕ → Option Sign
sign_at w at = option_and_then sign_of (slice_get w at)

abbrev pub halt : ℕ → Halt
halt at = record { at = at }

-- where the readers halt at a sign that cannot stand at a place: one later for a `:|` directly after a group, which a `[` could have followed
abbrev pub halt_by : Last → Option Sign → ℕ → ℕ
halt_by Group (Some RightRepeat) at = at + 1
halt_by _ _ at = at

abbrev pub halt_at : List ℕ → Last → ℕ → Halt
halt_at w last at = halt (halt_by last (sign_at w at) at)

-- `:|` and `[` stand at a place
abbrev pub another_ending : Option Sign → Option Sign → Bool
another_ending (Some RightRepeat) (Some OpenEnding) = true
another_ending _ _ = false

abbrev pub goes_on : List ℕ → ℕ → Bool
goes_on w at = another_ending (sign_at w at) (sign_at w (at + 1))

-- the last run of a part ends at a place: at a sign between runs, or where the signs end
abbrev pub ends_by : Option Sign → Bool → Bool
ends_by None past = past
ends_by (Some (Jump j)) past = true
ends_by (Some Segno) past = true
ends_by (Some Coda) past = true
ends_by (Some ToCoda) past = true
ends_by (Some Fine) past = true
ends_by _ past = false

abbrev pub ends_here : List ℕ → ℕ → Bool
ends_here w at = ends_by (sign_at w at) (leb (length w) at)
