-- Where a reader stands after what it handed out.
-- Assumes nothing.
use Rattle.std.specs.Prelude.{ℕ, Ok, Err, Some, None}
use Rattle.signs.specs.Next.{Next}

-- directly behind a sign; at the end or a refusal it stays
abbrev pub behind : ℕ → Next → ℕ
behind at (Ok (Some (s, end))) = end
behind at (Ok None) = at
behind at (Err r) = at
