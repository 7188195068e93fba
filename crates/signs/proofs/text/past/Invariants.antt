use Rattle.std.proofs.Common.{◌≡◌, ℕ, Bool, ◌+◌}
use Rattle.std.specs.Prelude.{drop}
use Rattle.signs.specs.Text.{front}
use Rattle.signs.proofs.text.past.Given as goal

-- what passes before i passes of the rest
abbrev pub invariant-loop-i : goal.invariant-loop-i
invariant-loop-i g l = (test : ℕ → Bool) → ((b : ℕ) (t : Bool) → goal.F-post g l.passes b t → t ≡ test b) → front test l.rest ≡ l.i + front test (drop l.i l.rest)
