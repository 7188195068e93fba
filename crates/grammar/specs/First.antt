-- What the reader of the first run promises: its answer is that of the definition's reader, at every fuel that suffices.
-- Assumes nothing.
use Rattle.std.specs.Prelude.{◌≡◌, List, ℕ, ◌+◌, ◌≤◌, drop, Result}
use Rattle.score.specs.Trees.{Run}
use Rattle.score.proofs.Reader.{read_implied}
use Rattle.grammar.specs.declared.place.Halt.{Halt}
use Rattle.grammar.specs.declared.stretch.Stretch.{Stretch}
use Rattle.grammar.specs.Kinds.{kinds_of}
use Rattle.grammar.specs.Stretches.{summed}
use Rattle.grammar.specs.Promises.{enough, Inside, RanAs}

-- the first run, of which s was read
abbrev pub FirstIs : List ℕ → Stretch → Result Stretch Halt → Type 0
FirstIs w s r = Inside w s.at r × ((f : ℕ) → enough w s.at + 1 ≤ f → (p : ℕ) (t : Run) → s ≡ summed 0 p t → RanAs w 0 p r (read_implied f t (drop s.at (kinds_of w))))
