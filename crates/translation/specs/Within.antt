-- What the tests of a score leave: it is within the limits.
-- Assumes nothing.
use Rattle.std.specs.Prelude.{List, [], ◌∷◌, ◌≤◌, length}
use Rattle.refusals.specs.Limits.{Limits}
use Rattle.score.specs.Trees.{Leaf, block}
use Rattle.score.specs.Shapes.{Score}
use Rattle.score.specs.Spelling.{signs_of}
use Rattle.score.specs.Sums.{leaves}
use Rattle.translation.specs.Listing.{whole_of}

-- a block's length is at least 1, and both of its numbers are in range
abbrev pub InRange : Limits → Leaf → Type 0
InRange m (block k l) = (1 ≤ l) × (l ≤ m.number) × (k ≤ m.number)

abbrev pub AllInRange : Limits → List Leaf → Type 0
AllInRange m [] = Unit {0}
AllInRange m (x ∷ xs) = InRange m x × AllInRange m xs

pub record Within (m : Limits) (t : Score) : Type 0 where
  pub signs : length (signs_of t) ≤ m.signs
  pub numbers : AllInRange m (leaves (signs_of t))
  pub loops : (whole_of t).loops ≤ m.loops
