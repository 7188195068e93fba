-- What is printed of a refusal.
-- Assumes nothing.
use Rattle.std.specs.Prelude.{List, ◌++◌, ℕ, codes}
use Rattle.std.specs.Fmt.{decimal}
use Rattle.refusals.specs.declared.Refusal.{Refusal}
use Rattle.refusals.specs.Limits.{Limits}
use Rattle.refusals.specs.Refusals.{number_of, place_of}

-- `refused`, the number and the place, one space between
abbrev pub printed : Limits → Refusal → List ℕ
printed l r = codes "refused " ++ (decimal (number_of r) ++ (codes " " ++ decimal (place_of l r)))
