-- The scores to check by.
-- Assumes nothing.
use mathlib.Core.Path.{◌≡◌, refl}
use mathlib.Core.Bool.{true}
use mathlib.Core.List.{List, [], ◌∷◌, map}
use Rattle.std.specs.Prelude.{Some as Packed}
use Rattle.score.specs.Readings.{Answer}
use Rattle.score.specs.Scores.{say, Row, rows, Hold}
use Rattle.score.proofs.Reader.{read}
use Rattle.score.proofs.Right.{right}

abbrev answer : Row → Answer
answer r = read true (map Packed r.signs)

hold : (l : List Row) → map (λ r. say (answer r)) l ≡ map (λ r. r.said) l → Hold l
hold [] h = tt
hold (r ∷ l) h =
    let first : say (answer r) ≡ r.said = cc in
    let more : map (λ r. say (answer r)) l ≡ map (λ r. r.said) l = cc in
    ((answer r, right true (map Packed r.signs), first), hold l more)

-- Every row holds.
pub scores : Hold rows
scores = hold rows refl
