-- The written blocks of a reading are its block signs in order, one each, and a score means the same without its time sign.
-- Assumes nothing.
use mathlib.Core.Path.{◌≡◌, refl, ◌∙◌, ap}
use mathlib.Core.Bool.{Bool}
use mathlib.Core.List.{List, [], ◌∷◌, ◌++◌, append-nil, map-append}
use Prim.Native.Nat.{ℕ, suc, ◌*◌}
use Rattle.signs.specs.declared.sign.Sign.{Sign}
use Rattle.signs.specs.declared.sign.Sign.TheVariants.{Block, Time, LeftRepeat, RightRepeat, OpenEnding, CloseEnding, Jump, Segno, Coda, ToCoda, Fine}
use Rattle.score.specs.Trees.{block, Left, written, lacking, Run, nil, ◌▸◌, Item, leaf, repeat, group, Ends, no_more, ◌then◌}
use Rattle.score.specs.declared.Shape.{Shape}
use Rattle.score.specs.declared.Shape.TheVariants.{Straight, DaCapo, DalSegno, DaCapoFine, DalSegnoFine, DaCapoCoda, DalSegnoCoda}
use Rattle.std.specs.Prelude.{None as Untimed, Some as Timed}
use Rattle.score.specs.Shapes.{table, Score, score, time_of, untimed_of}
use Rattle.score.specs.Spelling.{left_signs, run_signs, item_signs, ends_signs, time_signs, signs_of, spelled}
use Rattle.score.specs.Readings.{Valid}
use Rattle.score.specs.Played.{played}
use Rattle.score.specs.Steps.{count, steps}
use Rattle.score.specs.Calls.{Call, run_calls, item_calls, ends_calls, calls, names}
use Rattle.score.specs.Sums.{leaves}

leaves-append : (u v : List Sign) → leaves (u ++ v) ≡ leaves u ++ leaves v
leaves-append [] v = refl
leaves-append (Block k l ∷ u) v = ap (λ s. block k l ∷ s) (leaves-append u v)
leaves-append (Time m n ∷ u) v = leaves-append u v
leaves-append (LeftRepeat ∷ u) v = leaves-append u v
leaves-append (RightRepeat ∷ u) v = leaves-append u v
leaves-append (OpenEnding ∷ u) v = leaves-append u v
leaves-append (CloseEnding ∷ u) v = leaves-append u v
leaves-append (Jump j ∷ u) v = leaves-append u v
leaves-append (Segno ∷ u) v = leaves-append u v
leaves-append (Coda ∷ u) v = leaves-append u v
leaves-append (ToCoda ∷ u) v = leaves-append u v
leaves-append (Fine ∷ u) v = leaves-append u v

names-append : (u v : List Call) → names (u ++ v) ≡ names u ++ names v
names-append = map-append (λ c. c.what)

left_leaves : (o : Left) → leaves (left_signs o) ≡ []
left_leaves written = refl
left_leaves lacking = refl

time_leaves : (t : _) → leaves (time_signs t) ≡ []
time_leaves Untimed = refl
time_leaves (Timed (m, n)) = refl

mutual
  run_leaves : (r : Run) (f : ℕ) → leaves (run_signs r) ≡ names (run_calls r f)
  run_leaves nil f = refl
  run_leaves (r ▸ i) f = simp (leaves-append, names-append, run_leaves r f, item_leaves i f)

  item_leaves : (i : Item) (f : ℕ) → leaves (item_signs i) ≡ names (item_calls i f)
  item_leaves (leaf (block k l)) f = refl
  item_leaves (repeat o r) f = simp (leaves-append, left_leaves o, append-nil) (run_leaves r (2 * f))
  item_leaves (group o m es e) f =
      simp (leaves-append, names-append, left_leaves o, append-nil, run_leaves m (suc (count es) * f), ends_leaves es f, run_leaves e f)

  ends_leaves : (es : Ends) (f : ℕ) → leaves (ends_signs es) ≡ names (ends_calls es f)
  ends_leaves no_more f = refl
  ends_leaves (es then e) f = simp (leaves-append, names-append, append-nil, ends_leaves es f, run_leaves e f)

shape_leaves : (t : _) (h : Shape) (a b c d : Run) → leaves (spelled (score t h a b c d) (table h).signs) ≡ names (calls (score t h a b c d))
shape_leaves t Straight a b c d = simp (leaves-append, names-append, run_leaves a 1)
shape_leaves t DaCapo a b c d = simp (leaves-append, names-append, run_leaves a 2)
shape_leaves t DalSegno a b c d = simp (leaves-append, names-append, run_leaves a 1, run_leaves b 2)
shape_leaves t DaCapoFine a b c d = simp (leaves-append, names-append, run_leaves a 2, run_leaves b 1)
shape_leaves t DalSegnoFine a b c d = simp (leaves-append, names-append, run_leaves a 1, run_leaves b 2, run_leaves c 1)
shape_leaves t DaCapoCoda a b c d = simp (leaves-append, names-append, run_leaves a 2, run_leaves b 1, run_leaves c 1)
shape_leaves t DalSegnoCoda a b c d = simp (leaves-append, names-append, run_leaves a 1, run_leaves b 2, run_leaves c 1, run_leaves d 1)

-- The calls name the block signs in order, one each: adjacent blocks stay separate.
pub block_signs : (t : Score) → leaves (signs_of t) ≡ names (calls t)
block_signs (score t h a b c d) =
    leaves-append (time_signs t) (spelled (score t h a b c d) (table h).signs) ∙ rw (time_leaves t) (shape_leaves t h a b c d)

-- u is t without its time sign, and means the same
abbrev pub Alike : Bool → Score → Score → Type 0
Alike implied t u =
    (Valid implied t → Valid implied u) × (signs_of t ≡ time_signs (time_of t) ++ signs_of u) × (played t ≡ played u) × (steps t ≡ steps u) × (calls t ≡ calls u)

-- A score means the same without its time sign.
pub untimed_alike : (implied : Bool) (t : Score) → Alike implied t (untimed_of t)
untimed_alike implied (score t Straight a b c d) = ((λ v. v), refl, refl, refl, refl)
untimed_alike implied (score t DaCapo a b c d) = ((λ v. v), refl, refl, refl, refl)
untimed_alike implied (score t DalSegno a b c d) = ((λ v. v), refl, refl, refl, refl)
untimed_alike implied (score t DaCapoFine a b c d) = ((λ v. v), refl, refl, refl, refl)
untimed_alike implied (score t DalSegnoFine a b c d) = ((λ v. v), refl, refl, refl, refl)
untimed_alike implied (score t DaCapoCoda a b c d) = ((λ v. v), refl, refl, refl, refl)
untimed_alike implied (score t DalSegnoCoda a b c d) = ((λ v. v), refl, refl, refl, refl)
