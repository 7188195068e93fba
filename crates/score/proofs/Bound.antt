-- The steps of a score are few beside its blocks played and its signs.
-- Assumes nothing.
use mathlib.Core.Path.{◌≡◌}
use mathlib.Core.Bool.{Bool, false}
use mathlib.Core.List.{List, [], ◌∷◌}
use Prim.Native.Nat.{ℕ, suc, ◌+◌, ◌*◌, ◌≤◌}
use native.Mathlib.Omega.{arith}
use native.Mathlib.Nat.{mul-le-mul, mul-le-mul_left, mul-le-mul_right}
use lib.ListN.{length, length-append}
use Rattle.signs.specs.declared.sign.Sign.{Sign}
use Rattle.score.specs.Trees.{Leaf, Run, nil, ◌▸◌, Item, leaf, repeat, group, Ends, no_more, ◌then◌}
use Rattle.score.specs.declared.Shape.{Shape}
use Rattle.score.specs.declared.Shape.TheVariants.{Straight, DaCapo, DalSegno, DaCapoFine, DalSegnoFine, DaCapoCoda, DalSegnoCoda}
use Rattle.score.specs.Times.{Time}
use Rattle.score.specs.Shapes.{Score, score}
use Rattle.score.specs.Spelling.{left_signs, run_signs, item_signs, ends_signs, signs_of}
use Rattle.score.specs.Readings.{Some, inside, start_after, Good, GoodItem, GoodEnds, Valid}
use Rattle.score.specs.Played.{beats, run_plays, item_plays, ends_play, plays}
use Rattle.score.specs.Calls.{Call, names}
use Rattle.score.specs.Sums.{called, each}
use Rattle.score.specs.Steps.{count, run_steps, item_steps, ends_steps, steps}

-- the arithmetic of a row and of an item
sum_bound : (s p n t q m : ℕ) → s ≤ p * (2 * n) → t ≤ q * (2 * m) → s + t ≤ (p + q) * (2 * (n + m))
sum_bound s p n t q m h k = omega arith

repeat_bound : (s p n o : ℕ) → s ≤ p * (2 * n) → 1 ≤ p → 3 + 2 * s ≤ (p + p) * (2 * (o + (n + 1)))
repeat_bound s p n o h k = omega arith

group_bound : (s p n c t q m u v k o : ℕ) → s ≤ p * (2 * n) → 1 ≤ p → t ≤ q * (2 * m) → u ≤ v * (2 * k)
    → 1 + suc c * (s + 2 * suc c + 1) + (t + u) ≤ (c * p + q + (p + v)) * (2 * (o + (n + (m + 3 * c + suc (k + 1)))))
group_bound s p n c t q m u v k o h l g f =
    let x : suc c * s ≤ suc c * (p * (2 * n)) = mul-le-mul_left (suc c) h in
    let y : suc c * (3 * c + 2) * 1 ≤ suc c * (3 * c + 2) * p = mul-le-mul_left (suc c * (3 * c + 2)) l in
    omega arith

-- what a run takes beside what it plays and is written with
abbrev Fits : ℕ → List Leaf → List Sign → Type 0
Fits s p n = (s ≤ length p * (2 * length n)) × (1 ≤ length p)

-- the same of endings: q blocks played beside M's, and m signs in their runs
record EndsFit (es : Ends) : Type 0 where
  q : ℕ
  m : ℕ
  played : (l : List Leaf) → length (ends_play l es) ≡ count es * length l + q
  spelt : length (ends_signs es) ≡ m + 3 * count es
  few : ends_steps es ≤ q * (2 * m)

mutual
  run_fits : (r : Run) (start : Bool) → Good r start → (run_steps r ≤ length (run_plays r) * (2 * length (run_signs r))) × (Some r → 1 ≤ length (run_plays r))
  run_fits nil start g = (omega arith, λ n. absurd n)
  run_fits (r ▸ i) start g =
      let f = run_fits r start g.0 in
      let h = item_fits i (start_after start r) g.1 in
      (simp length-append (sum_bound (run_steps r) (length (run_plays r)) (length (run_signs r)) (item_steps i) (length (item_plays i)) (length (item_signs i)) f.0 h.0), λ n. simp length-append (omega arith))

  item_fits : (i : Item) (start : Bool) → GoodItem i start → Fits (item_steps i) (item_plays i) (item_signs i)
  item_fits (leaf x) start g = (omega arith, omega arith)
  item_fits (repeat o r) start g =
      let f = run_fits r (inside o) g.2 in
      let l = f.1 g.1 in
      (simp length-append (repeat_bound (run_steps r) (length (run_plays r)) (length (run_signs r)) (length (left_signs o)) f.0 l), simp length-append (omega arith))
  item_fits (group o m es e) start g =
      let f = run_fits m (inside o) g.2 in
      let h = ends_fit es g.5 in
      let k = run_fits e false g.7 in
      let l = f.1 g.1 in (
        simp (length-append, h.played (run_plays m), h.spelt)
            (group_bound (run_steps m) (length (run_plays m)) (length (run_signs m)) (count es) (ends_steps es) h.q h.m (run_steps e) (length (run_plays e)) (length (run_signs e)) (length (left_signs o)) f.0 l h.few k.0),
        simp length-append (omega arith),
      )

  ends_fit : (es : Ends) → GoodEnds es → EndsFit es
  ends_fit no_more g = record { q = 0; m = 0; played = λ l. omega arith; spelt = omega arith; few = omega arith }
  ends_fit (es then e) g =
      let h = ends_fit es g.0 in
      let k = run_fits e false g.2 in
      record {
        q = h.q + length (run_plays e);
        m = h.m + length (run_signs e);
        played = λ l. let a = h.played l in simp length-append (omega arith);
        spelt = let b = h.spelt in simp length-append (omega arith);
        few = let u = h.few in let v = k.0 in sum_bound (ends_steps es) h.q h.m (run_steps e) (length (run_plays e)) (length (run_signs e)) u v;
      }

-- each run of a shape
full_fits : (r : Run) (start : Bool) → Some r × Good r start → run_steps r ≤ length (run_plays r) * (2 * length (run_signs r))
full_fits r start f = (run_fits r start f.1).0

shape_fits : (implied : Bool) (t : Time) (h : Shape) (a b c d : Run) → Valid implied (score t h a b c d)
    → steps (score t h a b c d) ≤ length (plays (score t h a b c d)) * (2 * length (signs_of (score t h a b c d))) + 5
shape_fits implied t Straight a b c d g = let p = full_fits a implied g.0 in simp length-append (omega arith)
shape_fits implied t DaCapo a b c d g = let p = full_fits a implied g.0 in simp length-append (omega arith)
shape_fits implied t DalSegno a b c d g = let p = full_fits a implied g.0 in let q = full_fits b false g.1 in simp length-append (omega arith)
shape_fits implied t DaCapoFine a b c d g = let p = full_fits a implied g.0 in let q = full_fits b false g.1 in simp length-append (omega arith)
shape_fits implied t DalSegnoFine a b c d g =
    let p = full_fits a implied g.0 in let q = full_fits b false g.1 in let r = full_fits c false g.2 in simp length-append (omega arith)
shape_fits implied t DaCapoCoda a b c d g =
    let p = full_fits a implied g.0 in let q = full_fits b false g.1 in let r = full_fits c false g.2 in simp length-append (omega arith)
shape_fits implied t DalSegnoCoda a b c d g =
    let p = full_fits a implied g.0 in
    let q = full_fits b false g.1 in
    let r = full_fits c false g.2 in
    let s = full_fits d false g.3 in
    simp length-append (omega arith)

-- The steps are at most the blocks played times twice the signs, and 5.
pub few_steps : (implied : Bool) (t : Score) → Valid implied t → steps t ≤ length (plays t) * (2 * length (signs_of t)) + 5
few_steps implied (score t h a b c d) g = shape_fits implied t h a b c d g

-- the same, where few signs are written and few blocks played
pub steps_within : (implied : Bool) (t : Score) (s b : ℕ) → Valid implied t → length (signs_of t) ≤ s → length (plays t) ≤ b → steps t ≤ b * (2 * s) + 5
steps_within implied t s b v h k =
    let a = few_steps implied t v in
    let c : length (plays t) * (2 * length (signs_of t)) ≤ b * (2 * s) = mul-le-mul k (omega arith) in
    omega arith

-- each leaf has at most n beats
abbrev pub AllLow : ℕ → List Leaf → Type 0
AllLow n [] = Unit {0}
AllLow n (x ∷ xs) = (beats x ≤ n) × AllLow n xs

-- then each call plays at most n
pub called_low : (n : ℕ) (cs : List Call) → AllLow n (names cs) → called beats cs ≤ n * called each cs
called_low n [] h = omega arith
called_low n (c ∷ cs) h =
    let a = called_low n cs h.1 in
    let b : beats c.what * c.often ≤ n * c.often = mul-le-mul_right c.often h.0 in
    omega arith
