-- Every run, item, ending and shape is sound where its blocks' numbers are in range and its signs are few.
-- Assumes nothing.
use mathlib.Core.Path.{subst}
use mathlib.Core.Bool.{Bool, true, false}
use mathlib.Core.List.{List, [], ◌∷◌, ◌++◌}
use Prim.Native.Nat.{ℕ, suc, ◌+◌, ◌*◌, ◌≤◌}
use native.Mathlib.Omega.{arith}
use lib.ListN.{length, length-append}
use Rattle.refusals.specs.Limits.{Limits}
use Rattle.score.specs.Trees.{block, Run, nil, ◌▸◌, Item, leaf, repeat, group, Ends, no_more, ◌then◌}
use Rattle.score.specs.declared.Shape.{Shape}
use Rattle.score.specs.declared.Shape.TheVariants.{Straight, DaCapo, DalSegno, DaCapoFine, DalSegnoFine, DaCapoCoda, DalSegnoCoda}
use Rattle.score.specs.Times.{Time}
use Rattle.score.specs.Shapes.{Letter, Piece, run, sign, letters_of, table, run_of, Score, score}
use Rattle.score.specs.Spelling.{left_signs, run_signs, item_signs, ends_signs, time_signs, spelled, signs_of}
use Rattle.score.specs.Steps.{count}
use Rattle.score.specs.Calls.{Call, run_calls, item_calls, ends_calls, times_of, letters_calls, names}
use Rattle.score.specs.Sums.{leaves}
use Rattle.score.proofs.Written.{block_signs}
use Rattle.translation.specs.Stretches.{◌⨾◌, looped, ending}
use Rattle.translation.specs.Runs.{run_code, item_code, ends_code}
use Rattle.translation.specs.Within.{AllInRange}
use Rattle.translation.proofs.Sound.{Stands, stands_empty, stands_block, stands_seq, stands_looped, stands_ending, stands_leaving}
use Rattle.translation.proofs.Leaving.{leaving}
use Rattle.translation.proofs.Shapes.{shaped}

-- the blocks of the first of two lists of calls, and of the second
all_first : (m : Limits) (u v : List Call) → AllInRange m (names (u ++ v)) → AllInRange m (names u)
all_first m [] v h = tt
all_first m (c ∷ u) v h = (h.0, all_first m u v h.1)

all_second : (m : Limits) (u v : List Call) → AllInRange m (names (u ++ v)) → AllInRange m (names v)
all_second m [] v h = h
all_second m (c ∷ u) v h = all_second m u v h.1

-- the endings of a group are fewer than its signs
ends_few : (es : Ends) → 3 * count es ≤ length (ends_signs es)
ends_few no_more = omega arith
ends_few (es then e) = let i = ends_few es in simp length-append (omega arith)

module _ (m : Limits) (top : ℕ) (two : 2 ≤ m.times) where
  mutual
    pub run_stands : (r : Run) (k : ℕ) → length (run_signs r) ≤ suc m.times → AllInRange m (names (run_calls r k)) → (f : Bool) → Stands m top f (run_code r)
    run_stands nil k x h f = stands_empty m top f
    run_stands (r ▸ i) k x h f =
        let y = length-append (run_signs r) (item_signs i) in
        stands_seq m top f (run_code r) (item_code i)
        (run_stands r k (omega arith) (all_first m (run_calls r k) (item_calls i k) h) f)
        (item_stands i k (omega arith) (all_second m (run_calls r k) (item_calls i k) h) f)

    item_stands : (i : Item) (k : ℕ) → length (item_signs i) ≤ suc m.times → AllInRange m (names (item_calls i k)) → (f : Bool) → Stands m top f (item_code i)
    item_stands (leaf (block j l)) k x h f = stands_block m top f j l h.0.0 h.0.1 h.0.2
    item_stands (repeat o r) k x h f =
        let y : length (run_signs r) ≤ suc m.times = omega (arith, simp length-append at x) in
        stands_looped m top f (run_code r) 2 (omega arith) two (run_stands r (2 * k) y h true)
    item_stands (group o r es e) k x h f =
        let n : ℕ = suc (count es) in
        let few = ends_few es in
        let size : length (left_signs o) + (length (run_signs r) + (length (ends_signs es) + suc (length (run_signs e) + 1))) ≤ suc m.times = simp length-append at x in
        let g = all_first m (run_calls r (n * k)) (ends_calls es k ++ run_calls e k) h in
        let g' = all_second m (run_calls r (n * k)) (ends_calls es k ++ run_calls e k) h in
        stands_looped m top f (run_code r ⨾ ends_code es ⨾ ending n (run_code e)) n (omega arith) (omega arith)
        (stands_seq m top true (run_code r) (ends_code es ⨾ ending n (run_code e))
        (run_stands r (n * k) (omega arith) g true)
        (stands_seq m top true (ends_code es) (ending n (run_code e))
        (ends_stands es k (omega arith) (all_first m (ends_calls es k) (run_calls e k) g'))
        (stands_ending m top (run_code e) n (omega arith) (omega arith) (run_stands e k (omega arith) (all_second m (ends_calls es k) (run_calls e k) g') true))))

    ends_stands : (es : Ends) (k : ℕ) → length (ends_signs es) ≤ suc m.times → AllInRange m (names (ends_calls es k)) → Stands m top true (ends_code es)
    ends_stands no_more k x h = stands_empty m top true
    ends_stands (es then e) k x h =
        let few = ends_few es in
        let size : length (ends_signs es) + suc (length (run_signs e) + 2) ≤ suc m.times = simp length-append at x in
        stands_seq m top true (ends_code es) (ending (suc (count es)) (run_code e))
        (ends_stands es k (omega arith) (all_first m (ends_calls es k) (run_calls e k) h))
        (stands_ending m top (run_code e) (suc (count es)) (omega arith) (omega arith) (run_stands e k (omega arith) (all_second m (ends_calls es k) (run_calls e k) h) true))

  -- the runs of a shape
  abbrev AllStand : Score → List Letter → Type 0
  AllStand t [] = Unit {0}
  AllStand t (x ∷ xs) = ((f : Bool) → Stands m top f (run_code (run_of t x))) × AllStand t xs

  all_stand : (t : Score) (ps : List Piece) → length (spelled t ps) ≤ suc m.times → AllInRange m (names (letters_calls t (letters_of ps))) → AllStand t (letters_of ps)
  all_stand t [] x h = tt
  all_stand t (run y ∷ ps) x h =
      let e = length-append (run_signs (run_of t y)) (spelled t ps) in
      let u : List Call = run_calls (run_of t y) (times_of t y) in
      let v : List Call = letters_calls t (letters_of ps) in
      (run_stands (run_of t y) (times_of t y) (omega arith) (all_first m u v h), all_stand t ps (omega arith) (all_second m u v h))
  all_stand t (sign y ∷ ps) x h = all_stand t ps (omega arith) h

  shape_stands : (t : Time) (h : Shape) (a b c d : Run) → AllStand (score t h a b c d) (letters_of (table h).signs) → Stands m top false (shaped h a b c d)
  shape_stands t Straight a b c d (p, end) = p false
  shape_stands t DaCapo a b c d (p, end) = stands_looped m top false (run_code a) 2 (omega arith) two (p true)
  shape_stands t DalSegno a b c d (p, (q, end)) =
      stands_seq m top false (run_code a) (looped 2 (run_code b)) (p false) (stands_looped m top false (run_code b) 2 (omega arith) two (q true))
  shape_stands t DaCapoFine a b c d (p, (q, end)) = stands_leaving m top false (run_code a) (run_code b) two (p true) (q true)
  shape_stands t DalSegnoFine a b c d (p, (q, (r, end))) =
      stands_seq m top false (run_code a) (leaving (run_code b) (run_code c)) (p false) (stands_leaving m top false (run_code b) (run_code c) two (q true) (r true))
  shape_stands t DaCapoCoda a b c d (p, (q, (r, end))) =
      stands_seq m top false (leaving (run_code a) (run_code b)) (run_code c) (stands_leaving m top false (run_code a) (run_code b) two (p true) (q true)) (r false)
  shape_stands t DalSegnoCoda a b c d (p, (q, (r, (s, end)))) =
      stands_seq m top false (run_code a) (leaving (run_code b) (run_code c) ⨾ run_code d) (p false)
      (stands_seq m top false (leaving (run_code b) (run_code c)) (run_code d) (stands_leaving m top false (run_code b) (run_code c) two (q true) (r true)) (s false))

  pub score_stands : (t : Time) (h : Shape) (a b c d : Run)
      → length (signs_of (score t h a b c d)) ≤ suc m.times
      → AllInRange m (leaves (signs_of (score t h a b c d)))
      → Stands m top false (shaped h a b c d)
  score_stands t h a b c d x r =
      let s : Score = score t h a b c d in
      let e = length-append (time_signs t) (spelled s (table h).signs) in
      shape_stands t h a b c d (all_stand s (table h).signs (omega arith) (subst (AllInRange m) (block_signs s) r))
