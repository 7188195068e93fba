-- Implied left repeats open at the start, inside a D.C. loop: a score's listing begins with the marks of that loop and of every loop whose `|:` lacks, numbered from 0.
-- Assumes nothing.
use mathlib.Core.Path.{◌≡◌, refl, subst, ap, ◌∙◌}
use mathlib.Core.Bool.{Bool, false, true}
use mathlib.Core.List.{List, [], ◌∷◌, ◌++◌, append_assoc, map}
use Prim.Native.Nat.{ℕ, suc, ◌+◌}
use native.Mathlib.Nat.{add-zero, zero-add}
use native.Mathlib.Omega.{arith}
use Rattle.score.specs.Trees.{Left, written, lacking, Run, nil, ◌▸◌, Item, leaf, repeat, group, Ends, no_more, ◌then◌}
use Rattle.score.specs.declared.Shape.{Shape}
use Rattle.score.specs.declared.Shape.TheVariants.{Straight, DaCapo, DalSegno, DaCapoFine, DalSegnoFine, DaCapoCoda, DalSegnoCoda}
use Rattle.score.specs.Shapes.{A, Score, score, shape_of, run_of}
use Rattle.score.specs.Readings.{start_after, Good, GoodItem, GoodEnds, GoodRun, has, Valid}
use Rattle.score.specs.Steps.{count}
use Rattle.instructions.specs.declared.Instruction.{Instruction}
use Rattle.instructions.specs.Forms.{loop, rep, lb, jmp}
use Rattle.translation.specs.Stretches.{Stretch, ◌⨾◌, looped, ending}
use Rattle.translation.specs.Runs.{run_code, item_code, ends_code}
use Rattle.translation.specs.Listing.{code}
use Rattle.translation.proofs.Marks.{counting}
use Rattle.translation.proofs.Leaving.{leaving}
use Rattle.translation.proofs.Shapes.{shaped, jump_of, same_code}

-- how many `|:` lack
abbrev left_lacks : Left → ℕ
left_lacks written = 0
left_lacks lacking = 1

abbrev mutual
  pub run_lacks : Run → ℕ
  run_lacks nil = 0
  run_lacks (r ▸ i) = run_lacks r + item_lacks i

  item_lacks : Item → ℕ
  item_lacks (leaf x) = 0
  item_lacks (repeat o r) = left_lacks o + run_lacks r
  item_lacks (group o m es e) = left_lacks o + (run_lacks m + (ends_lack es + run_lacks e))

  ends_lack : Ends → ℕ
  ends_lack no_more = 0
  ends_lack (es then e) = ends_lack es + run_lacks e

-- ---- none lacks away from the start
not_start : (r : Run) → start_after false r ≡ false
not_start nil = refl
not_start (r ▸ i) = refl

mutual
  run_full : (r : Run) → Good r false → run_lacks r ≡ 0
  run_full nil g = refl
  run_full (r ▸ i) g = let a = run_full r g.0 in let b = item_full i (subst (GoodItem i) (not_start r) g.1) in omega arith

  item_full : (i : Item) → GoodItem i false → item_lacks i ≡ 0
  item_full (leaf x) g = refl
  item_full (repeat written r) g = let a = run_full r g.2 in omega arith
  item_full (repeat lacking r) g = absurd g.0
  item_full (group written m es e) g = let a = run_full m g.2 in let b = ends_full es g.5 in let c = run_full e g.7 in omega arith
  item_full (group lacking m es e) g = absurd g.0

  ends_full : (es : Ends) → GoodEnds es → ends_lack es ≡ 0
  ends_full no_more g = refl
  ends_full (es then e) g = let a = ends_full es g.0 in let b = run_full e g.2 in omega arith

-- ---- a stretch that begins with the marks of k loops
abbrev marks : ℕ → ℕ → List Instruction
marks l k = map loop (counting l k)

abbrev Opens : Stretch → ℕ → Type 0
Opens s k = (L l b : ℕ) → (rest : List Instruction) × (s.from L l b ≡ marks l k ++ rest)

opens_cast : (s : Stretch) (j k : ℕ) → j ≡ k → Opens s j → Opens s k
opens_cast s j k e o = subst (Opens s) e o

opens_none : (s : Stretch) → Opens s 0
opens_none s L l b = (s.from L l b, refl)

opens_seq : (s t : Stretch) (k : ℕ) → Opens s k → Opens (s ⨾ t) k
opens_seq s t k o L l b =
    let v : List Instruction = t.from L (l + s.loops) (b + s.labels) in
    ((o L l b).0 ++ v, ap (λ (u : List Instruction). u ++ v) (o L l b).1 ∙ append_assoc (marks l k) (o L l b).0 v)

-- a mark, a stretch and more
opens_marked : (s : Stretch) (k l b : ℕ) (more : List Instruction) → Opens s k → (rest : List Instruction) × (loop l ∷ (s.from l (suc l) b ++ more) ≡ marks l (suc k) ++ rest)
opens_marked s k l b more o =
    ((o l (suc l) b).0 ++ more, ap (λ (u : List Instruction). loop l ∷ (u ++ more)) (o l (suc l) b).1 ∙ ap (λ (u : List Instruction). loop l ∷ u) (append_assoc (marks (suc l) k) (o l (suc l) b).0 more))

opens_looped : (T : ℕ) (s : Stretch) (k : ℕ) → Opens s k → Opens (looped T s) (suc k)
opens_looped T s k o L l b = opens_marked s k l b (rep l T ∷ []) o

opens_leaving : (s t : Stretch) (k : ℕ) → Opens s k → Opens (leaving s t) (suc k)
opens_leaving s t k o L l b =
    opens_marked s k l b (jmp l 2 (b + s.labels + t.labels) ∷ (t.from l (suc l + s.loops) (b + s.labels) ++ (rep l 2 ∷ lb (b + s.labels + t.labels) ∷ []))) o

-- a run and then an item, of which only a run's first may lack a `|:`
run_then : (r : Run) (i : Item) (start : Bool) → Good (r ▸ i) start → Opens (run_code r) (run_lacks r) → Opens (item_code i) (item_lacks i) → Opens (run_code (r ▸ i)) (run_lacks (r ▸ i))
run_then nil i start g o p = λ L l b. ((p L l b).0, rw (add-zero l, add-zero b, zero-add (item_lacks i)) (p L l b).1)
run_then (r ▸ j) i start g o p =
    let a = item_full i g.1 in
    opens_cast (run_code (r ▸ j) ⨾ item_code i) (run_lacks (r ▸ j)) (run_lacks (r ▸ j) + item_lacks i) (omega arith) (opens_seq (run_code (r ▸ j)) (item_code i) (run_lacks (r ▸ j)) o)

mutual
  run_opens : (r : Run) (start : Bool) → Good r start → Opens (run_code r) (run_lacks r)
  run_opens nil start g = opens_none (run_code nil)
  run_opens (r ▸ i) start g = run_then r i start g (run_opens r start g.0) (item_opens i (start_after start r) g.1)

  item_opens : (i : Item) (start : Bool) → GoodItem i start → Opens (item_code i) (item_lacks i)
  item_opens (leaf x) start g = opens_none (item_code (leaf x))
  item_opens (repeat written r) start g = let a = run_full r g.2 in opens_cast (item_code (repeat written r)) 0 (item_lacks (repeat written r)) (omega arith) (opens_none (item_code (repeat written r)))
  item_opens (repeat lacking r) start g = opens_cast (item_code (repeat lacking r)) (suc (run_lacks r)) (item_lacks (repeat lacking r)) (omega arith) (opens_looped 2 (run_code r) (run_lacks r) (run_opens r true g.2))
  item_opens (group written m es e) start g =
      let a = run_full m g.2 in
      let b = ends_full es g.5 in
      let c = run_full e g.7 in
      opens_cast (item_code (group written m es e)) 0 (item_lacks (group written m es e)) (omega arith) (opens_none (item_code (group written m es e)))
  item_opens (group lacking m es e) start g =
      let b = ends_full es g.5 in
      let c = run_full e g.7 in
      opens_cast (item_code (group lacking m es e)) (suc (run_lacks m)) (item_lacks (group lacking m es e)) (omega arith)
      (opens_looped (suc (count es)) (run_code m ⨾ ends_code es ⨾ ending (suc (count es)) (run_code e)) (run_lacks m)
      (opens_seq (run_code m) (ends_code es ⨾ ending (suc (count es)) (run_code e)) (run_lacks m) (run_opens m true g.2)))

-- ---- the shapes
-- the loop of a D.C.
abbrev pub dc_loops : Shape → ℕ
dc_loops Straight = 0
dc_loops DaCapo = 1
dc_loops DalSegno = 0
dc_loops DaCapoFine = 1
dc_loops DalSegnoFine = 0
dc_loops DaCapoCoda = 1
dc_loops DalSegnoCoda = 0

shape_opens : (h : Shape) (a b c d : Run) → Opens (run_code a) (run_lacks a) → Opens (shaped h a b c d) (dc_loops h + run_lacks a)
shape_opens Straight a b c d o = opens_cast (shaped Straight a b c d) (run_lacks a) (0 + run_lacks a) (omega arith) o
shape_opens DaCapo a b c d o = opens_cast (shaped DaCapo a b c d) (suc (run_lacks a)) (1 + run_lacks a) (omega arith) (opens_looped 2 (run_code a) (run_lacks a) o)
shape_opens DalSegno a b c d o = opens_cast (shaped DalSegno a b c d) (run_lacks a) (0 + run_lacks a) (omega arith) (opens_seq (run_code a) (looped 2 (run_code b)) (run_lacks a) o)
shape_opens DaCapoFine a b c d o = opens_cast (shaped DaCapoFine a b c d) (suc (run_lacks a)) (1 + run_lacks a) (omega arith) (opens_leaving (run_code a) (run_code b) (run_lacks a) o)
shape_opens DalSegnoFine a b c d o =
    opens_cast (shaped DalSegnoFine a b c d) (run_lacks a) (0 + run_lacks a) (omega arith) (opens_seq (run_code a) (leaving (run_code b) (run_code c)) (run_lacks a) o)
shape_opens DaCapoCoda a b c d o =
    opens_cast (shaped DaCapoCoda a b c d) (suc (run_lacks a)) (1 + run_lacks a) (omega arith)
    (opens_seq (leaving (run_code a) (run_code b)) (run_code c) (suc (run_lacks a)) (opens_leaving (run_code a) (run_code b) (run_lacks a) o))
shape_opens DalSegnoCoda a b c d o =
    opens_cast (shaped DalSegnoCoda a b c d) (run_lacks a) (0 + run_lacks a) (omega arith) (opens_seq (run_code a) (leaving (run_code b) (run_code c) ⨾ run_code d) (run_lacks a) o)

-- every shape has a run A
first_run : (h : Shape) (start : Bool) (a : Run) → GoodRun (has h A) start a → Good a start
first_run Straight start a g = g.1
first_run DaCapo start a g = g.1
first_run DalSegno start a g = g.1
first_run DaCapoFine start a g = g.1
first_run DalSegnoFine start a g = g.1
first_run DaCapoCoda start a g = g.1
first_run DalSegnoCoda start a g = g.1

pub implied_first : (implied : Bool) (t : Score) → Valid implied t
    → (rest : List Instruction) × (code t ≡ map loop (counting 0 (dc_loops (shape_of t) + run_lacks (run_of t A))) ++ rest)
implied_first implied (score t h a b c d) v =
    let r = shape_opens h a b c d (run_opens a implied (first_run h implied a v.0)) (jump_of (score t h a b c d)) 0 0 in
    (r.0, same_code t h a b c d ∙ r.1)
