-- The first `|:` that is too deep in a list of signs, by its parts.
-- Assumes nothing.
use mathlib.Core.Path.{◌≡◌, refl, ap, ◌∙◌}
use mathlib.Core.Bool.{Bool, true, false, ◌&&◌, not}
use Rattle.std.specs.Prelude.{Option, Some, None}
use Rattle.std.specs.Option.{option_or}
use mathlib.Core.List.{List, [], ◌∷◌, ◌++◌}
use Prim.Native.Nat.{ℕ, suc, ◌+◌}
use native.Mathlib.Omega.{arith}
use lib.Dec.{ltb}
use lib.ListN.{length, length-append}
use Rattle.refusals.specs.Limits.{document01}
use Rattle.signs.specs.declared.sign.Sign.{Sign}
use Rattle.signs.specs.declared.sign.Sign.TheVariants.{LeftRepeat}
use Rattle.score.specs.Trees.{Left as LeftOf}
use Rattle.score.specs.Trees.{written, lacking, Run, nil, ◌▸◌, Item, leaf, repeat, group, Ends, no_more, ◌then◌}
use Rattle.score.specs.Spelling.{left_signs, run_signs, item_signs, ends_signs}
use Rattle.score.specs.Numbers.{later}
use Rattle.score.specs.Depth.{inner, left_around, run_around, item_around, ends_around, is_left, first_deep}
use Rattle.grammar.specs.declared.stretch.Left.TheVariants.{Written}
use Rattle.grammar.specs.Stretches.{too_deep, deep_from, deep_of}

pub or_last : (a : Option ℕ) → option_or a None ≡ a
or_last None = refl
or_last (Some i) = refl

deep_later : (p : ℕ) (o : Option ℕ) → deep_from p (later o) ≡ deep_from (p + 1) o
deep_later p None = refl
deep_later p (Some i) = ap Some (omega arith)

-- a sign that is no `|:`
pub deep_other : (p d : ℕ) (x : Sign) (s : List Sign) (ds : List ℕ) → is_left x ≡ false → deep_of p (x ∷ s) (d ∷ ds) ≡ deep_of (p + 1) s ds
unfolding deep_of
deep_other p d x s ds e = rw (deep_of, e) (deep_later p (first_deep document01.depth s ds))

-- a `|:`
pub deep_left : (p d : ℕ) (s : List Sign) (ds : List ℕ) → deep_of p (LeftRepeat ∷ s) (d ∷ ds) ≡ option_or (too_deep (Written d p)) (deep_of (p + 1) s ds)
unfolding deep_of too_deep
deep_left p d s ds = go (ltb d document01.depth) refl
  where
    go : (b : Bool) → ltb d document01.depth ≡ b → deep_of p (LeftRepeat ∷ s) (d ∷ ds) ≡ option_or (too_deep (Written d p)) (deep_of (p + 1) s ds)
    go true e = rw (deep_of, too_deep, e) (deep_later p (first_deep document01.depth s ds))
    go false e = rw (deep_of, too_deep, e) (ap Some (omega arith))

pub deep_append : (u v : List Sign) (du dv : List ℕ) (p : ℕ) → length du ≡ length u
    → deep_of p (u ++ v) (du ++ dv) ≡ option_or (deep_of p u du) (deep_of (p + length u) v dv)
unfolding deep_of
deep_append [] v [] dv p h = ap (λ q. deep_of q v dv) (omega arith)
deep_append [] v (d ∷ du) dv p h = absurd (omega arith)
deep_append (x ∷ u) v [] dv p h = absurd (omega arith)
deep_append (x ∷ u) v (d ∷ du) dv p h = go (is_left x && not (ltb d document01.depth)) refl (deep_append u v du dv (p + 1) (omega arith))
  where
    go : (b : Bool) → (is_left x && not (ltb d document01.depth)) ≡ b → deep_of (p + 1) (u ++ v) (du ++ dv) ≡ option_or (deep_of (p + 1) u du) (deep_of (p + 1 + length u) v dv)
        → deep_of p (x ∷ (u ++ v)) (d ∷ (du ++ dv)) ≡ option_or (deep_of p (x ∷ u) (d ∷ du)) (deep_of (p + suc (length u)) v dv)
    go true e r = rw (deep_of, e)
    go false e r =
        let k : p + suc (length u) ≡ p + 1 + length u = omega arith in
        rw (deep_of, e, deep_later p (first_deep document01.depth (u ++ v) (du ++ dv)), deep_later p (first_deep document01.depth u du), k) r

-- one number a sign
pub left_around_lem : (d : ℕ) (o : LeftOf) → length (left_around d o) ≡ length (left_signs o)
left_around_lem d written = refl
left_around_lem d lacking = refl

mutual
  pub run_around_lem : (d : ℕ) (r : Run) → length (run_around d r) ≡ length (run_signs r)
  run_around_lem d nil = refl
  run_around_lem d (r ▸ i) = simp (length-append, run_around_lem d r, item_around_lem d i)

  pub item_around_lem : (d : ℕ) (i : Item) → length (item_around d i) ≡ length (item_signs i)
  item_around_lem d (leaf x) = refl
  item_around_lem d (repeat o r) = simp (length-append, left_around_lem d o, run_around_lem (inner d o) r)
  item_around_lem d (group o m es e) = simp (length-append, left_around_lem d o, run_around_lem (inner d o) m, ends_around_lem (inner d o) es, run_around_lem (inner d o) e)

  pub ends_around_lem : (d : ℕ) (es : Ends) → length (ends_around d es) ≡ length (ends_signs es)
  ends_around_lem d no_more = refl
  ends_around_lem d (es then e) = simp (length-append, ends_around_lem d es, run_around_lem d e)

-- signs that are no `|:` have none that is too deep
pub deep_one : (p d : ℕ) (x : Sign) → is_left x ≡ false → deep_of p (x ∷ []) (d ∷ []) ≡ None
unfolding deep_of
deep_one p d x e = rw (deep_of, e)

pub deep_two : (p d b : ℕ) (x y : Sign) → is_left x ≡ false → is_left y ≡ false → deep_of p (x ∷ y ∷ []) (d ∷ b ∷ []) ≡ None
deep_two p d b x y e f = deep_other p d x (y ∷ []) (b ∷ []) e ∙ deep_one (p + 1) b y f

-- a run before signs that have none
pub deep_run : (d p : ℕ) (r : Run) (s : List Sign) (ds : List ℕ) → ((q : ℕ) → deep_of q s ds ≡ None) → deep_of p (run_signs r ++ s) (run_around d r ++ ds) ≡ deep_of p (run_signs r) (run_around d r)
deep_run d p r s ds h =
    deep_append (run_signs r) s (run_around d r) ds p (run_around_lem d r) ∙ rw (h (p + length (run_signs r))) (or_last (deep_of p (run_signs r) (run_around d r)))
