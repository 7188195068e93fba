-- How often something stands in a listing, and what it means that a stretch's marks are numbered in order.
-- Assumes nothing.
use mathlib.Core.Path.{◌≡◌, refl, sym, ap, ◌∙◌}
use mathlib.Core.Bool.{Bool, true, false, cond}
use mathlib.Core.List.{List, [], ◌∷◌, ◌++◌}
use mathlib.Core.Option.{some}
use Prim.Native.Nat.{ℕ, zero, suc, ◌+◌, ◌≤◌, ◌<◌}
use native.Mathlib.Nat.{zero-add, add-zero, suc-add, add-suc}
use native.Mathlib.Numerals.{add-one}
use native.Mathlib.Omega.{arith}
use lib.ListN.{length, get_elem?}
use lib.Dec.{eqb, ltb}
use borrow.Author.Tests.{eqb-true, eqb-false, eq-eqb, ne_eqb, ltb-true, ltb-false}
use Rattle.std.specs.Prelude.{Option, Some, None}
use Rattle.instructions.specs.declared.Instruction.{Instruction}
use Rattle.instructions.specs.Forms.{loop_of, label_of}
use Rattle.instructions.specs.Places.{marks_loop, repeats_loop, marks_label, is}
use Rattle.machine.specs.Machine.{find, is_loop, is_label}
use Rattle.translation.specs.Stretches.{Stretch}

-- the instruction is a `rep` of loop L
abbrev pub is_rep : ℕ → Instruction → Bool
is_rep L i = is (repeats_loop i.operation (loop_of i)) L

-- how many instructions pass a test
abbrev pub often : (Instruction → Bool) → List Instruction → ℕ
often f [] = 0
often f (i ∷ is) = cond (f i) 1 0 + often f is

pub often-append : (f : Instruction → Bool) (u v : List Instruction) → often f (u ++ v) ≡ often f u + often f v
often-append f [] v = omega arith
often-append f (i ∷ u) v = let e = often-append f u v in omega arith

-- ---- the first place of what did not stand before
pub found : (f : Instruction → Bool) (pre : List Instruction) (i : Instruction) (post : List Instruction)
    → often f pre ≡ 0
    → f i ≡ true
    → find f (pre ++ (i ∷ post)) ≡ length pre
unfolding find
found f [] i post h e = rw e
found f (j ∷ pre) i post h e = go (f j) refl h (λ k. found f pre i post k e)
  where
    go : (t : Bool)
        → f j ≡ t
        → cond t 1 0 + often f pre ≡ 0
        → (often f pre ≡ 0 → find f (pre ++ (i ∷ post)) ≡ length pre)
        → cond (f j) zero (suc (find f (pre ++ (i ∷ post)))) ≡ suc (length pre)
    go true q k more = absurd (omega arith)
    go false q k more = rw (q, more (omega arith))

pub fetch : (pre : List Instruction) (i : Instruction) (post : List Instruction) → get_elem? (pre ++ (i ∷ post)) (length pre) ≡ some i
fetch [] i post = refl
fetch (j ∷ pre) i post = fetch pre i post

-- ---- the numbers from lo to below hi each name one instruction, and no other number names any
pub record Once (f : ℕ → Instruction → Bool) (lo hi : ℕ) (u : List Instruction) : Type 0 where
  pub inside : (k : ℕ) → lo ≤ k → k < hi → often (f k) u ≡ 1
  pub outside : (k : ℕ) → (lo ≤ k → k < hi → ⊥) → often (f k) u ≡ 0

module _ {f : ℕ → Instruction → Bool} where
  pub once_nil : (lo : ℕ) → Once f lo lo []
  once_nil lo = record { inside = λ k x y. absurd (omega arith); outside = λ k o. refl }

  pub once_none : (lo : ℕ) (i : Instruction) → ((k : ℕ) → f k i ≡ false) → Once f lo lo (i ∷ [])
  once_none lo i h = record { inside = λ k x y. absurd (omega arith); outside = λ k o. rw (h k) }

  pub once_mark : (lo : ℕ) (i : Instruction) → ((k : ℕ) → f k i ≡ eqb lo k) → Once f lo (suc lo) (i ∷ [])
  once_mark lo i h = record {
    inside = λ k x y. rw (h k, eq-eqb lo k (omega arith));
    outside = λ k o. rw (h k, ne_eqb lo k (λ e. o (omega arith) (omega arith)));
  }

  module _ {lo mid hi : ℕ} (u v : List Instruction) (x : lo ≤ mid) (y : mid ≤ hi) where
    pub once_append : Once f lo mid u → Once f mid hi v → Once f lo hi (u ++ v)
    once_append p q = record {
      inside = λ k a b. go k a b (ltb k mid) refl;
      outside = λ k o.
          let s = often-append (f k) u v in
          let i = p.outside k (λ a b. o a (omega arith)) in
          let j = q.outside k (λ a b. o (omega arith) b) in
          omega arith;
    }
      where
        go : (k : ℕ) → lo ≤ k → k < hi → (t : Bool) → ltb k mid ≡ t → often (f k) (u ++ v) ≡ 1
        go k a b true t =
            let s = often-append (f k) u v in
            let i = p.inside k a (ltb-true k mid t) in
            let j = q.outside k (λ c d. let l = ltb-true k mid t in omega arith) in
            omega arith
        go k a b false t =
            let s = often-append (f k) u v in
            let i = p.outside k (λ c d. let l = ltb-false k mid t in omega arith) in
            let j = q.inside k (ltb-false k mid t) b in
            omega arith

  pub once_cast : {lo lo' hi hi' : ℕ} {u : List Instruction} → lo ≡ lo' → hi ≡ hi' → Once f lo hi u → Once f lo' hi' u
  once_cast {u = u} x y p = rw (← x, ← y) p

-- the later of two lists has the lower numbers
pub once_swap : {f : ℕ → Instruction → Bool} {lo mid hi : ℕ} (u v : List Instruction) → lo ≤ mid → mid ≤ hi → Once f mid hi u → Once f lo mid v → Once f lo hi (u ++ v)
once_swap {f} {lo} {mid} {hi} u v x y p q =
    let o : Once f lo hi (v ++ u) = once_append v u x y q p in
    record {
      inside = λ k a b. let s = often-append (f k) u v in let r = often-append (f k) v u in let i = o.inside k a b in omega arith;
      outside = λ k a. let s = often-append (f k) u v in let r = often-append (f k) v u in let i = o.outside k a in omega arith;
    }

-- ---- what stands before a stretch has marks with lower numbers only
pub record Below (l b : ℕ) (u : List Instruction) : Type 0 where
  pub loops : (k : ℕ) → l ≤ k → often (is_loop k) u ≡ 0
  pub labels : (k : ℕ) → b ≤ k → often (is_label k) u ≡ 0

pub below_nil : Below 0 0 []
below_nil = record { loops = λ k h. refl; labels = λ k h. refl }

pub below_more : {l b l' b' l₀ b₀ : ℕ} (u v : List Instruction)
    → l ≤ l'
    → b ≤ b'
    → Below l b u
    → Once is_loop l₀ l' v
    → Once is_label b₀ b' v
    → Below l' b' (u ++ v)
below_more u v x y h p q = record {
  loops = λ k a.
      let s = often-append (is_loop k) u v in
      let i = h.loops k (omega arith) in
      let j = p.outside k (λ c d. omega arith) in
      omega arith;
  labels = λ k a.
      let s = often-append (is_label k) u v in
      let i = h.labels k (omega arith) in
      let j = q.outside k (λ c d. omega arith) in
      omega arith;
}

-- ---- the numbers of a listing's marks, in order
abbrev pub loop_mark : Instruction → Option ℕ
loop_mark i = marks_loop i.operation (loop_of i)

abbrev pub label_mark : Instruction → Option ℕ
label_mark i = marks_label i.operation (label_of i)

abbrev put : Option ℕ → List ℕ → List ℕ
put None ns = ns
put (Some n) ns = n ∷ ns

abbrev pub numbers : (Instruction → Option ℕ) → List Instruction → List ℕ
numbers f [] = []
numbers f (i ∷ is) = put (f i) (numbers f is)

-- l, l + 1, .. and so on, n of them
abbrev pub counting : ℕ → ℕ → List ℕ
counting l zero = []
counting l (suc n) = l ∷ counting (suc l) n

put-append : (o : Option ℕ) (ns ms : List ℕ) → put o (ns ++ ms) ≡ put o ns ++ ms
put-append None ns ms = refl
put-append (Some n) ns ms = refl

pub numbers-append : (f : Instruction → Option ℕ) (u v : List Instruction) → numbers f (u ++ v) ≡ numbers f u ++ numbers f v
numbers-append f [] v = refl
numbers-append f (i ∷ u) v = ap (put (f i)) (numbers-append f u v) ∙ put-append (f i) (numbers f u) (numbers f v)

pub counting-append : (l m n : ℕ) → counting l (m + n) ≡ counting l m ++ counting (l + m) n
counting-append l zero n = rw (zero-add n, add-zero l)
counting-append l (suc m) n = rw (suc-add m n, counting-append (suc l) m n, suc-add l m, add-suc l m)

pub counting_last : (l n : ℕ) → counting l n ++ ((l + n) ∷ []) ≡ counting l (suc n)
counting_last l n = sym (counting-append l n 1) ∙ ap (counting l) (add-one n)

-- how often a number is among others
among : ℕ → List ℕ → ℕ
among k [] = 0
among k (n ∷ ns) = cond (eqb n k) 1 0 + among k ns

often_among : (f : Instruction → Option ℕ) (k : ℕ) (u : List Instruction) → often (λ i. is (f i) k) u ≡ among k (numbers f u)
unfolding among
often_among f k [] = refl
often_among f k (i ∷ u) = go (f i) (often_among f k u)
  where
    go : (o : Option ℕ) → often (λ i. is (f i) k) u ≡ among k (numbers f u) → cond (is o k) 1 0 + often (λ i. is (f i) k) u ≡ among k (put o (numbers f u))
    go None e = omega arith
    go (Some n) e = omega arith

-- a number is among those that are counted once, or not at all
counted : (l n k : ℕ) → ((l ≤ k → k < l + n → among k (counting l n) ≡ 1) × ((l ≤ k → k < l + n → ⊥) → among k (counting l n) ≡ 0))
unfolding among
counted l zero k = (λ a b. absurd (omega arith), λ o. refl)
counted l (suc n) k = go (eqb l k) refl (counted (suc l) n k)
  where
    go : (t : Bool)
        → eqb l k ≡ t
        → ((suc l ≤ k → k < suc l + n → among k (counting (suc l) n) ≡ 1) × ((suc l ≤ k → k < suc l + n → ⊥) → among k (counting (suc l) n) ≡ 0))
        → ((l ≤ k → k < l + suc n → cond t 1 0 + among k (counting (suc l) n) ≡ 1) × ((l ≤ k → k < l + suc n → ⊥) → cond t 1 0 + among k (counting (suc l) n) ≡ 0))
    go true e h = let q = eqb-true l k e in (λ a b. let i = h.1 (λ c d. omega arith) in omega arith, λ o. absurd (o (omega arith) (omega arith)))
    go false e h =
        let q : (l ≡ k → ⊥) = eqb-false l k e in
        (λ a b. let i = h.0 (omega arith) (omega arith) in omega arith, λ o. let i = h.1 (λ c d. o (omega arith) (omega arith)) in omega arith)

once_counted : (f : Instruction → Option ℕ) (l n : ℕ) (u : List Instruction) → numbers f u ≡ counting l n → Once (λ k i. is (f i) k) l (l + n) u
once_counted f l n u e = record {
  inside = λ k a b. often_among f k u ∙ ap (among k) e ∙ (counted l n k).0 a b;
  outside = λ k o. often_among f k u ∙ ap (among k) e ∙ (counted l n k).1 o;
}

-- ---- a stretch's loops, and its labels apart, are numbered in the order of their marks, and each loop has one `rep`
pub record Numbered (s : Stretch) : Type 0 where
  pub loops : (L l b : ℕ) → numbers loop_mark (s.from L l b) ≡ counting l s.loops
  pub labels : (L l b : ℕ) → numbers label_mark (s.from L l b) ≡ counting b s.labels
  pub reps : (L l b : ℕ) → Once is_rep l (l + s.loops) (s.from L l b)

module _ {s : Stretch} (g : Numbered s) (L l b : ℕ) where
  pub once_loops : Once is_loop l (l + s.loops) (s.from L l b)
  once_loops = once_counted loop_mark l s.loops (s.from L l b) (g.loops L l b)

  pub once_labels : Once is_label b (b + s.labels) (s.from L l b)
  once_labels = once_counted label_mark b s.labels (s.from L l b) (g.labels L l b)

  -- what stands behind a stretch
  pub below_stretch : (pre : List Instruction) → Below l b pre → Below (l + s.loops) (b + s.labels) (pre ++ s.from L l b)
  below_stretch pre h = below_more pre (s.from L l b) (omega arith) (omega arith) h once_loops once_labels
