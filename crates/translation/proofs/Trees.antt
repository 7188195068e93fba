-- Every run, item and ending is a stretch that keeps to itself, with document 01's steps.
-- Assumes nothing.
use mathlib.Core.Path.{◌≡◌, refl, sym}
use mathlib.Core.List.{List, ◌++◌}
use mathlib.Core.Option.{Option, some}
use Prim.Native.Nat.{ℕ, zero, suc, ◌+◌, ◌*◌, ◌≤◌}
use native.Mathlib.Omega.{arith}
use Rattle.played.specs.Played.{Block}
use Rattle.score.specs.Trees.{block, Run, nil, ◌▸◌, Item, leaf, repeat, group, Ends, no_more, ◌then◌}
use Rattle.score.specs.Played.{block_of, run_plays, item_plays}
use Rattle.score.specs.Steps.{count, run_steps, item_steps}
use Rattle.translation.specs.Stretches.{Stretch, ◌⨾◌, looped, ending}
use Rattle.translation.specs.Runs.{run_code, item_code, ends_code}
use Rattle.translation.proofs.Segments.{Seg, seg_cast, seg_empty, seg_block, seg_seq}
use Rattle.translation.proofs.Looped.{sum_to, seg_looped}
use Rattle.translation.proofs.Endings.{seg_ending}
use Rattle.translation.proofs.Passes.{blocks, blocks-append, steps_at, plays_at, sum_ext, ends_sum, ends_join}

-- the first of two, or the second
abbrev pick : {A : Type 0} → A → A → ℕ → A
pick x y zero = x
pick x y (suc i) = y

-- a stretch played twice
pub seg_twice : (o : Option ℕ) {s : Stretch} {m n : ℕ} {ps qs : List Block} → Seg (some 1) s m ps → Seg (some 2) s n qs → Seg o (looped 2 s) (3 + (m + n)) (ps ++ qs)
seg_twice o {s} {m} {n} {ps} {qs} g h = seg_cast (omega arith) refl (seg_looped 1 (pick m n) (pick ps qs) g.numbered gs o)
  where
    gs : (i : ℕ) → i ≤ 1 → Seg (some (suc i)) s (pick m n i) (pick ps qs i)
    gs zero l = g
    gs (suc zero) l = h
    gs (suc (suc i)) l = absurd (omega arith)

mutual
  pub run_seg : (r : Run) (o : Option ℕ) → Seg o (run_code r) (run_steps r) (blocks (run_plays r))
  run_seg nil o = seg_empty o
  run_seg (r ▸ i) o = seg_cast refl (sym (blocks-append (run_plays r) (item_plays i))) (seg_seq (run_seg r o) (item_seg i o))

  pub item_seg : (i : Item) (o : Option ℕ) → Seg o (item_code i) (item_steps i) (blocks (item_plays i))
  item_seg (leaf (block k l)) o = seg_block o (block_of (block k l))
  item_seg (repeat p r) o = seg_cast (omega arith) (sym (blocks-append (run_plays r) (run_plays r))) (seg_twice o (run_seg r (some 1)) (run_seg r (some 2)))
  item_seg (group p m es e) o =
      let c : ℕ = count es in
      let body : Stretch = run_code m ⨾ ends_code es ⨾ ending (suc c) (run_code e) in
      let n : (ℕ → ℕ) = λ i. run_steps m + (2 * suc c + steps_at (es then e) i) in
      let ps : (ℕ → List Block) = λ i. blocks (run_plays m) ++ plays_at (es then e) i in
      let gs : ((i : ℕ) → Seg (some (suc i)) body (n i) (ps i)) =
      λ i. seg_cast (omega arith) refl (seg_seq (run_seg m (some (suc i))) (seg_seq (ends_seg es i) (seg_ending (run_seg e (some (suc i))) (suc c))))
      in
      seg_cast
      (let a = ends_sum (es then e) (run_steps m + 2 * suc c + 1) in
      let b : sum_to (λ i. n i + 1) (suc c) ≡ sum_to (λ i. run_steps m + 2 * suc c + 1 + steps_at (es then e) i) (suc c) = sum_ext _ _ (suc c) (λ i h. omega arith) in
      omega arith)
      (ends_join (es then e) (run_plays m))
      (seg_looped c n ps (gs 0).numbered (λ i h. gs i) o)

  pub ends_seg : (es : Ends) (i : ℕ) → Seg (some (suc i)) (ends_code es) (2 * count es + steps_at es i) (plays_at es i)
  ends_seg no_more i = seg_cast (omega arith) refl (seg_empty (some (suc i)))
  ends_seg (es then e) i = seg_cast (omega arith) refl (seg_seq (ends_seg es i) (seg_ending (run_seg e (some (suc i))) (suc (count es))))
