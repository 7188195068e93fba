-- A loop mark and the stretch behind it: what a plain repeat, an ending group and a D.C. or D.S. share.
-- Assumes nothing.
use mathlib.Core.Path.{◌≡◌, refl, ◌∙◌}
use mathlib.Core.List.{List, [], ◌∷◌, ◌++◌}
use mathlib.Core.Option.{some}
use Prim.Native.Nat.{ℕ, suc, ◌+◌, ◌≤◌, ◌<◌}
use native.Mathlib.Omega.{arith}
use lib.ListN.{length, get_or, set}
use lib.Seq.{get_or-set_same}
use borrow.Author.Tests.{eq-eqb}
use Rattle.played.specs.Played.{Block}
use Rattle.instructions.specs.declared.Instruction.{Instruction}
use Rattle.instructions.specs.Forms.{loop, rep}
use Rattle.machine.specs.Machine.{loop_at, is_loop}
use Rattle.translation.specs.Stretches.{Stretch}
use Rattle.translation.proofs.Marks.{found, once_none, once_mark, Below, below_more, Numbered, below_stretch}
use Rattle.translation.proofs.Goes.{Goes, cast, marks_loop_lem, goes_back}
use Rattle.translation.proofs.Segments.{Kept, kept_trans, kept_wider, kept_set, Over, Seg, past, at, behind}

-- once through the body with the loop's count at v: the count stays
pub record Pass (prog : List Instruction) (l hi a z : ℕ) (ds : List ℕ) (v n : ℕ) (ps : List Block) : Type 0 where
  pub ends : List ℕ
  pub goes : Goes prog a (set ds l v) n ps z ends
  pub kept : Kept l hi ds ends
  pub count : get_or ends l 0 ≡ v

module _ {s : Stretch} (g : Numbered s)
    (prog pre tail : List Instruction)
    (cs : List ℕ)
    (l b hi : ℕ)
    (e : prog ≡ pre ++ (loop l ∷ (s.from l (suc l) b ++ tail)))
    (below : Below l b pre)
    (fits : l + suc s.loops ≤ hi)
    (le : hi ≤ length cs) where
  abbrev mid : List Instruction
  mid = pre ++ (loop l ∷ [])

  e₁ : prog ≡ mid ++ (s.from l (suc l) b ++ tail)
  e₁ = past pre (loop l ∷ []) (s.from l (suc l) b ++ tail) e

  pub behind_body : prog ≡ (mid ++ s.from l (suc l) b) ++ tail
  behind_body = past mid (s.from l (suc l) b) tail e₁

  marked : loop_at prog l ≡ length pre
  marked = rw e (found (is_loop l) pre (loop l) (s.from l (suc l) b ++ tail) (below.loops l (omega arith)) (eq-eqb l l refl))

  below_mid : Below (suc l) b mid
  below_mid = below_more pre (loop l ∷ []) (omega arith) (omega arith) below (once_mark l (loop l) (λ k. refl)) (once_none b (loop l) (λ k. refl))

  pub below_body : Below (suc l + s.loops) (b + s.labels) (mid ++ s.from l (suc l) b)
  below_body = below_stretch g l (suc l) b mid below_mid

  pub pass : (v n : ℕ) (ps : List Block) → Seg (some v) s n ps → (ds : List ℕ) → length ds ≡ length cs → Pass prog l hi (length mid) (length (mid ++ s.from l (suc l) b)) ds v n ps
  pass v n ps h ds len =
      let k₀ : Kept l hi ds (set ds l v) = kept_set l hi ds l v (omega arith) (omega arith) in
      let c₀ : get_or (set ds l v) l 0 ≡ v = get_or-set_same ds l v 0 (omega arith) in
      let o : Over prog mid (s.from l (suc l) b) (set ds l v) n ps (suc l) (suc l + s.loops) =
      h.over prog mid tail (set ds l v) l (suc l) b e₁ below_mid (omega (arith, k₀.long)) (omega arith, c₀)
      in
      record {
        ends = o.ends;
        goes = o.goes;
        kept = kept_trans k₀ (kept_wider (omega arith) (omega arith) o.kept);
        count = o.kept.same l (λ x y. omega arith) ∙ c₀;
      }

  -- from before the mark to behind it; and from a `rep` back to there
  pub enter : Goes prog (length pre) cs 1 [] (length mid) (set cs l 1)
  enter = cast refl refl (behind pre (loop l)) (marks_loop_lem l (at pre (loop l) (s.from l (suc l) b ++ tail) e))

  pub back : (q : List Instruction) (T : ℕ) (post : List Instruction) (ds : List ℕ) (v : ℕ)
      → prog ≡ q ++ (rep l T ∷ post)
      → get_or ds l 0 ≡ v
      → v < T
      → Goes prog (length q) ds 1 [] (length mid) (set ds l (suc v))
  back q T post ds v d is lt = cast refl refl (behind pre (loop l)) (goes_back v (length pre) (at q (rep l T) post d) is lt marked)
