-- `loop`, a stretch, `rep` with T: the stretch is gone through T times, with the count from 1 to T.
-- Assumes nothing.
use mathlib.Core.Path.{◌≡◌, refl}
use mathlib.Core.List.{List, [], ◌∷◌, ◌++◌, append_assoc, append-nil}
use mathlib.Core.Option.{Option, some}
use Prim.Native.Nat.{ℕ, zero, suc, ◌+◌, ◌≤◌}
use native.Mathlib.Omega.{arith}
use lib.ListN.{length, set, length-append}
use Rattle.played.specs.Played.{Block}
use Rattle.instructions.specs.declared.Instruction.{Instruction}
use Rattle.instructions.specs.Forms.{loop, rep}
use Rattle.translation.specs.Stretches.{Stretch, looped}
use Rattle.translation.proofs.Marks.{once_none, once_mark, once_append, once_swap, once_cast, Below, loop_mark, label_mark, numbers-append, counting, Numbered}
use Rattle.translation.proofs.Goes.{Goes, seq, cast, goes_on}
use Rattle.translation.proofs.Segments.{Kept, kept_refl, kept_trans, Over, Seg, at}
use Rattle.translation.proofs.Loops.{Pass, pass, enter, back, behind_body}

-- f 0 + .. + f (n - 1), and the same of lists
abbrev pub sum_to : (ℕ → ℕ) → ℕ → ℕ
sum_to f zero = 0
sum_to f (suc n) = sum_to f n + f n

abbrev pub join_to : (ℕ → List Block) → ℕ → List Block
join_to f zero = []
join_to f (suc n) = join_to f n ++ f n

pub numbered_looped : (T : ℕ) {s : Stretch} → Numbered s → Numbered (looped T s)
numbered_looped T {s} g = record {
  loops = λ L l b. rw (numbers-append loop_mark (s.from l (suc l) b) (rep l T ∷ []), g.loops l (suc l) b, append-nil (counting (suc l) s.loops));
  labels = λ L l b. rw (numbers-append label_mark (s.from l (suc l) b) (rep l T ∷ []), g.labels l (suc l) b, append-nil (counting b s.labels));
  reps = λ L l b.
      let u : List Instruction = s.from l (suc l) b in
      once_cast refl (omega arith)
      (once_append (loop l ∷ []) (u ++ (rep l T ∷ [])) (omega arith) (omega arith) (once_none l (loop l) (λ k. refl))
      (once_swap u (rep l T ∷ []) (omega arith) (omega arith) (g.reps l (suc l) b) (once_mark l (rep l T) (λ k. refl))));
}

module _ {s : Stretch} (k : ℕ) (n : ℕ → ℕ) (ps : ℕ → List Block) (g : Numbered s) (gs : (i : ℕ) → i ≤ k → Seg (some (suc i)) s (n i) (ps i)) where
  module _ (prog pre post : List Instruction)
      (cs : List ℕ)
      (l b : ℕ)
      (e : prog ≡ pre ++ (loop l ∷ (s.from l (suc l) b ++ (rep l (suc k) ∷ post))))
      (below : Below l b pre)
      (le : l + suc s.loops ≤ length cs) where
    abbrev tail : List Instruction
    tail = rep l (suc k) ∷ post

    abbrev mid : List Instruction
    mid = pre ++ (loop l ∷ [])

    abbrev q : List Instruction
    q = mid ++ s.from l (suc l) b

    abbrev hi : ℕ
    hi = l + suc s.loops

    fits : l + suc s.loops ≤ hi
    fits = omega arith

    e₂ : prog ≡ q ++ tail
    e₂ = behind_body g prog pre tail cs l b hi e below fits le

    one_pass : (i : ℕ) → i ≤ k → (ds : List ℕ) → length ds ≡ length cs → Pass prog l hi (length mid) (length q) ds (suc i) (n i) (ps i)
    one_pass i h = pass g prog pre tail cs l b hi e below fits le (suc i) (n i) (ps i) (gs i h)

    -- before pass i
    record Ready (i : ℕ) : Type 0 where
      ds : List ℕ
      goes : Goes prog (length pre) cs (1 + sum_to (λ j. n j + 1) i) (join_to ps i) (length mid) (set ds l (suc i))
      kept : Kept l hi cs ds

    ready : (i : ℕ) → i ≤ k → Ready i
    ready zero h = record {
      ds = cs;
      goes = cast (omega arith) refl refl (enter g prog pre tail cs l b hi e below fits le);
      kept = kept_refl l hi cs;
    }
    ready (suc i) h =
        let r : Ready i = ready i (omega arith) in
        let x : Pass prog l hi (length mid) (length q) r.ds (suc i) (n i) (ps i) = one_pass i (omega arith) r.ds r.kept.long in
        record {
          ds = x.ends;
          goes = cast (omega arith) (simp append-nil) refl
              (seq r.goes (seq x.goes (back g prog pre tail cs l b hi e below fits le q (suc k) post x.ends (suc i) e₂ x.count (omega arith))));
          kept = kept_trans r.kept x.kept;
        }

    through : Over prog pre (loop l ∷ (s.from l (suc l) b ++ (rep l (suc k) ∷ []))) cs (1 + sum_to (λ j. n j + 1) (suc k)) (join_to ps (suc k)) l hi
    through =
        let r : Ready k = ready k (omega arith) in
        let x : Pass prog l hi (length mid) (length q) r.ds (suc k) (n k) (ps k) = one_pass k (omega arith) r.ds r.kept.long in
        record {
          ends = x.ends;
          goes = cast (omega arith) (simp append-nil) (simp length-append (omega arith))
              (seq r.goes (seq x.goes (goes_on (suc k) (at q (rep l (suc k)) post e₂) x.count (omega arith))));
          kept = kept_trans r.kept x.kept;
        }

  pub seg_looped : (o : Option ℕ) → Seg o (looped (suc k) s) (1 + sum_to (λ j. n j + 1) (suc k)) (join_to ps (suc k))
  seg_looped o = record {
    numbered = numbered_looped (suc k) g;
    over = λ prog pre post cs L l b e below le known. through prog pre post cs l b (simp append_assoc at e) below le;
  }
