-- A loop that is left in its second pass by a jump: `loop` A `jmp` B `rep` `lb`, which plays A B A. Fine and ToCoda are this.
-- Assumes nothing.
use mathlib.Core.Path.{◌≡◌, refl, sym, ap, ◌∙◌}
use mathlib.Core.List.{List, [], ◌∷◌, ◌++◌, append_assoc, append-nil}
use mathlib.Core.Option.{Option, some}
use Prim.Native.Nat.{ℕ, suc, ◌+◌, ◌≤◌}
use native.Mathlib.Nat.{add-suc}
use native.Mathlib.Omega.{arith}
use lib.ListN.{length, length-append}
use borrow.Author.Tests.{eq-eqb}
use Rattle.played.specs.Played.{Block}
use Rattle.instructions.specs.declared.Instruction.{Instruction}
use Rattle.instructions.specs.Forms.{loop, rep, lb, jmp}
use Rattle.machine.specs.Machine.{label_at, is_label}
use Rattle.translation.specs.Stretches.{Stretch}
use Rattle.translation.proofs.Marks.{found, once_none, once_mark, once_append, once_swap, once_cast, Below, below_more, loop_mark, label_mark, numbers-append, counting, counting-append, counting_last, Numbered, below_stretch}
use Rattle.translation.proofs.Goes.{seq, cast, passes, jumps, marks_label_lem}
use Rattle.translation.proofs.Segments.{kept_trans, kept_wider, Over, Seg, past, at, behind}
use Rattle.translation.proofs.Loops.{Pass, pass, enter, back, behind_body, below_body}

-- `loop`, s, `jmp` with T 2, t, `rep` with T 2, `lb`
abbrev pub leaving : Stretch → Stretch → Stretch
leaving s t = record {
  loops = suc (s.loops + t.loops);
  labels = suc (s.labels + t.labels);
  from = λ L l b.
      loop l
      ∷ (s.from l (suc l) b
      ++ (jmp l 2 (b + s.labels + t.labels)
      ∷ (t.from l (suc l + s.loops) (b + s.labels) ++ (rep l 2 ∷ lb (b + s.labels + t.labels) ∷ []))));
}

pub numbered_leaving : {s t : Stretch} → Numbered s → Numbered t → Numbered (leaving s t)
numbered_leaving {s} {t} g h = record {
  loops = λ L l b.
      let X : ℕ = b + s.labels + t.labels in
      let u : List Instruction = s.from l (suc l) b in
      let v : List Instruction = t.from l (suc l + s.loops) (b + s.labels) in
      rw
      (numbers-append loop_mark u, numbers-append loop_mark v, g.loops l (suc l) b, h.loops l (suc l + s.loops) (b + s.labels), append-nil (counting (suc l + s.loops) t.loops), counting-append (suc l) s.loops t.loops);
  labels = λ L l b.
      let u : List Instruction = s.from l (suc l) b in
      let v : List Instruction = t.from l (suc l + s.loops) (b + s.labels) in
      rw
      (numbers-append label_mark u, numbers-append label_mark v, g.labels l (suc l) b, h.labels l (suc l + s.loops) (b + s.labels))
      (rw (counting_last (b + s.labels) t.labels) (sym (counting-append b s.labels (suc t.labels)) ∙ ap (counting b) (add-suc s.labels t.labels)));
  reps = λ L l b.
      let X : ℕ = b + s.labels + t.labels in
      let u : List Instruction = s.from l (suc l) b in
      let v : List Instruction = t.from l (suc l + s.loops) (b + s.labels) in
      let hi : ℕ = suc l + s.loops + t.loops in
      once_cast {hi = hi} refl (omega arith)
      (once_append (loop l ∷ []) _ (omega arith) (omega arith) (once_none l (loop l) (λ k. refl))
      (rw (← append_assoc u (jmp l 2 X ∷ v) (rep l 2 ∷ lb X ∷ []))
      (once_swap (u ++ (jmp l 2 X ∷ v)) (rep l 2 ∷ lb X ∷ []) (omega arith) (omega arith)
      (once_append u _ (omega arith) (omega arith) (g.reps l (suc l) b)
      (once_append (jmp l 2 X ∷ []) v (omega arith) (omega arith) (once_none (suc l + s.loops) (jmp l 2 X) (λ k. refl)) (h.reps l (suc l + s.loops) (b + s.labels))))
      (once_append (rep l 2 ∷ []) (lb X ∷ []) (omega arith) (omega arith) (once_mark l (rep l 2) (λ k. refl)) (once_none (suc l) (lb X) (λ k. refl))))));
}

module _ {s t : Stretch} {m m' n : ℕ} {ps ps' qs : List Block} (g : Seg (some 1) s m ps) (g' : Seg (some 2) s m' ps') (h : Seg (some 1) t n qs) where
  module _ (prog pre post : List Instruction)
      (cs : List ℕ)
      (l b : ℕ)
      (e : prog ≡ pre ++ (loop l ∷ (s.from l (suc l) b ++ (jmp l 2 (b + s.labels + t.labels) ∷ (t.from l (suc l + s.loops) (b + s.labels) ++ (rep l 2 ∷ (lb (b + s.labels + t.labels) ∷ post)))))))
      (below : Below l b pre)
      (le : l + suc (s.loops + t.loops) ≤ length cs) where
    abbrev X : ℕ
    X = b + s.labels + t.labels

    abbrev other : List Instruction
    other = t.from l (suc l + s.loops) (b + s.labels)

    abbrev tail : List Instruction
    tail = jmp l 2 X ∷ (other ++ (rep l 2 ∷ (lb X ∷ post)))

    abbrev hi : ℕ
    hi = l + suc (s.loops + t.loops)

    abbrev pre₁ : List Instruction
    pre₁ = pre ++ (loop l ∷ [])

    abbrev pre₂ : List Instruction
    pre₂ = pre₁ ++ s.from l (suc l) b

    abbrev pre₃ : List Instruction
    pre₃ = pre₂ ++ (jmp l 2 X ∷ [])

    abbrev pre₄ : List Instruction
    pre₄ = pre₃ ++ other

    abbrev pre₅ : List Instruction
    pre₅ = pre₄ ++ (rep l 2 ∷ [])

    fits : l + suc s.loops ≤ hi
    fits = omega arith

    e₂ : prog ≡ pre₂ ++ tail
    e₂ = behind_body g.numbered prog pre tail cs l b hi e below fits le

    e₃ : prog ≡ pre₃ ++ (other ++ (rep l 2 ∷ (lb X ∷ post)))
    e₃ = past pre₂ (jmp l 2 X ∷ []) _ e₂

    e₄ : prog ≡ pre₄ ++ (rep l 2 ∷ (lb X ∷ post))
    e₄ = past pre₃ other _ e₃

    e₅ : prog ≡ pre₅ ++ (lb X ∷ post)
    e₅ = past pre₄ (rep l 2 ∷ []) _ e₄

    below₃ : Below (suc l + s.loops) (b + s.labels) pre₃
    below₃ =
        below_more pre₂ (jmp l 2 X ∷ []) (omega arith) (omega arith) (below_body g.numbered prog pre tail cs l b hi e below fits le)
        (once_none (suc l + s.loops) (jmp l 2 X) (λ k. refl))
        (once_none (b + s.labels) (jmp l 2 X) (λ k. refl))

    below₅ : Below (suc l + s.loops + t.loops) X pre₅
    below₅ =
        below_more pre₄ (rep l 2 ∷ []) (omega arith) (omega arith) (below_stretch h.numbered l (suc l + s.loops) (b + s.labels) pre₃ below₃)
        (once_none (suc l + s.loops + t.loops) (rep l 2) (λ k. refl))
        (once_none X (rep l 2) (λ k. refl))

    marked : label_at prog X ≡ length pre₅
    marked = rw e₅ (found (is_label X) pre₅ (lb X) post (below₅.labels X (omega arith)) (eq-eqb X X refl))

    left : Over
        prog
        pre
        (loop l ∷ (s.from l (suc l) b ++ (jmp l 2 X ∷ (other ++ (rep l 2 ∷ lb X ∷ [])))))
        cs
        (m + n + m' + 5)
        (ps ++ (qs ++ ps'))
        l
        hi
    left =
        let x : Pass prog l hi (length pre₁) (length pre₂) cs 1 m ps = pass g.numbered prog pre tail cs l b hi e below fits le 1 m ps g cs refl in
        let y : Over prog pre₃ other x.ends n qs (suc l + s.loops) (suc l + s.loops + t.loops) =
        h.over prog pre₃ (rep l 2 ∷ (lb X ∷ post)) x.ends l (suc l + s.loops) (b + s.labels) e₃ below₃ (omega (arith, x.kept.long)) (omega arith, x.count)
        in
        let z : Pass prog l hi (length pre₁) (length pre₂) y.ends 2 m' ps' =
        pass g.numbered prog pre tail cs l b hi e below fits le 2 m' ps' g' y.ends (y.kept.long ∙ x.kept.long)
        in
        record {
          ends = z.ends;
          goes =
              cast
              (omega arith)
              (simp append-nil)
              (simp length-append (omega arith))
              (seq (enter g.numbered prog pre tail cs l b hi e below fits le)
              (seq x.goes
              (seq (cast refl refl (behind pre₂ (jmp l 2 X)) (passes (at pre₂ (jmp l 2 X) _ e₂) (λ w. omega (arith, x.count))))
              (seq y.goes
              (seq (back g.numbered prog pre tail cs l b hi e below fits le pre₄ 2 (lb X ∷ post) y.ends 1 e₄ (y.kept.same l (λ u v. omega arith) ∙ x.count) (omega arith))
              (seq z.goes
              (seq (jumps (length pre₅) (at pre₂ (jmp l 2 X) _ e₂) z.count marked) (marks_label_lem X (at pre₅ (lb X) post e₅)))))))));
          kept = kept_trans x.kept (kept_trans (kept_wider (omega arith) (omega arith) y.kept) z.kept);
        }

  pub seg_leaving : (o : Option ℕ) → Seg o (leaving s t) (m + n + m' + 5) (ps ++ (qs ++ ps'))
  seg_leaving o = record {
    numbered = numbered_leaving g.numbered h.numbered;
    over = λ prog pre post cs L l b e below le known. left prog pre post cs l b (simp append_assoc at e) below le;
  }
