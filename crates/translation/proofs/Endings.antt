-- An ending is played in the pass whose number it has, and is passed over in any other, two steps beside its own.
-- Assumes nothing.
use mathlib.Core.Path.{◌≡◌, refl, sym, ◌∙◌}
use mathlib.Core.Bool.{Bool, true, false, cond}
use mathlib.Core.List.{List, [], ◌∷◌, ◌++◌, append-nil}
use mathlib.Core.Option.{some}
use mathlib.Core.Logic.{◌≢◌}
use Prim.Native.Nat.{ℕ, suc, ◌+◌, ◌≤◌, ◌<◌}
use native.Mathlib.Omega.{arith}
use lib.ListN.{length, get_or, length-append}
use lib.Dec.{eqb}
use borrow.Author.Tests.{eq-eqb, eqb-true, eqb-false}
use Rattle.played.specs.Played.{Block}
use Rattle.instructions.specs.declared.Instruction.{Instruction}
use Rattle.instructions.specs.Forms.{lb, njmp}
use Rattle.machine.specs.Machine.{label_at, is_label}
use Rattle.translation.specs.Stretches.{Stretch, ending}
use Rattle.translation.proofs.Marks.{found, once_none, once_append, Below, below_more, loop_mark, label_mark, numbers-append, counting, counting_last, Numbered, below_stretch}
use Rattle.translation.proofs.Goes.{Goes, seq, cast, skips, enters, marks_label_lem}
use Rattle.translation.proofs.Segments.{kept_refl, Over, Seg, cut, past, at, behind}

pub numbered_ending : (i : ℕ) {s : Stretch} → Numbered s → Numbered (ending i s)
numbered_ending i {s} g = record {
  loops = λ L l b. rw (numbers-append loop_mark (s.from L l b) (lb (b + s.labels) ∷ []), g.loops L l b, append-nil (counting l s.loops));
  labels = λ L l b. rw (numbers-append label_mark (s.from L l b) (lb (b + s.labels) ∷ []), g.labels L l b) (counting_last b s.labels);
  reps = λ L l b.
      let B : ℕ = b + s.labels in
      let u : List Instruction = s.from L l b in
      once_append (njmp L i B ∷ []) (u ++ (lb B ∷ [])) (omega arith) (omega arith) (once_none l (njmp L i B) (λ k. refl))
      (once_append u (lb B ∷ []) (omega arith) (omega arith) (g.reps L l b) (once_none (l + s.loops) (lb B) (λ k. refl)));
}

module _ {s : Stretch} {v n : ℕ} {ps : List Block} (g : Seg (some v) s n ps) (T : ℕ) where
  module _ (prog pre post : List Instruction)
      (cs : List ℕ)
      (L l b : ℕ)
      (e : prog ≡ pre ++ ((ending T s).from L l b ++ post))
      (below : Below l b pre) where
    abbrev B : ℕ
    B = b + s.labels

    abbrev u : List Instruction
    u = s.from L l b

    abbrev pre₁ : List Instruction
    pre₁ = pre ++ (njmp L T B ∷ [])

    e₀ : prog ≡ pre ++ (njmp L T B ∷ (u ++ (lb B ∷ post)))
    e₀ = cut pre (njmp L T B ∷ u) (lb B ∷ []) post e

    e₁ : prog ≡ pre₁ ++ (u ++ (lb B ∷ post))
    e₁ = past pre (njmp L T B ∷ []) (u ++ (lb B ∷ post)) e₀

    e₂ : prog ≡ (pre₁ ++ u) ++ (lb B ∷ post)
    e₂ = past pre₁ u (lb B ∷ post) e₁

    below₁ : Below l b pre₁
    below₁ = below_more pre (njmp L T B ∷ []) (omega arith) (omega arith) below (once_none l (njmp L T B) (λ k. refl)) (once_none b (njmp L T B) (λ k. refl))

    marked : label_at prog B ≡ length (pre₁ ++ u)
    marked = rw e₂ (found (is_label B) (pre₁ ++ u) (lb B) post ((below_stretch g.numbered L l b pre₁ below₁).labels B (omega arith)) (eq-eqb B B refl))

    the_end : suc (length (pre₁ ++ u)) ≡ length (pre ++ (ending T s).from L l b)
    the_end = simp length-append (omega arith)

    mark : (ds : List ℕ) → Goes prog (length (pre₁ ++ u)) ds 1 [] (length (pre ++ (ending T s).from L l b)) ds
    mark ds = cast refl refl the_end (marks_label_lem B (at (pre₁ ++ u) (lb B) post e₂))

    skip : get_or cs L 0 ≢ T → Over prog pre ((ending T s).from L l b) cs (2 + 0) [] l (l + s.loops)
    skip ne = record {
      ends = cs;
      goes = cast (omega arith) refl refl (seq (skips (length (pre₁ ++ u)) (at pre (njmp L T B) _ e₀) ne marked) (mark cs));
      kept = kept_refl l (l + s.loops) cs;
    }

    play : v ≡ T → L < l → get_or cs L 0 ≡ v → l + s.loops ≤ length cs → Over prog pre ((ending T s).from L l b) cs (2 + n) ps l (l + s.loops)
    play eq lt is le =
        let o : Over prog pre₁ u cs n ps l (l + s.loops) = g.over prog pre₁ (lb B ∷ post) cs L l b e₁ below₁ le (lt, is) in
        record {
          ends = o.ends;
          goes =
              cast
              (omega arith)
              (append-nil ps)
              refl
              (seq (cast refl refl (behind pre (njmp L T B)) (enters (at pre (njmp L T B) _ e₀) (is ∙ eq))) (seq o.goes (mark o.ends)));
          kept = o.kept;
        }

  pub seg_ending : Seg (some v) (ending T s) (2 + cond (eqb v T) n 0) (cond (eqb v T) ps [])
  seg_ending = record {
    numbered = numbered_ending T g.numbered;
    over = λ prog pre post cs L l b e below le known. go prog pre post cs L l b e below le known.0 known.1 (eqb v T) refl;
  }
    where
      go : (prog pre post : List Instruction) (cs : List ℕ) (L l b : ℕ)
          → prog ≡ pre ++ ((ending T s).from L l b ++ post)
          → Below l b pre
          → l + s.loops ≤ length cs
          → L < l
          → get_or cs L 0 ≡ v
          → (t : Bool)
          → eqb v T ≡ t
          → Over prog pre ((ending T s).from L l b) cs (2 + cond t n 0) (cond t ps []) l (l + s.loops)
      go prog pre post cs L l b e below le lt is true t = play prog pre post cs L l b e below (eqb-true v T t) lt is le
      go prog pre post cs L l b e below le lt is false t = skip prog pre post cs L l b e below (λ x. eqb-false v T t (sym is ∙ x))
