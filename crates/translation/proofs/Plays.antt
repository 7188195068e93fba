-- The listing of a score plays the score: run from fresh with room it halts after exactly the score's steps and has played exactly its list; with a smaller allowance it is unfinished after exactly that many steps.
-- Assumes nothing.
use mathlib.Core.Path.{◌≡◌, refl, sym, ap, ap₂, subst, ◌∙◌}
use mathlib.Core.List.{List, [], ◌∷◌, append-nil}
use Prim.Native.Nat.{ℕ, ◌+◌, ◌-◌, ◌≤◌, ◌<◌}
use native.Mathlib.Omega.{arith}
use lib.ListN.{length, replicate, length-replicate, length-map}
use Rattle.refusals.specs.Limits.{Limits}
use Rattle.played.specs.Played.{total}
use Rattle.score.specs.Trees.{Leaf, block}
use Rattle.score.specs.Shapes.{Score, score}
use Rattle.score.specs.Played.{block_of, beats, plays, played}
use Rattle.score.specs.Sums.{total as sum}
use Rattle.score.specs.Steps.{steps}
use Rattle.instructions.specs.declared.Instruction.{Instruction}
use Rattle.machine.specs.Machine.{position, fresh_of, halted, Ran, run}
use Rattle.translation.specs.Listing.{whole_of, code}
use Rattle.translation.proofs.Marks.{below_nil}
use Rattle.translation.proofs.Goes.{Goes}
use Rattle.translation.proofs.Segments.{Over}
use Rattle.translation.proofs.Passes.{blocks}
use Rattle.translation.proofs.Shapes.{shaped, jump_of, same_code, same_marks, shape_seg}
use Rattle.translation.proofs.Halting.{halts, Unfinished, unfinished}

-- the score's beats are the machine's
total_beats : (ls : List Leaf) → total (blocks ls) ≡ sum beats ls
total_beats [] = refl
total_beats (block k l ∷ ls) = ap (λ (n : ℕ). l + n) (total_beats ls)

-- through the whole listing
record Whole (t : Score) (cs : List ℕ) : Type 0 where
  ends : List ℕ
  goes : Goes (code t) 0 cs (steps t) (blocks (plays t)) (length (code t)) ends
  long : length ends ≡ length cs

whole : (t : Score) (cs : List ℕ) → (whole_of t).loops ≤ length cs → Whole t cs
whole (score t h a b c d) cs fits =
    let s : Score = score t h a b c d in
    let seg : List Instruction = (shaped h a b c d).from (jump_of s) 0 0 in
    let is : code s ≡ seg = same_code t h a b c d in
    let n = (same_marks t h a b c d).0 in
    let o : Over (code s) [] seg cs (steps s) (blocks (plays s)) 0 (0 + (shaped h a b c d).loops) =
    (shape_seg t h a b c d).over (code s) [] [] cs (jump_of s) 0 0 (rw (append-nil seg) is) below_nil (omega arith) tt
    in
    record {
      ends = o.ends;
      goes = subst (λ (z : ℕ). Goes (code s) 0 cs (steps s) (blocks (plays s)) z o.ends) (ap length (sym is)) o.goes;
      long = o.kept.long;
    }

-- A run has gone through a score's listing: it has halted at the end, after the score's steps, and has played the score's list.
pub record Played-through (l : Limits) (t : Score) (r : Ran) : Type 0 where
  pub ends : List ℕ
  pub long : length ends ≡ l.loops
  pub done : r ≡ record { stop = halted; steps = steps t; plays = played t; now = position (length (code t)) ends (sum beats (plays t)) }

module _ (l : Limits) (t : Score) (fits : (whole_of t).loops ≤ l.loops) where
  pub plays_through : (n room : ℕ) → steps t ≤ n → length (plays t) ≤ room → Played-through l t (run (code t) n room (fresh_of l))
  plays_through n room x y =
      let zeros : List ℕ = replicate l.loops 0 in
      let long : length zeros ≡ l.loops = length-replicate {A = ℕ} l.loops 0 in
      let w : Whole t zeros = whole t zeros (omega arith) in
      let enough : n ≡ steps t + (n - steps t) = omega arith in
      let wide : room ≡ length (blocks (plays t)) + (room - length (plays t)) = omega (arith, length-map (plays t) block_of) in
      record {
        ends = w.ends;
        long = w.long ∙ long;
        done =
            ap₂ (λ (n room : ℕ). run (code t) n room (fresh_of l)) enough wide
            ∙ halts w.goes (n - steps t) (room - length (plays t))
            ∙ ap (λ (z : ℕ). record { stop = halted; steps = steps t; plays = played t; now = position (length (code t)) w.ends z }) (total_beats (plays t));
      }

  pub unfinished_before : (n room : ℕ) → n < steps t → length (plays t) ≤ room → Unfinished n (run (code t) n room (fresh_of l))
  unfinished_before n room x y =
      unfinished (code t) (steps t) room (fresh_of l) (ap (λ (r : Ran). r.steps) (plays_through (steps t) room (omega arith) y).done) n x
