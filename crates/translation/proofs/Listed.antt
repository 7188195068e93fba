-- The listing of every score within the limits passes test 11.
-- Assumes nothing.
use mathlib.Core.Path.{◌≡◌, refl, ap, ◌∙◌}
use mathlib.Core.List.{List, [], map}
use Prim.Native.Nat.{ℕ, suc, ◌*◌, ◌≤◌}
use native.Mathlib.Nat.{zero-add}
use native.Mathlib.Omega.{arith}
use lib.ListN.{length, length-map}
use Rattle.refusals.specs.Limits.{Limits, document01}
use Rattle.score.specs.Trees.{Run}
use Rattle.score.specs.declared.Shape.{Shape}
use Rattle.score.specs.Times.{Time}
use Rattle.score.specs.Shapes.{Score, score}
use Rattle.instructions.specs.declared.Instruction.{Instruction}
use Rattle.std.specs.Prelude.{Ok}
use Rattle.instructions.specs.Words.{packed}
use Rattle.instructions.specs.Test.{test_listing}
use Rattle.translation.specs.Listing.{code, listing_of}
use Rattle.translation.specs.Within.{Within}
use Rattle.translation.proofs.Marks.{once_cast, Numbered, once_loops, once_labels}
use Rattle.translation.proofs.Shapes.{shaped, jump_of, same_code, same_marks, shape_seg}
use Rattle.translation.proofs.Packs.{Packs}
use Rattle.translation.proofs.Tested.{Tidy, passes_test}
use Rattle.translation.proofs.Sizes.{shape_sized, short}
use Rattle.translation.proofs.SoundTrees.{score_stands}

-- the limits of a listing have room for what the limits of a score allow
pub record Roomy (m : Limits) : Type 0 where
  pub packs : Packs m
  pub two : 2 ≤ m.times
  pub times : m.signs ≤ suc m.times
  pub instructions : 2 * m.signs ≤ m.instructions
  pub labels : m.signs ≤ m.labels
  pub some_loops : 1 ≤ m.loops
  pub some_labels : 1 ≤ m.labels

pub roomy : Roomy document01
roomy = record {
  packs = record { loops = omega arith; times = omega arith; labels = omega arith; number = omega arith };
  two = omega arith;
  times = omega arith;
  instructions = omega arith;
  labels = omega arith;
  some_loops = omega arith;
  some_labels = omega arith;
}

module _ (m : Limits) (room : Roomy m) where
  tidy : (t : Time) (h : Shape) (a b c d : Run)
      → Within m (score t h a b c d)
      → Tidy m ((shaped h a b c d).from (jump_of (score t h a b c d)) 0 0) (shaped h a b c d).loops (shaped h a b c d).labels
  tidy t h a b c d w =
      let s : Score = score t h a b c d in
      let L : ℕ = jump_of s in
      let exact = (shape_sized h t a b c d).exact L 0 0 in
      let few = (shape_sized h t a b c d).few in
      let once : Numbered (shaped h a b c d) = (shape_seg t h a b c d).numbered in
      let top : ℕ = (shaped h a b c d).labels in
      let n = (same_marks t h a b c d).0 in
      let signs = w.signs in
      let loops = w.loops in
      record {
        short = omega (arith, room.instructions);
        some_loops = room.some_loops;
        some_labels = room.some_labels;
        labels_low = omega (arith, room.labels);
        sounds = score_stands m top room.two t h a b c d (omega (arith, room.times)) w.numbers [] L 0 0 tt (omega arith) (omega arith);
        loops = once_cast refl (zero-add _) (once_loops once L 0 0);
        reps = once_cast refl (zero-add _) (once.reps L 0 0);
        labels = once_cast refl (zero-add _) (once_labels once L 0 0);
      }

  pub passes_11 : (t : Score) → Within m t → test_listing m (listing_of t) ≡ Ok tt
  passes_11 (score t h a b c d) w = ap (λ (p : List Instruction). test_listing m (map packed p)) (same_code t h a b c d) ∙ passes_test room.packs (tidy t h a b c d w)

-- The listing of a score within document 01's limits passes test 11, and has at most 2,048 instructions.
pub good_listing : (t : Score) → Within document01 t → (test_listing document01 (listing_of t) ≡ Ok tt) × (length (listing_of t) ≤ document01.instructions)
good_listing t w = (passes_11 document01 roomy t w, let s = short t in let n = length-map (code t) packed in let k = w.signs in omega arith)
