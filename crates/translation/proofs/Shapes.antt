-- The listing of each shape is made of runs, a loop played twice, and a loop that is left by a jump; so it keeps to itself, with document 01's steps.
-- Assumes nothing.
use mathlib.Core.Path.{◌≡◌, refl, sym, ap, ◌∙◌}
use mathlib.Core.List.{List, [], ◌∷◌, ◌++◌, append_assoc, append-nil}
use mathlib.Core.Option.{none, some}
use Prim.Native.Nat.{ℕ, suc, ◌+◌}
use native.Mathlib.Nat.{zero-add, add-zero, suc-add, add-suc, add_assoc}
use native.Mathlib.Numerals.{add-one}
use native.Mathlib.Omega.{arith}
use Rattle.played.specs.Played.{Block}
use Rattle.score.specs.Trees.{Run}
use Rattle.score.specs.declared.Shape.{Shape}
use Rattle.score.specs.declared.Shape.TheVariants.{Straight, DaCapo, DalSegno, DaCapoFine, DalSegnoFine, DaCapoCoda, DalSegnoCoda}
use Rattle.score.specs.Times.{Time}
use Rattle.score.specs.Shapes.{Score, score, table, Turn, letter_of, run_of}
use Rattle.score.specs.Played.{run_plays, turns_play, plays}
use Rattle.score.specs.Steps.{steps}
use Rattle.translation.specs.Stretches.{Stretch, ◌⨾◌, looped}
use Rattle.translation.specs.Runs.{run_code}
use Rattle.translation.specs.Listing.{loop_number, label_number, parts_in, whole_of, code}
use Rattle.translation.proofs.Around.{parts_alike}
use Rattle.translation.proofs.Segments.{Seg, seg_cast, seg_seq}
use Rattle.translation.proofs.Leaving.{leaving, seg_leaving}
use Rattle.translation.proofs.Passes.{blocks, blocks-append}
use Rattle.translation.proofs.Trees.{seg_twice, run_seg}

-- a score's listing, by its shape
abbrev pub shaped : Shape → (a b c d : Run) → Stretch
shaped Straight a b c d = run_code a
shaped DaCapo a b c d = looped 2 (run_code a)
shaped DalSegno a b c d = run_code a ⨾ looped 2 (run_code b)
shaped DaCapoFine a b c d = leaving (run_code a) (run_code b)
shaped DalSegnoFine a b c d = run_code a ⨾ leaving (run_code b) (run_code c)
shaped DaCapoCoda a b c d = leaving (run_code a) (run_code b) ⨾ run_code c
shaped DalSegnoCoda a b c d = run_code a ⨾ leaving (run_code b) (run_code c) ⨾ run_code d

-- the jump's loop
abbrev pub jump_of : Score → ℕ
jump_of t = loop_number t (parts_in t)

one_add : (n : ℕ) → 1 + n ≡ suc n
one_add n = omega arith

by_shape : (t : Time) (h : Shape) (a b c d : Run) → (whole_of (score t h a b c d)).from (jump_of (score t h a b c d)) 0 0 ≡ (shaped h a b c d).from (jump_of (score t h a b c d)) 0 0
by_shape t Straight a b c d = simp append-nil
by_shape t DaCapo a b c d = simp zero-add
by_shape t DalSegno a b c d = simp (zero-add, add-zero, add-one)
by_shape t DaCapoFine a b c d = simp (zero-add, add-zero, one_add)
by_shape t DalSegnoFine a b c d = simp (zero-add, add-zero, add-one, suc-add, add_assoc)
by_shape t DaCapoCoda a b c d = simp (zero-add, add-zero, add-one, one_add, suc-add, append_assoc, append-nil)
by_shape t DalSegnoCoda a b c d = simp (zero-add, add-zero, add-one, suc-add, add-suc, add_assoc, append_assoc, append-nil)

pub same_code : (t : Time) (h : Shape) (a b c d : Run) → code (score t h a b c d) ≡ (shaped h a b c d).from (jump_of (score t h a b c d)) 0 0
same_code t h a b c d =
    let s : Score = score t h a b c d in
    parts_alike s (jump_of s) (label_number s (parts_in s)) (parts_in s) 0 (jump_of s) 0 0 ∙ by_shape t h a b c d

-- with as many loops and labels
pub same_marks : (t : Time) (h : Shape) (a b c d : Run)
    → ((whole_of (score t h a b c d)).loops ≡ (shaped h a b c d).loops) × ((whole_of (score t h a b c d)).labels ≡ (shaped h a b c d).labels)
same_marks t Straight a b c d = (omega arith, omega arith)
same_marks t DaCapo a b c d = (omega arith, omega arith)
same_marks t DalSegno a b c d = (omega arith, omega arith)
same_marks t DaCapoFine a b c d = (omega arith, omega arith)
same_marks t DalSegnoFine a b c d = (omega arith, omega arith)
same_marks t DaCapoCoda a b c d = (omega arith, omega arith)
same_marks t DalSegnoCoda a b c d = (omega arith, omega arith)

-- what the turns of a shape play
abbrev turns : Score → List Turn → List Block
turns t [] = []
turns t (x ∷ xs) = blocks (run_plays (run_of t (letter_of x))) ++ turns t xs

turn_blocks : (t : Score) (xs : List Turn) → turns t xs ≡ blocks (turns_play t xs)
turn_blocks t [] = refl
turn_blocks t (x ∷ xs) = ap (λ (u : List Block). blocks (run_plays (run_of t (letter_of x))) ++ u) (turn_blocks t xs) ∙ sym (blocks-append (run_plays (run_of t (letter_of x))) (turns_play t xs))

abbrev Shaped : Shape → Type 0
Shaped h = (t : Time) (a b c d : Run) → Seg none (shaped h a b c d) (steps (score t h a b c d)) (turns (score t h a b c d) (table h).plays)

by_turns : (h : Shape) → Shaped h
by_turns Straight t a b c d = seg_cast (omega arith) (simp append-nil) (run_seg a none)
by_turns DaCapo t a b c d = seg_cast (omega arith) (simp append-nil) (seg_twice none (run_seg a (some 1)) (run_seg a (some 2)))
by_turns DalSegno t a b c d = seg_cast (omega arith) (simp append-nil) (seg_seq (run_seg a none) (seg_twice none (run_seg b (some 1)) (run_seg b (some 2))))
by_turns DaCapoFine t a b c d = seg_cast (omega arith) (simp append-nil) (seg_leaving (run_seg a (some 1)) (run_seg a (some 2)) (run_seg b (some 1)) none)
by_turns DalSegnoFine t a b c d =
    seg_cast (omega arith) (simp append-nil) (seg_seq (run_seg a none) (seg_leaving (run_seg b (some 1)) (run_seg b (some 2)) (run_seg c (some 1)) none))
by_turns DaCapoCoda t a b c d =
    seg_cast (omega arith) (simp (append-nil, append_assoc)) (seg_seq (seg_leaving (run_seg a (some 1)) (run_seg a (some 2)) (run_seg b (some 1)) none) (run_seg c none))
by_turns DalSegnoCoda t a b c d =
    seg_cast (omega arith) (simp (append-nil, append_assoc))
    (seg_seq (run_seg a none) (seg_seq (seg_leaving (run_seg b (some 1)) (run_seg b (some 2)) (run_seg c (some 1)) none) (run_seg d none)))

pub shape_seg : (t : Time) (h : Shape) (a b c d : Run) → Seg none (shaped h a b c d) (steps (score t h a b c d)) (blocks (plays (score t h a b c d)))
shape_seg t h a b c d = seg_cast refl (turn_blocks (score t h a b c d) (table h).plays) (by_turns h t a b c d)
