-- The listing of a score.
-- Assumes nothing.
use Rattle.std.specs.Prelude.{List, [], ◌∷◌, map, ℕ, ◌+◌}
use Rattle.instructions.specs.declared.Instruction.{Instruction}
use Rattle.instructions.specs.Forms.{loop, rep, lb, jmp}
use Rattle.instructions.specs.Words.{packed}
use Rattle.score.specs.Shapes.{table, Score, shape_of, run_of}
use Rattle.translation.specs.Stretches.{Stretch, empty, single, ◌⨾◌}
use Rattle.translation.specs.Runs.{run_code}
use Rattle.translation.specs.Jumps.{Part, the_run, the_loop, the_rep, the_jmp, the_lb, parts_of}

-- a part of the listing, the jump's loop being L and its label B
abbrev pub part_code : Score → (L B : ℕ) → Part → Stretch
part_code t L B (the_run x) = run_code (run_of t x)
part_code t L B the_loop = single 1 0 (loop L)
part_code t L B the_rep = single 0 0 (rep L 2)
part_code t L B the_jmp = single 0 0 (jmp L 2 B)
part_code t L B the_lb = single 0 1 (lb B)

abbrev pub parts_code : Score → (L B : ℕ) → List Part → Stretch
parts_code t L B [] = empty
parts_code t L B (p ∷ ps) = part_code t L B p ⨾ parts_code t L B ps

-- the jump's loop has the number of loops that are marked before it, and its label that of labels
abbrev pub loop_number : Score → List Part → ℕ
loop_number t [] = 0
loop_number t (the_run x ∷ ps) = (run_code (run_of t x)).loops + loop_number t ps
loop_number t (the_loop ∷ ps) = 0
loop_number t (the_rep ∷ ps) = loop_number t ps
loop_number t (the_jmp ∷ ps) = loop_number t ps
loop_number t (the_lb ∷ ps) = loop_number t ps

abbrev pub label_number : Score → List Part → ℕ
label_number t [] = 0
label_number t (the_run x ∷ ps) = (run_code (run_of t x)).labels + label_number t ps
label_number t (the_loop ∷ ps) = label_number t ps
label_number t (the_rep ∷ ps) = label_number t ps
label_number t (the_jmp ∷ ps) = label_number t ps
label_number t (the_lb ∷ ps) = 0

abbrev pub parts_in : Score → List Part
parts_in t = parts_of (table (shape_of t)).signs

-- the whole, with as many loops and labels as it marks
abbrev pub whole_of : Score → Stretch
whole_of t = parts_code t (loop_number t (parts_in t)) (label_number t (parts_in t)) (parts_in t)

-- the listing: loops, and labels apart, are numbered from 0; no loop is around the whole, and no instruction names the one that is given
abbrev pub code : Score → List Instruction
code t = (whole_of t).from 0 0 0

-- the listing as words
abbrev pub listing_of : Score → List ℕ
listing_of t = map packed (code t)
