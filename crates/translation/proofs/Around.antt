-- A run's instructions name no loop around the run.
-- Assumes nothing.
use mathlib.Core.Path.{◌≡◌, refl, ap₂}
use mathlib.Core.List.{List, [], ◌∷◌, ◌++◌}
use Prim.Native.Nat.{ℕ, ◌+◌}
use Rattle.score.specs.Trees.{Run, nil, ◌▸◌, Item, leaf, repeat, group}
use Rattle.score.specs.Shapes.{Score, run_of}
use Rattle.instructions.specs.declared.Instruction.{Instruction}
use Rattle.translation.specs.Stretches.{Stretch, ◌⨾◌}
use Rattle.translation.specs.Runs.{run_code, item_code}
use Rattle.translation.specs.Jumps.{Part, the_run, the_loop, the_rep, the_jmp, the_lb}
use Rattle.translation.specs.Listing.{part_code, parts_code}

-- a stretch is the same whatever loop is around it
abbrev pub Alike : Stretch → Type 0
Alike s = (L M l b : ℕ) → s.from L l b ≡ s.from M l b

alike_seq : (s t : Stretch) → Alike s → Alike t → Alike (s ⨾ t)
alike_seq s t g h L M l b = ap₂ (λ (u v : List Instruction). u ++ v) (g L M l b) (h L M (l + s.loops) (b + s.labels))

item_alike : (i : Item) → Alike (item_code i)
item_alike (leaf x) L M l b = refl
item_alike (repeat o r) L M l b = refl
item_alike (group o m es e) L M l b = refl

pub run_alike : (r : Run) → Alike (run_code r)
run_alike nil = λ L M l b. refl
run_alike (r ▸ i) = alike_seq (run_code r) (item_code i) (run_alike r) (item_alike i)

part_alike : (t : Score) (L B : ℕ) (p : Part) → Alike (part_code t L B p)
part_alike t L B (the_run x) = run_alike (run_of t x)
part_alike t L B the_loop = λ L M l b. refl
part_alike t L B the_rep = λ L M l b. refl
part_alike t L B the_jmp = λ L M l b. refl
part_alike t L B the_lb = λ L M l b. refl

pub parts_alike : (t : Score) (L B : ℕ) (ps : List Part) → Alike (parts_code t L B ps)
parts_alike t L B [] = λ L M l b. refl
parts_alike t L B (p ∷ ps) = alike_seq (part_code t L B p) (parts_code t L B ps) (part_alike t L B p) (parts_alike t L B ps)
