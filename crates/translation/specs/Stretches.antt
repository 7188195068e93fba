-- Stretches of a listing, whose loops and labels are numbered in the order of their marks.
-- Assumes nothing.
use Rattle.std.specs.Prelude.{List, [], ◌∷◌, ◌++◌, ℕ, suc, ◌+◌}
use Rattle.instructions.specs.declared.Instruction.{Instruction}
use Rattle.instructions.specs.Forms.{loop, rep, lb, njmp}

-- A stretch has so many loop marks and label marks, and its instructions from the number of the loop around it, the first free loop and the first free label.
pub record Stretch : Type 0 where
  pub loops : ℕ
  pub labels : ℕ
  pub from : (around loop label : ℕ) → List Instruction

abbrev pub empty : Stretch
empty = record { loops = 0; labels = 0; from = λ L l b. [] }

-- one instruction, and the loops and labels that it marks
abbrev pub single : ℕ → ℕ → Instruction → Stretch
single n m i = record { loops = n; labels = m; from = λ L l b. i ∷ [] }

-- a stretch and then another
abbrev pub ◌⨾◌ : Stretch → Stretch → Stretch
s ⨾ t = record {
  loops = s.loops + t.loops;
  labels = s.labels + t.labels;
  from = λ L l b. s.from L l b ++ t.from L (l + s.loops) (b + s.labels);
}

-- `loop`, the stretch, `rep` with T
abbrev pub looped : ℕ → Stretch → Stretch
looped T s = record { loops = suc s.loops; labels = s.labels; from = λ L l b. loop l ∷ (s.from l (suc l) b ++ (rep l T ∷ [])) }

-- ending i of the loop around it: `njmp L,i,B`, ending, `lb B`
abbrev pub ending : ℕ → Stretch → Stretch
ending i s = record {
  loops = s.loops;
  labels = suc s.labels;
  from = λ L l b. njmp L i (b + s.labels) ∷ (s.from L l b ++ (lb (b + s.labels) ∷ []));
}

infixr 40 ◌⨾◌
