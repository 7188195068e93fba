-- Where the marks and the `rep`s of a listing stand.
-- Assumes nothing.
use Rattle.std.specs.Prelude.{Bool, false, cond, List, ℕ, zero, suc, length, get_or, eqb, Option, Some, None}
use Rattle.instructions.specs.declared.Operation.{Operation}
use Rattle.instructions.specs.declared.Operation.TheVariants.{Block, Loop, Repeat, Label, Jump, JumpUnless}
use Rattle.instructions.specs.declared.Instruction.{Instruction}
use Rattle.instructions.specs.Forms.{loop_of, label_of}
use Rattle.instructions.specs.Words.{unpacked}

-- the first number below n at which f holds, n where there is none
unfoldable pub least : (ℕ → Bool) → ℕ → ℕ
least f zero = zero
least f (suc n) = cond (f zero) zero (suc (least (λ k. f (suc k)) n))

-- the loop that an operation beside loop L marks
abbrev pub marks_loop : Operation → ℕ → Option ℕ
marks_loop (Block k l) L = None
marks_loop Loop L = Some L
marks_loop (Repeat T) L = None
marks_loop Label L = None
marks_loop (Jump T) L = None
marks_loop (JumpUnless T) L = None

-- the loop that an operation beside loop L repeats
abbrev pub repeats_loop : Operation → ℕ → Option ℕ
repeats_loop (Block k l) L = None
repeats_loop Loop L = None
repeats_loop (Repeat T) L = Some L
repeats_loop Label L = None
repeats_loop (Jump T) L = None
repeats_loop (JumpUnless T) L = None

-- the label that an operation beside label B marks
abbrev pub marks_label : Operation → ℕ → Option ℕ
marks_label (Block k l) B = None
marks_label Loop B = None
marks_label (Repeat T) B = None
marks_label Label B = Some B
marks_label (Jump T) B = None
marks_label (JumpUnless T) B = None

-- the same of what a word is
abbrev pub loop_mark : Option Instruction → Option ℕ
loop_mark (Some x) = marks_loop x.operation (loop_of x)
loop_mark None = None

abbrev pub loop_repeat : Option Instruction → Option ℕ
loop_repeat (Some x) = repeats_loop x.operation (loop_of x)
loop_repeat None = None

abbrev pub label_mark : Option Instruction → Option ℕ
label_mark (Some x) = marks_label x.operation (label_of x)
label_mark None = None

-- whether it is this number
abbrev pub is : Option ℕ → ℕ → Bool
is (Some a) b = eqb a b
is None b = false

-- whether instruction i of the listing names x so
abbrev pub names : (Option Instruction → Option ℕ) → List ℕ → ℕ → ℕ → Bool
names named listing x i = is (named (unpacked (get_or listing i 0))) x

-- the first instruction that does, the listing's length where there is none
abbrev pub first_place : (Option Instruction → Option ℕ) → List ℕ → ℕ → ℕ
first_place named listing x = least (names named listing x) (length listing)

abbrev pub loop_place : List ℕ → ℕ → ℕ
loop_place = first_place loop_mark

abbrev pub rep_place : List ℕ → ℕ → ℕ
rep_place = first_place loop_repeat

abbrev pub label_place : List ℕ → ℕ → ℕ
label_place = first_place label_mark
