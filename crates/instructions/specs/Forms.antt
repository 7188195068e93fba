-- Document 01's six instructions, as it spells them: (b,k,l), (loop,L), (rep,L,T), (lb,B), (jmp,L,T,B), (njmp,L,T,B).
-- Assumes nothing.
use Rattle.std.specs.Prelude.{ℕ}
use Rattle.instructions.specs.declared.Operation.{Operation}
use Rattle.instructions.specs.declared.Operation.TheVariants.{Block, Loop, Repeat, Label, Jump, JumpUnless}
use Rattle.instructions.specs.declared.Instruction.{Instruction}

-- an operation beside its loop and label numbers
abbrev pub beside : Operation → ℕ → ℕ → Instruction
beside operation L B = record { operation = operation; loop_number = L; label_number = B }

abbrev pub loop_of : Instruction → ℕ
loop_of i = i.loop_number

abbrev pub label_of : Instruction → ℕ
label_of i = i.label_number

abbrev pub block : ℕ → ℕ → Instruction
block k l = beside (Block k l) 0 0

abbrev pub loop : ℕ → Instruction
loop L = beside Loop L 0

abbrev pub rep : ℕ → ℕ → Instruction
rep L T = beside (Repeat T) L 0

abbrev pub lb : ℕ → Instruction
lb B = beside Label 0 B

abbrev pub jmp : ℕ → ℕ → ℕ → Instruction
jmp L T B = beside (Jump T) L B

abbrev pub njmp : ℕ → ℕ → ℕ → Instruction
njmp L T B = beside (JumpUnless T) L B
