-- An instruction as a word of 64 bits.
-- Assumes nothing.
use Rattle.std.specs.Prelude.{ℕ, ◌+◌, ◌*◌, ◌/◌, ◌%◌, ◌^◌, cond, not, ◌&&◌, eqb, ltb, List, ◌++◌, codes, Option, Some, None}
use Rattle.std.specs.Fmt.{decimal}
use Rattle.instructions.specs.declared.Operation.{Operation}
use Rattle.instructions.specs.declared.Operation.TheVariants.{Block, Loop, Repeat, Label, Jump, JumpUnless}
use Rattle.instructions.specs.declared.Instruction.{Instruction}
use Rattle.instructions.specs.declared.NotAnInstruction.{NotAnInstruction}
use Rattle.instructions.specs.Forms.{loop_of, label_of, block, loop, rep, lb, jmp, njmp}

-- from the lowest bit: the kind in 8 bits, the loop in 8, T in 16, the label in 32; 0 where one does not fit
abbrev pub word : ℕ → ℕ → ℕ → ℕ → ℕ
word kind L T B =
    cond
    (ltb L (2 ^ 8) && ltb T (2 ^ 16) && ltb B (2 ^ 32))
    (kind + 2 ^ 8 * L + 2 ^ 16 * T + 2 ^ 32 * B)
    0

-- from the lowest bit: the kind 1 in 8 bits, k and l in 28 each; 0 where one does not fit
abbrev pub block_word : ℕ → ℕ → ℕ
block_word k l = cond (ltb k (2 ^ 28) && ltb l (2 ^ 28)) (1 + 2 ^ 8 * k + 2 ^ 36 * l) 0

-- the word of an operation beside its loop and label; 0 where a number that it does not use is not 0
abbrev pub packing : Operation → ℕ → ℕ → ℕ
packing (Block k l) L B = cond (eqb L 0 && eqb B 0) (block_word k l) 0
packing Loop L B = cond (eqb B 0) (word 2 L 0 0) 0
packing (Repeat T) L B = cond (eqb B 0) (word 3 L T 0) 0
packing Label L B = cond (eqb L 0) (word 4 0 0 B) 0
packing (Jump T) L B = word 5 L T B
packing (JumpUnless T) L B = word 6 L T B

-- the word of an instruction; 0 is the word of none
unfoldable pub packed : Instruction → ℕ
packed i = packing i.operation (loop_of i) (label_of i)

-- the instruction that a word's kind and numbers make
unfoldable pub decoded : ℕ → Instruction
decoded w =
    cond (eqb (w % 2 ^ 8) 1) (block (w / 2 ^ 8 % 2 ^ 28) (w / 2 ^ 36))
    (cond (eqb (w % 2 ^ 8) 2) (loop (w / 2 ^ 8 % 2 ^ 8))
    (cond (eqb (w % 2 ^ 8) 3) (rep (w / 2 ^ 8 % 2 ^ 8) (w / 2 ^ 16 % 2 ^ 16))
    (cond (eqb (w % 2 ^ 8) 4) (lb (w / 2 ^ 32))
    (cond
    (eqb (w % 2 ^ 8) 5)
    (jmp (w / 2 ^ 8 % 2 ^ 8) (w / 2 ^ 16 % 2 ^ 16) (w / 2 ^ 32))
    (njmp (w / 2 ^ 8 % 2 ^ 8) (w / 2 ^ 16 % 2 ^ 16) (w / 2 ^ 32))))))

-- a word is an instruction where it is not 0 and that instruction's packing
unfoldable pub unpacked : ℕ → Option Instruction
unpacked w = cond (not (eqb w 0) && eqb (packed (decoded w)) w) (Some (decoded w)) None

-- what is printed of a word that packs none
abbrev pub not_an_instruction : NotAnInstruction → List ℕ
not_an_instruction e = codes "no instruction has the word " ++ decimal e.0
