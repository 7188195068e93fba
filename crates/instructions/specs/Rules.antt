-- The rules of refusal 11, and its answer.
-- Assumes nothing.
use Rattle.std.specs.Prelude.{◌≡◌, List, ◌⊎◌, ℕ, ◌<◌, ◌≤◌, length, get_or, Some, None, Result, Ok, Err}
use Rattle.refusals.specs.Limits.{Limits}
use Rattle.refusals.specs.declared.Refusal.{Refusal}
use Rattle.refusals.specs.declared.Refusal.TheVariants.{BadListing}
use Rattle.instructions.specs.declared.Instruction.{Instruction}
use Rattle.instructions.specs.Forms.{loop_of, label_of, block, loop, rep, lb, jmp, njmp}
use Rattle.instructions.specs.Words.{unpacked}

-- instruction i of the listing is x
abbrev pub At : List ℕ → ℕ → Instruction → Type 0
At listing i x = unpacked (get_or listing i 0) ≡ Some x

-- instruction i is a `rep` or a jump that names loop L, with T
pub data Names (listing : List ℕ) (i L T : ℕ) : Type 0 where
  by_rep : At listing i (rep L T) → Names listing i L T
  by_jmp : (B : ℕ) → At listing i (jmp L T B) → Names listing i L T
  by_njmp : (B : ℕ) → At listing i (njmp L T B) → Names listing i L T

-- instruction i is a jump to label B
pub data Jumps (listing : List ℕ) (i B : ℕ) : Type 0 where
  jmp_to : (L T : ℕ) → At listing i (jmp L T B) → Jumps listing i B
  njmp_to : (L T : ℕ) → At listing i (njmp L T B) → Jumps listing i B

-- x is not a to b
abbrev pub Outside : ℕ → ℕ → ℕ → Type 0
Outside a b x = (x < a) ⊎ (b < x)

-- instruction i breaks a rule; marks and `rep`s count wherever they stand in the listing
pub data Breaks (l : Limits) (listing : List ℕ) (i : ℕ) : Type 0 where
  -- number 2,048 and beyond
  beyond : i < length listing → l.instructions ≤ i → Breaks l listing i
  -- a word that is no instruction
  unreadable : i < length listing → unpacked (get_or listing i 0) ≡ None → Breaks l listing i
  -- loop above 63
  high_loop : (x : Instruction) → At listing i x → l.loops ≤ loop_of x → Breaks l listing i
  -- or label above 1,023
  high_label : (x : Instruction) → At listing i x → l.labels ≤ label_of x → Breaks l listing i
  -- a mark already given
  loop_again : (L j : ℕ) → At listing i (loop L) → j < i → At listing j (loop L) → Breaks l listing i
  label_again : (B j : ℕ) → At listing i (lb B) → j < i → At listing j (lb B) → Breaks l listing i
  -- a loop with no later `rep`
  no_rep : (L : ℕ) → At listing i (loop L) → ((j T : ℕ) → i < j → At listing j (rep L T) → ⊥) → Breaks l listing i
  -- or with two (the second)
  second_rep : (L m j S T : ℕ) → At listing m (loop L) → m < j → At listing j (rep L S) → j < i → At listing i (rep L T) → Breaks l listing i
  -- `rep` or a jump naming a loop with no earlier mark
  no_loop : (L T : ℕ) → Names listing i L T → ((j : ℕ) → j < i → At listing j (loop L) → ⊥) → Breaks l listing i
  -- a jump to no mark
  no_label : (B : ℕ) → Jumps listing i B → ((j : ℕ) → At listing j (lb B) → ⊥) → Breaks l listing i
  -- T not 1 to 1,023
  bad_times : (L T : ℕ) → Names listing i L T → Outside 1 l.times T → Breaks l listing i
  -- a block with l not 1 to 999,999 or k above 999,999
  bad_block : (k n : ℕ) → At listing i (block k n) → (Outside 1 l.number n) ⊎ (l.number < k) → Breaks l listing i

-- instruction i is the first that breaks a rule
abbrev pub First : Limits → List ℕ → ℕ → Type 0
First l listing i = Breaks l listing i × ((j : ℕ) → j < i → Breaks l listing j → ⊥)

-- what test 11 must answer: good where no instruction breaks a rule, else the first that does
pub data Right (l : Limits) (listing : List ℕ) : Result (Unit {0}) Refusal → Type 0 where
  good : ((i : ℕ) → Breaks l listing i → ⊥) → Right l listing (Ok tt)
  refused : (i : ℕ) → First l listing i → Right l listing (Err (BadListing i))
