-- Test 11 as a computation, by the first place of each mark and `rep`; its answer is `Right` (proofs/Listings.antt).
-- Assumes nothing.
use Rattle.std.specs.Prelude.{Bool, false, cond, not, ◌&&◌, List, [], ◌∷◌, ℕ, zero, suc, length, get_or, leb, ltb, eqb, Option, Some, None, Result, Ok, Err}
use Rattle.refusals.specs.Limits.{Limits}
use Rattle.refusals.specs.Said.{Said, said, said_refusal}
use Rattle.refusals.specs.declared.Refusal.{Refusal}
use Rattle.refusals.specs.declared.Refusal.TheVariants.{BadListing}
use Rattle.instructions.specs.declared.Operation.{Operation}
use Rattle.instructions.specs.declared.Operation.TheVariants.{Block, Loop, Repeat, Label, Jump, JumpUnless}
use Rattle.instructions.specs.declared.Instruction.{Instruction}
use Rattle.instructions.specs.declared.listing.Looped.{Looped}
use Rattle.instructions.specs.declared.listing.Checked.{Checked}
use Rattle.instructions.specs.Forms.{loop_of, label_of}
use Rattle.instructions.specs.Words.{unpacked}
use Rattle.instructions.specs.Places.{least, loop_place, rep_place, label_place}

-- x is from a to b
abbrev pub within : ℕ → ℕ → ℕ → Bool
within a b x = leb a x && leb x b

-- instruction i, of n, obeys the rules for its operation; its loop is first marked at m and repeated at r, its label marked at b
abbrev pub obeys : Limits → (n i m r b : ℕ) → Operation → Bool
obeys l n i m r b (Block k t) = within 1 l.number t && leb k l.number
obeys l n i m r b Loop = eqb m i && ltb i r && ltb r n
obeys l n i m r b (Repeat T) = within 1 l.times T && ltb m i && eqb r i
obeys l n i m r b Label = eqb b i
obeys l n i m r b (Jump T) = within 1 l.times T && ltb m i && ltb b n
obeys l n i m r b (JumpUnless T) = within 1 l.times T && ltb m i && ltb b n

-- the same of a word, by tables of those places
abbrev pub kept_by : Limits → (n i : ℕ) → (marks reps labels : ℕ → ℕ) → Option Instruction → Bool
kept_by l n i marks reps labels (Some x) =
    ltb (loop_of x) l.loops
    && ltb (label_of x) l.labels
    && obeys l n i (marks (loop_of x)) (reps (loop_of x)) (labels (label_of x)) x.operation
kept_by l n i marks reps labels None = false

-- instruction i of the listing keeps the rules, where each one before it does
unfoldable pub keeps : Limits → List ℕ → ℕ → Bool
keeps l listing i =
    ltb i l.instructions
    && kept_by l (length listing) i (loop_place listing) (rep_place listing) (label_place listing) (unpacked (get_or listing i 0))

-- the first instruction that does not, the listing's length where there is none
abbrev pub first_break : Limits → List ℕ → ℕ
first_break l listing = least (λ i. not (keeps l listing i)) (length listing)

-- test 11's answer
unfoldable pub test_listing : Limits → List ℕ → Result (Unit {0}) Refusal
test_listing l listing =
    cond
    (ltb (first_break l listing) (length listing))
    (Err (BadListing (first_break l listing)))
    (Ok tt)

-- document 01's number and values for each answer
abbrev pub said_tested : Limits → Result (Unit {0}) Refusal → Said
said_tested l (Ok tt) = said 0 []
said_tested l (Err r) = said_refusal l r

-- f 0 .. f (n - 1)
unfoldable pub table : {A : Type 0} → ℕ → (ℕ → A) → List A
table zero f = []
table (suc n) f = f zero ∷ table n (λ k. f (suc k))

-- where a loop is first marked and first repeated
abbrev pub places : List ℕ → ℕ → Looped
places listing L = record { mark = loop_place listing L; rep = rep_place listing L }

-- the answer, with the places of each loop
unfoldable pub checking : Limits → List ℕ → Checked
checking l listing = record { tested = test_listing l listing; loops = table l.loops (places listing) }
