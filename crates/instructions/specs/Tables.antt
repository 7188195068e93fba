-- What the private functions of test 11 promise of its tables.
-- Assumes nothing.
use Rattle.std.specs.Prelude.{◌≡◌, Bool, true, false, List, ℕ, ◌<◌, ◌≤◌, length, get_or, set, Option}
use Rattle.refusals.specs.Limits.{Limits}
use Rattle.instructions.specs.declared.Operation.{Operation}
use Rattle.instructions.specs.declared.Operation.TheVariants.{Block, Loop, Repeat, Label, Jump, JumpUnless}
use Rattle.instructions.specs.declared.Instruction.{Instruction}
use Rattle.instructions.specs.declared.listing.Looped.{Looped}
use Rattle.instructions.specs.declared.listing.Tables.{Tables}
use Rattle.instructions.specs.Places.{names, loop_mark, loop_repeat, label_mark}

abbrev pub looped : ℕ → ℕ → Looped
looped m r = record { mark = m; rep = r }

-- where loop L is marked and repeated, and label B marked, by the tables
abbrev pub mark_in : Tables → ℕ → ℕ
mark_in t L = (get_or t.loops L (looped 0 0)).mark

abbrev pub rep_in : Tables → ℕ → ℕ
rep_in t L = (get_or t.loops L (looped 0 0)).rep

abbrev pub label_in : Tables → ℕ → ℕ
label_in t B = get_or t.labels B 0

-- the tables with the place i of an operation beside loop L and label B
abbrev pub put_in : Tables → (i L B : ℕ) → Operation → Tables
put_in t i L B (Block k l) = t
put_in t i L B Loop = record { loops = set t.loops L (looped i (rep_in t L)); labels = t.labels }
put_in t i L B (Repeat T) = record { loops = set t.loops L (looped (mark_in t L) i); labels = t.labels }
put_in t i L B Label = record { loops = t.loops; labels = set t.labels B i }
put_in t i L B (Jump T) = t
put_in t i L B (JumpUnless T) = t

-- m is the first number from i to n at which f holds, n where there is none
pub record FirstFrom (f : ℕ → Bool) (i n m : ℕ) : Type 0 where
  pub low : i ≤ m
  pub high : m ≤ n
  pub before : (j : ℕ) → i ≤ j → j < m → f j ≡ false
  pub found : m < n → f m ≡ true

-- each of these places is the first from i on that names its number so
abbrev pub FirstPlaces : (Option Instruction → Option ℕ) → List ℕ → (i count : ℕ) → (ℕ → ℕ) → Type 0
FirstPlaces named listing i count places =
    (x : ℕ) → x < count → FirstFrom (names named listing x) i (length listing) (places x)

-- the tables are as long as the limits say, and filled from i on
pub record Filled (l : Limits) (listing : List ℕ) (i : ℕ) (t : Tables) : Type 0 where
  pub loops_long : length t.loops ≡ l.loops
  pub labels_long : length t.labels ≡ l.labels
  pub marks : FirstPlaces loop_mark listing i l.loops (mark_in t)
  pub reps : FirstPlaces loop_repeat listing i l.loops (rep_in t)
  pub labels : FirstPlaces label_mark listing i l.labels (label_in t)
