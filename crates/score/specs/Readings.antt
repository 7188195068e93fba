-- Which trees are scores, which of them reads a list of signs, and what is right to answer for one.
-- Assumes nothing.
use Rattle.std.specs.Prelude.{◌≡◌, Bool, true, false, List, ◌++◌, map, ℕ, zero, suc, ◌≤◌, ◌<◌, length, take, T}
use Rattle.signs.specs.Words.{Unpacked}
use Rattle.std.specs.Prelude.{Some as Packed}
use Rattle.score.specs.Trees.{Left, written, lacking, Run, nil, ◌▸◌, Item, leaf, repeat, group, Ends, no_more, ◌then◌}
use Rattle.score.specs.declared.Shape.{Shape}
use Rattle.score.specs.Shapes.{Letter, A, B, C, D, table, Score, score, letters_of, times}
use Rattle.score.specs.Spelling.{signs_of}

-- one or more items
abbrev pub Some : Run → Type 0
Some nil = ⊥
Some (r ▸ i) = Unit {0}

-- one or more endings before the last, which makes two or more
abbrev pub SomeEnds : Ends → Type 0
SomeEnds no_more = ⊥
SomeEnds (es then e) = Unit {0}

-- A `|:` may lack only at the start of the score.
abbrev pub May : Bool → Left → Type 0
May start written = Unit {0}
May start lacking = T start

-- The run of a repeat that lacks its `|:` stands at the start of the score, and no other run of a repeat does.
abbrev pub inside : Left → Bool
inside written = false
inside lacking = true

-- The first item of a run stands at the start of the score if the run does.
abbrev pub start_after : Bool → Run → Bool
start_after start nil = start
start_after start (r ▸ i) = false

-- The last sign is the `]` of a group.
abbrev pub is_group : Item → Bool
is_group (leaf x) = false
is_group (repeat o r) = false
is_group (group o m es e) = true

abbrev pub ends_in_group : Run → Bool
ends_in_group nil = false
ends_in_group (r ▸ i) = is_group i

-- The last signs are `]` and a `:|` that closes a repeat.
abbrev pub closes_group : Item → Bool
closes_group (leaf x) = false
closes_group (repeat o r) = ends_in_group r
closes_group (group o m es e) = false

abbrev pub ends_closing_group : Run → Bool
ends_closing_group nil = false
ends_closing_group (r ▸ i) = closes_group i

-- What makes a tree good; `start` says that it stands at the start of the score, and that there a `|:` may lack. After M stands `[`, so M may not end in `]` and a `:|` that closes a repeat.
abbrev mutual
  pub Good : Run → Bool → Type 0
  Good nil start = Unit {0}
  Good (r ▸ i) start = Good r start × GoodItem i (start_after start r)

  pub GoodItem : Item → Bool → Type 0
  GoodItem (leaf x) start = Unit {0}
  GoodItem (repeat o r) start = May start o × Some r × Good r (inside o)
  GoodItem (group o m es e) start =
      May start o × Some m × Good m (inside o) × (ends_closing_group m ≡ false) × SomeEnds es × GoodEnds es × Some e × Good e false

  pub GoodEnds : Ends → Type 0
  GoodEnds no_more = Unit {0}
  GoodEnds (es then e) = GoodEnds es × Some e × Good e false

-- A run that its shape has is full and good; one that it lacks is empty. The number says how often the shape has it.
abbrev pub GoodRun : ℕ → Bool → Run → Type 0
GoodRun zero start r = r ≡ nil
GoodRun (suc n) start r = Some r × Good r start

-- how often a shape has a run
abbrev pub has : Shape → Letter → ℕ
has h x = times x (letters_of (table h).signs)

-- A tree is a score; `implied` says whether a `|:` may lack at the start.
abbrev pub Valid : Bool → Score → Type 0
Valid implied (score t h a b c d) = GoodRun (has h A) implied a × GoodRun (has h B) false b × GoodRun (has h C) false c × GoodRun (has h D) false d

-- t is a reading of s, in which a word may be no sign.
pub record Reads (implied : Bool) (s : List Unpacked) (t : Score) : Type 0 where
  pub valid : Valid implied t
  pub same : map Packed (signs_of t) ≡ s

-- Some score begins with s.
pub record Begins (implied : Bool) (s : List Unpacked) : Type 0 where
  pub tree : Score
  pub rest : List Unpacked
  pub reads : Reads implied (s ++ rest) tree

-- the answer for a list of signs: its reading, or the place of the refusal
pub data Answer : Type 0 where
  reading : Score → Answer
  refused : ℕ → Answer

-- Some score begins with the first i signs and none with one sign more; where there is none more, the score is unfinished.
pub record Refused (implied : Bool) (s : List Unpacked) (i : ℕ) : Type 0 where
  pub within : i ≤ length s
  pub before : Begins implied (take i s)
  pub first : i < length s → ¬ (Begins implied (take (suc i) s))
  pub unread : (t : Score) → ¬ (Reads implied s t)

-- what is right to answer
abbrev pub Right : Bool → List Unpacked → Answer → Type 0
Right implied s (reading t) = Reads implied s t × ((u : Score) → Reads implied s u → u ≡ t)
Right implied s (refused i) = Refused implied s i
