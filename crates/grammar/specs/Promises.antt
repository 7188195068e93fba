-- What the readers of runs, groups and endings promise each other: each answer is that of the definition's reader, at every fuel that suffices.
-- Assumes nothing.
use Rattle.std.specs.Prelude.{◌≡◌, List, ℕ, ◌+◌, ◌-◌, ◌*◌, ◌≤◌, length, drop, Result, Ok, Err}
use Rattle.score.specs.Trees.{Left, Run, nil, ◌▸◌, Ends}
use Rattle.score.specs.Depth.{inner}
use Rattle.score.proofs.Reader.{Ran, ended, halted, Got, item, halted_in, read_run, read_group, read_ends}
use Rattle.grammar.specs.declared.place.Halt.{Halt}
use Rattle.grammar.specs.declared.stretch.Stretch.{Stretch}
use Rattle.grammar.specs.declared.stretch.Begun.{Begun}
use Rattle.grammar.specs.Kinds.{kinds_of}
use Rattle.grammar.specs.Stretches.{summed, begun}

-- fuel for a run from a place
abbrev pub enough : List ℕ → ℕ → ℕ
enough w at = 2 * (length w - at) + 1

-- what was read ends within the signs, not before its start; the place where no score goes on is within them too
abbrev pub Inside : List ℕ → ℕ → Result Stretch Halt → Type 0
Inside w start (Ok x) = (start ≤ x.at) × (x.at ≤ length w)
Inside w start (Err h) = h.at ≤ length w

-- from the tree t on, the definition's reader halts at the same place, or reads a run up to the same place; what is kept of it is that of its tree, where s is that of t
abbrev pub RunAs : List ℕ → ℕ → Stretch → Run → Result Stretch Halt → Ran → Type 0
RunAs w d s t (Ok x) (ended u l) = (l ≡ drop x.at (kinds_of w)) × ((p : ℕ) → s ≡ summed d p t → x ≡ summed d p u)
RunAs w d s t (Err h) (halted l) = l ≡ drop h.at (kinds_of w)
RunAs w d s t _ _ = ⊥

-- the same of a run that stands from place p on, where d are open
abbrev pub RanAs : List ℕ → ℕ → ℕ → Result Stretch Halt → Ran → Type 0
RanAs w d p (Ok x) (ended t l) = (l ≡ drop x.at (kinds_of w)) × (x ≡ summed d p t)
RanAs w d p (Err h) (halted l) = l ≡ drop h.at (kinds_of w)
RanAs w d p _ _ = ⊥

-- the same, where a run that has no item is refused
abbrev pub ItemsAs : List ℕ → ℕ → ℕ → Result Stretch Halt → Ran → Type 0
ItemsAs w d p (Ok x) (ended (r ▸ i) l) = (l ≡ drop x.at (kinds_of w)) × (x ≡ summed d p (r ▸ i))
ItemsAs w d p (Err h) (ended nil l) = l ≡ drop h.at (kinds_of w)
ItemsAs w d p (Err h) (halted l) = l ≡ drop h.at (kinds_of w)
ItemsAs w d p _ _ = ⊥

-- the same of an item
abbrev pub GotAs : List ℕ → ℕ → ℕ → Result Stretch Halt → Got → Type 0
GotAs w d p (Ok x) (item i l) = (l ≡ drop x.at (kinds_of w)) × (x ≡ summed d p (nil ▸ i))
GotAs w d p (Err h) (halted_in l) = l ≡ drop h.at (kinds_of w)
GotAs w d p _ _ = ⊥

-- a run of which s was read
abbrev pub RunIs : List ℕ → ℕ → Stretch → Result Stretch Halt → Type 0
RunIs w d s r = Inside w s.at r × ((f : ℕ) → enough w s.at ≤ f → (t : Run) → RunAs w d s t r (read_run f t (drop s.at (kinds_of w))))

-- a run that begins at a place, and has an item
abbrev pub ItemsIs : List ℕ → ℕ → ℕ → Result Stretch Halt → Type 0
ItemsIs w d at r = Inside w at r × ((f : ℕ) → enough w at ≤ f → ItemsAs w d at r (read_run f nil (drop at (kinds_of w))))

-- a group whose `|:` stands at a place
abbrev pub GroupIs : List ℕ → ℕ → ℕ → Result Stretch Halt → Type 0
GroupIs w d at r = Inside w (at + 1) r × ((f : ℕ) → enough w (at + 1) + 1 ≤ f → GotAs w d at r (read_group f (drop (at + 1) (kinds_of w))))

-- endings after what was begun
abbrev pub EndsIs : List ℕ → ℕ → Begun → Result Stretch Halt → Type 0
EndsIs w d g r =
    Inside w g.at r
    × ((f : ℕ) → enough w g.at + 1 ≤ f → (b p : ℕ) (o : Left) (m : Run) (es : Ends) → inner b o ≡ d → g ≡ begun b p o m es → GotAs w b p r (read_ends f o m es (drop g.at (kinds_of w))))
