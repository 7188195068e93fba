-- Text laid into a buffer, as far as there is room.
-- Assumes nothing.
use Rattle.std.specs.Prelude.{◌≡◌, List, ◌++◌, ℕ, ◌+◌, ◌^◌, ◌<◌, ◌≤◌, length, take, drop}
use Rattle.writing.specs.declared.page.Page.{Page}

-- with this text laid behind what it had, the page `old` has become `new`
pub record Laid (old : Page) (text : List ℕ) (new : Page) : Type 0 where
  pub same_buffer : new.out.ghost_name ≡ old.out.ghost_name
  pub same_room : length new.out.now ≡ length old.out.now
  pub place : old.at + length text < 2 ^ 64 → new.at ≡ old.at + length text
  pub content : old.at + length text < 2 ^ 64 → old.at + length text ≤ length old.out.now → new.out.now ≡ take old.at old.out.now ++ text ++ drop (old.at + length text) old.out.now

-- with this text at its front, the buffer `old` has become `new`
abbrev pub Holds : List ℕ → List ℕ → List ℕ → Type 0
Holds old text new = length text ≤ length old → new ≡ text ++ drop (length text) old
