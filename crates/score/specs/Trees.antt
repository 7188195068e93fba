-- The trees of a score: runs, items and endings, as document 01's grammar names them.
-- Assumes nothing.
use Rattle.std.specs.Prelude.{ℕ}

-- What an item plays by itself: a block of l beats from beat k on.
pub data Leaf : Type 0 where
  block : ℕ → ℕ → Leaf

-- Whether the `|:` of a repeat or a group is written, or lacks and acts as if it stood at the start of the score.
pub data Left : Type 0 where
  written lacking : Left

-- A run is a row of items, from the left. An item is a leaf, a plain repeat of a run, or an ending group: its run M, the endings that a `:|` follows, and the last ending.
mutual
  pub data Run : Type 0 where
    nil : Run
    ◌▸◌ : Run → Item → Run

  pub data Item : Type 0 where
    leaf : Leaf → Item
    repeat : Left → Run → Item
    group : Left → Run → Ends → Run → Item

  pub data Ends : Type 0 where
    no_more : Ends
    ◌then◌ : Ends → Run → Ends

infixl 45 ◌▸◌ ◌then◌
