-- Listings of small scores: document 01's, one for each shape, nested and implied ones, and a group with three endings.
-- Assumes nothing.
use mathlib.Core.Path.{◌≡◌, refl}
use mathlib.Core.List.{List, [], ◌∷◌, map}
use Rattle.score.specs.Trees.{Left, written, lacking, Run, nil, ◌▸◌, Item, leaf, repeat, group, no_more, ◌then◌}
use Rattle.score.specs.Trees.{block as written-block}
use Rattle.score.specs.declared.Shape.{Shape}
use Rattle.score.specs.declared.Shape.TheVariants.{Straight, DaCapo, DalSegno, DaCapoFine, DalSegnoFine, DaCapoCoda, DalSegnoCoda}
use Rattle.std.specs.Prelude.{None as Untimed}
use Rattle.score.specs.Shapes.{Score, score}
use Rattle.instructions.specs.declared.Instruction.{Instruction}
use Rattle.instructions.specs.Forms.{block, loop, rep, lb, jmp, njmp}
use Rattle.translation.specs.Listing.{code}

-- four blocks, and each alone as a run
abbrev a : Item
a = leaf (written-block 0 4)

abbrev b : Item
b = leaf (written-block 4 4)

abbrev c : Item
c = leaf (written-block 8 4)

abbrev d : Item
d = leaf (written-block 12 4)

abbrev alone : Item → Run
alone i = nil ▸ i

-- a group of two endings
abbrev two : Left → Item → Item → Item → Item
two o m e f = group o (alone m) (no_more then alone e) (alone f)

record Row : Type 0 where
  tree : Score
  listing : List Instruction

abbrev row : Shape → Run → Run → Run → Run → List Instruction → Row
row h a b c d l = record { tree = score Untimed h a b c d; listing = l }

abbrev rows : List Row
rows =
    -- a :| b
    row Straight (nil ▸ repeat lacking (alone a) ▸ b) nil nil nil (loop 0 ∷ block 0 4 ∷ rep 0 2 ∷ block 4 4 ∷ [])
    -- |: a |: b :| c :| d
    ∷ row Straight (nil ▸ repeat written (nil ▸ a ▸ repeat written (alone b) ▸ c) ▸ d) nil nil nil
    (loop 0 ∷ block 0 4 ∷ loop 1 ∷ block 4 4 ∷ rep 1 2 ∷ block 8 4 ∷ rep 0 2 ∷ block 12 4 ∷ [])
    -- a :| b :| c
    ∷ row Straight (nil ▸ repeat lacking (nil ▸ repeat lacking (alone a) ▸ b) ▸ c) nil nil nil
    (loop 0 ∷ loop 1 ∷ block 0 4 ∷ rep 1 2 ∷ block 4 4 ∷ rep 0 2 ∷ block 8 4 ∷ [])
    -- a [ b ] :| [ c ] :| [ d ]
    ∷ row Straight (alone (group lacking (alone a) (no_more then alone b then alone c) (alone d))) nil nil nil
    (loop 0 ∷ block 0 4 ∷ njmp 0 1 0 ∷ block 4 4 ∷ lb 0 ∷ njmp 0 2 1 ∷ block 8 4 ∷ lb 1 ∷ njmp 0 3 2 ∷ block 12 4 ∷ lb 2 ∷ rep 0 3 ∷ [])
    -- a [ b ] :| [ c ] d :|
    ∷ row Straight (alone (repeat lacking (nil ▸ two lacking a b c ▸ d))) nil nil nil
    (loop 0 ∷ loop 1 ∷ block 0 4 ∷ njmp 1 1 0 ∷ block 4 4 ∷ lb 0 ∷ njmp 1 2 1 ∷ block 8 4 ∷ lb 1 ∷ rep 1 2 ∷ block 12 4 ∷ rep 0 2 ∷ [])
    -- |: a [ |: b [ c ] :| [ d ] ] :| [ a ]
    ∷ row Straight (alone (two written a (two written b c d) a)) nil nil nil
    (loop 0 ∷ block 0 4 ∷ njmp 0 1 2 ∷ loop 1 ∷ block 4 4 ∷ njmp 1 1 0 ∷ block 8 4 ∷ lb 0 ∷ njmp 1 2 1 ∷ block 12 4 ∷ lb 1 ∷ rep 1 2 ∷ lb 2 ∷ njmp 0 2 3 ∷ block 0 4 ∷ lb 3 ∷ rep 0 2 ∷ [])
    -- a :| DC
    ∷ row DaCapo (alone (repeat lacking (alone a))) nil nil nil (loop 0 ∷ loop 1 ∷ block 0 4 ∷ rep 1 2 ∷ rep 0 2 ∷ [])
    -- a :| Segno b DS
    ∷ row DalSegno (alone (repeat lacking (alone a))) (alone b) nil nil (loop 0 ∷ block 0 4 ∷ rep 0 2 ∷ loop 1 ∷ block 4 4 ∷ rep 1 2 ∷ [])
    -- a Fine |: b [ c ] :| [ d ] DC.Fine
    ∷ row DaCapoFine (alone a) (alone (two written b c d)) nil nil
    (loop 0 ∷ block 0 4 ∷ jmp 0 2 2 ∷ loop 1 ∷ block 4 4 ∷ njmp 1 1 0 ∷ block 8 4 ∷ lb 0 ∷ njmp 1 2 1 ∷ block 12 4 ∷ lb 1 ∷ rep 1 2 ∷ rep 0 2 ∷ lb 2 ∷ [])
    -- a Segno b Fine c DS.Fine
    ∷ row DalSegnoFine (alone a) (alone b) (alone c) nil (block 0 4 ∷ loop 0 ∷ block 4 4 ∷ jmp 0 2 0 ∷ block 8 4 ∷ rep 0 2 ∷ lb 0 ∷ [])
    -- a ToCoda b DC.Coda Coda c
    ∷ row DaCapoCoda (alone a) (alone b) (alone c) nil (loop 0 ∷ block 0 4 ∷ jmp 0 2 0 ∷ block 4 4 ∷ rep 0 2 ∷ lb 0 ∷ block 8 4 ∷ [])
    -- a [ b ] :| [ c ] Segno b ToCoda c DS.Coda Coda d
    ∷ row DalSegnoCoda (alone (two lacking a b c)) (alone b) (alone c) (alone d)
    (loop 0 ∷ block 0 4 ∷ njmp 0 1 0 ∷ block 4 4 ∷ lb 0 ∷ njmp 0 2 1 ∷ block 8 4 ∷ lb 1 ∷ rep 0 2 ∷ loop 1 ∷ block 4 4 ∷ jmp 1 2 2 ∷ block 8 4 ∷ rep 1 2 ∷ lb 2 ∷ block 12 4 ∷ [])
    ∷ []

-- Each row's listing is its score's.
examples : map (λ r. code r.tree) rows ≡ map (λ r. r.listing) rows
examples = refl
