-- Loops, and labels apart, are numbered from 0 in the order of their marks.
-- Assumes nothing.
use mathlib.Core.Path.{◌≡◌, sym, ap, ◌∙◌}
use Rattle.score.specs.Shapes.{Score, score}
use Rattle.translation.specs.Listing.{whole_of, code}
use Rattle.translation.proofs.Marks.{loop_mark, label_mark, numbers, counting}
use Rattle.translation.proofs.Shapes.{jump_of, same_code, same_marks, shape_seg}

pub loops_in_order : (t : Score) → numbers loop_mark (code t) ≡ counting 0 (whole_of t).loops
loops_in_order (score t h a b c d) =
    ap (numbers loop_mark) (same_code t h a b c d)
    ∙ (shape_seg t h a b c d).numbered.loops (jump_of (score t h a b c d)) 0 0
    ∙ ap (counting 0) (sym (same_marks t h a b c d).0)

pub labels_in_order : (t : Score) → numbers label_mark (code t) ≡ counting 0 (whole_of t).labels
labels_in_order (score t h a b c d) =
    ap (numbers label_mark) (same_code t h a b c d)
    ∙ (shape_seg t h a b c d).numbered.labels (jump_of (score t h a b c d)) 0 0
    ∙ ap (counting 0) (sym (same_marks t h a b c d).1)
