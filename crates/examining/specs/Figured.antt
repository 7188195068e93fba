-- The figures of a score that was read, over what is kept of it and its words.
-- Assumes nothing.
use Rattle.std.specs.Prelude.{Bool, true, false, List, ℕ, ◌+◌, Option, Some, None, option_and_then, slice_get}
use Rattle.std.specs.List.{count_by}
use Rattle.signs.specs.declared.sign.Sign.{Sign}
use Rattle.signs.specs.declared.sign.Sign.TheVariants.{Block, Time}
use Rattle.signs.specs.Words.{sign_of}
use Rattle.score.specs.Times.{Time as TimeOf}
use Rattle.score.specs.declared.Shape.{Shape}
use Rattle.score.specs.declared.Figures.{Figures}
use Rattle.score.specs.Shapes.{table}
use Rattle.score.specs.Sizes.{between, sign_loops, sign_labels}
use Rattle.grammar.specs.declared.tally.Tally.{Tally}
use Rattle.grammar.specs.declared.whole.Whole.{Whole}
use Rattle.grammar.specs.Tallies.{capped, tally, joined}

-- what the signs between the runs of a shape come to
abbrev pub marks : Shape → Tally
marks h = tally (between sign_loops (table h).signs) 0 (between sign_labels (table h).signs) 0 0 (table h).steps

-- a score as it is written: the loops and labels are those of its listing
abbrev pub written_of : Whole → Tally
written_of x = joined x.once (marks x.shape)

-- a score as it is played, with the run that is replayed
abbrev pub played_of : Whole → Tally
played_of x = joined (written_of x) x.again

-- a block is one instruction; a loop two, its mark and its `rep`; a label two, its mark and the jump to it
abbrev pub instructions : ℕ → Tally → ℕ
instructions n t = capped (n + capped (capped (t.loops + t.labels) + capped (t.loops + t.labels)))

abbrev pub time_sign : Option Sign → TimeOf
time_sign (Some (Time m n)) = Some (m, n)
time_sign _ = None

-- the time sign that stands first, if one does
abbrev pub time_in : List ℕ → TimeOf
time_in w = time_sign (option_and_then sign_of (slice_get w 0))

-- a sign is a block
abbrev pub is_block : Option Sign → Bool
is_block (Some (Block k l)) = true
is_block _ = false

-- the blocks of words
abbrev pub blocks_in : List ℕ → ℕ
blocks_in = count_by (λ x. is_block (sign_of x))

-- what a score is of which x is kept, whose beats written are b
abbrev pub figured : List ℕ → Whole → ℕ → Figures
figured w x b =
    record {
      shape = x.shape;
      time = time_in w;
      loops = (written_of x).loops;
      implied = (written_of x).implied;
      labels = (written_of x).labels;
      instructions = instructions (blocks_in w) (written_of x);
      blocks = (played_of x).blocks;
      written = b;
      beats = (played_of x).beats;
      steps = (played_of x).steps;
    }
