-- The translation of runs, items and endings.
-- Assumes nothing.
use Rattle.std.specs.Prelude.{suc}
use Rattle.instructions.specs.declared.Instruction.{Instruction}
use Rattle.score.specs.Trees.{Leaf, Run, nil, ◌▸◌, Item, leaf, repeat, group, Ends, no_more, ◌then◌}
use Rattle.score.specs.Trees.{block as written-block}
use Rattle.score.specs.Steps.{count}
use Rattle.instructions.specs.Forms.{block}
use Rattle.translation.specs.Stretches.{Stretch, empty, single, ◌⨾◌, looped, ending}

-- what plays a leaf
abbrev pub leaf_code : Leaf → Instruction
leaf_code (written-block k l) = block k l

-- A plain repeat is `loop`, run, `rep` with T 2; a group of n is `loop`, M, its endings numbered from 1, then `rep` with T n. An item that lacks its `|:` stands at the start of the score, and so does its `loop`.
abbrev mutual
  pub run_code : Run → Stretch
  run_code nil = empty
  run_code (r ▸ i) = run_code r ⨾ item_code i

  pub item_code : Item → Stretch
  item_code (leaf x) = single 0 0 (leaf_code x)
  item_code (repeat o r) = looped 2 (run_code r)
  item_code (group o m es e) = looped (suc (count es)) (run_code m ⨾ ends_code es ⨾ ending (suc (count es)) (run_code e))

  pub ends_code : Ends → Stretch
  ends_code no_more = empty
  ends_code (es then e) = ends_code es ⨾ ending (suc (count es)) (run_code e)
