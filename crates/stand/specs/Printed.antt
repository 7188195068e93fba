-- What is printed of a run's report.
-- Assumes nothing.
use Rattle.std.specs.Prelude.{List, ◌++◌, ℕ, codes}
use Rattle.std.specs.Fmt.{decimal}
use Rattle.stand.specs.declared.Stop.{Stop}
use Rattle.stand.specs.declared.Stop.TheVariants.{Halted, AllowanceUsed, BufferFull}
use Rattle.stand.specs.declared.Ended.{Ended}

-- why it stopped, as one word
abbrev pub printed_stop : Stop → List ℕ
printed_stop Halted = codes "halted"
printed_stop AllowanceUsed = codes "used"
printed_stop BufferFull = codes "full"

-- the same, the steps, the entries, the next place and the beat, one space between
abbrev pub printed : Ended → List ℕ
printed e =
    printed_stop e.stop
    ++ (codes " " ++ (decimal e.steps ++ (codes " " ++ (decimal e.entries ++ (codes " " ++ (decimal e.position.next ++ (codes " " ++ decimal e.position.beat)))))))
