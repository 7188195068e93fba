-- `stand::program::Program::turn`: one law for each way to return.
use Rattle.stand.proofs.Arms.{no_block}
use Rattle.stand.proofs.Turning.{passes, writes, stands}
use Rattle.stand.proofs.program.Program.turn.Goals.{in-Block-2, in_default-operation}
use Rattle.stand.proofs.program.Program.turn.Goals as goal

pub returns : goal.returns
returns c =
    let h = c.in-Some.ensures.lookup in
    let s = stands c.in-Some.word.now c.args.allowance h.3.0 (h.3.1 0) c.decode-instruction.ensures c.if-allowance-eq0.false c.requires in
    elim c.match-instruction.branch [
      | in-Block-2 w ↦ rw w.entry-is (writes s _ _ c.if-allowance-eq0.false _ _ _ c.args.self.now.good w.in-Block-2.is w.if-room-eq0.false c.execute.ensures)
      | in_default-operation w ↦ rw w.entry-is (passes s _ _ c.if-allowance-eq0.false _ (no_block _ w.in_default-operation.not-Block) c.execute.ensures)
    ]
