use Rattle.writing.proofs.Lining.{Lining}
use Rattle.writing.proofs.lay_signs.Given as goal

-- i words are laid, and what is left to lay is the text from word i on
abbrev pub invariant-loop-i : goal.invariant-loop-i
invariant-loop-i l = Lining l.words l.initial.page l.page l.i
