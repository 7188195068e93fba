-- The machine that runs a listing: one step, and a run with an allowance and room for what it plays.
-- Assumes nothing.
use Rattle.std.specs.Prelude.{Bool, cond, List, [], ◌∷◌, ◌++◌, ℕ, zero, suc, ◌+◌, eqb, ltb, get_or, set, replicate}
use Rattle.std.proofs.Math.Option.{Option, none, some}
use Rattle.std.proofs.Math.ListN.{get_elem?}
use Rattle.refusals.specs.Limits.{Limits}
use Rattle.played.specs.declared.Played.{Played}
use Rattle.instructions.specs.declared.Operation.{Operation}
use Rattle.instructions.specs.declared.Operation.TheVariants.{Block, Loop, Repeat, Label, Jump, JumpUnless}
use Rattle.instructions.specs.declared.Instruction.{Instruction}
use Rattle.instructions.specs.Forms.{loop_of, label_of}
use Rattle.instructions.specs.Places.{marks_loop, marks_label, is}
use Rattle.machine.specs.declared.Position.{Position}

abbrev pub position : ℕ → List ℕ → ℕ → Position
position n c b = record { next = n; counts = c; beat = b }

-- fresh is all zero
abbrev pub fresh_of : Limits → Position
fresh_of l = position 0 (replicate l.loops 0) 0

-- the place of the first instruction that passes a test, the listing's length where none does
unfoldable pub find : (Instruction → Bool) → List Instruction → ℕ
find f [] = zero
find f (i ∷ is) = cond (f i) zero (suc (find f is))

-- the instruction marks loop L; label B
abbrev pub is_loop : ℕ → Instruction → Bool
is_loop L i = is (marks_loop i.operation (loop_of i)) L

abbrev pub is_label : ℕ → Instruction → Bool
is_label B i = is (marks_label i.operation (label_of i)) B

-- the places of loop L's mark and of label B's in a listing
abbrev pub loop_at : List Instruction → ℕ → ℕ
loop_at listing L = find (is_loop L) listing

abbrev pub label_at : List Instruction → ℕ → ℕ
label_at listing B = find (is_label B) listing

-- one step at a position, of an operation beside loop L and label B: a block is played; `loop` sets its count to 1; `rep` adds one and goes behind the loop's mark while the count is below T; `lb` does nothing; `jmp` goes to its mark if the count is T, and `njmp` if it is not
abbrev pub does : List Instruction → Position → ℕ → ℕ → Operation → Position
does listing p L B (Block k l) = position (suc p.next) p.counts (p.beat + l)
does listing p L B Loop = position (suc p.next) (set p.counts L 1) p.beat
does listing p L B (Repeat T) =
    cond (ltb (get_or p.counts L 0) T)
    (position (suc (loop_at listing L)) (set p.counts L (suc (get_or p.counts L 0))) p.beat)
    (position (suc p.next) p.counts p.beat)
does listing p L B Label = position (suc p.next) p.counts p.beat
does listing p L B (Jump T) = position (cond (eqb (get_or p.counts L 0) T) (label_at listing B) (suc p.next)) p.counts p.beat
does listing p L B (JumpUnless T) = position (cond (eqb (get_or p.counts L 0) T) (suc p.next) (label_at listing B)) p.counts p.beat

unfoldable pub step : List Instruction → Position → Instruction → Position
step listing p i = does listing p (loop_of i) (label_of i) i.operation

-- what an operation plays at a performed beat
abbrev pub plays_at : ℕ → Operation → List Played
plays_at z (Block k l) = record { k = k; l = l; z = z } ∷ []
plays_at z Loop = []
plays_at z (Repeat T) = []
plays_at z Label = []
plays_at z (Jump T) = []
plays_at z (JumpUnless T) = []

unfoldable pub plays : Position → Instruction → List Played
plays p i = plays_at p.beat i.operation

-- the room that an operation leaves; none where it plays a block and there is no room
abbrev pub room_behind : ℕ → Operation → Option ℕ
room_behind zero (Block k l) = none
room_behind (suc r) (Block k l) = some r
room_behind r Loop = some r
room_behind r (Repeat T) = some r
room_behind r Label = some r
room_behind r (Jump T) = some r
room_behind r (JumpUnless T) = some r

-- why a run stops
pub data Stop : Type 0 where
  halted used full : Stop

-- what a run has done: why it stopped, its steps, what it played, and where it then stands
pub record Ran : Type 0 where
  pub stop : Stop
  pub steps : ℕ
  pub plays : List Played
  pub now : Position

abbrev pub stopped : Stop → Position → Ran
stopped s p = record { stop = s; steps = 0; plays = []; now = p }

-- one step before
abbrev pub stepped : List Played → Ran → Ran
stepped ps r = record { stop = r.stop; steps = suc r.steps; plays = ps ++ r.plays; now = r.now }

-- a run with an allowance and room: halted past the last instruction, allowance used, play buffer full, tested in that order before each step
unfoldable pub run : List Instruction → (allowance room : ℕ) → Position → Ran
run listing zero room p = elim (get_elem? listing p.next) [ none ↦ stopped halted p | some i ↦ stopped used p ]
run listing (suc n) room p =
    elim (get_elem? listing p.next) [
      | none ↦ stopped halted p
      | some i ↦ elim (room_behind room i.operation) [ none ↦ stopped full p | some r ↦ stepped (plays p i) (run listing n r (step listing p i)) ]
    ]
