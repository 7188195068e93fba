-- What the reader of a whole score promises: its answer is that of the definition's reader.
-- Assumes nothing.
use Rattle.std.specs.Prelude.{◌≡◌, true, List, [], ◌∷◌, ℕ, ◌+◌, ◌-◌, ◌≤◌, ◌<◌, length, drop, Option, Some, None, Result, Ok, Err}
use Rattle.std.proofs.Math.Option.{none, some}
use Rattle.std.proofs.Math.Option.{Option as Maybe}
use Rattle.signs.specs.declared.sign.Sign.{Sign}
use Rattle.signs.specs.declared.sign.Sign.TheVariants.{Time}
use Rattle.score.specs.declared.Shape.{Shape}
use Rattle.score.specs.Times.{Time as TimeOf}
use Rattle.score.specs.Shapes.{Score}
use Rattle.score.proofs.Alphabet.{Mark, Kind, mark, mark_sign}
use Rattle.score.proofs.Machine.{State, Edge, find}
use Rattle.score.specs.Trees.{nil, ◌▸◌, Item}
use Rattle.score.specs.Spelling.{time_signs}
use Rattle.score.proofs.Reader.{item, Fin, done, stop, fin_out, fin_on, read_state, start_item, read_score}
use Rattle.grammar.specs.declared.place.Halt.{Halt}
use Rattle.grammar.specs.declared.stretch.Stretch.{Stretch}
use Rattle.grammar.specs.declared.part.Part.{Part}
use Rattle.grammar.specs.declared.part.Part.TheVariants.{A}
use Rattle.grammar.specs.declared.whole.Sofar.{Sofar}
use Rattle.grammar.specs.declared.whole.Whole.{Whole}
use Rattle.grammar.specs.Kinds.{kinds_of, sign_at}
use Rattle.grammar.specs.Tallies.{nothing}
use Rattle.grammar.specs.Stretches.{summed}
use Rattle.grammar.specs.Parts.{leads, finished, sofar, moved_as, ended_as, whole_of, state_sofar, Between}

-- the place of a refusal is within the signs
abbrev pub Within : List ℕ → Result Whole Halt → Type 0
Within w (Ok x) = Unit {0}
Within w (Err h) = h.at ≤ length w

-- the answer is the definition's: a score, of which the figures are kept, or the place where none goes on
abbrev pub FinIs : List ℕ → Result Whole Halt → Fin → Type 0
FinIs w (Ok x) f = (t : Score) × (f ≡ done t) × (x ≡ whole_of t)
FinIs w (Err h) f = f ≡ stop (drop h.at (kinds_of w))

-- on from what was read
abbrev pub FromIs : List ℕ → Sofar → Result Whole Halt → Type 0
FromIs w s r = Within w r × ((n : ℕ) → length w - s.at < n → (u : State) → Between u → s ≡ state_sofar u → FinIs w r (read_state true n u (drop s.at (kinds_of w))))

-- at a sign between runs, or at the end
abbrev pub on_sign : (State → List Kind → Fin) → List Edge → Maybe Score → List Kind → Fin
on_sign F es o [] = fin_out o
on_sign F es o (mark j ∷ l) = fin_on (mark j ∷ l) (find j es) (λ u. F u l)
on_sign F es o (x ∷ l) = stop (x ∷ l)

-- an edge leads where its sign leads, with the run r that was read
abbrev pub Led : Sofar → Stretch → Option Part → Maybe State → Type 0
Led s r (Some p) (some u) = Between u × (moved_as p s r ≡ state_sofar u)
Led s r None none = Unit {0}
Led s r _ _ = ⊥

-- the score ends where it may
abbrev pub Ends : Sofar → Stretch → Option Shape → Maybe Score → Type 0
Ends s r (Some h) (some t) = ended_as h s r ≡ whole_of t
Ends s r None none = Unit {0}
Ends s r _ _ = ⊥

-- what may follow a run of a part
pub record Leaves (s : Sofar) (r : Stretch) (es : List Edge) (o : Maybe Score) : Type 0 where
  pub edges : (j : Mark) → Led s r (leads (mark_sign j) s.part) (find j es)
  pub ends : Ends s r (finished s.part) o

-- a reader that goes on as the definition's does, at some fuel that suffices
pub record GoesOn (w : List ℕ) (q : ℕ) (F : State → List Kind → Fin) (u : State) : Type 0 where
  pub fuel : ℕ
  pub enough : length w - q < fuel
  pub same : F u (drop q (kinds_of w)) ≡ read_state true fuel u (drop q (kinds_of w))

-- behind a run of a part
abbrev pub LeaveIs : List ℕ → Sofar → Stretch → Result Whole Halt → Type 0
LeaveIs w s r x =
    Within w x
    × ((F : State → List Kind → Fin) (es : List Edge) (o : Maybe Score) → ((u : State) → r.at < length w → GoesOn w (r.at + 1) F u) → Leaves s r es o
    → FinIs w x (on_sign F es o (drop r.at (kinds_of w))))

-- the place of the first item: behind a time sign, if one stands first
abbrev pub behind_time : Option Sign → ℕ
behind_time (Some (Time m n)) = 1
behind_time _ = 0

abbrev pub start_at : List ℕ → ℕ
start_at w = behind_time (sign_at w 0)

-- nothing but a time sign was read
abbrev pub opened_as : ℕ → Sofar
opened_as start = sofar start A None nothing nothing

-- behind the first item
abbrev pub RestIs : List ℕ → ℕ → Stretch → Result Whole Halt → Type 0
RestIs w start s x =
    Within w x
    × ((t : TimeOf) (i : Item) → start ≡ length (time_signs t) → s ≡ summed 0 start (nil ▸ i) → FinIs w x (start_item true t (item i (drop s.at (kinds_of w)))))

-- the whole list
abbrev pub ScoreIs : List ℕ → Result Whole Halt → Type 0
ScoreIs w x = Within w x × FinIs w x (read_score true (kinds_of w))
