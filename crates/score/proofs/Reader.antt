-- The reader: readers of runs, groups and endings that call each other, of the first run, and of a whole score. What is left of the signs stands for a place.
-- Assumes nothing.
use mathlib.Core.Bool.{Bool, true, false}
use mathlib.Core.Option.{Option, none, some}
use mathlib.Core.List.{List, [], ◌∷◌, map}
use Prim.Native.Nat.{ℕ, zero, suc, ◌+◌, ◌-◌}
use lib.ListN.{length}
use Rattle.signs.specs.Words.{Unpacked}
use Rattle.score.specs.Trees.{Left, written, lacking, Run, nil, ◌▸◌, Item, leaf, repeat, group, Ends, no_more, ◌then◌}
use Rattle.score.specs.Times.{Time}
use Rattle.std.specs.Prelude.{None as Untimed, Some as Timed}
use Rattle.score.specs.Shapes.{Score}
use Rattle.score.specs.Readings.{is_group, Answer, reading, refused}
use Rattle.score.proofs.Alphabet.{Kind, plays, time, opens, closes, left, right, mark, strange, kind_of}
use Rattle.score.proofs.Machine.{Part, in_a, Wait, bot, in_rep, in_end, State, at, half, sep, wait, edges, wait_edges, find, finish_part, finish}

-- a run that ended before what is left, or where no score goes on
pub data Ran : Type 0 where
  ended : Run → List Kind → Ran
  halted : List Kind → Ran

pub data Got : Type 0 where
  item : Item → List Kind → Got
  halted_in : List Kind → Got

abbrev pub on_item : (Item → List Kind → Ran) → Got → Ran
on_item f (item i l) = f i l
on_item f (halted_in l) = halted l

-- after the run of a `|:`: `:|` closes it, `[` begins its endings
abbrev pub after_run : (Run → List Kind → Got) → Ran → Got
after_run f (halted l) = halted_in l
after_run f (ended nil l) = halted_in l
after_run f (ended (r ▸ i) []) = halted_in []
after_run f (ended (r ▸ i) (plays q ∷ s)) = halted_in (plays q ∷ s)
after_run f (ended (r ▸ i) (time k l ∷ s)) = halted_in (time k l ∷ s)
after_run f (ended (r ▸ i) (opens ∷ s)) = halted_in (opens ∷ s)
after_run f (ended (r ▸ i) (closes ∷ s)) = item (repeat written (r ▸ i)) s
after_run f (ended (r ▸ i) (left ∷ s)) = f (r ▸ i) s
after_run f (ended (r ▸ i) (right ∷ s)) = halted_in (right ∷ s)
after_run f (ended (r ▸ i) (mark j ∷ s)) = halted_in (mark j ∷ s)
after_run f (ended (r ▸ i) (strange ∷ s)) = halted_in (strange ∷ s)

-- what stands after a `[`, if the next sign is one
abbrev pub continues_left : List Kind → Option (List Kind)
continues_left [] = none
continues_left (plays q ∷ s) = none
continues_left (time k l ∷ s) = none
continues_left (opens ∷ s) = none
continues_left (closes ∷ s) = none
continues_left (left ∷ s) = some s
continues_left (right ∷ s) = none
continues_left (mark j ∷ s) = none
continues_left (strange ∷ s) = none

-- what stands after `:|` `[`, if the next signs are these
abbrev pub continues : List Kind → Option (List Kind)
continues [] = none
continues (plays q ∷ s) = none
continues (time k l ∷ s) = none
continues (opens ∷ s) = none
continues (closes ∷ s) = continues_left s
continues (left ∷ s) = none
continues (right ∷ s) = none
continues (mark j ∷ s) = none
continues (strange ∷ s) = none

-- where the reader halts, if a `:|` may stand here but only before a `[`
abbrev pub past : List Kind → List Kind
past [] = []
past (plays q ∷ s) = plays q ∷ s
past (time k l ∷ s) = time k l ∷ s
past (opens ∷ s) = opens ∷ s
past (closes ∷ s) = s
past (left ∷ s) = left ∷ s
past (right ∷ s) = right ∷ s
past (mark j ∷ s) = mark j ∷ s
past (strange ∷ s) = strange ∷ s

-- after a `]`
abbrev pub after_right : (List Kind → Got) → Left → Run → Ends → Run → List Kind → Option (List Kind) → Got
after_right f o m es e l (some s) = f s
after_right f o m no_more e l none = halted_in (past l)
after_right f o m (es then d) e l none = item (group o m (es then d) e) l

-- where the reader halts at a `:|` that closes nothing: a `[` could follow it after a group
abbrev pub past_if : Bool → List Kind → List Kind
past_if true l = past l
past_if false l = l

-- after the run of an ending
abbrev pub after_end : (Run → List Kind → Got) → Left → Run → Ends → Ran → Got
after_end f o m es (halted l) = halted_in l
after_end f o m es (ended nil l) = halted_in l
after_end f o m es (ended (r ▸ i) []) = halted_in []
after_end f o m es (ended (r ▸ i) (plays q ∷ s)) = halted_in (plays q ∷ s)
after_end f o m es (ended (r ▸ i) (time k l ∷ s)) = halted_in (time k l ∷ s)
after_end f o m es (ended (r ▸ i) (opens ∷ s)) = halted_in (opens ∷ s)
after_end f o m es (ended (r ▸ i) (closes ∷ s)) = halted_in (past_if (is_group i) (closes ∷ s))
after_end f o m es (ended (r ▸ i) (left ∷ s)) = halted_in (left ∷ s)
after_end f o m es (ended (r ▸ i) (right ∷ s)) = after_right (f (r ▸ i)) o m es (r ▸ i) s (continues s)
after_end f o m es (ended (r ▸ i) (mark j ∷ s)) = halted_in (mark j ∷ s)
after_end f o m es (ended (r ▸ i) (strange ∷ s)) = halted_in (strange ∷ s)

-- a run of which r has been read, what follows a `|:`, and what follows the `[` of an ending
abbrev mutual
  pub read_run : ℕ → Run → List Kind → Ran
  read_run zero r s = halted s
  read_run (suc n) r [] = ended r []
  read_run (suc n) r (plays q ∷ s) = read_run n (r ▸ leaf q) s
  read_run (suc n) r (time k l ∷ s) = ended r (time k l ∷ s)
  read_run (suc n) r (opens ∷ s) = on_item (λ i l. read_run n (r ▸ i) l) (read_group n s)
  read_run (suc n) r (closes ∷ s) = ended r (closes ∷ s)
  read_run (suc n) r (left ∷ s) = ended r (left ∷ s)
  read_run (suc n) r (right ∷ s) = ended r (right ∷ s)
  read_run (suc n) r (mark j ∷ s) = ended r (mark j ∷ s)
  read_run (suc n) r (strange ∷ s) = ended r (strange ∷ s)

  pub read_group : ℕ → List Kind → Got
  read_group zero s = halted_in s
  read_group (suc n) s = after_run (λ m l. read_ends n written m no_more l) (read_run n nil s)

  pub read_ends : ℕ → Left → Run → Ends → List Kind → Got
  read_ends zero o m es s = halted_in s
  read_ends (suc n) o m es s = after_end (λ e l. read_ends n o m (es then e) l) o m es (read_run n nil s)

-- the end of a run in which no `|:` may lack: a sign between runs, or the end of the signs
abbrev pub part_end : Ran → Ran
part_end (halted l) = halted l
part_end (ended nil l) = halted l
part_end (ended (r ▸ i) []) = ended (r ▸ i) []
part_end (ended (r ▸ i) (plays q ∷ l)) = halted (plays q ∷ l)
part_end (ended (r ▸ i) (time x y ∷ l)) = halted (time x y ∷ l)
part_end (ended (r ▸ i) (opens ∷ l)) = halted (opens ∷ l)
part_end (ended (r ▸ i) (closes ∷ l)) = halted (past_if (is_group i) (closes ∷ l))
part_end (ended (r ▸ i) (left ∷ l)) = halted (left ∷ l)
part_end (ended (r ▸ i) (right ∷ l)) = halted (right ∷ l)
part_end (ended (r ▸ i) (mark j ∷ l)) = ended (r ▸ i) (mark j ∷ l)
part_end (ended (r ▸ i) (strange ∷ l)) = halted (strange ∷ l)

-- the first run, in which a `|:` may lack: `:|` closes all that was read, `[` begins endings after it
abbrev pub after_first : (Run → List Kind → Ran) → (Run → List Kind → Got) → Ran → Ran
after_first F G (halted l) = halted l
after_first F G (ended nil l) = halted l
after_first F G (ended (r ▸ i) []) = ended (r ▸ i) []
after_first F G (ended (r ▸ i) (plays q ∷ l)) = halted (plays q ∷ l)
after_first F G (ended (r ▸ i) (time x y ∷ l)) = halted (time x y ∷ l)
after_first F G (ended (r ▸ i) (opens ∷ l)) = halted (opens ∷ l)
after_first F G (ended (r ▸ i) (closes ∷ l)) = F (nil ▸ repeat lacking (r ▸ i)) l
after_first F G (ended (r ▸ i) (left ∷ l)) = on_item (λ j s. F (nil ▸ j) s) (G (r ▸ i) l)
after_first F G (ended (r ▸ i) (right ∷ l)) = halted (right ∷ l)
after_first F G (ended (r ▸ i) (mark j ∷ l)) = ended (r ▸ i) (mark j ∷ l)
after_first F G (ended (r ▸ i) (strange ∷ l)) = halted (strange ∷ l)

abbrev pub read_implied : ℕ → Run → List Kind → Ran
read_implied zero r s = halted s
read_implied (suc n) r s = after_first (λ q l. read_implied n q l) (λ m l. read_ends n lacking m no_more l) (read_run n r s)

abbrev pub read_first : Bool → ℕ → Run → List Kind → Ran
read_first true n r s = read_implied n r s
read_first false n r s = part_end (read_run n r s)

-- a score that was read, or what is left where none goes on
pub data Fin : Type 0 where
  done : Score → Fin
  stop : List Kind → Fin

abbrev pub fin_out : Option Score → Fin
fin_out none = stop []
fin_out (some t) = done t

abbrev pub fin_on : List Kind → Option State → (State → Fin) → Fin
fin_on l none f = stop l
fin_on l (some s) f = f s

-- enough for every call
abbrev pub fuel : List Kind → ℕ
fuel l = length l + length l + 2

-- after a run of a part: where the sign leads, or the end
abbrev pub leave_part : (State → List Kind → Fin) → Part → Ran → Fin
leave_part F p (halted l) = stop l
leave_part F p (ended r []) = fin_out (finish_part p r)
leave_part F p (ended r (plays q ∷ l)) = stop (plays q ∷ l)
leave_part F p (ended r (time x y ∷ l)) = stop (time x y ∷ l)
leave_part F p (ended r (opens ∷ l)) = stop (opens ∷ l)
leave_part F p (ended r (closes ∷ l)) = stop (closes ∷ l)
leave_part F p (ended r (left ∷ l)) = stop (left ∷ l)
leave_part F p (ended r (right ∷ l)) = stop (right ∷ l)
leave_part F p (ended r (mark j ∷ l)) = fin_on (mark j ∷ l) (find j (edges p r)) (λ u. F u l)
leave_part F p (ended r (strange ∷ l)) = stop (strange ∷ l)

abbrev pub wait_on : Bool → (State → List Kind → Fin) → Wait → List Kind → Fin
wait_on implied F w [] = fin_out (finish implied (wait w))
wait_on implied F w (plays q ∷ l) = stop (plays q ∷ l)
wait_on implied F w (time x y ∷ l) = stop (time x y ∷ l)
wait_on implied F w (opens ∷ l) = stop (opens ∷ l)
wait_on implied F w (closes ∷ l) = stop (closes ∷ l)
wait_on implied F w (left ∷ l) = stop (left ∷ l)
wait_on implied F w (right ∷ l) = stop (right ∷ l)
wait_on implied F w (mark j ∷ l) = fin_on (mark j ∷ l) (find j (wait_edges w)) (λ u. F u l)
wait_on implied F w (strange ∷ l) = stop (strange ∷ l)

-- on from a sign between runs
abbrev pub read_state : Bool → ℕ → State → List Kind → Fin
read_state implied zero u l = stop l
read_state implied (suc n) (at (bot p) r) l = leave_part (λ u k. read_state implied n u k) p (part_end (read_run (fuel l) nil l))
read_state implied (suc n) (at (in_rep b K) r) l = stop l
read_state implied (suc n) (at (in_end o b m es K) r) l = stop l
read_state implied (suc n) (half K o b m e) l = stop l
read_state implied (suc n) (sep K o b m es e) l = stop l
read_state implied (suc n) (wait w) l = wait_on implied (λ u k. read_state implied n u k) w l

abbrev pub from : Bool → State → List Kind → Fin
from implied u l = read_state implied (suc (length l)) u l

-- from the first item of a score on
abbrev pub start_item : Bool → Time → Got → Fin
start_item implied t (item i l) = leave_part (from implied) (in_a t) (read_first implied (fuel l) (nil ▸ i) l)
start_item implied t (halted_in l) = stop l

abbrev pub read_start : Bool → Time → List Kind → Fin
read_start implied t [] = stop []
read_start implied t (plays q ∷ l) = start_item implied t (item (leaf q) l)
read_start implied t (time x y ∷ l) = stop (time x y ∷ l)
read_start implied t (opens ∷ l) = start_item implied t (read_group (fuel l) l)
read_start implied t (closes ∷ l) = stop (closes ∷ l)
read_start implied t (left ∷ l) = stop (left ∷ l)
read_start implied t (right ∷ l) = stop (right ∷ l)
read_start implied t (mark j ∷ l) = stop (mark j ∷ l)
read_start implied t (strange ∷ l) = stop (strange ∷ l)

abbrev pub read_score : Bool → List Kind → Fin
read_score implied [] = read_start implied Untimed []
read_score implied (plays q ∷ l) = read_start implied Untimed (plays q ∷ l)
read_score implied (time x y ∷ l) = read_start implied (Timed (x, y)) l
read_score implied (opens ∷ l) = read_start implied Untimed (opens ∷ l)
read_score implied (closes ∷ l) = read_start implied Untimed (closes ∷ l)
read_score implied (left ∷ l) = read_start implied Untimed (left ∷ l)
read_score implied (right ∷ l) = read_start implied Untimed (right ∷ l)
read_score implied (mark j ∷ l) = read_start implied Untimed (mark j ∷ l)
read_score implied (strange ∷ l) = read_start implied Untimed (strange ∷ l)

-- the place of what is left
abbrev pub answer : List Kind → Fin → Answer
answer l (done t) = reading t
answer l (stop k) = refused (length l - length k)

-- the reader
abbrev pub read : Bool → List Unpacked → Answer
read implied s = answer (map kind_of s) (read_score implied (map kind_of s))
