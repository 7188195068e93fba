-- A reader that takes one sign at a time. Its state holds the trees that are under way.
-- Assumes nothing.
use mathlib.Core.Bool.{Bool, true, false}
use mathlib.Core.Option.{Option, none, some}
use mathlib.Core.List.{List, [], ◌∷◌}
use Prim.Native.Nat.{ℕ, suc}
use Rattle.score.specs.Trees.{Left, written, lacking, Run, nil, ◌▸◌, leaf, repeat, group, Ends, no_more, ◌then◌}
use Rattle.score.specs.declared.Shape.TheVariants.{Straight, DaCapo, DalSegno, DaCapoFine, DalSegnoFine, DaCapoCoda, DalSegnoCoda}
use Rattle.score.specs.Times.{Time}
use Rattle.std.specs.Prelude.{None as Untimed, Some as Timed}
use Rattle.score.specs.Shapes.{Score, score}
use Rattle.score.specs.Readings.{Answer, reading, refused}
use Rattle.score.proofs.Alphabet.{Mark, to_dc, to_dc_coda, to_dc_fine, to_ds, to_ds_coda, to_ds_fine, at_segno, at_coda, at_to_coda, at_fine, Mark-discrete, Kind, plays, time, opens, closes, left, right, mark, strange}

-- the part of a shape that is being read, with the runs before it
pub data Later : Type 0 where
  in_b_ds in_b_fine in_b_coda : Time → Run → Later
  in_c_fine in_c_coda in_c_dc : Time → Run → Run → Later
  in_d : Time → Run → Run → Run → Later

pub data Part : Type 0 where
  in_a : Time → Part
  later : Later → Part

-- where no run stands
pub data Wait : Type 0 where
  coda_dc : Time → Run → Run → Wait
  coda_ds : Time → Run → Run → Run → Wait
  over : Score → Wait

-- what is open around the run that is being read, the innermost first
pub data Stack : Type 0 where
  bot : Part → Stack
  in_rep : Run → Stack → Stack
  in_end : Left → Run → Run → Ends → Stack → Stack

pub data State : Type 0 where
  at : Stack → Run → State
  half : Stack → Left → Run → Run → Run → State
  sep : Stack → Left → Run → Run → Ends → Run → State
  wait : Wait → State

pub data Found : Type 0 where
  found : Left → Run → Stack → Found

abbrev pub start : State
start = at (bot (in_a Untimed)) nil

-- the repeat that a `:|` or a `[` would belong to
abbrev pub lack : Bool → Time → Option Found
lack true t = some (found lacking nil (bot (in_a t)))
lack false t = none

abbrev pub opening : Bool → Stack → Option Found
opening implied (bot (in_a t)) = lack implied t
opening implied (bot (later p)) = none
opening implied (in_rep b K) = some (found written b K)
opening implied (in_end o b m es K) = none

abbrev pub close : Run → Option Found → Option State
close r none = none
close r (some (found o b K)) = some (at K (b ▸ repeat o r))

abbrev pub enter : Run → Option Found → Option State
enter r none = none
enter r (some (found o b K)) = some (at (in_end o b r no_more K) nil)

abbrev pub end_at : Stack → Run → Option State
end_at (bot p) r = none
end_at (in_rep b K) r = none
end_at (in_end o b m no_more K) r = some (half K o b m r)
end_at (in_end o b m (es then e) K) r = some (at K (b ▸ group o m (es then e) r))

abbrev pub on_closes : Bool → Stack → Run → Option State
on_closes implied K nil = none
on_closes implied K (b ▸ leaf q) = close (b ▸ leaf q) (opening implied K)
on_closes implied K (b ▸ repeat o r) = close (b ▸ repeat o r) (opening implied K)
on_closes implied K (b ▸ group o m es e) = some (sep K o b m es e)

-- a time sign stands at the very start
abbrev pub on_time_part : ℕ → ℕ → Part → Option State
on_time_part m n (in_a Untimed) = some (at (bot (in_a (Timed (m, n)))) nil)
on_time_part m n (in_a (Timed (k, l))) = none
on_time_part m n (later p) = none

abbrev pub on_time : ℕ → ℕ → Stack → Run → Option State
on_time m n (bot p) nil = on_time_part m n p
on_time m n (bot p) (r ▸ i) = none
on_time m n (in_rep b K) r = none
on_time m n (in_end o b q es K) r = none

-- where each mark leads from a part
pub data Edge : Type 0 where
  ◌to◌ : Mark → State → Edge

infix 70 ◌to◌
abbrev pub later_edges : Later → Run → List Edge
later_edges (in_b_ds t a) r =
    to_ds to wait (over (score t DalSegno a r nil nil)) ∷ at_fine to at (bot (later (in_c_fine t a r))) nil ∷ at_to_coda to at (bot (later (in_c_coda t a r))) nil ∷ []
later_edges (in_b_fine t a) r = to_dc_fine to wait (over (score t DaCapoFine a r nil nil)) ∷ []
later_edges (in_b_coda t a) r = to_dc_coda to wait (coda_dc t a r) ∷ []
later_edges (in_c_fine t a b) r = to_ds_fine to wait (over (score t DalSegnoFine a b r nil)) ∷ []
later_edges (in_c_coda t a b) r = to_ds_coda to wait (coda_ds t a b r) ∷ []
later_edges (in_c_dc t a b) r = []
later_edges (in_d t a b c) r = []

abbrev pub edges : Part → Run → List Edge
edges (in_a t) r =
    to_dc to wait (over (score t DaCapo r nil nil nil)) ∷ at_segno to at (bot (later (in_b_ds t r))) nil ∷ at_fine to at (bot (later (in_b_fine t r))) nil ∷ at_to_coda to at (bot (later (in_b_coda t r))) nil ∷ []
edges (later p) r = later_edges p r

abbrev pub wait_edges : Wait → List Edge
wait_edges (coda_dc t a b) = at_coda to at (bot (later (in_c_dc t a b))) nil ∷ []
wait_edges (coda_ds t a b c) = at_coda to at (bot (later (in_d t a b c))) nil ∷ []
wait_edges (over t) = []

abbrev pub when-yes {ℓ} : {A : Type ℓ} → Dec A → State → Option State → Option State
when-yes (yes e) s o = some s
when-yes (no e) s o = o

abbrev pub find : Mark → List Edge → Option State
find j [] = none
find j ((i to s) ∷ l) = when-yes (Mark-discrete j i) s (find j l)

abbrev pub leave : Mark → Stack → Run → Option State
leave j (bot p) r = find j (edges p r)
leave j (in_rep b K) r = none
leave j (in_end o b m es K) r = none

abbrev pub if_some : Run → Option State → Option State
if_some nil o = none
if_some (r ▸ i) o = o

abbrev pub step : Bool → Kind → Stack → Run → Option State
step implied (plays q) K r = some (at K (r ▸ leaf q))
step implied (time m n) K r = on_time m n K r
step implied opens K r = some (at (in_rep r K) nil)
step implied closes K r = on_closes implied K r
step implied left K r = if_some r (enter r (opening implied K))
step implied right K r = if_some r (end_at K r)
step implied (mark j) K r = if_some r (leave j K r)
step implied strange K r = none

-- the `:|` after a group closed the repeat around it
abbrev pub shut : Bool → Kind → Run → Option Found → Option State
shut implied x r none = none
shut implied x r (some (found o b K)) = step implied x K (b ▸ repeat o r)

abbrev pub settle : Bool → Kind → Stack → Left → Run → Run → Ends → Run → Option State
settle implied x K o b m no_more e = none
settle implied x K o b m (es then f) e = shut implied x (b ▸ group o m (es then f) e) (opening implied K)

abbrev pub next : Bool → State → Kind → Option State
next implied (at K r) x = step implied x K r
next implied (half K o b m e) (plays q) = none
next implied (half K o b m e) (time k l) = none
next implied (half K o b m e) opens = none
next implied (half K o b m e) closes = some (sep K o b m no_more e)
next implied (half K o b m e) left = none
next implied (half K o b m e) right = none
next implied (half K o b m e) (mark j) = none
next implied (half K o b m e) strange = none
next implied (sep K o b m es e) (plays q) = settle implied (plays q) K o b m es e
next implied (sep K o b m es e) (time k l) = settle implied (time k l) K o b m es e
next implied (sep K o b m es e) opens = settle implied opens K o b m es e
next implied (sep K o b m es e) closes = settle implied closes K o b m es e
next implied (sep K o b m es e) left = some (at (in_end o b m (es then e) K) nil)
next implied (sep K o b m es e) right = settle implied right K o b m es e
next implied (sep K o b m es e) (mark j) = settle implied (mark j) K o b m es e
next implied (sep K o b m es e) strange = settle implied strange K o b m es e
next implied (wait w) (plays q) = none
next implied (wait w) (time k l) = none
next implied (wait w) opens = none
next implied (wait w) closes = none
next implied (wait w) left = none
next implied (wait w) right = none
next implied (wait w) (mark j) = find j (wait_edges w)
next implied (wait w) strange = none

-- the score, where the signs may end here
abbrev pub finish_later : Later → Run → Option Score
finish_later (in_b_ds t a) r = none
finish_later (in_b_fine t a) r = none
finish_later (in_b_coda t a) r = none
finish_later (in_c_fine t a b) r = none
finish_later (in_c_coda t a b) r = none
finish_later (in_c_dc t a b) r = some (score t DaCapoCoda a b r nil)
finish_later (in_d t a b c) r = some (score t DalSegnoCoda a b c r)

abbrev pub finish_part : Part → Run → Option Score
finish_part (in_a t) r = some (score t Straight r nil nil nil)
finish_part (later p) r = finish_later p r

abbrev pub finish_at : Stack → Run → Option Score
finish_at K nil = none
finish_at (bot p) (r ▸ i) = finish_part p (r ▸ i)
finish_at (in_rep b K) (r ▸ i) = none
finish_at (in_end o b m es K) (r ▸ i) = none

abbrev pub finish_shut : Run → Option Found → Option Score
finish_shut r none = none
finish_shut r (some (found o b K)) = finish_at K (b ▸ repeat o r)

abbrev pub finish_sep : Bool → Stack → Left → Run → Run → Ends → Run → Option Score
finish_sep implied K o b m no_more e = none
finish_sep implied K o b m (es then f) e = finish_shut (b ▸ group o m (es then f) e) (opening implied K)

abbrev pub finish : Bool → State → Option Score
finish implied (at K r) = finish_at K r
finish implied (half K o b m e) = none
finish implied (sep K o b m es e) = finish_sep implied K o b m es e
finish implied (wait (coda_dc t a b)) = none
finish implied (wait (coda_ds t a b c)) = none
finish implied (wait (over t)) = some t

-- the reader
abbrev pub out : ℕ → Option Score → Answer
out n none = refused n
out n (some t) = reading t

abbrev pub go_on : ℕ → Option State → (State → Answer) → Answer
go_on n none f = refused n
go_on n (some s) f = f s

unfoldable pub go : Bool → ℕ → State → List Kind → Answer
go implied n s [] = out n (finish implied s)
go implied n s (x ∷ l) = go_on n (next implied s x) (λ u. go implied (suc n) u l)

unfoldable pub read : Bool → List Kind → Answer
read implied l = go implied 0 start l
