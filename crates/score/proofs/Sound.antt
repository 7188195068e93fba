-- Each step of the machine keeps the signs read, and keeps its trees good.
-- Assumes nothing.
use mathlib.Core.Path.{◌≡◌, refl, subst}
use mathlib.Core.Bool.{Bool, true, false}
use mathlib.Core.Option.{Option, none, some}
use mathlib.Core.List.{List, [], ◌∷◌, ◌++◌, append_assoc, append-nil}
use Prim.Native.Nat.{ℕ}
use Rattle.signs.specs.declared.sign.Jumped.TheVariants.{DcCoda, DsCoda}
use Rattle.signs.specs.declared.sign.Sign.{Sign}
use Rattle.signs.specs.declared.sign.Sign.TheVariants.{LeftRepeat, RightRepeat, OpenEnding, CloseEnding, Jump, Segno, Coda, ToCoda, Fine}
use Rattle.signs.specs.declared.sign.Sign.TheVariants.{Time as TimeSign}
use Rattle.score.specs.Trees.{Left, Run, nil, ◌▸◌, leaf, repeat, group, Ends, no_more, ◌then◌}
use Rattle.score.specs.Times.{Time}
use Rattle.std.specs.Prelude.{None as Untimed, Some as Timed}
use Rattle.score.specs.Shapes.{Score}
use Rattle.score.specs.Spelling.{left_signs, run_signs, ends_signs, time_signs, signs_of}
use Rattle.score.specs.Readings.{Some, May, inside, start_after, ends_in_group, ends_closing_group, Good, GoodEnds, Valid}
use Rattle.score.proofs.Alphabet.{Mark, Mark-discrete, mark_sign, Kind, plays, time, opens, closes, left, right, mark, strange, spelt}
use Rattle.score.proofs.Machine.{Later, in_b_ds, in_b_fine, in_b_coda, in_c_fine, in_c_coda, in_c_dc, in_d, Part, in_a, later, Wait, coda_dc, coda_ds, over, Stack, bot, in_rep, in_end, State, at, half, sep, wait}
use Rattle.score.proofs.Machine.{Found, found, lack, opening, close, enter, end_at, on_closes, on_time, Edge, ◌to◌, later_edges, edges, wait_edges, find, leave, when-yes, if_some, step, shut, settle, next, finish_later, finish_part, finish_at, finish_shut, finish}

-- The signs that a state has read
abbrev later_signs : Later → List Sign
later_signs (in_b_ds t a) = time_signs t ++ (run_signs a ++ (Segno ∷ []))
later_signs (in_b_fine t a) = time_signs t ++ (run_signs a ++ (Fine ∷ []))
later_signs (in_b_coda t a) = time_signs t ++ (run_signs a ++ (ToCoda ∷ []))
later_signs (in_c_fine t a b) = time_signs t ++ (run_signs a ++ (Segno ∷ (run_signs b ++ (Fine ∷ []))))
later_signs (in_c_coda t a b) = time_signs t ++ (run_signs a ++ (Segno ∷ (run_signs b ++ (ToCoda ∷ []))))
later_signs (in_c_dc t a b) = time_signs t ++ (run_signs a ++ (ToCoda ∷ (run_signs b ++ (Jump DcCoda ∷ Coda ∷ []))))
later_signs (in_d t a b c) = time_signs t ++ (run_signs a ++ (Segno ∷ (run_signs b ++ (ToCoda ∷ (run_signs c ++ (Jump DsCoda ∷ Coda ∷ []))))))

abbrev pub part_signs : Part → List Sign
part_signs (in_a t) = time_signs t
part_signs (later p) = later_signs p

abbrev pub wait_signs : Wait → List Sign
wait_signs (coda_dc t a b) = time_signs t ++ (run_signs a ++ (ToCoda ∷ (run_signs b ++ (Jump DcCoda ∷ []))))
wait_signs (coda_ds t a b c) = time_signs t ++ (run_signs a ++ (Segno ∷ (run_signs b ++ (ToCoda ∷ (run_signs c ++ (Jump DsCoda ∷ []))))))
wait_signs (over t) = signs_of t

abbrev pub stack_signs : Stack → List Sign
stack_signs (bot p) = part_signs p
stack_signs (in_rep b K) = stack_signs K ++ (run_signs b ++ (LeftRepeat ∷ []))
stack_signs (in_end o b m es K) = stack_signs K ++ (run_signs b ++ (left_signs o ++ (run_signs m ++ (ends_signs es ++ (OpenEnding ∷ [])))))

abbrev pub sig : State → List Sign
sig (at K r) = stack_signs K ++ run_signs r
sig (half K o b m e) = stack_signs (in_end o b m no_more K) ++ (run_signs e ++ (CloseEnding ∷ []))
sig (sep K o b m es e) = stack_signs (in_end o b m es K) ++ (run_signs e ++ (CloseEnding ∷ RightRepeat ∷ []))
sig (wait w) = wait_signs w

-- a full run that is good
abbrev pub Full : Bool → Run → Type 0
Full start r = Some r × Good r start

-- What a state's trees meet
abbrev pub flag_part : Bool → Part → Bool
flag_part implied (in_a t) = implied
flag_part implied (later p) = false

abbrev pub flag : Bool → Stack → Bool
flag implied (bot p) = flag_part implied p
flag implied (in_rep b K) = false
flag implied (in_end o b m es K) = false

abbrev pub OkLater : Bool → Later → Type 0
OkLater implied (in_b_ds t a) = Full implied a
OkLater implied (in_b_fine t a) = Full implied a
OkLater implied (in_b_coda t a) = Full implied a
OkLater implied (in_c_fine t a b) = Full implied a × Full false b
OkLater implied (in_c_coda t a b) = Full implied a × Full false b
OkLater implied (in_c_dc t a b) = Full implied a × Full false b
OkLater implied (in_d t a b c) = Full implied a × Full false b × Full false c

abbrev pub OkPart : Bool → Part → Type 0
OkPart implied (in_a t) = Unit {0}
OkPart implied (later p) = OkLater implied p

abbrev pub OkWait : Bool → Wait → Type 0
OkWait implied (coda_dc t a b) = Full implied a × Full false b
OkWait implied (coda_ds t a b c) = Full implied a × Full false b × Full false c
OkWait implied (over t) = Valid implied t

abbrev pub OkStack : Bool → Stack → Type 0
OkStack implied (bot p) = OkPart implied p
OkStack implied (in_rep b K) = OkStack implied K × Good b (flag implied K)
OkStack implied (in_end o b m es K) =
    OkStack implied K × Good b (flag implied K) × May (start_after (flag implied K) b) o × Some m × Good m (inside o) × (ends_closing_group m ≡ false) × GoodEnds es

abbrev pub Ok : Bool → State → Type 0
Ok implied (at K r) = OkStack implied K × Good r (flag implied K) × (ends_closing_group r ≡ false)
Ok implied (half K o b m e) = OkStack implied (in_end o b m no_more K) × Full false e
Ok implied (sep K o b m es e) = OkStack implied (in_end o b m es K) × Full false e
Ok implied (wait w) = OkWait implied w

abbrev pub All : {A : Type 0} → (A → Type 0) → Option A → Type 0
All P none = Unit {0}
All P (some s) = P s

-- u is a good state that has read l
abbrev pub Has : Bool → List Sign → State → Type 0
Has implied l u = (sig u ≡ l) × Ok implied u

abbrev FoundAt : Bool → Stack → Option Found → Type 0
FoundAt implied K none = Unit {0}
FoundAt implied K (some (found o b J)) =
    (stack_signs J ++ (run_signs b ++ left_signs o) ≡ stack_signs K)
    × OkStack implied J
    × Good b (flag implied J)
    × May (start_after (flag implied J) b) o
    × (flag implied K ≡ inside o)

lack_ok : (implied : Bool) (t : Time) → FoundAt implied (bot (in_a t)) (lack implied t)
lack_ok true t = (append-nil (time_signs t), tt, tt, tt, refl)
lack_ok false t = tt

-- what `[` asks besides
abbrev Asks : Kind → Run → Type 0
Asks (plays q) r = Unit {0}
Asks (time k l) r = Unit {0}
Asks opens r = Unit {0}
Asks closes r = Unit {0}
Asks left r = ends_closing_group r ≡ false
Asks right r = Unit {0}
Asks (mark j) r = Unit {0}
Asks strange r = Unit {0}

when_yes_ok : (P : State → Type 0) {A : Type 0} (d : Dec A) (u : State) (o : Option State) → (A → P u) → All P o → All P (when-yes d u o)
when_yes_ok P (yes e) u o h k = h e
when_yes_ok P (no e) u o h k = k

if_some_ok : (P : State → Type 0) (r : Run) (o : Option State) → (Some r → All P o) → All P (if_some r o)
if_some_ok P nil o h = tt
if_some_ok P (r ▸ i) o h = h tt

abbrev pub Is : Bool → List Sign → Score → Type 0
Is implied l t = (signs_of t ≡ l) × Valid implied t

module _ (implied : Bool) where
  opening_ok : (K : Stack) → OkStack implied K → FoundAt implied K (opening implied K)
  opening_ok (bot (in_a t)) c = lack_ok implied t
  opening_ok (bot (later p)) c = tt
  opening_ok (in_rep b K) c = (refl, c.0, c.1, tt, refl)
  opening_ok (in_end o b m es K) c = tt

  close_ok : (K : Stack) (r : Run) (f : Option Found) → FoundAt implied K f → Some r → Good r (flag implied K) → ends_in_group r ≡ false
      → All (Has implied (stack_signs K ++ (run_signs r ++ (RightRepeat ∷ [])))) (close r f)
  close_ok K r none h s g e = tt
  close_ok K r (some (found o b J)) h s g e =
      (rw (← h.0) (simp append_assoc), (h.1, (h.2, (h.3, s, rw h.4 at g)), e))

  enter_ok : (K : Stack) (r : Run) (f : Option Found) → FoundAt implied K f → Some r → Good r (flag implied K) → ends_closing_group r ≡ false
      → All (Has implied (stack_signs K ++ (run_signs r ++ (OpenEnding ∷ [])))) (enter r f)
  enter_ok K r none h s g e = tt
  enter_ok K r (some (found o b J)) h s g e =
      (rw (← h.0) (simp (append_assoc, append-nil)), ((h.1, h.2, h.3, s, rw h.4 at g, e, tt), tt, refl))

  end_ok : (K : Stack) (r : Run) → OkStack implied K → Some r → Good r (flag implied K) → All (Has implied (stack_signs K ++ (run_signs r ++ (CloseEnding ∷ [])))) (end_at K r)
  end_ok (bot p) r c s g = tt
  end_ok (in_rep b K) r c s g = tt
  end_ok (in_end o b m no_more K) r c s g = (refl, (c, (s, g)))
  end_ok (in_end o b m (es then e) K) r c s g =
      (simp append_assoc, (c.0, (c.1, (c.2, c.3, c.4, c.5, tt, c.6, s, g)), refl))

  time_ok : (m n : ℕ) (K : Stack) (r : Run) → OkStack implied K → All (Has implied (stack_signs K ++ (run_signs r ++ (TimeSign m n ∷ [])))) (on_time m n K r)
  time_ok m n (bot (in_a Untimed)) nil c = (refl, (tt, tt, refl))
  time_ok m n (bot (in_a (Timed (k, l)))) nil c = tt
  time_ok m n (bot (later p)) nil c = tt
  time_ok m n (bot p) (r ▸ i) c = tt
  time_ok m n (in_rep b K) r c = tt
  time_ok m n (in_end o b q es K) r c = tt

  -- marks
  abbrev EdgesOk : List Sign → List Edge → Type 0
  EdgesOk l [] = Unit {0}
  EdgesOk l ((j to u) ∷ es) = Has implied (l ++ (mark_sign j ∷ [])) u × EdgesOk l es

  find_ok : (l : List Sign) (j : Mark) (es : List Edge) → EdgesOk l es → All (Has implied (l ++ (mark_sign j ∷ []))) (find j es)
  find_ok l j [] h = tt
  find_ok l j ((i to u) ∷ es) h =
      when_yes_ok (Has implied (l ++ (mark_sign j ∷ []))) (Mark-discrete j i) u (find j es) (λ e. rw e h.0) (find_ok l j es h.1)

  later_edges_ok : (p : Later) (r : Run) → OkLater implied p → Full false r → EdgesOk (part_signs (later p) ++ run_signs r) (later_edges p r)
  later_edges_ok (in_b_ds t a) r c f = (
    (simp append_assoc, (c, f, refl, refl)),
    ((simp (append_assoc, append-nil), ((c, f), tt, refl)), ((simp (append_assoc, append-nil), ((c, f), tt, refl)), tt)),
  )
  later_edges_ok (in_b_fine t a) r c f = ((simp append_assoc, (c, f, refl, refl)), tt)
  later_edges_ok (in_b_coda t a) r c f = ((simp append_assoc, (c, f)), tt)
  later_edges_ok (in_c_fine t a b) r c f = ((simp append_assoc, (c.0, c.1, f, refl)), tt)
  later_edges_ok (in_c_coda t a b) r c f = ((simp append_assoc, (c.0, c.1, f)), tt)
  later_edges_ok (in_c_dc t a b) r c f = tt
  later_edges_ok (in_d t a b c) r h f = tt

  edges_ok : (p : Part) (r : Run) → OkPart implied p → Full (flag_part implied p) r → EdgesOk (part_signs p ++ run_signs r) (edges p r)
  edges_ok (in_a t) r c f = (
    (simp append_assoc, (f, refl, refl, refl)),
    (
      (simp (append_assoc, append-nil), (f, tt, refl)),
      ((simp (append_assoc, append-nil), (f, tt, refl)), ((simp (append_assoc, append-nil), (f, tt, refl)), tt)),
    ),
  )
  edges_ok (later p) r c f = later_edges_ok p r c f

  wait_edges_ok : (w : Wait) → OkWait implied w → EdgesOk (wait_signs w) (wait_edges w)
  wait_edges_ok (coda_dc t a b) c = ((simp (append_assoc, append-nil), (c, tt, refl)), tt)
  wait_edges_ok (coda_ds t a b d) c = ((simp (append_assoc, append-nil), (c, tt, refl)), tt)
  wait_edges_ok (over t) c = tt

  leave_ok : (j : Mark) (K : Stack) (r : Run) → OkStack implied K → Some r → Good r (flag implied K) → All (Has implied (stack_signs K ++ (run_signs r ++ (mark_sign j ∷ [])))) (leave j K r)
  leave_ok j (bot p) r c s g = rw (← append_assoc (part_signs p) (run_signs r) (mark_sign j ∷ [])) (find_ok (part_signs p ++ run_signs r) j (edges p r) (edges_ok p r c (s, g)))
  leave_ok j (in_rep b K) r c s g = tt
  leave_ok j (in_end o b m es K) r c s g = tt

  closes_ok : (K : Stack) (r : Run) → OkStack implied K → Good r (flag implied K) → All (Has implied (stack_signs K ++ (run_signs r ++ (RightRepeat ∷ [])))) (on_closes implied K r)
  closes_ok K nil c g = tt
  closes_ok K (b ▸ leaf q) c g = close_ok K (b ▸ leaf q) (opening implied K) (opening_ok K c) tt g refl
  closes_ok K (b ▸ repeat o r) c g = close_ok K (b ▸ repeat o r) (opening implied K) (opening_ok K c) tt g refl
  closes_ok K (b ▸ group o m es e) c g =
      let h = g.1 in
      (simp append_assoc, ((c, g.0, h.0, h.1, h.2, h.3, h.5), (h.6, h.7)))

  step_ok : (x : Kind) (K : Stack) (r : Run) → OkStack implied K → Good r (flag implied K) → Asks x r → All (Has implied (stack_signs K ++ (run_signs r ++ spelt x))) (step implied x K r)
  step_ok (plays q) K r c g a = (refl, (c, (g, tt), refl))
  step_ok (time m n) K r c g a = time_ok m n K r c
  step_ok opens K r c g a = (append-nil (stack_signs (in_rep r K)), ((c, g), tt, refl))
  step_ok closes K r c g a = closes_ok K r c g
  step_ok left K r c g a =
      if_some_ok (Has implied (stack_signs K ++ (run_signs r ++ (OpenEnding ∷ [])))) r (enter r (opening implied K)) (λ s. enter_ok K r (opening implied K) (opening_ok K c) s g a)
  step_ok right K r c g a = if_some_ok (Has implied (stack_signs K ++ (run_signs r ++ (CloseEnding ∷ [])))) r (end_at K r) (λ s. end_ok K r c s g)
  step_ok (mark j) K r c g a = if_some_ok (Has implied (stack_signs K ++ (run_signs r ++ (mark_sign j ∷ [])))) r (leave j K r) (λ s. leave_ok j K r c s g)
  step_ok strange K r c g a = tt

  -- a `:|` that closed the repeat around a group
  shut_ok : (x : Kind) (K : Stack) (r : Run) (f : Option Found) → FoundAt implied K f → Some r → Good r (flag implied K) → ((q : Run) → Asks x q)
      → All (Has implied (stack_signs K ++ (run_signs r ++ (RightRepeat ∷ spelt x)))) (shut implied x r f)
  shut_ok x K r none h s g a = tt
  shut_ok x K r (some (found o b J)) h s g a =
      subst (λ l. All (Has implied l) (step implied x J (b ▸ repeat o r))) (rw (← h.0) (simp append_assoc))
      (step_ok x J (b ▸ repeat o r) h.1 (h.2, (h.3, s, rw h.4 at g)) (a (b ▸ repeat o r)))

  settle_ok : (x : Kind) (K : Stack) (o : Left) (b m : Run) (es : Ends) (e : Run) → Ok implied (sep K o b m es e) → ((q : Run) → Asks x q)
      → All (Has implied (sig (sep K o b m es e) ++ spelt x)) (settle implied x K o b m es e)
  settle_ok x K o b m no_more e c a = tt
  settle_ok x K o b m (es then f) e c a =
      let g : Run = b ▸ group o m (es then f) e in
      let d = c.0 in
      subst (λ l. All (Has implied l) (shut implied x g (opening implied K))) (simp append_assoc)
      (shut_ok x K g (opening implied K) (opening_ok K d.0) tt (d.1, (d.2, d.3, d.4, d.5, tt, d.6, c.1.0, c.1.1)) a)

  at_ok : (x : Kind) (K : Stack) (r : Run) → Ok implied (at K r) → Asks x r → All (Has implied (sig (at K r) ++ spelt x)) (step implied x K r)
  at_ok x K r c a = rw append_assoc (step_ok x K r c.0 c.1 a)

  pub next_ok : (s : State) (x : Kind) → Ok implied s → All (Has implied (sig s ++ spelt x)) (next implied s x)
  next_ok (at K r) (plays q) c = at_ok (plays q) K r c tt
  next_ok (at K r) (time k l) c = at_ok (time k l) K r c tt
  next_ok (at K r) opens c = at_ok opens K r c tt
  next_ok (at K r) closes c = at_ok closes K r c tt
  next_ok (at K r) left c = at_ok left K r c c.2
  next_ok (at K r) right c = at_ok right K r c tt
  next_ok (at K r) (mark j) c = at_ok (mark j) K r c tt
  next_ok (at K r) strange c = tt
  next_ok (half K o b m e) (plays q) c = tt
  next_ok (half K o b m e) (time k l) c = tt
  next_ok (half K o b m e) opens c = tt
  next_ok (half K o b m e) closes c = (simp append_assoc, c)
  next_ok (half K o b m e) left c = tt
  next_ok (half K o b m e) right c = tt
  next_ok (half K o b m e) (mark j) c = tt
  next_ok (half K o b m e) strange c = tt
  next_ok (sep K o b m es e) (plays q) c = settle_ok (plays q) K o b m es e c (λ r. tt)
  next_ok (sep K o b m es e) (time k l) c = settle_ok (time k l) K o b m es e c (λ r. tt)
  next_ok (sep K o b m es e) opens c = settle_ok opens K o b m es e c (λ r. tt)
  next_ok (sep K o b m es e) closes c = settle_ok closes K o b m es e c (λ r. tt)
  next_ok (sep K o b m es e) left c =
      let d = c.0 in
      (simp (append_assoc, append-nil), ((d.0, d.1, d.2, d.3, d.4, d.5, (d.6, c.1.0, c.1.1)), tt, refl))
  next_ok (sep K o b m es e) right c = settle_ok right K o b m es e c (λ r. tt)
  next_ok (sep K o b m es e) (mark j) c = settle_ok (mark j) K o b m es e c (λ r. tt)
  next_ok (sep K o b m es e) strange c = settle_ok strange K o b m es e c (λ r. tt)
  next_ok (wait w) (plays q) c = tt
  next_ok (wait w) (time k l) c = tt
  next_ok (wait w) opens c = tt
  next_ok (wait w) closes c = tt
  next_ok (wait w) left c = tt
  next_ok (wait w) right c = tt
  next_ok (wait w) (mark j) c = find_ok (wait_signs w) j (wait_edges w) (wait_edges_ok w c)
  next_ok (wait w) strange c = tt

  -- a finished score
  finish_later_ok : (p : Later) (r : Run) → OkLater implied p → Full false r → All (Is implied (later_signs p ++ run_signs r)) (finish_later p r)
  finish_later_ok (in_b_ds t a) r c f = tt
  finish_later_ok (in_b_fine t a) r c f = tt
  finish_later_ok (in_b_coda t a) r c f = tt
  finish_later_ok (in_c_fine t a b) r c f = tt
  finish_later_ok (in_c_coda t a b) r c f = tt
  finish_later_ok (in_c_dc t a b) r c f = (simp (append_assoc, append-nil), (c.0, c.1, f, refl))
  finish_later_ok (in_d t a b d) r c f = (simp (append_assoc, append-nil), (c.0, c.1, c.2, f))

  finish_part_ok : (p : Part) (r : Run) → OkPart implied p → Full (flag_part implied p) r → All (Is implied (part_signs p ++ run_signs r)) (finish_part p r)
  finish_part_ok (in_a t) r c f = (simp append-nil, (f, refl, refl, refl))
  finish_part_ok (later p) r c f = finish_later_ok p r c f

  finish_at_ok : (K : Stack) (r : Run) → OkStack implied K → Good r (flag implied K) → All (Is implied (stack_signs K ++ run_signs r)) (finish_at K r)
  finish_at_ok K nil c g = tt
  finish_at_ok (bot p) (r ▸ i) c g = finish_part_ok p (r ▸ i) c (tt, g)
  finish_at_ok (in_rep b K) (r ▸ i) c g = tt
  finish_at_ok (in_end o b m es K) (r ▸ i) c g = tt

  finish_shut_ok : (K : Stack) (r : Run) (f : Option Found) → FoundAt implied K f → Some r → Good r (flag implied K)
      → All (Is implied (stack_signs K ++ (run_signs r ++ (RightRepeat ∷ [])))) (finish_shut r f)
  finish_shut_ok K r none h s g = tt
  finish_shut_ok K r (some (found o b J)) h s g =
      subst (λ l. All (Is implied l) (finish_at J (b ▸ repeat o r))) (rw (← h.0) (simp append_assoc))
      (finish_at_ok J (b ▸ repeat o r) h.1 (h.2, (h.3, s, rw h.4 at g)))

  pub finish_ok : (s : State) → Ok implied s → All (Is implied (sig s)) (finish implied s)
  finish_ok (at K r) c = finish_at_ok K r c.0 c.1
  finish_ok (half K o b m e) c = tt
  finish_ok (sep K o b m no_more e) c = tt
  finish_ok (sep K o b m (es then f) e) c =
      let g : Run = b ▸ group o m (es then f) e in
      let d = c.0 in
      subst (λ l. All (Is implied l) (finish_shut g (opening implied K))) (simp append_assoc)
      (finish_shut_ok K g (opening implied K) (opening_ok K d.0) tt (d.1, (d.2, d.3, d.4, d.5, tt, d.6, c.1.0, c.1.1)))
  finish_ok (wait (coda_dc t a b)) c = tt
  finish_ok (wait (coda_ds t a b d)) c = tt
  finish_ok (wait (over t)) c = (refl, c)
