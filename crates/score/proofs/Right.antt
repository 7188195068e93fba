-- The reader's answer is the right one.
-- Assumes nothing.
use mathlib.Core.Path.{◌≡◌, refl, sym, ◌∙◌, ap, subst}
use mathlib.Core.Bool.{Bool, true, false}
use mathlib.Core.Option.{Option, none, some}
use mathlib.Core.List.{List, [], ◌∷◌, map}
use Prim.Native.Nat.{ℕ, zero, suc, ◌+◌, ◌-◌, ◌≤◌, ◌<◌}
use native.Mathlib.Omega.{arith}
use native.Mathlib.Nat.{le_refl, le_trans}
use lib.ListN.{length}
use Rattle.signs.specs.Words.{Unpacked}
use Rattle.score.specs.Trees.{written, lacking, Run, nil, ◌▸◌, Item, leaf, repeat, no_more}
use Rattle.score.specs.Times.{Time}
use Rattle.std.specs.Prelude.{None as Untimed, Some as Timed}
use Rattle.score.specs.Shapes.{Score}
use Rattle.score.specs.Readings.{Some, start_after, is_group, ends_in_group, closes_group, ends_closing_group, Good, GoodItem, Answer, reading, refused, Right}
use Rattle.score.proofs.Alphabet.{Mark, Mark-discrete, Kind, plays, time, opens, closes, left, right as right_end, mark, strange, kind_of}
use Rattle.score.proofs.Machine.{Later, in_b_ds, in_b_fine, in_b_coda, in_c_fine, in_c_coda, in_c_dc, in_d, Part, in_a, later, Wait, coda_dc, coda_ds, over, bot, in_rep, in_end, State, at, half, sep, wait}
use Rattle.score.proofs.Machine.{start, opening, enter, Edge, ◌to◌, later_edges, edges, wait_edges, find, when-yes, next, finish, out, go_on, go}
use Rattle.score.proofs.Sound.{flag_part, All}
use Rattle.score.proofs.Reader.{Ran, ended, halted, Got, item, halted_in, on_item, read_run, read_group, read_ends, part_end, after_first, read_implied, read_first, Fin, done, stop, fin_out, fin_on, fuel, leave_part, wait_on, read_state, from, start_item, read_start, read_score, answer, read}
use Rattle.score.proofs.Runs.{Enter, enter_rep, enter_none, runs, Ended, RunOk, ItemOk, rep_at, end_of, nil_stuck, closes_stuck, closes_rep, Held, read_run_ok, read_group_ok, read_ends_ok}
use Rattle.score.proofs.RightMachine.{machine_right}

-- a run is left at a sign between runs, or at the end
abbrev Leaves : List Kind → Type 0
Leaves [] = Unit {0}
Leaves (plays x ∷ s) = ⊥
Leaves (time k l ∷ s) = ⊥
Leaves (opens ∷ s) = ⊥
Leaves (closes ∷ s) = ⊥
Leaves (left ∷ s) = ⊥
Leaves (right_end ∷ s) = ⊥
Leaves (mark j ∷ s) = Unit {0}
Leaves (strange ∷ s) = ⊥

-- what an edge leads to
abbrev Top : State → Type 0
Top (at (bot (in_a t)) r) = ⊥
Top (at (bot (later p)) nil) = Unit {0}
Top (at (bot (later p)) (r ▸ i)) = ⊥
Top (at (in_rep b K) r) = ⊥
Top (at (in_end o b m es K) r) = ⊥
Top (half K o b m e) = ⊥
Top (sep K o b m es e) = ⊥
Top (wait w) = Unit {0}

abbrev AllTop : List Edge → Type 0
AllTop [] = Unit {0}
AllTop ((j to u) ∷ es) = Top u × AllTop es

later_top : (p : Later) (r : Run) → AllTop (later_edges p r)
later_top (in_b_ds t a) r = (tt, (tt, (tt, tt)))
later_top (in_b_fine t a) r = (tt, tt)
later_top (in_b_coda t a) r = (tt, tt)
later_top (in_c_fine t a b) r = (tt, tt)
later_top (in_c_coda t a b) r = (tt, tt)
later_top (in_c_dc t a b) r = tt
later_top (in_d t a b c) r = tt

edges_top : (p : Part) (r : Run) → AllTop (edges p r)
edges_top (in_a t) r = (tt, (tt, (tt, (tt, tt))))
edges_top (later p) r = later_top p r

wait_top : (w : Wait) → AllTop (wait_edges w)
wait_top (coda_dc t a b) = (tt, tt)
wait_top (coda_ds t a b c) = (tt, tt)
wait_top (over t) = tt

when_top : {A : Type 0} (d : Dec A) (u : State) (o : Option State) → Top u → All Top o → All Top (when-yes d u o)
when_top (yes e) u o h k = h
when_top (no e) u o h k = k

find_top : (j : Mark) (es : List Edge) → AllTop es → All Top (find j es)
find_top j [] h = tt
find_top j ((i to u) ∷ es) h = when_top (Mark-discrete j i) u (find j es) h.0 (find_top j es h.1)

on_top : (o : Option State) (l : List Kind) (F G : State → Fin) → All Top o → ((u : State) → Top u → F u ≡ G u) → fin_on l o F ≡ fin_on l o G
on_top none l F G h k = refl
on_top (some u) l F G h k = k u h

-- a time sign stands at the very start only
abbrev Timely : Time → List Kind → Type 0
Timely t [] = Unit {0}
Timely t (plays x ∷ l) = Unit {0}
Timely Untimed (time x y ∷ l) = ⊥
Timely (Timed (m, n)) (time x y ∷ l) = Unit {0}
Timely t (opens ∷ l) = Unit {0}
Timely t (closes ∷ l) = Unit {0}
Timely t (left ∷ l) = Unit {0}
Timely t (right_end ∷ l) = Unit {0}
Timely t (mark j ∷ l) = Unit {0}
Timely t (strange ∷ l) = Unit {0}

timely : (m n : ℕ) (l : List Kind) → Timely (Timed (m, n)) l
timely m n [] = tt
timely m n (plays x ∷ l) = tt
timely m n (time x y ∷ l) = tt
timely m n (opens ∷ l) = tt
timely m n (closes ∷ l) = tt
timely m n (left ∷ l) = tt
timely m n (right_end ∷ l) = tt
timely m n (mark j ∷ l) = tt
timely m n (strange ∷ l) = tt

-- the place of what is left
abbrev Placed : ℕ → List Kind → Fin → Answer → Type 0
Placed n l (done t) o = o ≡ reading t
Placed n l (stop k) o = (o ≡ refused (n + (length l - length k))) × (length k ≤ length l)

placed_out : (n : ℕ) (o : Option Score) → Placed n [] (fin_out o) (out n o)
placed_out n none = (ap refused (omega arith), omega arith)
placed_out n (some t) = refl

placed_later : (n : ℕ) (x : Kind) (l : List Kind) (f : Fin) (o : Answer) → Placed (suc n) l f o → Placed n (x ∷ l) f o
placed_later n x l (done t) o h = h
placed_later n x l (stop k) o h = let w = h.1 in (h.0 ∙ ap refused (omega arith), omega arith)

placed_answer : (l : List Kind) (f : Fin) (o : Answer) → Placed 0 l f o → o ≡ answer l f
placed_answer l (done t) o h = h
placed_answer l (stop k) o h = h.0 ∙ ap refused (omega arith)

-- v is what the machine does where the answer stands
abbrev PartOk : Bool → Part → Fin → ℕ → Ran → Type 0
PartOk implied p v n (ended r l) = (v ≡ runs implied (at (bot p) r) l) × Some r × Leaves l × (length l ≤ n)
PartOk implied p v n (halted l) = v ≡ stop l

part_back : (implied : Bool) (p : Part) (v w : Fin) (n m : ℕ) (x : Ran) → v ≡ w → m ≤ n → PartOk implied p w m x → PartOk implied p v n x
part_back implied p v w n m (ended r l) e z h = (e ∙ h.0, h.1, h.2, le_trans h.3 z)
part_back implied p v w n m (halted l) e z h = e ∙ h

-- a run in which no `|:` may lack
part_end_ok : (implied : Bool) (p : Part) (a : Run) (s : List Kind) (x : Ran) → Good a (flag_part implied p) → opening implied (bot p) ≡ none
    → ((l : List Kind) → Ended implied a s nil l → runs implied (at (bot p) nil) l ≡ stop l) → RunOk implied a s x
    → PartOk implied p (runs implied (at (bot p) a) s) (length s) (part_end x)
part_end_ok implied p a s (halted l) g q z h = h (bot p) g
part_end_ok implied p a s (ended nil l) g q z h = h.same (bot p) g ∙ z l h
part_end_ok implied p a s (ended (r ▸ i) []) g q z h = (h.same (bot p) g, tt, tt, h.shorter)
part_end_ok implied p a s (ended (r ▸ i) (plays x ∷ l)) g q z h = absurd h.no_item
part_end_ok implied p a s (ended (r ▸ i) (time x y ∷ l)) g q z h = h.same (bot p) g
part_end_ok implied p a s (ended (r ▸ i) (opens ∷ l)) g q z h = absurd h.no_item
part_end_ok implied p a s (ended (r ▸ i) (closes ∷ l)) g q z h = h.same (bot p) g ∙ closes_stuck implied (bot p) r i l q h.enter
part_end_ok implied p a s (ended (r ▸ i) (left ∷ l)) g q z h =
    h.same (bot p) g ∙ ap (λ x. fin_on (left ∷ l) (enter (r ▸ i) x) (λ u. runs implied u l)) q
part_end_ok implied p a s (ended (r ▸ i) (right_end ∷ l)) g q z h = h.same (bot p) g
part_end_ok implied p a s (ended (r ▸ i) (mark j ∷ l)) g q z h = (h.same (bot p) g, tt, tt, h.shorter)
part_end_ok implied p a s (ended (r ▸ i) (strange ∷ l)) g q z h = h.same (bot p) g

-- the first run, where a `|:` may lack
abbrev FirstOk : Time → Run → List Kind → Ran → Type 0
FirstOk t a s x = PartOk true (in_a t) (runs true (at (bot (in_a t)) a) s) (length s) x

first_item : (t : Time) (a m : Run) (s l : List Kind) (F : Run → List Kind → Ran) (x : Got)
    → runs true (at (bot (in_a t)) a) s ≡ runs true (end_of true lacking m no_more (bot (in_a t)) nil) l → length l ≤ length s
    → ItemOk true (end_of true lacking m no_more) lacking l x
    → ((j : Item) (k : List Kind) → GoodItem j true → Enter (is_group j) (closes_group j) k → length k ≤ length l → FirstOk t (nil ▸ j) k (F (nil ▸ j) k))
    → FirstOk t a s (on_item (λ j k. F (nil ▸ j) k) x)
first_item t a m s l F (item j k) e w h f =
    let z = h.shorter in
    part_back true (in_a t) (runs true (at (bot (in_a t)) a) s) (runs true (at (bot (in_a t)) (nil ▸ j)) k) (length s) (length k) (F (nil ▸ j) k)
    (e ∙ h.same (bot (in_a t)) nil tt tt) (le_trans z w) (f j k (h.good true tt) h.enter z)
first_item t a m s l F (halted_in k) e w h f = e ∙ h (bot (in_a t)) nil tt tt

after_first_ok : (t : Time) (a : Run) (s : List Kind) (F : Run → List Kind → Ran) (G : Run → List Kind → Got) (x : Ran) → Some a → Good a true → RunOk true a s x
    → ((q : Run) (l : List Kind) → Some q → Good q true → Enter (ends_in_group q) (ends_closing_group q) l → length l < length s → FirstOk t q l (F q l))
    → ((m : Run) (l : List Kind) → Held true lacking m no_more → length l < length s → ItemOk true (end_of true lacking m no_more) lacking l (G m l))
    → FirstOk t a s (after_first F G x)
after_first_ok t a s F G (halted l) n g h f k = h (bot (in_a t)) g
after_first_ok t a s F G (ended nil l) n g h f k = absurd (h.keeps n)
after_first_ok t a s F G (ended (r ▸ i) []) n g h f k = (h.same (bot (in_a t)) g, tt, tt, h.shorter)
after_first_ok t a s F G (ended (r ▸ i) (plays x ∷ l)) n g h f k = absurd h.no_item
after_first_ok t a s F G (ended (r ▸ i) (time x y ∷ l)) n g h f k = h.same (bot (in_a t)) g
after_first_ok t a s F G (ended (r ▸ i) (opens ∷ l)) n g h f k = absurd h.no_item
after_first_ok t a s F G (ended (r ▸ i) (closes ∷ l)) n g h f k =
    let w = h.shorter in
    let c : Run = nil ▸ repeat lacking (r ▸ i) in
    part_back true (in_a t) (runs true (at (bot (in_a t)) a) s) (runs true (at (bot (in_a t)) c) l) (length s) (length l) (F c l)
    (h.same (bot (in_a t)) g ∙ closes_rep true (bot (in_a t)) lacking nil r i l (start_after true r) tt (h.good true g).1 h.enter)
    (omega arith)
    (f c l tt (tt, (tt, tt, h.good true g)) (enter_rep (is_group i) l h.enter) (omega arith))
after_first_ok t a s F G (ended (r ▸ i) (left ∷ l)) n g h f k =
    let w = h.shorter in
    first_item t a (r ▸ i) s l F (G (r ▸ i) l) (h.same (bot (in_a t)) g) (omega arith) (k (r ▸ i) l (tt, h.good true g, h.enter, tt) (omega arith))
    (λ j x y z u. f (nil ▸ j) x tt (tt, y) z (omega arith))
after_first_ok t a s F G (ended (r ▸ i) (right_end ∷ l)) n g h f k = h.same (bot (in_a t)) g
after_first_ok t a s F G (ended (r ▸ i) (mark j ∷ l)) n g h f k = (h.same (bot (in_a t)) g, tt, tt, h.shorter)
after_first_ok t a s F G (ended (r ▸ i) (strange ∷ l)) n g h f k = h.same (bot (in_a t)) g

read_implied_ok : (n : ℕ) (t : Time) (a : Run) (s : List Kind) → length s + length s + 2 ≤ n → Some a → Good a true → Enter (ends_in_group a) (ends_closing_group a) s
    → FirstOk t a s (read_implied n a s)
read_implied_ok zero t a s w m g e = absurd (omega arith)
read_implied_ok (suc n) t a s w m g e =
    after_first_ok t a s (λ q l. read_implied n q l) (λ q l. read_ends n lacking q no_more l) (read_run n a s) m g (read_run_ok true n a s (omega arith) e)
    (λ q l x y z u. read_implied_ok n t q l (omega arith) x y z)
    (λ q l h u. read_ends_ok true n lacking q no_more l (omega arith) h)

read_first_ok : (implied : Bool) (n : ℕ) (t : Time) (a : Run) (s : List Kind) → length s + length s + 2 ≤ n → Some a → Good a implied
    → Enter (ends_in_group a) (ends_closing_group a) s → PartOk implied (in_a t) (runs implied (at (bot (in_a t)) a) s) (length s) (read_first implied n a s)
read_first_ok true n t a s w m g e = read_implied_ok n t a s w m g e
read_first_ok false n t a s w m g e =
    part_end_ok false (in_a t) a s (read_run n a s) g refl (λ l h. absurd (h.keeps m)) (read_run_ok false n a s (omega arith) e)

module _ (implied : Bool) where
  leave_ok : (F : State → List Kind → Fin) (p : Part) (v : Fin) (n : ℕ) (x : Ran) → PartOk implied p v n x
      → ((u : State) (k : List Kind) → Top u → length k < n → F u k ≡ runs implied u k) → leave_part F p x ≡ v
  leave_ok F p v n (halted l) h k = sym h
  leave_ok F p v n (ended nil []) h k = absurd h.1
  leave_ok F p v n (ended (r ▸ i) []) h k = sym h.0
  leave_ok F p v n (ended r (plays x ∷ l)) h k = absurd h.2
  leave_ok F p v n (ended r (time x y ∷ l)) h k = absurd h.2
  leave_ok F p v n (ended r (opens ∷ l)) h k = absurd h.2
  leave_ok F p v n (ended r (closes ∷ l)) h k = absurd h.2
  leave_ok F p v n (ended r (left ∷ l)) h k = absurd h.2
  leave_ok F p v n (ended r (right_end ∷ l)) h k = absurd h.2
  leave_ok F p v n (ended nil (mark j ∷ l)) h k = absurd h.1
  leave_ok F p v n (ended (r ▸ i) (mark j ∷ l)) h k =
      let w = h.3 in
      on_top (find j (edges p (r ▸ i))) (mark j ∷ l) (λ u. F u l) (λ u. runs implied u l) (find_top j (edges p (r ▸ i)) (edges_top p (r ▸ i)))
      (λ u t. k u l t (omega arith))
      ∙ sym h.0
  leave_ok F p v n (ended r (strange ∷ l)) h k = absurd h.2

  wait_ok : (F : State → List Kind → Fin) (w : Wait) (l : List Kind) → ((u : State) (k : List Kind) → Top u → length k < length l → F u k ≡ runs implied u k)
      → wait_on implied F w l ≡ runs implied (wait w) l
  wait_ok F w [] k = refl
  wait_ok F w (plays x ∷ l) k = refl
  wait_ok F w (time x y ∷ l) k = refl
  wait_ok F w (opens ∷ l) k = refl
  wait_ok F w (closes ∷ l) k = refl
  wait_ok F w (left ∷ l) k = refl
  wait_ok F w (right_end ∷ l) k = refl
  wait_ok F w (mark j ∷ l) k =
      on_top (find j (wait_edges w)) (mark j ∷ l) (λ u. F u l) (λ u. runs implied u l) (find_top j (wait_edges w) (wait_top w))
      (λ u t. k u l t (le_refl (suc (length l))))
  wait_ok F w (strange ∷ l) k = refl

  read_state_ok : (n : ℕ) (u : State) (l : List Kind) → Top u → length l < n → read_state implied n u l ≡ runs implied u l
  read_state_ok zero u l t w = absurd (omega arith)
  read_state_ok (suc n) (at (bot (in_a s)) r) l t w = absurd t
  read_state_ok (suc n) (at (bot (later p)) nil) l t w =
      leave_ok (λ u k. read_state implied n u k) (later p) (runs implied (at (bot (later p)) nil) l) (length l) (part_end (read_run (fuel l) nil l))
      (part_end_ok implied (later p) nil l (read_run (fuel l) nil l) tt refl (λ k h. nil_stuck implied (bot (later p)) k h.no_item (λ x y. refl))
      (read_run_ok implied (fuel l) nil l (omega arith) (enter_none l)))
      (λ u k z y. read_state_ok n u k z (omega arith))
  read_state_ok (suc n) (at (bot (later p)) (r ▸ i)) l t w = absurd t
  read_state_ok (suc n) (at (in_rep b K) r) l t w = absurd t
  read_state_ok (suc n) (at (in_end o b m es K) r) l t w = absurd t
  read_state_ok (suc n) (half K o b m e) l t w = absurd t
  read_state_ok (suc n) (sep K o b m es e) l t w = absurd t
  read_state_ok (suc n) (wait x) l t w = wait_ok (λ u k. read_state implied n u k) x l (λ u k z y. read_state_ok n u k z (omega arith))

  -- the whole score
  from_first : (t : Time) (i : Item) (l : List Kind) → GoodItem i implied → Enter (is_group i) (closes_group i) l
      → start_item implied t (item i l) ≡ runs implied (at (bot (in_a t)) (nil ▸ i)) l
  from_first t i l g e =
      leave_ok (from implied) (in_a t) (runs implied (at (bot (in_a t)) (nil ▸ i)) l) (length l) (read_first implied (fuel l) (nil ▸ i) l)
      (read_first_ok implied (fuel l) t (nil ▸ i) l (omega arith) tt (tt, g) e)
      (λ u k z y. read_state_ok (suc (length k)) u k z (le_refl (suc (length k))))

  start_item_ok : (t : Time) (l : List Kind) (x : Got) → ItemOk implied (rep_at implied) written l x → start_item implied t x ≡ runs implied (at (bot (in_a t)) nil) (opens ∷ l)
  start_item_ok t l (item i k) h = from_first t i k (h.good implied tt) h.enter ∙ sym (h.same (bot (in_a t)) nil tt tt)
  start_item_ok t l (halted_in k) h = sym (h (bot (in_a t)) nil tt tt)

  start_ok : (t : Time) (l : List Kind) → Timely t l → read_start implied t l ≡ runs implied (at (bot (in_a t)) nil) l
  start_ok t [] h = refl
  start_ok t (plays x ∷ l) h = from_first t (leaf x) l tt (enter_none l)
  start_ok Untimed (time x y ∷ l) h = absurd h
  start_ok (Timed (m, n)) (time x y ∷ l) h = refl
  start_ok t (opens ∷ l) h = start_item_ok t l (read_group (fuel l) l) (read_group_ok implied (fuel l) l (omega arith))
  start_ok t (closes ∷ l) h = refl
  start_ok t (left ∷ l) h = refl
  start_ok t (right_end ∷ l) h = refl
  start_ok t (mark j ∷ l) h = refl
  start_ok t (strange ∷ l) h = refl

  read_score_ok : (l : List Kind) → read_score implied l ≡ runs implied start l
  read_score_ok [] = refl
  read_score_ok (plays x ∷ l) = start_ok Untimed (plays x ∷ l) tt
  read_score_ok (time x y ∷ l) = start_ok (Timed (x, y)) l (timely x y l)
  read_score_ok (opens ∷ l) = start_ok Untimed (opens ∷ l) tt
  read_score_ok (closes ∷ l) = refl
  read_score_ok (left ∷ l) = refl
  read_score_ok (right_end ∷ l) = refl
  read_score_ok (mark j ∷ l) = refl
  read_score_ok (strange ∷ l) = refl

  placed_on : (n : ℕ) (x : Kind) (l : List Kind) (o : Option State) → ((u : State) → Placed (suc n) l (runs implied u l) (go implied (suc n) u l))
      → Placed n (x ∷ l) (fin_on (x ∷ l) o (λ u. runs implied u l)) (go_on n o (λ u. go implied (suc n) u l))
  placed_on n x l none h = (ap refused (omega arith), le_refl (suc (length l)))
  placed_on n x l (some u) h = placed_later n x l (runs implied u l) (go implied (suc n) u l) (h u)

  placed : (l : List Kind) (n : ℕ) (u : State) → Placed n l (runs implied u l) (go implied n u l)
  unfolding go
  placed [] n u = placed_out n (finish implied u)
  placed (x ∷ l) n u = placed_on n x l (next implied u x) (λ v. placed l (suc n) v)

  -- Demand 2, for the grammar: what the reader answers is right for every list of signs.
  pub right : (s : List Unpacked) → Right implied s (read implied s)
  right s =
      let l : List Kind = map kind_of s in
      subst (Right implied s) (placed_answer l (runs implied start l) (go implied 0 start l) (placed l 0 start) ∙ ap (answer l) (sym (read_score_ok l))) (machine_right implied s)
