-- Each way through the reader of a whole score is a law.
-- Assumes nothing.
use mathlib.Core.Path.{◌≡◌, refl, sym, ap, subst, ◌∙◌}
use mathlib.Core.Bool.{true, false}
use mathlib.Core.List.{List, [], ◌∷◌}
use mathlib.Core.Option.{none, some}
use mathlib.Core.Option.{Option as Maybe}
use Prim.Native.Nat.{ℕ, zero, suc, ◌+◌, ◌-◌, ◌≤◌, ◌<◌}
use native.Mathlib.Omega.{arith}
use lib.ListN.{length, drop, length-drop, length-map}
use Rattle.std.specs.Prelude.{Option, Some, None, Result, Ok, Err, option_and_then, ok_or}
use Rattle.signs.specs.declared.sign.Sign.{Sign}
use Rattle.score.specs.Trees.{block, Run, nil, ◌▸◌}
use Rattle.score.specs.Readings.{is_group}
use Rattle.score.specs.declared.Shape.{Shape}
use Rattle.score.specs.Shapes.{Score, score}
use Rattle.score.proofs.Alphabet.{Mark, Kind, plays, mark, mark_sign}
use Rattle.score.proofs.Machine.{in_b_ds, later, Wait, over, bot, State, at, wait, Edge, find, edges, wait_edges, finish_part, finish}
use Rattle.score.proofs.Machine.{Part as PartRead}
use Rattle.score.proofs.Reader.{Ran, Fin, stop, fin_out, fin_on, ended, halted, leave_part, part_end, wait_on, fuel, read_run, read_state}
use Rattle.grammar.specs.declared.place.Halt.{Halt}
use Rattle.grammar.specs.declared.stretch.Stretch.{Stretch}
use Rattle.grammar.specs.declared.part.Part.{Part}
use Rattle.grammar.specs.declared.whole.Sofar.{Sofar}
use Rattle.grammar.specs.declared.whole.Whole.{Whole}
use Rattle.grammar.specs.Kinds.{kinds_of, sign_at, halt, halt_at, ends_here}
use Rattle.grammar.specs.Parts.{leads, finished, has_run, moved_as, ended_as, part_sofar, wait_sofar, state_sofar, Between}
use Rattle.grammar.specs.Wholes.{Within, FinIs, FromIs, on_sign, Led, Ends, Leaves, GoesOn, LeaveIs}
use Rattle.grammar.specs.Stretches.{empty_stretch, summed}
use Rattle.grammar.specs.Promises.{enough, ItemsAs, ItemsIs}
use Rattle.grammar.proofs.Adding.{empty_is}
use Rattle.grammar.proofs.Heads.{head_sign, sign_head, stands, past_end, ends_is, part_left, part_wrong, halt_is, halt_within}
use Rattle.grammar.proofs.Leaving.{leaves_part, leaves_wait}

pub kinds_left : (w : List ℕ) (q : ℕ) → length (drop q (kinds_of w)) ≡ length w - q
kinds_left w q = simp (length-drop, length-map)

-- the fuel that the definition's reader gives a run
run_fuel : (w : List ℕ) (q : ℕ) → enough w q ≤ fuel (drop q (kinds_of w))
run_fuel w q = let e = kinds_left w q in omega arith

-- a run stands in the parts of the reader, and none where it waits
run_part : (p : PartRead) → has_run (part_sofar p).part ≡ true
run_part (later (in_b_ds t a)) = refl
run_part _ = refl

wait_part : (v : Wait) → has_run (wait_sofar v).part ≡ false
wait_part (over (score t h a b c d)) = refl
wait_part _ = refl

-- where no edge leads on, and where one does
nowhere : (s : Sofar) (r : Stretch) (a : Option Part) (b : Maybe State) → Led s r a b → a ≡ None → b ≡ none
nowhere s r None none l e = refl
nowhere s r (Some p) none l e = absurd l
nowhere s r None (some u) l e = absurd l
nowhere s r (Some p) (some u) l e = cc

data Somewhere (s : Sofar) (r : Stretch) (p : Part) (b : Maybe State) : Type 0 where
  somewhere : (u : State) → b ≡ some u → Between u → moved_as p s r ≡ state_sofar u → Somewhere s r p b

-- the edge that leads to a part
leads_on : (s : Sofar) (r : Stretch) (p : Part) (a : Option Part) (b : Maybe State) → Led s r a b → a ≡ Some p → Somewhere s r p b
leads_on s r p None none l e = cc
leads_on s r p (Some q) none l e = absurd l
leads_on s r p None (some u) l e = absurd l
leads_on s r p (Some q) (some u) l e =
    let m : moved_as p s r ≡ moved_as q s r = ap (λ v. moved_as v s r) (cc) in somewhere u refl l.0 (m ∙ l.1)

-- the part that a sign leads to, if one stands there
abbrev pub led : Part → Option Sign → Option Part
led p o = option_and_then (λ x. leads x p) o

pub refused : {A : Type 0} (o : Option A) (e h : Halt) → Err h ≡ ok_or o e → o ≡ None → h ≡ e
refused None e h v n = cc
refused (Some x) e h v n = cc

-- a sign stands before the end
left_there : (w : List ℕ) (q : ℕ) → q < length w → drop q (kinds_of w) ≡ [] → ⊥
left_there w q b e = let n : length w - q ≡ 0 = sym (kinds_left w q) ∙ ap length e in omega arith

-- behind a run of a part
module _ (w : List ℕ) (s : Sofar) (r : Stretch) where
  abbrev l₀ : List Kind
  l₀ = drop r.at (kinds_of w)

  pub leave_done : r.at ≡ length w → (h : Shape) → finished s.part ≡ Some h → (x : Whole) → x ≡ ended_as h s r → LeaveIs w s r (Ok x)
  leave_done k h f x v = (tt, λ F es o G L. rw (past_end w r.at (omega arith)) (go (finished s.part) o L.ends f))
    where
      go : (a : Option Shape) (o : Maybe Score) → Ends s r a o → a ≡ Some h → FinIs w (Ok x) (fin_out o)
      go (Some g) (some t) e f = let m : ended_as h s r ≡ ended_as g s r = ap (λ v. ended_as v s r) (cc) in (t, refl, v ∙ m ∙ e)
      go None none e f = cc
      go _ _ e f = absurd e

  module _ (b : r.at < length w) where
    pub leave_lost : (h : Halt) → h ≡ halt r.at → led s.part (sign_at w r.at) ≡ None → LeaveIs w s r (Err h)
    leave_lost h v f = rw v (omega arith, λ F es o G L. go F es o L l₀ (left_there w r.at b) (ap (led s.part) (sym (sign_head w r.at)) ∙ f))
      where
        go : (F : State → List Kind → Fin) (es : List Edge) (o : Maybe Score) → Leaves s r es o → (l : List Kind) → (l ≡ [] → ⊥) → led s.part (head_sign l) ≡ None → on_sign F es o l ≡ stop l
        go F es o L [] n e = absurd (n refl)
        go F es o L (mark j ∷ l) n e = rw (nowhere s r (leads (mark_sign j) s.part) (find j es) (L.edges j) e)
        go F es o L _ n e = refl

    module _ (x : Sign) (k : sign_at w r.at ≡ Some x) (p : Part) (f : leads x s.part ≡ Some p) (v : Sofar) (h : v ≡ moved_as p s r) (y : Result Whole Halt) (ih : FromIs w v y) where
      pub leave_on : LeaveIs w s r y
      leave_on = (ih.0, λ F es o G L. go F es o G L l₀ refl (ap (led s.part) (sym (sign_head w r.at) ∙ k) ∙ f))
        where
          rest : (n : ℕ) → length w - (r.at + 1) < n → (u : State) → Between u → v ≡ state_sofar u → FinIs w y (read_state true n u (drop (r.at + 1) (kinds_of w)))
          rest n e u c m = let q : v.at ≡ r.at + 1 = ap (λ z. z.at) h in subst (λ (z : ℕ). FinIs w y (read_state true n u (drop z (kinds_of w)))) q (ih.1 n (omega arith) u c m)

          on : (F : State → List Kind → Fin) (es : List Edge) (j : Mark) (l : List Kind) → ((u : State) → r.at < length w → GoesOn w (r.at + 1) F u) → l ≡ drop (r.at + 1) (kinds_of w) → Somewhere s r p (find j es)
              → FinIs w y (fin_on (mark j ∷ l) (find j es) (λ u. F u l))
          on F es j l G e (somewhere u a c m) = let g = G u b in rw (a, e, g.same) (rest g.fuel g.enough u c (h ∙ m))

          next_there : (q : Kind) (l : List Kind) → l₀ ≡ q ∷ l → l ≡ drop (r.at + 1) (kinds_of w)
          next_there q l e = let i = (stands w r.at x k).1 in cc

          go : (F : State → List Kind → Fin) (es : List Edge) (o : Maybe Score) → ((u : State) → r.at < length w → GoesOn w (r.at + 1) F u) → Leaves s r es o → (l : List Kind) → l₀ ≡ l → led s.part (head_sign l) ≡ Some p → FinIs w y (on_sign F es o l)
          go F es o G L [] e f = cc
          go F es o G L (plays (block a c) ∷ l) e f = cc
          go F es o G L (mark j ∷ l) e f = on F es j l G (next_there (mark j) l e) (leads_on s r p (leads (mark_sign j) s.part) (find j es) (L.edges j) f)
          go F es o G L _ e f = cc

-- the definition's reader behind a run, and where it waits
pub part_sign : (F : State → List Kind → Fin) (p : PartRead) (r : Run) (l : List Kind) → leave_part F p (ended r l) ≡ on_sign F (edges p r) (finish_part p r) l
part_sign F p r [] = refl
part_sign F p r (mark j ∷ l) = refl
part_sign F p r _ = refl

wait_sign : (F : State → List Kind → Fin) (v : Wait) (l : List Kind) → wait_on true F v l ≡ on_sign F (wait_edges v) (finish true (wait v)) l
wait_sign F v [] = refl
wait_sign F v (mark j ∷ l) = refl
wait_sign F v _ = refl

-- what may follow a run of a part, as it is kept
pub leaves_as : (p : PartRead) (r : Run) (s : Sofar) (y : Stretch) → s ≡ part_sofar p → y ≡ summed 0 s.at r → Leaves s y (edges p r) (finish_part p r)
leaves_as p r s y e h = rw (h, e) (leaves_part p r)

abbrev from₀ : ℕ → State → List Kind → Fin
from₀ n u l = read_state true n u l

-- on from a part
module _ (w : List ℕ) (s : Sofar) where
  abbrev Reads : Result Whole Halt → ℕ → State → Type 0
  Reads x n u = FinIs w x (read_state true n u (drop s.at (kinds_of w)))

  -- the fuel of the rest is enough
  goes : (n q : ℕ) → length w - s.at < suc n → s.at ≤ q → (u : State) → q < length w → GoesOn w (q + 1) (from₀ n) u
  goes n q h b u i = record { fuel = n; enough = omega arith; same = refl }

  pub from_waits : has_run s.part ≡ false → (r : Stretch) → r ≡ empty_stretch s.at → (x : Result Whole Halt) → LeaveIs w s r x → FromIs w s x
  from_waits b r v x m = let ih = subst (λ (q : Stretch). LeaveIs w s q x) v m in (ih.0, go ih)
    where
      go : LeaveIs w s (empty_stretch s.at) x → (n : ℕ) → length w - s.at < n → (u : State) → Between u → s ≡ state_sofar u → Reads x n u
      go ih zero h u c e = absurd (omega arith)
      go ih (suc n) h (at (bot p) r) c e = let k = run_part p in let q : has_run s.part ≡ has_run (part_sofar p).part = ap (λ z. has_run z.part) e in cc
      go ih (suc n) h (wait v) c e =
          rw (wait_sign (from₀ n) v (drop s.at (kinds_of w)))
          (ih.1 (from₀ n) (wait_edges v) (finish true (wait v)) (λ u i. goes n s.at h (omega arith) u i)
          (rw (e, empty_is 0 (wait_sofar v).at) (leaves_wait v)))
      go ih (suc n) h _ c e = absurd c

  module _ (b : has_run s.part ≡ true) where
    -- what is to be shown where the part has a run
    by_part : (x : Result Whole Halt) → ((n : ℕ) → length w - s.at < suc n → (p : PartRead) (r : Run) → s ≡ part_sofar p → Reads x (suc n) (at (bot p) r))
        → (n : ℕ) → length w - s.at < n → (u : State) → Between u → s ≡ state_sofar u → Reads x n u
    by_part x f zero h u c e = absurd (omega arith)
    by_part x f (suc n) h (at (bot p) r) c e = f n h p r e
    by_part x f (suc n) h (wait v) c e = let k = wait_part v in let q : has_run s.part ≡ has_run (wait_sofar v).part = ap (λ z. has_run z.part) e in cc
    by_part x f (suc n) h _ c e = absurd c

    abbrev f₀ : ℕ
    f₀ = fuel (drop s.at (kinds_of w))

    -- the promise, from that of the part's run
    by_items : (u : Result Stretch Halt) (r : Result Whole Halt) → ItemsIs w 0 s.at u → Within w r
        → ((n : ℕ) → length w - s.at < suc n → (p : PartRead) → s ≡ part_sofar p → (o : Ran) → ItemsAs w 0 s.at u o → FinIs w r (leave_part (from₀ n) p (part_end o))) → FromIs w s r
    by_items u r m i go = (i, by_part r (λ n h p t e. go n h p e (read_run f₀ nil (drop s.at (kinds_of w))) (m.1 f₀ (run_fuel w s.at))))

    pub from_halts : (h : Halt) → ItemsIs w 0 s.at (Err h) → FromIs w s (Err h)
    from_halts h m = by_items (Err h) (Err h) m m.0 (λ n i p e. go n p)
      where
        go : (n : ℕ) (p : PartRead) (o : Ran) → ItemsAs w 0 s.at (Err h) o → FinIs w (Err h) (leave_part (from₀ n) p (part_end o))
        go n p (halted l) q = ap stop q
        go n p (ended nil l) q = ap stop q
        go n p (ended (r ▸ i) l) q = absurd q

    module _ (y : Stretch) (m : ItemsIs w 0 s.at (Ok y)) where
      pub from_wrong : ends_here w y.at ≡ false → (h : Halt) → h ≡ halt_at w y.last y.at → FromIs w s (Err h)
      from_wrong k h v = rw v (by_items (Ok y) (Err (halt_at w y.last y.at)) m (halt_within w y.at y.last m.0.1) (λ n i p e. go n p))
        where
          go : (n : ℕ) (p : PartRead) (o : Ran) → ItemsAs w 0 s.at (Ok y) o → FinIs w (Err (halt_at w y.last y.at)) (leave_part (from₀ n) p (part_end o))
          go n p (ended (r ▸ i) l) q =
              rw (q.0, part_wrong r i (drop y.at (kinds_of w)) (sym (ends_is w y.at) ∙ k))
              (ap stop (halt_is w y.at (is_group i) ∙ ap (λ z. drop (halt_at w z y.at).at (kinds_of w)) (sym (ap (λ z. z.last) q.1))))
          go n p _ q = absurd q

      pub from_run : ends_here w y.at ≡ true → (x : Result Whole Halt) → LeaveIs w s y x → FromIs w s x
      from_run k x ih = by_items (Ok y) x m ih.0 go
        where
          go : (n : ℕ) → length w - s.at < suc n → (p : PartRead) → s ≡ part_sofar p → (o : Ran) → ItemsAs w 0 s.at (Ok y) o → FinIs w x (leave_part (from₀ n) p (part_end o))
          go n h p e (ended (r ▸ i) l) q =
              let v = m.0.0 in
              rw (q.0, part_left r i (drop y.at (kinds_of w)) (sym (ends_is w y.at) ∙ k), part_sign (from₀ n) p (r ▸ i) (drop y.at (kinds_of w)))
              (ih.1 (from₀ n) (edges p (r ▸ i)) (finish_part p (r ▸ i)) (λ u i. goes n y.at h v u i) (leaves_as p (r ▸ i) s y e q.1))
          go n h p e _ q = absurd q
