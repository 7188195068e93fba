-- Each way through the start of the reader of a whole score is a law.
-- Assumes nothing.
use mathlib.Core.Path.{◌≡◌, refl, sym, ap, subst, ◌∙◌}
use mathlib.Core.Bool.{false, true}
use mathlib.Core.List.{List, [], ◌∷◌}
use Prim.Native.Nat.{ℕ, suc, ◌+◌, ◌≤◌, ◌<◌}
use native.Mathlib.Omega.{arith}
use lib.ListN.{length, drop}
use Rattle.std.specs.Prelude.{Option, Some, None, Result, Ok, Err}
use Rattle.signs.specs.declared.sign.Sign.{Sign}
use Rattle.signs.specs.declared.sign.Sign.TheVariants.{Block, LeftRepeat}
use Rattle.signs.specs.declared.sign.Sign.TheVariants.{Time as TimeSign}
use Rattle.score.specs.Times.{Time}
use Rattle.score.specs.Trees.{block, nil, ◌▸◌, leaf}
use Rattle.score.specs.Spelling.{time_signs}
use Rattle.score.proofs.Alphabet.{Kind, plays, time, opens}
use Rattle.score.proofs.Machine.{State, in_a, edges, finish_part}
use Rattle.score.proofs.Reader.{Ran, ended, halted, Got, item, halted_in, stop, fuel, from, leave_part, read_group, read_implied, start_item, read_start, read_score}
use Rattle.grammar.specs.declared.place.Halt.{Halt}
use Rattle.grammar.specs.declared.stretch.Stretch.{Stretch}
use Rattle.grammar.specs.declared.whole.Sofar.{Sofar}
use Rattle.grammar.specs.declared.whole.Whole.{Whole}
use Rattle.grammar.specs.Kinds.{kinds_of, sign_at, halt}
use Rattle.grammar.specs.Tallies.{capped}
use Rattle.grammar.specs.Stretches.{block_stretch, run_tally, deep_of}
use Rattle.grammar.specs.Promises.{enough, RanAs, GotAs, GroupIs}
use Rattle.grammar.specs.First.{FirstIs}
use Rattle.grammar.specs.Parts.{once_of, part_sofar}
use Rattle.grammar.specs.Wholes.{Within, FinIs, GoesOn, LeaveIs, behind_time, start_at, opened_as, RestIs, ScoreIs}
use Rattle.grammar.proofs.Adding.{block_is}
use Rattle.grammar.proofs.Heads.{head_sign, sign_head, stands, starts_item}
use Rattle.grammar.proofs.WholeWays.{kinds_left, part_sign, leaves_as}

opened_is : (t : Time) (start : ℕ) → start ≡ length (time_signs t) → opened_as start ≡ part_sofar (in_a t)
unfolding once_of run_tally deep_of capped
opened_is None start e = ap opened_as e
opened_is (Some (m, n)) start e = ap opened_as e

module _ (w : List ℕ) (start : ℕ) (s : Stretch) where
  first_fuel : enough w s.at + 1 ≤ fuel (drop s.at (kinds_of w))
  first_fuel = let e = kinds_left w s.at in omega arith

  -- the promise, from that of the first run
  by_first : (u : Result Stretch Halt) (r : Result Whole Halt) → FirstIs w s u → Within w r
      → ((t : Time) → start ≡ length (time_signs t) → (o : Ran) → RanAs w 0 start u o → FinIs w r (leave_part (from true) (in_a t) o)) → RestIs w start s r
  by_first u r m i go = (i, λ t i e h. go t e (read_implied (fuel (drop s.at (kinds_of w))) (nil ▸ i) (drop s.at (kinds_of w))) (m.1 (fuel (drop s.at (kinds_of w))) first_fuel start (nil ▸ i) h))

  pub rest_halts : (h : Halt) → FirstIs w s (Err h) → RestIs w start s (Err h)
  rest_halts h m = by_first (Err h) (Err h) m m.0 go
    where
      go : (t : Time) → start ≡ length (time_signs t) → (o : Ran) → RanAs w 0 start (Err h) o → FinIs w (Err h) (leave_part (from true) (in_a t) o)
      go t e (halted l) q = ap stop q
      go t e (ended u l) q = absurd q

  pub rest_leaves : (y : Stretch) → FirstIs w s (Ok y) → (o : Sofar) → o ≡ opened_as start → (x : Result Whole Halt) → LeaveIs w o y x → RestIs w start s x
  rest_leaves y m o v x ih = by_first (Ok y) x m ih.0 go
    where
      goes : (u : State) → GoesOn w (y.at + 1) (from true) u
      goes u = let e = kinds_left w (y.at + 1) in record { fuel = suc (length (drop (y.at + 1) (kinds_of w))); enough = omega arith; same = refl }

      go : (t : Time) → start ≡ length (time_signs t) → (o : Ran) → RanAs w 0 start (Ok y) o → FinIs w x (leave_part (from true) (in_a t) o)
      go t e (halted l) q = absurd q
      go t e (ended u l) q =
          let a : o.at ≡ start = ap (λ z. z.at) v in
          rw (q.0, part_sign (from true) (in_a t) u (drop y.at (kinds_of w)))
          (ih.1 (from true) (edges (in_a t) u) (finish_part (in_a t) u) (λ u b. goes u) (leaves_as (in_a t) u o y (v ∙ opened_is t start e) (rw a q.1)))

-- the time sign, and what follows it
record Start (w : List ℕ) (start : ℕ) : Type 0 where
  timed : Time
  size : start ≡ length (time_signs timed)
  inside : start ≤ length w
  reads : read_score true (kinds_of w) ≡ read_start true timed (drop start (kinds_of w))

no_time : (l : List Kind) → behind_time (head_sign l) ≡ 0 → read_score true l ≡ read_start true None l
no_time (time m n ∷ l) h = absurd (omega arith)
no_time [] h = refl
no_time _ h = refl

starts : (w : List ℕ) → Start w (start_at w)
starts w = go (sign_at w 0) refl
  where
    go : (o : Option Sign) → sign_at w 0 ≡ o → Start w (behind_time o)
    go (Some (TimeSign m n)) e = let s = stands w 0 (TimeSign m n) e in record { timed = Some (m, n); size = refl; inside = s.0; reads = ap (read_score true) s.1 }
    go _ e = record { timed = None; size = refl; inside = omega arith; reads = no_time (kinds_of w) (ap behind_time (sym (sign_head w 0) ∙ e)) }

-- no item stands first
start_wrong : (t : Time) (l : List Kind) → starts_item (head_sign l) ≡ false → read_start true t l ≡ stop l
start_wrong t (plays (block k n) ∷ l) e = cc
start_wrong t (opens ∷ l) e = cc
start_wrong t _ e = refl

module _ (w : List ℕ) (start : ℕ) (e : start ≡ start_at w) where
  begins : Start w start
  begins = subst (Start w) (sym e) (starts w)

  pub score_wrong : starts_item (sign_at w start) ≡ false → ScoreIs w (Err (halt start))
  score_wrong h = let c = begins in (c.inside, c.reads ∙ start_wrong c.timed (drop start (kinds_of w)) (ap starts_item (sym (sign_head w start)) ∙ h))

  pub score_block : (k n : ℕ) → sign_at w start ≡ Some (Block k n) → (s : Stretch) → s ≡ block_stretch (start + 1) n → (x : Result Whole Halt) → RestIs w start s x → ScoreIs w x
  score_block k n h s v x ih =
      let c = begins in
      let i = (stands w start (Block k n) h).1 in
      let a : s.at ≡ start + 1 = ap (λ z. z.at) v in
      let q : drop start (kinds_of w) ≡ plays (block k n) ∷ drop s.at (kinds_of w) = i ∙ ap (λ z. plays (block k n) ∷ drop z (kinds_of w)) (sym a) in
      (ih.0, rw (c.reads, q) (ih.1 c.timed (leaf (block k n)) c.size (v ∙ block_is 0 start k n)))

  module _ (k : sign_at w start ≡ Some LeftRepeat) where
    opening : (start < length w) × (drop start (kinds_of w) ≡ opens ∷ drop (start + 1) (kinds_of w))
    opening = stands w start LeftRepeat k

    group_fuel : enough w (start + 1) + 1 ≤ fuel (drop (start + 1) (kinds_of w))
    group_fuel = let e = kinds_left w (start + 1) in omega arith

    -- the promise, from that of the group
    by_group : (u : Result Stretch Halt) (r : Result Whole Halt) → GroupIs w 0 start u → Within w r → ((t : Time) → start ≡ length (time_signs t) → (o : Got) → GotAs w 0 start u o → FinIs w r (start_item true t o)) → ScoreIs w r
    by_group u r g i go =
        let c = begins in
        (i, rw (c.reads, opening.1) (go c.timed c.size (read_group (fuel (drop (start + 1) (kinds_of w))) (drop (start + 1) (kinds_of w))) (g.1 (fuel (drop (start + 1) (kinds_of w))) group_fuel)))

    pub score_group : (y : Stretch) → GroupIs w 0 start (Ok y) → (x : Result Whole Halt) → RestIs w start y x → ScoreIs w x
    score_group y g x ih = by_group (Ok y) x g ih.0 go
      where
        go : (t : Time) → start ≡ length (time_signs t) → (o : Got) → GotAs w 0 start (Ok y) o → FinIs w x (start_item true t o)
        go t e (item i l) q = rw q.0 (ih.1 t i e q.1)
        go t e (halted_in l) q = absurd q

    pub score_halts : (h : Halt) → GroupIs w 0 start (Err h) → ScoreIs w (Err h)
    score_halts h g = by_group (Err h) (Err h) g g.0 go
      where
        go : (t : Time) → start ≡ length (time_signs t) → (o : Got) → GotAs w 0 start (Err h) o → FinIs w (Err h) (start_item true t o)
        go t e (item i l) q = absurd q
        go t e (halted_in l) q = ap stop q
