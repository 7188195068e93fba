-- Each way through the reader of the first run is a law.
-- Assumes nothing.
use mathlib.Core.Path.{◌≡◌, refl, sym, ap, ◌∙◌}
use mathlib.Core.Bool.{true, false}
use Prim.Native.Nat.{ℕ, ◌+◌, ◌≤◌, ◌<◌}
use native.Mathlib.Nat.{add-zero}
use native.Mathlib.Omega.{arith}
use mathlib.Core.List.{List}
use lib.ListN.{length, drop}
use Rattle.std.specs.Prelude.{Some, Result, Ok, Err}
use Rattle.signs.specs.declared.sign.Sign.TheVariants.{RightRepeat, OpenEnding}
use Rattle.score.specs.Trees.{lacking, Run, nil, ◌▸◌, Item, repeat, no_more}
use Rattle.score.specs.Readings.{is_group}
use Rattle.score.proofs.Reader.{Ran, ended, halted, Got, item, halted_in, on_item, after_first, read_run, read_ends, read_implied}
use Rattle.grammar.specs.declared.place.Halt.{Halt}
use Rattle.grammar.specs.declared.stretch.Last.TheVariants.{NoItem}
use Rattle.grammar.specs.declared.stretch.Left.TheVariants.{Lacking}
use Rattle.grammar.specs.declared.stretch.Stretch.{Stretch}
use Rattle.grammar.specs.declared.stretch.Begun.{Begun}
use Rattle.grammar.specs.Kinds.{kinds_of, sign_at, halt, ends_here}
use Rattle.grammar.specs.Stretches.{closed_as, begun_as, summed}
use Rattle.grammar.specs.Promises.{enough, Inside, RanAs, GotAs, RunIs, EndsIs}
use Rattle.grammar.specs.First.{FirstIs}
use Rattle.grammar.proofs.Heads.{sign_head, stands, ends_left, ends_is, first_left, first_wrong}
use Rattle.grammar.proofs.Adding.{close_is, begin_is}
use Rattle.grammar.proofs.Ways.{fuel, from, behind, sums, last_some}

module _ (w : List ℕ) (s : Stretch) where
  -- behind the run that was read
  abbrev After : ℕ → Result Stretch Halt → ℕ → Ran → Type 0
  After p r n x = RanAs w 0 p r (after_first (λ q l. read_implied n q l) (λ m l. read_ends n lacking m no_more l) x)

  -- the first run's promise, from that of the run that was read
  by_run : (u r : Result Stretch Halt) → RunIs w 0 s u → Inside w s.at r → ((n : ℕ) → enough w s.at ≤ n → (p : ℕ) (x : Ran) → RanAs w 0 p u x → After p r n x) → FirstIs w s r
  by_run u r m i go =
      (i, λ f l p t e. fuel (λ (f : ℕ). RanAs w 0 p r (read_implied f t (drop s.at (kinds_of w)))) (enough w s.at) (λ n h. go n h p (read_run n t (drop s.at (kinds_of w))) (sums w 0 s p t e u (read_run n t (drop s.at (kinds_of w))) (m.1 n h t))) f l)

  pub first_halts : (h : Halt) → RunIs w 0 s (Err h) → FirstIs w s (Err h)
  first_halts h m = by_run (Err h) (Err h) m m.0 (λ n l. go n)
    where
      go : (n p : ℕ) (x : Ran) → RanAs w 0 p (Err h) x → After p (Err h) n x
      go n p (halted l) q = q
      go n p (ended t l) q = absurd q

  module _ (x : Stretch) (m : RunIs w 0 s (Ok x)) where
    pub first_empty : x.last ≡ NoItem → FirstIs w s (Err (halt x.at))
    first_empty z = by_run (Ok x) (Err (halt x.at)) m m.0.1 (λ n l. go n)
      where
        go : (n p : ℕ) (o : Ran) → RanAs w 0 p (Ok x) o → After p (Err (halt x.at)) n o
        go n p (halted l) q = absurd q
        go n p (ended nil l) q = q.0
        go n p (ended (t ▸ i) l) q = absurd (last_some (is_group i) (sym (ap (λ u. u.last) q.1) ∙ z))

    module _ (z : x.last ≡ NoItem → ⊥) where
      -- what is to be shown where the run has an item
      by_items : (r : Result Stretch Halt) → Inside w s.at r → ((n : ℕ) → enough w s.at ≤ n → (p : ℕ) (t : Run) (i : Item) → x ≡ summed 0 p (t ▸ i) → After p r n (ended (t ▸ i) (drop x.at (kinds_of w)))) → FirstIs w s r
      by_items r i go = by_run (Ok x) r m i go_on
        where
          go_on : (n : ℕ) → enough w s.at ≤ n → (p : ℕ) (o : Ran) → RanAs w 0 p (Ok x) o → After p r n o
          go_on n h p (halted l) q = absurd q
          go_on n h p (ended nil l) q = absurd (z (ap (λ u. u.last) q.1))
          go_on n h p (ended (t ▸ i) l) q = rw q.0 (go n h p t i q.1)

      -- what stands after a `|:` that lacks
      at_zero : (p : ℕ) (r : Run) → x ≡ summed 0 p r → x ≡ summed 0 (p + 0) r
      at_zero p r e = e ∙ ap (λ q. summed 0 q r) (sym (add-zero p))

      pub first_wrongs : ends_left (sign_at w x.at) ≡ false → ends_here w x.at ≡ false → FirstIs w s (Err (halt x.at))
      first_wrongs g h =
          by_items (Err (halt x.at)) m.0.1
          (λ n l p t i e.
          rw (first_wrong t i (λ q l. read_implied n q l) (λ m l. read_ends n lacking m no_more l) (drop x.at (kinds_of w)) (ap ends_left (sym (sign_head w x.at)) ∙ g) (sym (ends_is w x.at) ∙ h)))

      pub first_ends : ends_here w x.at ≡ true → FirstIs w s (Ok x)
      first_ends h =
          by_items (Ok x) m.0
          (λ n l p t i e. rw (first_left t i (λ q l. read_implied n q l) (λ m l. read_ends n lacking m no_more l) (drop x.at (kinds_of w)) (sym (ends_is w x.at) ∙ h)) (refl, e))

      pub first_closes : (y : Stretch) → y ≡ closed_as Lacking x → sign_at w x.at ≡ Some RightRepeat → (r : Result Stretch Halt) → FirstIs w y r → FirstIs w s r
      first_closes y v k r ih =
          let a : y.at ≡ x.at + 1 = ap (λ q. q.at) v in
          let b = m.0.0 in
          let c = (stands w x.at RightRepeat k).0 in
          by_items r (from w s.at y.at r (omega arith) ih.0)
          (λ n l p t i e. rw (behind w x.at y.at RightRepeat k a) (ih.1 n (omega arith) p (nil ▸ repeat lacking (t ▸ i)) (v ∙ ap (closed_as Lacking) (at_zero p (t ▸ i) e) ∙ close_is 0 p lacking (t ▸ i))))

      module _ (g : Begun) (v : g ≡ begun_as Lacking x) (k : sign_at w x.at ≡ Some OpenEnding) where
        at_left : (x.at < length w) × (g.at ≡ x.at + 1)
        at_left = ((stands w x.at OpenEnding k).0, ap (λ q. q.at) v)

        -- what is to be shown of the group
        by_group : (u r : Result Stretch Halt) → EndsIs w 0 g u → Inside w s.at r → ((n : ℕ) → enough w s.at ≤ n → (p : ℕ) (o : Got) → GotAs w 0 p u o → RanAs w 0 p r (on_item (λ j l. read_implied n (nil ▸ j) l) o)) → FirstIs w s r
        by_group u r e i go =
            let b = m.0.0 in
            let c = at_left in
            by_items r i
            (λ n l p t i q.
            rw (behind w x.at g.at OpenEnding k at_left.1)
            (go n l p (read_ends n lacking (t ▸ i) no_more (drop g.at (kinds_of w))) (e.1 n (omega arith) 0 p lacking (t ▸ i) no_more refl (v ∙ ap (begun_as Lacking) (at_zero p (t ▸ i) q) ∙ begin_is 0 p lacking (t ▸ i)))))

        pub first_stops : (h : Halt) → EndsIs w 0 g (Err h) → FirstIs w s (Err h)
        first_stops h e = by_group (Err h) (Err h) e e.0 (λ n l. go n)
          where
            go : (n p : ℕ) (o : Got) → GotAs w 0 p (Err h) o → RanAs w 0 p (Err h) (on_item (λ j l. read_implied n (nil ▸ j) l) o)
            go n p (item j l) q = absurd q
            go n p (halted_in l) q = q

        pub first_groups : (y : Stretch) (r : Result Stretch Halt) → EndsIs w 0 g (Ok y) → FirstIs w y r → FirstIs w s r
        first_groups y r e ih =
            let b = m.0.0 in
            let c = at_left in
            let d = e.0.0 in
            by_group (Ok y) r e (from w s.at y.at r (omega arith) ih.0) (λ n l. go n (omega arith))
          where
            go : (n : ℕ) → enough w y.at + 1 ≤ n → (p : ℕ) (o : Got) → GotAs w 0 p (Ok y) o → RanAs w 0 p r (on_item (λ j l. read_implied n (nil ▸ j) l) o)
            go n h p (item j l) q = rw q.0 (ih.1 n h p (nil ▸ j) q.1)
            go n h p (halted_in l) q = absurd q

-- the first run that y leads on to is that of s
abbrev pub FirstLeadsOn : List ℕ → Stretch → Stretch → Type 0
FirstLeadsOn w s y = (s.at ≤ y.at) × (y.at ≤ length w) × ((r : Result Stretch Halt) → FirstIs w y r → FirstIs w s r)

-- on past a `:|`, or past endings
module _ (w : List ℕ) (s y : Stretch) (m : FirstLeadsOn w s y) (x : Stretch) (n : RunIs w 0 y (Ok x)) (o : x.last ≡ NoItem → ⊥) (z : Stretch) where
  pub past_close : z ≡ closed_as Lacking x → sign_at w x.at ≡ Some RightRepeat → FirstLeadsOn w s z
  past_close v k =
      let a : z.at ≡ x.at + 1 = ap (λ q. q.at) v in
      let b = n.0.0 in
      let c = (stands w x.at RightRepeat k).0 in
      let l = m.0 in
      (omega arith, omega arith, λ r q. m.2 r (first_closes w y x n o z v k r q))

  pub past_group : (g : Begun) → g ≡ begun_as Lacking x → sign_at w x.at ≡ Some OpenEnding → EndsIs w 0 g (Ok z) → FirstLeadsOn w s z
  past_group g v k e =
      let a : g.at ≡ x.at + 1 = ap (λ q. q.at) v in
      let b = n.0.0 in
      let c = e.0.0 in
      let d = e.0.1 in
      let l = m.0 in
      (omega arith, d, λ r q. m.2 r (first_groups w y x n o g v k z r e q))
