-- Each way through the readers of runs, groups and endings is a law: what the callees promise makes what the caller promises.
-- Assumes nothing.
use mathlib.Core.Path.{◌≡◌, refl, sym, ap, ap₂, subst, ◌∙◌}
use mathlib.Core.Bool.{Bool, true, false, cond}
use mathlib.Core.List.{List, ◌∷◌}
use Prim.Native.Nat.{ℕ, zero, suc, ◌+◌, ◌-◌, ◌*◌, ◌≤◌, ◌<◌}
use native.Mathlib.Omega.{arith}
use native.Mathlib.Numerals.{add-one}
use lib.ListN.{length, drop}
use Rattle.std.specs.Prelude.{Some, Result, Ok, Err}
use Rattle.signs.specs.declared.sign.Sign.{Sign}
use Rattle.signs.specs.declared.sign.Sign.TheVariants.{Block, LeftRepeat, RightRepeat, OpenEnding, CloseEnding}
use Rattle.score.specs.Trees.{block, written, Run, nil, ◌▸◌, leaf, Ends, no_more, ◌then◌}
use Rattle.score.specs.Trees.{Left as LeftOf}
use Rattle.score.specs.Spelling.{run_signs}
use Rattle.score.specs.Readings.{is_group}
use Rattle.score.specs.Steps.{count}
use Rattle.score.specs.Depth.{inner}
use Rattle.score.proofs.Alphabet.{right, sign_kind}
use Rattle.score.proofs.Reader.{Ran, Got, ended, halted, item, halted_in, on_item, after_run, after_end, read_run, read_group, read_ends}
use Rattle.grammar.specs.declared.place.Halt.{Halt}
use Rattle.grammar.specs.declared.stretch.Last.{Last}
use Rattle.grammar.specs.declared.stretch.Last.TheVariants.{NoItem, Plain, Group}
use Rattle.grammar.specs.declared.stretch.Left.TheVariants.{Written}
use Rattle.grammar.specs.declared.stretch.Stretch.{Stretch}
use Rattle.grammar.specs.declared.stretch.Begun.{Begun}
use Rattle.grammar.specs.Tallies.{capped}
use Rattle.grammar.specs.Kinds.{kinds_of, sign_at, halt, halt_at, goes_on}
use Rattle.grammar.specs.Stretches.{empty_stretch, block_stretch, followed, closed_as, begun_as, went_on, finished_as, summed, begun}
use Rattle.grammar.specs.Promises.{enough, Inside, RunAs, RanAs, ItemsAs, GotAs, RunIs, ItemsIs, GroupIs, EndsIs}
use Rattle.grammar.proofs.Heads.{head_sign, sign_head, stands, starts_item, ends_left, ends_ending, run_ends, run_wrong, end_wrong, halt_is, halt_within, goes_on_is, goes_within}
use Rattle.grammar.proofs.Capped.{none_of_some}
use Rattle.grammar.proofs.Adding.{empty_is, block_is, follow_is, close_is, begin_is, go_on_is, finish_is, none_capped}

-- fuel that is one more than enough for the callees
pub fuel : (P : ℕ → Type 0) (n : ℕ) → ((f : ℕ) → n ≤ f → P (suc f)) → (f : ℕ) → n + 1 ≤ f → P f
fuel P n step zero h = absurd (omega arith)
fuel P n step (suc f) h = step f (omega arith)

-- a later start
pub from : (w : List ℕ) (a b : ℕ) (r : Result Stretch Halt) → a ≤ b → Inside w b r → Inside w a r
from w a b (Ok x) l i = (omega (arith, i.0), i.1)
from w a b (Err h) l i = i

-- what is left behind a sign, where the place behind it goes by a name
pub behind : (w : List ℕ) (at next : ℕ) (x : Sign) → sign_at w at ≡ Some x → next ≡ at + 1 → drop at (kinds_of w) ≡ sign_kind x ∷ drop next (kinds_of w)
behind w at next x k e = (stands w at x k).1 ∙ ap (λ q. sign_kind x ∷ drop q (kinds_of w)) (sym e)

module _ (w : List ℕ) (d : ℕ) (s : Stretch) where
  abbrev Runs : Result Stretch Halt → Run → ℕ → Type 0
  Runs r t f = RunAs w d s t r (read_run f t (drop s.at (kinds_of w)))

  -- what is kept, where that of the start is known
  pub sums : (p : ℕ) (t : Run) → s ≡ summed d p t → (r : Result Stretch Halt) (o : Ran) → RunAs w d s t r o → RanAs w d p r o
  sums p t e (Ok x) (ended u l) q = (q.0, q.1 p e)
  sums p t e (Err h) (halted l) q = q
  sums p t e _ _ q = absurd q

  -- on from a later start
  onward : (y : Stretch) (t u : Run) → ((p : ℕ) → s ≡ summed d p t → y ≡ summed d p u) → (r : Result Stretch Halt) (o : Ran) → RunAs w d y u r o → RunAs w d s t r o
  onward y t u f (Ok x) (ended v l) q = (q.0, λ p e. q.1 p (f p e))
  onward y t u f (Err h) (halted l) q = q
  onward y t u f _ _ q = absurd q

  -- no item stands there
  pub run_stops : s.at ≤ length w → starts_item (sign_at w s.at) ≡ false → RunIs w d s (Ok s)
  run_stops b g = (
    (omega arith, b),
    λ f l t. fuel (Runs (Ok s) t) (2 * (length w - s.at)) (λ n m. rw (run_ends n t (drop s.at (kinds_of w)) (ap starts_item (sym (sign_head w s.at)) ∙ g)) (refl, λ p e. e)) f l,
  )

  -- a block stands there
  pub run_block : (k n : ℕ) → sign_at w s.at ≡ Some (Block k n) → (y : Stretch) → y ≡ followed s (block_stretch (s.at + 1) n) → (r : Result Stretch Halt) → RunIs w d y r → RunIs w d s r
  run_block k n b y v r m =
      let a : y.at ≡ s.at + 1 = ap (λ q. q.at) v in
      let i = (stands w s.at (Block k n) b).0 in (
        from w s.at y.at r (omega arith) m.0,
        λ f l t. fuel (Runs r t) (2 * (length w - s.at))
            (λ j u. rw (behind w s.at y.at (Block k n) b a) (onward y t (t ▸ leaf (block k n)) (λ p e. v ∙ next p t e) r (read_run j (t ▸ leaf (block k n)) (drop y.at (kinds_of w))) (m.1 j (omega arith) (t ▸ leaf (block k n))))) f l,
      )
    where
      next : (p : ℕ) (t : Run) → s ≡ summed d p t → followed s (block_stretch (s.at + 1) n) ≡ summed d p (t ▸ leaf (block k n))
      next p t e = ap₂ followed e (ap (λ x. block_stretch (x.at + 1) n) e ∙ block_is d (p + length (run_signs t)) k n) ∙ follow_is d p t (leaf (block k n))

  -- a `|:` stands there
  module _ (k : sign_at w s.at ≡ Some LeftRepeat) where
    abbrev group_at : ℕ → Got
    group_at f = read_group f (drop (s.at + 1) (kinds_of w))

    pub run_item : (x : Stretch) → GroupIs w d s.at (Ok x) → (y : Stretch) → y ≡ followed s x → (r : Result Stretch Halt) → RunIs w d y r → RunIs w d s r
    run_item x g y v r m =
        let a : y.at ≡ x.at = ap (λ q. q.at) v in
        let b = g.0.0 in
        let i = stands w s.at LeftRepeat k in (
          from w s.at y.at r (omega arith) m.0,
          λ f l t. fuel (Runs r t) (2 * (length w - s.at)) (λ n u. let j = i.0 in rw i.1 (go n t (omega arith) (group_at n) (g.1 n (omega arith)))) f l,
        )
      where
        go : (n : ℕ) (t : Run) → enough w y.at ≤ n → (o : Got) → GotAs w d s.at (Ok x) o → RunAs w d s t r (on_item (λ i l. read_run n (t ▸ i) l) o)
        go n t h (item i l) q =
            let z = q.0 ∙ ap (λ u. drop u.at (kinds_of w)) (sym v) in
            rw z (onward y t (t ▸ i) (λ p e. v ∙ ap₂ followed e (q.1 ∙ ap (λ u. summed d u.at (nil ▸ i)) e) ∙ follow_is d p t i) r (read_run n (t ▸ i) (drop y.at (kinds_of w))) (m.1 n h (t ▸ i)))
        go n t h (halted_in l) q = absurd q

    pub run_halts : (h : Halt) → GroupIs w d s.at (Err h) → RunIs w d s (Err h)
    run_halts h g =
        let i = stands w s.at LeftRepeat k in
        (g.0, λ f l t. fuel (Runs (Err h) t) (2 * (length w - s.at)) (λ n u. let j = i.0 in rw i.1 (go n t (group_at n) (g.1 n (omega arith)))) f l)
      where
        go : (n : ℕ) (t : Run) (o : Got) → GotAs w d s.at (Err h) o → RunAs w d s t (Err h) (on_item (λ i l. read_run n (t ▸ i) l) o)
        go n t (item i l) q = absurd q
        go n t (halted_in l) q = q

-- the run that y leads on to is that of s
abbrev pub LeadsOn : List ℕ → ℕ → Stretch → Stretch → Type 0
LeadsOn w d s y = (s.at ≤ y.at) × (y.at ≤ length w) × ((r : Result Stretch Halt) → RunIs w d y r → RunIs w d s r)

-- on past an item
module _ (w : List ℕ) (d : ℕ) (s y : Stretch) (m : LeadsOn w d s y) where
  pub past_block : (k n : ℕ) → sign_at w y.at ≡ Some (Block k n) → (z : Stretch) → z ≡ followed y (block_stretch (y.at + 1) n) → LeadsOn w d s z
  past_block k n b z v =
      let a : z.at ≡ y.at + 1 = ap (λ q. q.at) v in
      let i = (stands w y.at (Block k n) b).0 in
      let l = m.0 in
      (omega arith, omega arith, λ r q. m.2 r (run_block w d y k n b z v r q))

  pub past_item : sign_at w y.at ≡ Some LeftRepeat → (x : Stretch) → GroupIs w d y.at (Ok x) → (z : Stretch) → z ≡ followed y x → LeadsOn w d s z
  past_item k x g z v =
      let a : z.at ≡ x.at = ap (λ q. q.at) v in
      let b = g.0.0 in
      let c = g.0.1 in
      let l = m.0 in
      (omega arith, omega arith, λ r q. m.2 r (run_item w d y k x g z v r q))

-- a run from its start on: with no item, or with a last one
pub last_some : (b : Bool) → ◌≡◌ {A = Last} (cond b Group Plain) NoItem → ⊥
last_some true e = absurd cc
last_some false e = absurd cc

module _ (w : List ℕ) (d start : ℕ) (s : Stretch) (e : s ≡ empty_stretch start) where
  abbrev run_at : ℕ → Ran
  run_at f = read_run f nil (drop start (kinds_of w))

  begins : (r : Result Stretch Halt) → RunIs w d s r → Inside w start r × ((f : ℕ) → enough w start ≤ f → RanAs w d start r (run_at f))
  begins r m =
      let b = subst (λ (q : Stretch). RunIs w d q r) e m in
      (b.0, λ f l. sums w d (empty_stretch start) start nil (empty_is d start) r (run_at f) (b.1 f l nil))

  pub items_halt : (h : Halt) → RunIs w d s (Err h) → ItemsIs w d start (Err h)
  items_halt h m = let b = begins (Err h) m in (b.0, λ f l. go (run_at f) (b.1 f l))
    where
      go : (x : Ran) → RanAs w d start (Err h) x → ItemsAs w d start (Err h) x
      go (halted k) q = q
      go (ended t k) q = absurd q

  pub items_none : (x : Stretch) → RunIs w d s (Ok x) → x.last ≡ NoItem → ItemsIs w d start (Err (halt x.at))
  items_none x m z = let b = begins (Ok x) m in (b.0.1, λ f l. go (run_at f) (b.1 f l))
    where
      go : (o : Ran) → RanAs w d start (Ok x) o → ItemsAs w d start (Err (halt x.at)) o
      go (halted k) q = absurd q
      go (ended nil k) q = q.0
      go (ended (r ▸ i) k) q = absurd (last_some (is_group i) (sym (ap (λ u. u.last) q.1) ∙ z))

  pub items_some : (x : Stretch) → RunIs w d s (Ok x) → (x.last ≡ NoItem → ⊥) → ItemsIs w d start (Ok x)
  items_some x m z = let b = begins (Ok x) m in (b.0, λ f l. go (run_at f) (b.1 f l))
    where
      go : (o : Ran) → RanAs w d start (Ok x) o → ItemsAs w d start (Ok x) o
      go (halted k) q = absurd q
      go (ended nil k) q = absurd (z (ap (λ u. u.last) q.1))
      go (ended (r ▸ i) k) q = q

-- what stands behind a `|:`
module _ (w : List ℕ) (d at : ℕ) where
  abbrev Groups : Result Stretch Halt → ℕ → Type 0
  Groups r f = GotAs w d at r (read_group f (drop (at + 1) (kinds_of w)))

  -- behind the items of a group
  abbrev After : Result Stretch Halt → ℕ → Ran → Type 0
  After r n x = GotAs w d at r (after_run (λ m l. read_ends n written m no_more l) x)

  -- the group's promise, from that of its items
  by_items : (u r : Result Stretch Halt) → ItemsIs w (d + 1) (at + 1) u → Inside w (at + 1) r → ((n : ℕ) → enough w (at + 1) ≤ n → (x : Ran) → ItemsAs w (d + 1) (at + 1) u x → After r n x) → GroupIs w d at r
  by_items u r m i go = (i, fuel (Groups r) (enough w (at + 1)) (λ n l. go n l (read_run n nil (drop (at + 1) (kinds_of w))) (m.1 n l)))

  pub group_halts : (h : Halt) → ItemsIs w (d + 1) (at + 1) (Err h) → GroupIs w d at (Err h)
  group_halts h m = by_items (Err h) (Err h) m m.0 (λ n l. go n)
    where
      go : (n : ℕ) (x : Ran) → ItemsAs w (d + 1) (at + 1) (Err h) x → After (Err h) n x
      go n (halted k) q = q
      go n (ended nil k) q = q
      go n (ended (r ▸ i) k) q = absurd q

  module _ (x : Stretch) (m : ItemsIs w (d + 1) (at + 1) (Ok x)) where
    -- the items, one deeper
    deeper : (t : Run) → x ≡ summed (d + 1) (at + 1) t → x ≡ summed (suc d) (at + 1) t
    deeper t e = e ∙ ap (λ q. summed q (at + 1) t) (add-one d)

    pub group_wrong : ends_left (sign_at w x.at) ≡ false → GroupIs w d at (Err (halt x.at))
    group_wrong g = by_items (Ok x) (Err (halt x.at)) m m.0.1 (λ n l. go n)
      where
        go : (n : ℕ) (o : Ran) → ItemsAs w (d + 1) (at + 1) (Ok x) o → After (Err (halt x.at)) n o
        go n (ended (r ▸ i) k) q = rw (run_wrong (λ m l. read_ends n written m no_more l) r i k (ap (λ v. ends_left v) (ap head_sign q.0 ∙ sym (sign_head w x.at)) ∙ g)) q.0
        go n _ q = absurd q

    pub group_closes : (y : Stretch) → y ≡ closed_as (Written d at) x → sign_at w x.at ≡ Some RightRepeat → GroupIs w d at (Ok y)
    group_closes y e k =
        let a : y.at ≡ x.at + 1 = ap (λ q. q.at) e in
        let b = m.0.0 in
        let i = (stands w x.at RightRepeat k).0 in
        by_items (Ok x) (Ok y) m (omega arith, omega arith) (λ n l. go n)
      where
        go : (n : ℕ) (o : Ran) → ItemsAs w (d + 1) (at + 1) (Ok x) o → After (Ok y) n o
        go n (ended (r ▸ i) l) q =
            let z = q.0 ∙ behind w x.at y.at RightRepeat k (ap (λ v. v.at) e) in
            rw z (refl, e ∙ ap (closed_as (Written d at)) (deeper (r ▸ i) q.1) ∙ close_is d at written (r ▸ i))
        go n _ q = absurd q

    pub group_endings : (g : Begun) → g ≡ begun_as (Written d at) x → sign_at w x.at ≡ Some OpenEnding → (r : Result Stretch Halt) → EndsIs w (d + 1) g r → GroupIs w d at r
    group_endings g e k r ih =
        let a : g.at ≡ x.at + 1 = ap (λ q. q.at) e in
        let b = m.0.0 in
        let i = (stands w x.at OpenEnding k).0 in
        by_items (Ok x) r m (from w (at + 1) g.at r (omega arith) ih.0) (λ n l. go n (omega arith))
      where
        go : (n : ℕ) → enough w g.at + 1 ≤ n → (o : Ran) → ItemsAs w (d + 1) (at + 1) (Ok x) o → After r n o
        go n h (ended (t ▸ i) l) q =
            let z = q.0 ∙ behind w x.at g.at OpenEnding k (ap (λ v. v.at) e) in
            rw z (ih.1 n h d at written (t ▸ i) no_more (sym (add-one d)) (e ∙ ap (begun_as (Written d at)) (deeper (t ▸ i) q.1) ∙ begin_is d at written (t ▸ i)))
        go n h _ q = absurd q

-- what stands behind the `[` of an ending
module _ (w : List ℕ) (d : ℕ) (g : Begun) where
  abbrev Endings : ℕ → ℕ → LeftOf → Run → Ends → Result Stretch Halt → ℕ → Type 0
  Endings b p o m es r f = GotAs w b p r (read_ends f o m es (drop g.at (kinds_of w)))

  -- behind the items of an ending
  abbrev Behind : ℕ → ℕ → LeftOf → Run → Ends → Result Stretch Halt → ℕ → Ran → Type 0
  Behind b p o m es r n x = GotAs w b p r (after_end (λ e l. read_ends n o m (es then e) l) o m es x)

  -- the endings' promise, from that of the items of one
  by_ending : (u r : Result Stretch Halt) → ItemsIs w d g.at u → Inside w g.at r
      → ((n : ℕ) → enough w g.at ≤ n → (b p : ℕ) (o : LeftOf) (m : Run) (es : Ends) → inner b o ≡ d → g ≡ begun b p o m es → (x : Ran) → ItemsAs w d g.at u x → Behind b p o m es r n x) → EndsIs w d g r
  by_ending u r v i go =
      (i, λ f l b p o m es j e. fuel (Endings b p o m es r) (enough w g.at) (λ n h. go n h b p o m es j e (read_run n nil (drop g.at (kinds_of w))) (v.1 n h)) f l)

  pub ends_halt : (h : Halt) → ItemsIs w d g.at (Err h) → EndsIs w d g (Err h)
  ends_halt h v = by_ending (Err h) (Err h) v v.0 (λ n l b p o m es j e. go n b p o m es)
    where
      go : (n b p : ℕ) (o : LeftOf) (m : Run) (es : Ends) (x : Ran) → ItemsAs w d g.at (Err h) x → Behind b p o m es (Err h) n x
      go n b p o m es (halted k) q = q
      go n b p o m es (ended nil k) q = q
      go n b p o m es (ended (r ▸ i) k) q = absurd q

  module _ (x : Stretch) (v : ItemsIs w d g.at (Ok x)) where
    pub ends_wrong : (h : Halt) → h ≡ halt_at w x.last x.at → ends_ending (sign_at w x.at) ≡ false → EndsIs w d g (Err h)
    ends_wrong h a k = rw a (by_ending (Ok x) (Err (halt_at w x.last x.at)) v (halt_within w x.at x.last v.0.1) (λ n l b p o m es j e. go n b p o m es))
      where
        go : (n b p : ℕ) (o : LeftOf) (m : Run) (es : Ends) (u : Ran) → ItemsAs w d g.at (Ok x) u → Behind b p o m es (Err (halt_at w x.last x.at)) n u
        go n b p o m es (ended (r ▸ i) l) q =
            rw (q.0, end_wrong (λ e l. read_ends n o m (es then e) l) o m es r i (drop x.at (kinds_of w)) (ap ends_ending (sym (sign_head w x.at)) ∙ k))
            (halt_is w x.at (is_group i) ∙ ap (λ z. drop (halt_at w z x.at).at (kinds_of w)) (sym (ap (λ z. z.last) q.1)))
        go n b p o m es _ q = absurd q

    module _ (k : sign_at w x.at ≡ Some CloseEnding) where
      abbrev after : ℕ
      after = x.at + 1

      inside : x.at < length w
      inside = (stands w x.at CloseEnding k).0

      splits : drop x.at (kinds_of w) ≡ right ∷ drop after (kinds_of w)
      splits = (stands w x.at CloseEnding k).1

      -- the ending of a group that was begun
      ended_as_lem : (b p : ℕ) (o : LeftOf) (m : Run) (es : Ends) → inner b o ≡ d → g ≡ begun b p o m es → (t : Run) → x ≡ summed d g.at t → x ≡ summed (inner b o) (begun b p o m es).at t
      ended_as_lem b p o m es i e t q = q ∙ ap₂ (λ u v. summed u v t) (sym i) (ap (λ u. u.at) e)

      pub ends_once : (h : Halt) → h ≡ halt_at w Group after → goes_on w after ≡ false → g.endings ≡ 0 → EndsIs w d g (Err h)
      ends_once h a s t =
          let i = inside in
          rw a (by_ending (Ok x) (Err (halt_at w Group after)) v (halt_within w after Group (omega arith)) (λ n l b p o m es j e. go n b p o m es (sym (ap (λ u. u.endings) e) ∙ t)))
        where
          go : (n b p : ℕ) (o : LeftOf) (m : Run) (es : Ends) → capped (count es) ≡ 0 → (u : Ran) → ItemsAs w d g.at (Ok x) u → Behind b p o m es (Err (halt_at w Group after)) n u
          go n b p o m no_more z (ended (r ▸ i) l) q = rw (q.0, splits, goes_on_is w after, s) (halt_is w after true)
          go n b p o m (es then y) z (ended (r ▸ i) l) q = absurd (none_of_some (count es) z)
          go n b p o m es z _ q = absurd q

      pub ends_done : (y : Stretch) → y ≡ finished_as g x → goes_on w after ≡ false → (g.endings ≡ 0 → ⊥) → EndsIs w d g (Ok y)
      ends_done y a s t =
          let c : y.at ≡ after = ap (λ u. u.at) a in
          let z = v.0.0 in
          let i = inside in
          by_ending (Ok x) (Ok y) v (omega arith, omega arith) (λ n l b p o m es j e. go n b p o m es j e (λ u. t (ap (λ v. v.endings) e ∙ u)))
        where
          go : (n b p : ℕ) (o : LeftOf) (m : Run) (es : Ends) → inner b o ≡ d → g ≡ begun b p o m es → (capped (count es) ≡ 0 → ⊥) → (u : Ran) → ItemsAs w d g.at (Ok x) u → Behind b p o m es (Ok y) n u
          go n b p o m no_more j e z (ended (r ▸ i) l) q = absurd (z (sym none_capped))
          go n b p o m (es then u) j e z (ended (r ▸ i) l) q =
              rw (q.0, splits, goes_on_is w after, s)
              (ap (λ u. drop u.at (kinds_of w)) (sym a), a ∙ ap₂ finished_as e (ended_as_lem b p o m (es then u) j e (r ▸ i) q.1) ∙ finish_is b p o m (es then u) (r ▸ i))
          go n b p o m es j e z _ q = absurd q

      pub ends_more : (u : Begun) → u ≡ went_on g x → goes_on w after ≡ true → (y : Result Stretch Halt) → EndsIs w d u y → EndsIs w d g y
      ends_more u a s y ih =
          let c : u.at ≡ x.at + 3 = ap (λ q. q.at) a in
          let z = v.0.0 in
          let i = inside in
          by_ending (Ok x) y v (from w g.at u.at y (omega arith) ih.0) (λ n l. go n (omega arith))
        where
          next : after + 2 ≡ u.at
          next = let c : u.at ≡ x.at + 3 = ap (λ q. q.at) a in omega arith

          go : (n : ℕ) → enough w u.at + 1 ≤ n → (b p : ℕ) (o : LeftOf) (m : Run) (es : Ends) → inner b o ≡ d → g ≡ begun b p o m es → (z : Ran) → ItemsAs w d g.at (Ok x) z → Behind b p o m es y n z
          go n h b p o m es j e (ended (r ▸ i) l) q =
              rw (q.0, splits, goes_on_is w after, s, next)
              (ih.1 n h b p o m (es then (r ▸ i)) j (a ∙ ap₂ went_on e (ended_as_lem b p o m es j e (r ▸ i) q.1) ∙ go_on_is b p o m es (r ▸ i)))
          go n h b p o m es j e _ q = absurd q

-- the endings that y leads on to are those of g
abbrev pub EndsLeadOn : List ℕ → ℕ → Begun → Begun → Type 0
EndsLeadOn w d g y = (g.at ≤ y.at) × (y.at ≤ length w) × ((r : Result Stretch Halt) → EndsIs w d y r → EndsIs w d g r)

-- on past an ending
pub past_ending : (w : List ℕ) (d : ℕ) (g y : Begun) → EndsLeadOn w d g y → (x : Stretch) → ItemsIs w d y.at (Ok x) → sign_at w x.at ≡ Some CloseEnding → goes_on w (x.at + 1) ≡ true → (z : Begun) → z ≡ went_on y x → EndsLeadOn w d g z
past_ending w d g y m x v k s z a =
    let c : z.at ≡ x.at + 3 = ap (λ q. q.at) a in
    let b = v.0.0 in
    let i = goes_within w (x.at + 1) s in
    let l = m.0 in
    (omega arith, omega arith, λ r q. m.2 r (ends_more w d y x v k z a s r q))
