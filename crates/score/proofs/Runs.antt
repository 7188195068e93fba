-- The readers of runs, groups and endings do what the machine does, whatever is open around.
-- Assumes nothing.
use mathlib.Core.Path.{◌≡◌, refl, ◌∙◌, ap}
use mathlib.Core.Bool.{Bool, true, false}
use mathlib.Core.Option.{Option, none, some}
use mathlib.Core.List.{List, [], ◌∷◌}
use Prim.Native.Nat.{ℕ, zero, suc, ◌+◌, ◌≤◌, ◌<◌}
use native.Mathlib.Omega.{arith}
use native.Mathlib.Nat.{le_refl, le_trans}
use lib.ListN.{length}
use Rattle.score.specs.Trees.{Left, written, Run, nil, ◌▸◌, Item, leaf, repeat, group, Ends, no_more, ◌then◌}
use Rattle.score.specs.Readings.{Some, SomeEnds, May, inside, start_after, is_group, ends_in_group, closes_group, ends_closing_group, Good, GoodItem, GoodEnds}
use Rattle.score.proofs.Alphabet.{Kind, plays, time, opens, closes, left, right, mark, strange}
use Rattle.score.proofs.Machine.{Stack, in_rep, in_end, State, at, half, sep, opening, close, on_time, shut, settle, next, finish, finish_shut, finish_sep}
use Rattle.score.proofs.Sound.{flag}
use Rattle.score.proofs.Complete.{under, opening_under, NotLeft, next_sep, settle_under, finish_under}
use Rattle.score.proofs.Reader.{Ran, ended, halted, Got, item, halted_in, on_item, after_run, continues, past, past_if, after_right, after_end, read_run, read_group, read_ends, Fin, stop, fin_out, fin_on}

-- What may follow a run of which it is known whether it ends in a group (g), and whether in a repeat of such a run (q):
-- no `:|` `[` after a group, and no `[` after such a repeat.
abbrev pub Enter-left : Bool → List Kind → Type 0
Enter-left g [] = Unit {0}
Enter-left g (plays x ∷ s) = Unit {0}
Enter-left g (time k l ∷ s) = Unit {0}
Enter-left g (opens ∷ s) = Unit {0}
Enter-left g (closes ∷ s) = Unit {0}
Enter-left g (left ∷ s) = g ≡ false
Enter-left g (right ∷ s) = Unit {0}
Enter-left g (mark j ∷ s) = Unit {0}
Enter-left g (strange ∷ s) = Unit {0}

abbrev pub Enter : Bool → Bool → List Kind → Type 0
Enter g q [] = Unit {0}
Enter g q (plays x ∷ s) = Unit {0}
Enter g q (time k l ∷ s) = Unit {0}
Enter g q (opens ∷ s) = Unit {0}
Enter g q (closes ∷ s) = Enter-left g s
Enter g q (left ∷ s) = q ≡ false
Enter g q (right ∷ s) = Unit {0}
Enter g q (mark j ∷ s) = Unit {0}
Enter g q (strange ∷ s) = Unit {0}

abbrev pub NoItem : List Kind → Type 0
NoItem [] = Unit {0}
NoItem (plays x ∷ s) = ⊥
NoItem (time k l ∷ s) = Unit {0}
NoItem (opens ∷ s) = ⊥
NoItem (closes ∷ s) = Unit {0}
NoItem (left ∷ s) = Unit {0}
NoItem (right ∷ s) = Unit {0}
NoItem (mark j ∷ s) = Unit {0}
NoItem (strange ∷ s) = Unit {0}

enter_left_false : (s : List Kind) → Enter-left false s
enter_left_false [] = tt
enter_left_false (plays x ∷ s) = tt
enter_left_false (time k l ∷ s) = tt
enter_left_false (opens ∷ s) = tt
enter_left_false (closes ∷ s) = tt
enter_left_false (left ∷ s) = refl
enter_left_false (right ∷ s) = tt
enter_left_false (mark j ∷ s) = tt
enter_left_false (strange ∷ s) = tt

pub enter_rep : (g : Bool) (s : List Kind) → Enter-left g s → Enter false g s
enter_rep g [] h = tt
enter_rep g (plays x ∷ s) h = tt
enter_rep g (time k l ∷ s) h = tt
enter_rep g (opens ∷ s) h = tt
enter_rep g (closes ∷ s) h = enter_left_false s
enter_rep g (left ∷ s) h = h
enter_rep g (right ∷ s) h = tt
enter_rep g (mark j ∷ s) h = tt
enter_rep g (strange ∷ s) h = tt

pub enter_none : (s : List Kind) → Enter false false s
enter_none s = enter_rep false s (enter_left_false s)

module _ (implied : Bool) where
  -- the machine, with what is left of the signs for a place
  abbrev pub runs : State → List Kind → Fin
  runs s [] = fin_out (finish implied s)
  runs s (x ∷ l) = fin_on (x ∷ l) (next implied s x) (λ u. runs u l)

  -- What an answer says of the machine
  pub record Ended (a : Run) (s : List Kind) (r : Run) (l : List Kind) : Type 0 where
    pub same : (K : Stack) → Good a (flag implied K) → runs (at K a) s ≡ runs (at K r) l
    pub good : (f : Bool) → Good a f → Good r f
    pub keeps : Some a → Some r
    pub enter : Enter (ends_in_group r) (ends_closing_group r) l
    pub no_item : NoItem l
    pub shorter : length l ≤ length s

  abbrev pub RunOk : Run → List Kind → Ran → Type 0
  RunOk a s (ended r l) = Ended a s r l
  RunOk a s (halted l) = (K : Stack) → Good a (flag implied K) → runs (at K a) s ≡ stop l

  pub record IsItem (P : Stack → Run → State) (o : Left) (s : List Kind) (i : Item) (l : List Kind) : Type 0 where
    pub same : (K : Stack) (b : Run) → Good b (flag implied K) → May (start_after (flag implied K) b) o → runs (P K b) s ≡ runs (at K (b ▸ i)) l
    pub good : (f : Bool) → May f o → GoodItem i f
    pub enter : Enter (is_group i) (closes_group i) l
    pub shorter : length l ≤ length s

  abbrev pub ItemOk : (Stack → Run → State) → Left → List Kind → Got → Type 0
  ItemOk P o s (item i l) = IsItem P o s i l
  ItemOk P o s (halted_in l) = (K : Stack) (b : Run) → Good b (flag implied K) → May (start_after (flag implied K) b) o → runs (P K b) s ≡ stop l

  -- the places
  abbrev pub rep_at : Stack → Run → State
  rep_at K b = at (in_rep b K) nil

  abbrev pub end_of : Left → Run → Ends → Stack → Run → State
  end_of o m es K b = at (in_end o b m es K) nil

  -- carrying an answer back over signs
  run_back : (a c : Run) (s t : List Kind) (x : Ran) → ((K : Stack) → Good a (flag implied K) → runs (at K a) s ≡ runs (at K c) t) → ((f : Bool) → Good a f → Good c f) → Some c
      → length t ≤ length s → RunOk c t x → RunOk a s x
  run_back a c s t (ended r l) e g n w h = record
      { same = λ K q. e K q ∙ h.same K (g (flag implied K) q); good = λ f q. h.good f (g f q); keeps = λ m. h.keeps n; enter = h.enter; no_item = h.no_item; shorter = le_trans h.shorter w }
  run_back a c s t (halted l) e g n w h = λ K q. e K q ∙ h K (g (flag implied K) q)

  item_back : (P Q : Stack → Run → State) (o : Left) (s t : List Kind) (x : Got)
      → ((K : Stack) (b : Run) → Good b (flag implied K) → May (start_after (flag implied K) b) o → runs (P K b) s ≡ runs (Q K b) t) → length t ≤ length s → ItemOk Q o t x → ItemOk P o s x
  item_back P Q o s t (item i l) e w h = record
      { same = λ K b q m. e K b q m ∙ h.same K b q m; good = h.good; enter = h.enter; shorter = le_trans h.shorter w }
  item_back P Q o s t (halted_in l) e w h = λ K b q m. e K b q m ∙ h K b q m

  -- an item of a run
  step_item : (r : Run) (s : List Kind) (f : Item → List Kind → Ran) (x : Got) → ItemOk rep_at written s x
      → ((i : Item) (l : List Kind) → Enter (is_group i) (closes_group i) l → length l ≤ length s → RunOk (r ▸ i) l (f i l))
      → RunOk r (opens ∷ s) (on_item f x)
  step_item r s f (item i l) h k =
      let w = h.shorter in
      run_back r (r ▸ i) (opens ∷ s) l (f i l) (λ K q. h.same K r q tt) (λ g q. (q, h.good (start_after g r) tt)) tt (omega arith) (k i l h.enter w)
  step_item r s f (halted_in l) h k = λ K q. h K r q tt

  -- what is stuck
  pub nil_stuck : (K : Stack) (l : List Kind) → NoItem l → ((m n : ℕ) → on_time m n K nil ≡ none) → runs (at K nil) l ≡ stop l
  nil_stuck K [] h z = refl
  nil_stuck K (plays x ∷ s) h z = absurd h
  nil_stuck K (time m n ∷ s) h z = ap (λ f. fin_on (time m n ∷ s) f (λ u. runs u s)) (z m n)
  nil_stuck K (opens ∷ s) h z = absurd h
  nil_stuck K (closes ∷ s) h z = refl
  nil_stuck K (left ∷ s) h z = refl
  nil_stuck K (right ∷ s) h z = refl
  nil_stuck K (mark j ∷ s) h z = refl
  nil_stuck K (strange ∷ s) h z = refl

  settle_stuck : (x : Kind) (K : Stack) (o : Left) (b m : Run) (es : Ends) (e : Run) → opening implied K ≡ none → settle implied x K o b m es e ≡ none
  settle_stuck x K o b m no_more e h = refl
  settle_stuck x K o b m (es then f) e h = ap (shut implied x (b ▸ group o m (es then f) e)) h

  finish_stuck : (K : Stack) (o : Left) (b m : Run) (es : Ends) (e : Run) → opening implied K ≡ none → finish_sep implied K o b m es e ≡ none
  finish_stuck K o b m no_more e h = refl
  finish_stuck K o b m (es then f) e h = ap (finish_shut (b ▸ group o m (es then f) e)) h

  next_stuck : (x : Kind) → NotLeft x → (K : Stack) (o : Left) (b m : Run) (es : Ends) (e : Run) (s : List Kind) → opening implied K ≡ none → runs (sep K o b m es e) (x ∷ s) ≡ stop (x ∷ s)
  next_stuck x n K o b m es e s h = ap (λ f. fin_on (x ∷ s) f (λ u. runs u s)) (next_sep implied x n K o b m es e ∙ settle_stuck x K o b m es e h)

  sep_stuck : (K : Stack) (o : Left) (b m : Run) (es : Ends) (e : Run) (s : List Kind) → opening implied K ≡ none → Enter-left true s → runs (sep K o b m es e) s ≡ stop s
  sep_stuck K o b m es e [] h q = ap fin_out (finish_stuck K o b m es e h)
  sep_stuck K o b m es e (plays x ∷ s) h q = next_stuck (plays x) tt K o b m es e s h
  sep_stuck K o b m es e (time x y ∷ s) h q = next_stuck (time x y) tt K o b m es e s h
  sep_stuck K o b m es e (opens ∷ s) h q = next_stuck opens tt K o b m es e s h
  sep_stuck K o b m es e (closes ∷ s) h q = next_stuck closes tt K o b m es e s h
  sep_stuck K o b m es e (left ∷ s) h q = cc
  sep_stuck K o b m es e (right ∷ s) h q = next_stuck right tt K o b m es e s h
  sep_stuck K o b m es e (mark j ∷ s) h q = next_stuck (mark j) tt K o b m es e s h
  sep_stuck K o b m es e (strange ∷ s) h q = next_stuck strange tt K o b m es e s h

  pub closes_stuck : (K : Stack) (c : Run) (i : Item) (s : List Kind) → opening implied K ≡ none → Enter-left (is_group i) s
      → runs (at K (c ▸ i)) (closes ∷ s) ≡ stop (past_if (is_group i) (closes ∷ s))
  closes_stuck K c (leaf x) s h q = ap (λ f. fin_on (closes ∷ s) (close (c ▸ leaf x) f) (λ u. runs u s)) h
  closes_stuck K c (repeat p r) s h q = ap (λ f. fin_on (closes ∷ s) (close (c ▸ repeat p r) f) (λ u. runs u s)) h
  closes_stuck K c (group p m es e) s h q = sep_stuck K p c m es e s h q

  -- a `:|` after a group closes the repeat
  sep_next : (x : Kind) → NotLeft x → (K : Stack) (o : Left) (b : Run) (p : Left) (c m : Run) (es : Ends) (e : Run) (s : List Kind) → May (start_after (flag implied K) b) o → SomeEnds es
      → runs (sep (under o b K) p c m es e) (x ∷ s) ≡ runs (at K (b ▸ repeat o (c ▸ group p m es e))) (x ∷ s)
  sep_next x n K o b p c m es e s h k = ap (λ f. fin_on (x ∷ s) f (λ u. runs u s)) (next_sep implied x n (under o b K) p c m es e ∙ settle_under implied x K o b p c m es e h k)

  sep_rep : (K : Stack) (o : Left) (b : Run) (p : Left) (c m : Run) (es : Ends) (e : Run) (s : List Kind) → May (start_after (flag implied K) b) o → SomeEnds es → Enter-left true s
      → runs (sep (under o b K) p c m es e) s ≡ runs (at K (b ▸ repeat o (c ▸ group p m es e))) s
  sep_rep K o b p c m es e [] h k q = ap fin_out (finish_under implied K o b p c m es e h k)
  sep_rep K o b p c m es e (plays x ∷ s) h n q = sep_next (plays x) tt K o b p c m es e s h n
  sep_rep K o b p c m es e (time k l ∷ s) h n q = sep_next (time k l) tt K o b p c m es e s h n
  sep_rep K o b p c m es e (opens ∷ s) h n q = sep_next opens tt K o b p c m es e s h n
  sep_rep K o b p c m es e (closes ∷ s) h n q = sep_next closes tt K o b p c m es e s h n
  sep_rep K o b p c m es e (left ∷ s) h n q = cc
  sep_rep K o b p c m es e (right ∷ s) h n q = sep_next right tt K o b p c m es e s h n
  sep_rep K o b p c m es e (mark j ∷ s) h n q = sep_next (mark j) tt K o b p c m es e s h n
  sep_rep K o b p c m es e (strange ∷ s) h n q = sep_next strange tt K o b p c m es e s h n

  pub closes_rep : (K : Stack) (o : Left) (b c : Run) (i : Item) (s : List Kind) (f : Bool) → May (start_after (flag implied K) b) o → GoodItem i f → Enter-left (is_group i) s
      → runs (at (under o b K) (c ▸ i)) (closes ∷ s) ≡ runs (at K (b ▸ repeat o (c ▸ i))) s
  closes_rep K o b c (leaf x) s f h g q = ap (λ w. fin_on (closes ∷ s) (close (c ▸ leaf x) w) (λ u. runs u s)) (opening_under implied K o b h)
  closes_rep K o b c (repeat p r) s f h g q = ap (λ x. fin_on (closes ∷ s) (close (c ▸ repeat p r) x) (λ u. runs u s)) (opening_under implied K o b h)
  closes_rep K o b c (group p m es e) s f h g q = sep_rep K o b p c m es e s h g.4 q

  after_run_ok : (s : List Kind) (F : Run → List Kind → Got) (x : Ran) → RunOk nil s x
      → ((m : Run) (l : List Kind) → Some m → Good m false → ends_closing_group m ≡ false → length l < length s → ItemOk (end_of written m no_more) written l (F m l))
      → ItemOk rep_at written s (after_run F x)
  after_run_ok s F (halted l) h k = λ K b g m. h (in_rep b K) tt
  after_run_ok s F (ended nil l) h k = λ K b g m. h.same (in_rep b K) tt ∙ nil_stuck (in_rep b K) l h.no_item (λ m n. refl)
  after_run_ok s F (ended (r ▸ i) []) h k = λ K b g m. h.same (in_rep b K) tt
  after_run_ok s F (ended (r ▸ i) (plays q ∷ l)) h k = absurd h.no_item
  after_run_ok s F (ended (r ▸ i) (time x y ∷ l)) h k = λ K b g m. h.same (in_rep b K) tt
  after_run_ok s F (ended (r ▸ i) (opens ∷ l)) h k = absurd h.no_item
  after_run_ok s F (ended (r ▸ i) (closes ∷ l)) h k =
      let w = h.shorter in
      record {
        same = λ K b g m. h.same (in_rep b K) tt ∙ closes_rep K written b r i l (start_after false r) tt (h.good false tt).1 h.enter;
        good = λ f m. (tt, tt, h.good false tt);
        enter = enter_rep (is_group i) l h.enter;
        shorter = omega arith;
      }
  after_run_ok s F (ended (r ▸ i) (left ∷ l)) h k =
      let w = h.shorter in
      item_back rep_at (end_of written (r ▸ i) no_more) written s l (F (r ▸ i) l) (λ K b g m. h.same (in_rep b K) tt) (omega arith)
      (k (r ▸ i) l tt (h.good false tt) h.enter (omega arith))
  after_run_ok s F (ended (r ▸ i) (right ∷ l)) h k = λ K b g m. h.same (in_rep b K) tt
  after_run_ok s F (ended (r ▸ i) (mark j ∷ l)) h k = λ K b g m. h.same (in_rep b K) tt
  after_run_ok s F (ended (r ▸ i) (strange ∷ l)) h k = λ K b g m. h.same (in_rep b K) tt

  -- what stands after a `]`
  abbrev pub Look : List Kind → Option (List Kind) → Type 0
  Look l (some s) = l ≡ closes ∷ left ∷ s
  Look l none = Enter true false l × ((K : Stack) (o : Left) (b m e : Run) → runs (half K o b m e) l ≡ stop (past l))

  look : (l : List Kind) → Look l (continues l)
  look [] = (tt, λ K o b m e. refl)
  look (plays q ∷ l) = (tt, λ K o b m e. refl)
  look (time x y ∷ l) = (tt, λ K o b m e. refl)
  look (opens ∷ l) = (tt, λ K o b m e. refl)
  look (closes ∷ []) = (tt, λ K o b m e. refl)
  look (closes ∷ plays q ∷ l) = (tt, λ K o b m e. refl)
  look (closes ∷ time x y ∷ l) = (tt, λ K o b m e. refl)
  look (closes ∷ opens ∷ l) = (tt, λ K o b m e. refl)
  look (closes ∷ closes ∷ l) = (tt, λ K o b m e. refl)
  look (closes ∷ left ∷ l) = refl
  look (closes ∷ right ∷ l) = (tt, λ K o b m e. refl)
  look (closes ∷ mark j ∷ l) = (tt, λ K o b m e. refl)
  look (closes ∷ strange ∷ l) = (tt, λ K o b m e. refl)
  look (left ∷ l) = (refl, λ K o b m e. refl)
  look (right ∷ l) = (tt, λ K o b m e. refl)
  look (mark j ∷ l) = (tt, λ K o b m e. refl)
  look (strange ∷ l) = (tt, λ K o b m e. refl)

  -- the facts of a group whose endings are being read
  abbrev pub Held : Left → Run → Ends → Type 0
  Held o m es = Some m × Good m (inside o) × (ends_closing_group m ≡ false) × GoodEnds es

  goes_on : (K : Stack) (o : Left) (b m : Run) (es : Ends) (r : Run) (i : Item) (s : List Kind)
      → runs (at (in_end o b m es K) (r ▸ i)) (right ∷ closes ∷ left ∷ s) ≡ runs (end_of o m (es then (r ▸ i)) K b) s
  goes_on K o b m no_more r i s = refl
  goes_on K o b m (es then d) r i s = refl

  after_right_ok : (o : Left) (m : Run) (es : Ends) (s : List Kind) (f : List Kind → Got) (r : Run) (i : Item) (l : List Kind) (x : Option (List Kind)) → Held o m es
      → Ended nil s (r ▸ i) (right ∷ l) → Look l x → ((t : List Kind) → length t < length s → ItemOk (end_of o m (es then (r ▸ i))) o t (f t))
      → ItemOk (end_of o m es) o s (after_right f o m es (r ▸ i) l x)
  after_right_ok o m es s f r i l (some t) q h e k =
      let w : length (right ∷ closes ∷ left ∷ t) ≤ length s = rw e at h.shorter in
      item_back (end_of o m es) (end_of o m (es then (r ▸ i))) o s t (f t)
      (λ K b g n. h.same (in_end o b m es K) tt ∙ ap (λ y. runs (at (in_end o b m es K) (r ▸ i)) (right ∷ y)) e ∙ goes_on K o b m es r i t)
      (omega arith) (k t (omega arith))
  after_right_ok o m no_more s f r i l none q h e k = λ K b g n. h.same (in_end o b m no_more K) tt ∙ e.1 K o b m (r ▸ i)
  after_right_ok o m (es then d) s f r i l none q h e k =
      let w = h.shorter in
      record {
        same = λ K b g n. h.same (in_end o b m (es then d) K) tt;
        good = λ y n. (n, q.0, q.1, q.2, tt, q.3, tt, h.good false tt);
        enter = e.0;
        shorter = omega arith;
      }

  after_end_ok : (o : Left) (m : Run) (es : Ends) (s : List Kind) (F : Run → List Kind → Got) (x : Ran) → Held o m es → RunOk nil s x
      → ((e : Run) (l : List Kind) → Some e → Good e false → length l < length s → ItemOk (end_of o m (es then e)) o l (F e l))
      → ItemOk (end_of o m es) o s (after_end F o m es x)
  after_end_ok o m es s F (halted l) q h k = λ K b g n. h (in_end o b m es K) tt
  after_end_ok o m es s F (ended nil l) q h k = λ K b g n. h.same (in_end o b m es K) tt ∙ nil_stuck (in_end o b m es K) l h.no_item (λ m n. refl)
  after_end_ok o m es s F (ended (r ▸ i) []) q h k = λ K b g n. h.same (in_end o b m es K) tt
  after_end_ok o m es s F (ended (r ▸ i) (plays x ∷ l)) q h k = absurd h.no_item
  after_end_ok o m es s F (ended (r ▸ i) (time x y ∷ l)) q h k = λ K b g n. h.same (in_end o b m es K) tt
  after_end_ok o m es s F (ended (r ▸ i) (opens ∷ l)) q h k = absurd h.no_item
  after_end_ok o m es s F (ended (r ▸ i) (closes ∷ l)) q h k = λ K b g n. h.same (in_end o b m es K) tt ∙ closes_stuck (in_end o b m es K) r i l refl h.enter
  after_end_ok o m es s F (ended (r ▸ i) (left ∷ l)) q h k = λ K b g n. h.same (in_end o b m es K) tt
  after_end_ok o m es s F (ended (r ▸ i) (right ∷ l)) q h k =
      after_right_ok o m es s (F (r ▸ i)) r i l (continues l) q h (look l) (λ t w. k (r ▸ i) t tt (h.good false tt) w)
  after_end_ok o m es s F (ended (r ▸ i) (mark j ∷ l)) q h k = λ K b g n. h.same (in_end o b m es K) tt
  after_end_ok o m es s F (ended (r ▸ i) (strange ∷ l)) q h k = λ K b g n. h.same (in_end o b m es K) tt

  stay : (r : Run) (s : List Kind) → Enter (ends_in_group r) (ends_closing_group r) s → NoItem s → Ended r s r s
  stay r s e n = record { same = λ K g. refl; good = λ f g. g; keeps = λ m. m; enter = e; no_item = n; shorter = le_refl (length s) }

  mutual
    pub read_run_ok : (n : ℕ) (r : Run) (s : List Kind) → length s + length s + 1 ≤ n → Enter (ends_in_group r) (ends_closing_group r) s → RunOk r s (read_run n r s)
    read_run_ok zero r s w e = absurd (omega arith)
    read_run_ok (suc n) r [] w e = stay r [] e tt
    read_run_ok (suc n) r (plays q ∷ s) w e =
        run_back r (r ▸ leaf q) (plays q ∷ s) s (read_run n (r ▸ leaf q) s) (λ K g. refl) (λ f g. (g, tt)) tt (omega arith)
        (read_run_ok n (r ▸ leaf q) s (omega arith) (enter_none s))
    read_run_ok (suc n) r (time x y ∷ s) w e = stay r (time x y ∷ s) e tt
    read_run_ok (suc n) r (opens ∷ s) w e =
        step_item r s (λ i l. read_run n (r ▸ i) l) (read_group n s) (read_group_ok n s (omega arith))
        (λ i l q z. read_run_ok n (r ▸ i) l (omega arith) q)
    read_run_ok (suc n) r (closes ∷ s) w e = stay r (closes ∷ s) e tt
    read_run_ok (suc n) r (left ∷ s) w e = stay r (left ∷ s) e tt
    read_run_ok (suc n) r (right ∷ s) w e = stay r (right ∷ s) e tt
    read_run_ok (suc n) r (mark j ∷ s) w e = stay r (mark j ∷ s) e tt
    read_run_ok (suc n) r (strange ∷ s) w e = stay r (strange ∷ s) e tt

    pub read_group_ok : (n : ℕ) (s : List Kind) → length s + length s + 2 ≤ n → ItemOk rep_at written s (read_group n s)
    read_group_ok zero s w = absurd (omega arith)
    read_group_ok (suc n) s w =
        after_run_ok s (λ m l. read_ends n written m no_more l) (read_run n nil s) (read_run_ok n nil s (omega arith) (enter_none s))
        (λ m l a g q z. read_ends_ok n written m no_more l (omega arith) (a, g, q, tt))

    pub read_ends_ok : (n : ℕ) (o : Left) (m : Run) (es : Ends) (s : List Kind) → length s + length s + 2 ≤ n → Held o m es → ItemOk (end_of o m es) o s (read_ends n o m es s)
    read_ends_ok zero o m es s w q = absurd (omega arith)
    read_ends_ok (suc n) o m es s w q =
        after_end_ok o m es s (λ e l. read_ends n o m (es then e) l) (read_run n nil s) q (read_run_ok n nil s (omega arith) (enter_none s))
        (λ e l a g z. read_ends_ok n o m (es then e) l (omega arith) (q.0, q.1, q.2, (q.3, a, g)))
