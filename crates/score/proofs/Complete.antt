-- The machine reads the signs of each good tree, and comes to that tree.
-- Assumes nothing.
use mathlib.Core.Path.{◌≡◌, refl, sym, ◌∙◌, ap, subst}
use mathlib.Core.Bool.{Bool, true, false}
use mathlib.Core.Option.{Option, none, some}
use mathlib.Core.List.{List, [], ◌∷◌, ◌++◌, append_assoc, map-append}
use Rattle.signs.specs.declared.sign.Jumped.TheVariants.{Dc, DcCoda, DcFine, Ds, DsCoda, DsFine}
use Rattle.signs.specs.declared.sign.Sign.{Sign}
use Rattle.signs.specs.declared.sign.Sign.TheVariants.{Jump, Segno, Coda, ToCoda, Fine}
use Rattle.score.specs.Trees.{block, Left, written, lacking, Run, nil, ◌▸◌, Item, leaf, repeat, group, Ends, no_more, ◌then◌}
use Rattle.score.specs.declared.Shape.{Shape}
use Rattle.score.specs.declared.Shape.TheVariants.{Straight, DaCapo, DalSegno, DaCapoFine, DalSegnoFine, DaCapoCoda, DalSegnoCoda}
use Rattle.score.specs.Times.{Time}
use Rattle.std.specs.Prelude.{None as Untimed, Some as Timed}
use Rattle.score.specs.Shapes.{Score, score, table}
use Rattle.score.specs.Spelling.{left_signs, run_signs, item_signs, ends_signs, spelled, signs_of}
use Rattle.score.specs.Readings.{Some, SomeEnds, May, inside, start_after, ends_closing_group, Good, GoodItem, GoodEnds, Valid}
use Rattle.score.proofs.Alphabet.{Mark, to_dc, to_dc_coda, to_dc_fine, to_ds, to_ds_coda, to_ds_fine, at_segno, at_to_coda, at_fine, Kind, plays, time, opens, closes, left, right, mark, strange, sign_kind, kinds}
use Rattle.score.proofs.Machine.{in_b_ds, in_b_fine, in_b_coda, in_c_fine, in_c_coda, in_c_dc, in_d, Part, in_a, later, Stack, bot, in_rep, in_end, State, at, sep}
use Rattle.score.proofs.Machine.{found, start, opening, close, enter, on_closes, edges, find, step, shut, settle, next, finish, finish_part, finish_at, finish_shut, finish_sep}
use Rattle.score.proofs.Sound.{flag, flag_part, Full}

abbrev pub and_then : {A : Type 0} → Option State → (State → Option A) → Option A
and_then none f = none
and_then (some s) f = f s

-- the stack inside of an opening
abbrev pub under : Left → Run → Stack → Stack
under written b K = in_rep b K
under lacking b K = K

-- where the machine is after a run: a `:|` after a group is not settled yet
abbrev after : Stack → Run → State
after K nil = at K nil
after K (b ▸ leaf q) = at K (b ▸ leaf q)
after K (b ▸ repeat o nil) = at K (b ▸ repeat o nil)
after K (b ▸ repeat o (c ▸ leaf q)) = at K (b ▸ repeat o (c ▸ leaf q))
after K (b ▸ repeat o (c ▸ repeat p r)) = at K (b ▸ repeat o (c ▸ repeat p r))
after K (b ▸ repeat o (c ▸ group p m es e)) = sep (under o b K) p c m es e
after K (b ▸ group o m es e) = at K (b ▸ group o m es e)

after_same : (K : Stack) (r : Run) → ends_closing_group r ≡ false → after K r ≡ at K r
after_same K nil h = refl
after_same K (b ▸ leaf q) h = refl
after_same K (b ▸ repeat o nil) h = refl
after_same K (b ▸ repeat o (c ▸ leaf q)) h = refl
after_same K (b ▸ repeat o (c ▸ repeat p r)) h = refl
after_same K (b ▸ repeat o (c ▸ group p m es e)) h = cc
after_same K (b ▸ group o m es e) h = refl

abbrev pub NotLeft : Kind → Type 0
NotLeft (plays q) = Unit {0}
NotLeft (time k l) = Unit {0}
NotLeft opens = Unit {0}
NotLeft closes = Unit {0}
NotLeft left = ⊥
NotLeft right = Unit {0}
NotLeft (mark j) = Unit {0}
NotLeft strange = Unit {0}

-- The stack lets a `|:` lack where the tree may.
lack_under : (implied : Bool) (K : Stack) → May (flag implied K) lacking → opening implied K ≡ some (found lacking nil K)
lack_under true (bot (in_a t)) h = refl
lack_under false (bot (in_a t)) h = absurd h
lack_under implied (bot (later p)) h = absurd h
lack_under implied (in_rep b K) h = absurd h
lack_under implied (in_end o b m es K) h = absurd h

is_true : (start : Bool) (r : Run) → May (start_after start r) lacking → start ≡ true
is_true true nil h = refl
is_true false nil h = absurd h
is_true start (r ▸ i) h = absurd h

run_list : (r : Run) (i : Item) (s : List Kind) → kinds (run_signs (r ▸ i)) ++ s ≡ kinds (run_signs r) ++ (kinds (item_signs i) ++ s)
run_list r i s = simp (map-append, append_assoc)

rep_list : (o : Left) (r : Run) (s : List Kind) → kinds (item_signs (repeat o r)) ++ s ≡ kinds (left_signs o) ++ (kinds (run_signs r) ++ (closes ∷ s))
rep_list o r s = simp (map-append, append_assoc)

grp_list : (o : Left) (m : Run) (es : Ends) (e : Run) (s : List Kind)
    → kinds (item_signs (group o m es e)) ++ s ≡ kinds (left_signs o) ++ (kinds (run_signs m) ++ (kinds (ends_signs es) ++ (left ∷ (kinds (run_signs e) ++ (right ∷ s)))))
grp_list o m es e s = simp (map-append, append_assoc)

end_list : (es : Ends) (r : Run) (s : List Kind)
    → kinds (ends_signs (es then r)) ++ (left ∷ s) ≡ kinds (ends_signs es) ++ (left ∷ (kinds (run_signs r) ++ (right ∷ closes ∷ left ∷ s)))
end_list es r s = simp (map-append, append_assoc)

module _ (implied : Bool) where
  -- the machine without places
  abbrev pub run : State → List Kind → Option Score
  run s [] = finish implied s
  run s (x ∷ l) = and_then (next implied s x) (λ u. run u l)

  pub opening_under : (K : Stack) (o : Left) (b : Run) → May (start_after (flag implied K) b) o → opening implied (under o b K) ≡ some (found o b K)
  opening_under K written b h = refl
  opening_under K lacking nil h = lack_under implied K h
  opening_under K lacking (b ▸ i) h = absurd h

  flag_under : (K : Stack) (o : Left) (b : Run) → May (start_after (flag implied K) b) o → flag implied (under o b K) ≡ inside o
  flag_under K written b h = refl
  flag_under K lacking b h = is_true (flag implied K) b h

  open_run : (K : Stack) (o : Left) (b : Run) (s : List Kind) → May (start_after (flag implied K) b) o → run (at K b) (kinds (left_signs o) ++ s) ≡ run (at (under o b K) nil) s
  open_run K written b s h = refl
  open_run K lacking nil s h = refl
  open_run K lacking (b ▸ i) s h = absurd h

  pub next_sep : (x : Kind) → NotLeft x → (K : Stack) (o : Left) (b m : Run) (es : Ends) (e : Run) → next implied (sep K o b m es e) x ≡ settle implied x K o b m es e
  next_sep (plays q) h K o b m es e = refl
  next_sep (time k l) h K o b m es e = refl
  next_sep opens h K o b m es e = refl
  next_sep closes h K o b m es e = refl
  next_sep left h K o b m es e = absurd h
  next_sep right h K o b m es e = refl
  next_sep (mark j) h K o b m es e = refl
  next_sep strange h K o b m es e = refl

  pub settle_under : (x : Kind) (K : Stack) (o : Left) (b : Run) (p : Left) (c m : Run) (es : Ends) (e : Run) → May (start_after (flag implied K) b) o → SomeEnds es
      → settle implied x (under o b K) p c m es e ≡ step implied x K (b ▸ repeat o (c ▸ group p m es e))
  settle_under x K o b p c m no_more e h s = absurd s
  settle_under x K o b p c m (es then f) e h s = ap (shut implied x (c ▸ group p m (es then f) e)) (opening_under K o b h)

  pub finish_under : (K : Stack) (o : Left) (b : Run) (p : Left) (c m : Run) (es : Ends) (e : Run) → May (start_after (flag implied K) b) o → SomeEnds es
      → finish_sep implied (under o b K) p c m es e ≡ finish_at K (b ▸ repeat o (c ▸ group p m es e))
  finish_under K o b p c m no_more e h s = absurd s
  finish_under K o b p c m (es then f) e h s = ap (finish_shut (c ▸ group p m (es then f) e)) (opening_under K o b h)

  skip_next : (x : Kind) → NotLeft x → (K : Stack) (r : Run) → Good r (flag implied K) → next implied (after K r) x ≡ step implied x K r
  skip_next x n K nil g = refl
  skip_next x n K (b ▸ leaf q) g = refl
  skip_next x n K (b ▸ repeat o nil) g = refl
  skip_next x n K (b ▸ repeat o (c ▸ leaf q)) g = refl
  skip_next x n K (b ▸ repeat o (c ▸ repeat p r)) g = refl
  skip_next x n K (b ▸ repeat o (c ▸ group p m es e)) g =
      next_sep x n (under o b K) p c m es e ∙ settle_under x K o b p c m es e g.1.0 g.1.2.1.4
  skip_next x n K (b ▸ group o m es e) g = refl

  skip : (x : Kind) → NotLeft x → (K : Stack) (r : Run) (s : List Kind) → Good r (flag implied K) → run (after K r) (x ∷ s) ≡ run (at K r) (x ∷ s)
  skip x n K r s g = ap (λ o. and_then o (λ u. run u s)) (skip_next x n K r g)

  skip_finish : (K : Stack) (r : Run) → Good r (flag implied K) → run (after K r) [] ≡ finish_at K r
  skip_finish K nil g = refl
  skip_finish K (b ▸ leaf q) g = refl
  skip_finish K (b ▸ repeat o nil) g = refl
  skip_finish K (b ▸ repeat o (c ▸ leaf q)) g = refl
  skip_finish K (b ▸ repeat o (c ▸ repeat p r)) g = refl
  skip_finish K (b ▸ repeat o (c ▸ group p m es e)) g = finish_under K o b p c m es e g.1.0 g.1.2.1.4
  skip_finish K (b ▸ group o m es e) g = refl

  -- an item begins with a leaf or a `|:`, or it is the first
  skip_open : (o : Left) (K : Stack) (r : Run) (s : List Kind) → Good r (flag implied K) → May (start_after (flag implied K) r) o
      → run (after K r) (kinds (left_signs o) ++ s) ≡ run (at K r) (kinds (left_signs o) ++ s)
  skip_open written K r s g h = skip opens tt K r s g
  skip_open lacking K nil s g h = refl
  skip_open lacking K (r ▸ i) s g h = absurd h

  skip_item : (i : Item) (K : Stack) (r : Run) (s : List Kind) → Good r (flag implied K) → GoodItem i (start_after (flag implied K) r)
      → run (after K r) (kinds (item_signs i) ++ s) ≡ run (at K r) (kinds (item_signs i) ++ s)
  skip_item (leaf (block k l)) K r s g h = skip (plays (block k l)) tt K r s g
  skip_item (repeat o q) K r s g h = rw (rep_list o q s) (skip_open o K r (kinds (run_signs q) ++ (closes ∷ s)) g h.0)
  skip_item (group o m es e) K r s g h =
      rw (grp_list o m es e s) (skip_open o K r (kinds (run_signs m) ++ (kinds (ends_signs es) ++ (left ∷ (kinds (run_signs e) ++ (right ∷ s))))) g h.0)

  closes_under : (K : Stack) (o : Left) (b r : Run) → May (start_after (flag implied K) b) o → Some r → on_closes implied (under o b K) r ≡ some (after K (b ▸ repeat o r))
  closes_under K o b nil h s = absurd s
  closes_under K o b (c ▸ leaf q) h s = ap (close (c ▸ leaf q)) (opening_under K o b h)
  closes_under K o b (c ▸ repeat p q) h s = ap (close (c ▸ repeat p q)) (opening_under K o b h)
  closes_under K o b (c ▸ group p m es e) h s = refl

  enter_under : (K : Stack) (o : Left) (b r : Run) (s : List Kind) → May (start_after (flag implied K) b) o → Some r
      → run (at (under o b K) r) (left ∷ s) ≡ run (at (in_end o b r no_more K) nil) s
  enter_under K o b nil s h n = absurd n
  enter_under K o b (r ▸ i) s h n = ap (λ f. and_then (enter (r ▸ i) f) (λ u. run u s)) (opening_under K o b h)

  end_more : (K : Stack) (o : Left) (b m : Run) (es : Ends) (r : Run) (s : List Kind) → Some r
      → run (at (in_end o b m es K) r) (right ∷ closes ∷ left ∷ s) ≡ run (at (in_end o b m (es then r) K) nil) s
  end_more K o b m no_more nil s h = absurd h
  end_more K o b m no_more (r ▸ i) s h = refl
  end_more K o b m (es then e) nil s h = absurd h
  end_more K o b m (es then e) (r ▸ i) s h = refl

  end_last : (K : Stack) (o : Left) (b m : Run) (es : Ends) (r : Run) (s : List Kind) → SomeEnds es → Some r
      → run (at (in_end o b m es K) r) (right ∷ s) ≡ run (at K (b ▸ group o m es r)) s
  end_last K o b m no_more r s h n = absurd h
  end_last K o b m (es then e) nil s h n = absurd n
  end_last K o b m (es then e) (r ▸ i) s h n = refl

  good_under : (K : Stack) (o : Left) (b r : Run) → May (start_after (flag implied K) b) o → Good r (inside o) → Good r (flag implied (under o b K))
  good_under K o b r h g = subst (Good r) (sym (flag_under K o b h)) g

  mutual
    run_reads : (r : Run) (K : Stack) (s : List Kind) → Good r (flag implied K) → run (at K nil) (kinds (run_signs r) ++ s) ≡ run (after K r) s
    run_reads nil K s g = refl
    run_reads (r ▸ i) K s g =
        ap (run (at K nil)) (run_list r i s)
        ∙ run_reads r K (kinds (item_signs i) ++ s) g.0
        ∙ skip_item i K r s g.0 g.1
        ∙ item_reads i K r s g.1

    item_reads : (i : Item) (K : Stack) (b : Run) (s : List Kind) → GoodItem i (start_after (flag implied K) b) → run (at K b) (kinds (item_signs i) ++ s) ≡ run (after K (b ▸ i)) s
    item_reads (leaf (block k l)) K b s g = refl
    item_reads (repeat o r) K b s g =
        ap (run (at K b)) (rep_list o r s)
        ∙ open_run K o b (kinds (run_signs r) ++ (closes ∷ s)) g.0
        ∙ run_reads r (under o b K) (closes ∷ s) (good_under K o b r g.0 g.2)
        ∙ skip closes tt (under o b K) r s (good_under K o b r g.0 g.2)
        ∙ ap (λ f. and_then f (λ u. run u s)) (closes_under K o b r g.0 g.1)
    item_reads (group o m es e) K b s g =
        ap (run (at K b)) (grp_list o m es e s)
        ∙ open_run K o b (kinds (run_signs m) ++ (kinds (ends_signs es) ++ (left ∷ (kinds (run_signs e) ++ (right ∷ s))))) g.0
        ∙ run_reads m (under o b K) (kinds (ends_signs es) ++ (left ∷ (kinds (run_signs e) ++ (right ∷ s)))) (good_under K o b m g.0 g.2)
        ∙ ap (λ u. run u (kinds (ends_signs es) ++ (left ∷ (kinds (run_signs e) ++ (right ∷ s))))) (after_same (under o b K) m g.3)
        ∙ ends_read es K o b m (kinds (run_signs e) ++ (right ∷ s)) g.0 g.1 g.5
        ∙ run_reads e (in_end o b m es K) (right ∷ s) g.7
        ∙ skip right tt (in_end o b m es K) e s g.7
        ∙ end_last K o b m es e s g.4 g.6

    ends_read : (es : Ends) (K : Stack) (o : Left) (b m : Run) (s : List Kind) → May (start_after (flag implied K) b) o → Some m → GoodEnds es
        → run (at (under o b K) m) (kinds (ends_signs es) ++ (left ∷ s)) ≡ run (at (in_end o b m es K) nil) s
    ends_read no_more K o b m s h n g = enter_under K o b m s h n
    ends_read (es then r) K o b m s h n g =
        ap (run (at (under o b K) m)) (end_list es r s)
        ∙ ends_read es K o b m (kinds (run_signs r) ++ (right ∷ closes ∷ left ∷ s)) h n g.0
        ∙ run_reads r (in_end o b m es K) (right ∷ closes ∷ left ∷ s) g.2
        ∙ skip right tt (in_end o b m es K) r (closes ∷ left ∷ s) g.2
        ∙ end_more K o b m es r s g.1

  -- a part: the run r, and then what leaves it
  leave_run : (j : Mark) (p : Part) (r : Run) (l : List Sign) (x : Sign) → sign_kind x ≡ mark j → Full (flag_part implied p) r
      → run (at (bot p) nil) (kinds (run_signs r ++ (x ∷ l))) ≡ and_then (find j (edges p r)) (λ u. run u (kinds l))
  leave_run j p nil l x q f = absurd f.0
  leave_run j p (r ▸ i) l x q f =
      ap (run (at (bot p) nil)) (map-append sign_kind (run_signs (r ▸ i)) (x ∷ l) ∙ ap (λ k. kinds (run_signs (r ▸ i)) ++ (k ∷ kinds l)) q)
      ∙ run_reads (r ▸ i) (bot p) (mark j ∷ kinds l) f.1
      ∙ skip (mark j) tt (bot p) (r ▸ i) (kinds l) f.1

  last_run : (p : Part) (r : Run) → Full (flag_part implied p) r → run (at (bot p) nil) (kinds (run_signs r ++ [])) ≡ finish_part p r
  last_run p nil f = absurd f.0
  last_run p (r ▸ i) f =
      ap (run (at (bot p) nil)) (map-append sign_kind (run_signs (r ▸ i)) []) ∙ run_reads (r ▸ i) (bot p) [] f.1 ∙ skip_finish (bot p) (r ▸ i) f.1

  -- the runs that a shape lacks
  none_left : (t : Time) (h : Shape) (a b : Run) {b' c' d' : Run} (c d : Run) → b ≡ b' → c ≡ c' → d ≡ d' → some (score t h a b' c' d') ≡ some (score t h a b c d)
  none_left t h a b c d p q r = cc

  shape_reads : (t : Time) (h : Shape) (a b c d : Run) → Valid implied (score t h a b c d)
      → run (at (bot (in_a t)) nil) (kinds (spelled (score t h a b c d) (table h).signs)) ≡ some (score t h a b c d)
  shape_reads t Straight a b c d g = last_run (in_a t) a g.0 ∙ none_left t Straight a b c d g.1 g.2 g.3
  shape_reads t DaCapo a b c d g = leave_run to_dc (in_a t) a [] (Jump Dc) refl g.0 ∙ none_left t DaCapo a b c d g.1 g.2 g.3
  shape_reads t DalSegno a b c d g =
      leave_run at_segno (in_a t) a (run_signs b ++ (Jump Ds ∷ [])) Segno refl g.0
      ∙ leave_run to_ds (later (in_b_ds t a)) b [] (Jump Ds) refl g.1
      ∙ none_left t DalSegno a b c d refl g.2 g.3
  shape_reads t DaCapoFine a b c d g =
      leave_run at_fine (in_a t) a (run_signs b ++ (Jump DcFine ∷ [])) Fine refl g.0
      ∙ leave_run to_dc_fine (later (in_b_fine t a)) b [] (Jump DcFine) refl g.1
      ∙ none_left t DaCapoFine a b c d refl g.2 g.3
  shape_reads t DalSegnoFine a b c d g =
      leave_run at_segno (in_a t) a (run_signs b ++ (Fine ∷ (run_signs c ++ (Jump DsFine ∷ [])))) Segno refl g.0
      ∙ leave_run at_fine (later (in_b_ds t a)) b (run_signs c ++ (Jump DsFine ∷ [])) Fine refl g.1
      ∙ leave_run to_ds_fine (later (in_c_fine t a b)) c [] (Jump DsFine) refl g.2
      ∙ none_left t DalSegnoFine a b c d refl refl g.3
  shape_reads t DaCapoCoda a b c d g =
      leave_run at_to_coda (in_a t) a (run_signs b ++ (Jump DcCoda ∷ Coda ∷ (run_signs c ++ []))) ToCoda refl g.0
      ∙ leave_run to_dc_coda (later (in_b_coda t a)) b (Coda ∷ (run_signs c ++ [])) (Jump DcCoda) refl g.1
      ∙ last_run (later (in_c_dc t a b)) c g.2
      ∙ none_left t DaCapoCoda a b c d refl refl g.3
  shape_reads t DalSegnoCoda a b c d g =
      leave_run at_segno (in_a t) a (run_signs b ++ (ToCoda ∷ (run_signs c ++ (Jump DsCoda ∷ Coda ∷ (run_signs d ++ []))))) Segno refl g.0
      ∙ leave_run at_to_coda (later (in_b_ds t a)) b (run_signs c ++ (Jump DsCoda ∷ Coda ∷ (run_signs d ++ []))) ToCoda refl g.1
      ∙ leave_run to_ds_coda (later (in_c_coda t a b)) c (Coda ∷ (run_signs d ++ [])) (Jump DsCoda) refl g.2
      ∙ last_run (later (in_d t a b c)) d g.3

  pub reads_all : (t : Score) → Valid implied t → run start (kinds (signs_of t)) ≡ some t
  reads_all (score Untimed h a b c d) g = shape_reads Untimed h a b c d g
  reads_all (score (Timed (m, n)) h a b c d) g = shape_reads (Timed (m, n)) h a b c d g
