-- What `GoodItem` asks of the run M of a group says: no `:|` that closes a repeat stands directly between `]` and `[`.
-- Assumes nothing.
use mathlib.Core.Path.{◌≡◌, refl, sym, ◌∙◌, ap, subst}
use mathlib.Core.Bool.{Bool, true, false}
use mathlib.Core.Option.{Option, none, some, IsSome}
use mathlib.Core.List.{List, [], ◌∷◌, ◌++◌, append_assoc, append-nil, map, map-append}
use mathlib.Core.Logic.{◌↔◌}
use Rattle.score.specs.Trees.{block, Left, written, lacking, Run, nil, ◌▸◌, Item, leaf, repeat, group, Ends, no_more, ◌then◌}
use Rattle.score.specs.Spelling.{left_signs, run_signs, item_signs, ends_signs}
use Rattle.score.specs.Readings.{Some, SomeEnds, May, inside, start_after, ends_in_group, ends_closing_group, Good, GoodItem, GoodEnds}
use Rattle.score.proofs.Alphabet.{Kind, plays, time, opens, closes, left, right, mark, strange, kinds}

-- The signs of a run, with the `:|` of a plain repeat told from the one between two endings
pub data Mk : Type 0 where
  sg : Kind → Mk
  closer : Mk

abbrev pub unmark : Mk → Kind
unmark (sg x) = x
unmark closer = closes

abbrev open_mk : Left → List Mk
open_mk written = sg opens ∷ []
open_mk lacking = []

abbrev mutual
  pub marks : Run → List Mk
  marks nil = []
  marks (r ▸ i) = marks r ++ item_marks i

  item_marks : Item → List Mk
  item_marks (leaf q) = sg (plays q) ∷ []
  item_marks (repeat o r) = open_mk o ++ (marks r ++ (closer ∷ []))
  item_marks (group o m es e) = open_mk o ++ (marks m ++ (end_marks es ++ (sg left ∷ marks e ++ (sg right ∷ []))))

  end_marks : Ends → List Mk
  end_marks no_more = []
  end_marks (es then r) = end_marks es ++ (sg left ∷ marks r ++ (sg right ∷ sg closes ∷ []))

open_is : (o : Left) → map unmark (open_mk o) ≡ kinds (left_signs o)
open_is written = refl
open_is lacking = refl

mutual
  -- told apart or not, these are the run's signs
  pub marks_are : (r : Run) → map unmark (marks r) ≡ kinds (run_signs r)
  marks_are nil = refl
  marks_are (r ▸ i) = simp (map-append, marks_are r, item_marks_are i)

  item_marks_are : (i : Item) → map unmark (item_marks i) ≡ kinds (item_signs i)
  item_marks_are (leaf (block k l)) = refl
  item_marks_are (repeat o r) = simp (map-append, open_is o, marks_are r)
  item_marks_are (group o m es e) = simp (map-append, open_is o, marks_are m, end_marks_are es, marks_are e)

  end_marks_are : (es : Ends) → map unmark (end_marks es) ≡ kinds (ends_signs es)
  end_marks_are no_more = refl
  end_marks_are (es then r) = simp (map-append, end_marks_are es, marks_are r)

-- A scan that fails at `]`, closing `:|`, `[`
data St : Type 0 where
  other after_right after_both : St

abbrev scan1 : St → Mk → Option St
scan1 s (sg (plays q)) = some other
scan1 s (sg (time k l)) = some other
scan1 s (sg opens) = some other
scan1 s (sg closes) = some other
scan1 other (sg left) = some other
scan1 after_right (sg left) = some other
scan1 after_both (sg left) = none
scan1 s (sg right) = some after_right
scan1 s (sg (mark j)) = some other
scan1 s (sg strange) = some other
scan1 other closer = some other
scan1 after_right closer = some after_both
scan1 after_both closer = some other

abbrev bind : Option St → (St → Option St) → Option St
bind none f = none
bind (some s) f = f s

abbrev scan : St → List Mk → Option St
scan s [] = some s
scan s (x ∷ l) = bind (scan1 s x) (λ t. scan t l)

abbrev after_grp : Bool → St
after_grp true = after_both
after_grp false = other

abbrev item_st : Item → St
item_st (leaf q) = other
item_st (repeat o r) = after_grp (ends_in_group r)
item_st (group o m es e) = after_right

abbrev tail_st : Run → St
tail_st nil = other
tail_st (r ▸ i) = item_st i

after_closer : (r : Run) (l : List Mk) → scan (tail_st r) (closer ∷ l) ≡ scan (after_grp (ends_in_group r)) l
after_closer nil l = refl
after_closer (r ▸ leaf q) l = refl
after_closer (r ▸ repeat o nil) l = refl
after_closer (r ▸ repeat o (q ▸ leaf x)) l = refl
after_closer (r ▸ repeat o (q ▸ repeat p c)) l = refl
after_closer (r ▸ repeat o (q ▸ group p m es e)) l = refl
after_closer (r ▸ group o m es e) l = refl

abbrev NotBoth : St → Type 0
NotBoth other = Unit {0}
NotBoth after_right = Unit {0}
NotBoth after_both = ⊥

not_both : (m : Run) → ends_closing_group m ≡ false → NotBoth (tail_st m)
not_both nil h = tt
not_both (r ▸ leaf q) h = tt
not_both (r ▸ repeat o q) h = rw h tt
not_both (r ▸ group o m es e) h = tt

not_both' : (m : Run) → NotBoth (tail_st m) → ends_closing_group m ≡ false
not_both' nil h = refl
not_both' (r ▸ leaf q) h = refl
not_both' (r ▸ repeat o nil) h = refl
not_both' (r ▸ repeat o (q ▸ leaf x)) h = refl
not_both' (r ▸ repeat o (q ▸ repeat p c)) h = refl
not_both' (r ▸ repeat o (q ▸ group p m es e)) h = absurd h
not_both' (r ▸ group o m es e) h = refl

scan_left : (s : St) (l : List Mk) → NotBoth s → scan s (sg left ∷ l) ≡ scan other l
scan_left other l h = refl
scan_left after_right l h = refl
scan_left after_both l h = absurd h

scan_open : (o : Left) (s : St) (r : Run) (l : List Mk) → ((t : St) → scan t (marks r ++ l) ≡ scan (tail_st r) l) → scan s (open_mk o ++ (marks r ++ l)) ≡ scan (tail_st r) l
scan_open written s r l h = h other
scan_open lacking s r l h = h s

-- a run is scanned alike from every state
abbrev Scans : Run → Type 0
Scans r = (s : St) (l : List Mk) → scan s (marks r ++ l) ≡ scan (tail_st r) l

rep_mk : (o : Left) (r : Run) (l : List Mk) → item_marks (repeat o r) ++ l ≡ open_mk o ++ (marks r ++ (closer ∷ l))
rep_mk o r l = simp append_assoc

grp_mk : (o : Left) (m : Run) (es : Ends) (e : Run) (l : List Mk)
    → item_marks (group o m es e) ++ l ≡ open_mk o ++ (marks m ++ (end_marks es ++ (sg left ∷ marks e ++ (sg right ∷ l))))
grp_mk o m es e l = simp append_assoc

end_mk : (es : Ends) (r : Run) (l : List Mk)
    → end_marks (es then r) ++ (sg left ∷ l) ≡ end_marks es ++ (sg left ∷ marks r ++ (sg right ∷ sg closes ∷ sg left ∷ l))
end_mk es r l = simp append_assoc

mutual
  scan_run : (r : Run) (f : Bool) → Some r → Good r f → Scans r
  scan_run nil f n g s l = absurd n
  scan_run (r ▸ i) f n g s l =
      ap (scan s) (append_assoc (marks r) (item_marks i) l) ∙ scan_prefix r f g.0 (item_marks i ++ l) (scan other (item_marks i ++ l)) s (λ t. scan_item i (start_after f r) g.1 t l ∙ sym (scan_item i (start_after f r) g.1 other l)) ∙ scan_item i (start_after f r) g.1 other l

  -- with a run that may be empty before it
  scan_prefix : (r : Run) (f : Bool) → Good r f → (l : List Mk) (x : Option St) (s : St) → ((t : St) → scan t l ≡ x) → scan s (marks r ++ l) ≡ x
  scan_prefix nil f g l x s h = h s
  scan_prefix (r ▸ i) f g l x s h =
      ap (scan s) (append_assoc (marks r) (item_marks i) l) ∙ scan_prefix r f g.0 (item_marks i ++ l) x s (λ t. scan_item i (start_after f r) g.1 t l ∙ h (item_st i))

  scan_item : (i : Item) (f : Bool) → GoodItem i f → (s : St) (l : List Mk) → scan s (item_marks i ++ l) ≡ scan (item_st i) l
  scan_item (leaf q) f g s l = refl
  scan_item (repeat o r) f g s l =
      ap (scan s) (rep_mk o r l)
      ∙ scan_open o s r (closer ∷ l) (λ t. scan_run r (inside o) g.1 g.2 t (closer ∷ l))
      ∙ after_closer r l
  scan_item (group o m es e) f g s l =
      ap (scan s) (grp_mk o m es e l)
      ∙ scan_open o s m (end_marks es ++ (sg left ∷ marks e ++ (sg right ∷ l))) (λ t. scan_run m (inside o) g.1 g.2 t (end_marks es ++ (sg left ∷ marks e ++ (sg right ∷ l))))
      ∙ scan_ends es g.5 (tail_st m) (marks e ++ (sg right ∷ l)) (not_both m g.3)
      ∙ scan_run e false g.6 g.7 other (sg right ∷ l)

  scan_ends : (es : Ends) → GoodEnds es → (s : St) (l : List Mk) → NotBoth s → scan s (end_marks es ++ (sg left ∷ l)) ≡ scan other l
  scan_ends no_more g s l h = scan_left s l h
  scan_ends (es then r) g s l h =
      ap (scan s) (end_mk es r l)
      ∙ scan_ends es g.0 s (marks r ++ (sg right ∷ sg closes ∷ sg left ∷ l)) h
      ∙ scan_run r false g.1 g.2 other (sg right ∷ sg closes ∷ sg left ∷ l)

-- The tree's conditions but for the one in question
abbrev mutual
  pub Fair : Run → Bool → Type 0
  Fair nil b = Unit {0}
  Fair (r ▸ i) b = Fair r b × FairItem i (start_after b r)

  FairItem : Item → Bool → Type 0
  FairItem (leaf q) b = Unit {0}
  FairItem (repeat o r) b = May b o × Some r × Fair r (inside o)
  FairItem (group o m es e) b = May b o × Some m × Fair m (inside o) × SomeEnds es × FairEnds es × Some e × Fair e false

  FairEnds : Ends → Type 0
  FairEnds no_more = Unit {0}
  FairEnds (es then r) = FairEnds es × Some r × Fair r false

open_some : (o : Left) (s : St) (l : List Mk) → IsSome (scan s (open_mk o ++ l)) → (t : St) × IsSome (scan t l)
open_some written s l q = (other, q)
open_some lacking s l q = (s, q)

left_some : (s : St) (l : List Mk) → IsSome (scan s (sg left ∷ l)) → NotBoth s
left_some other l q = tt
left_some after_right l q = tt
left_some after_both l q = q

past_run : (r : Run) (f : Bool) (s : St) (l : List Mk) → Good r f → IsSome (scan s (marks r ++ l)) → (t : St) × IsSome (scan t l)
past_run nil f s l g q = (s, q)
past_run (r ▸ i) f s l g q = (item_st i, subst IsSome (scan_run (r ▸ i) f tt g s l) q)

mutual
  fair_run : (r : Run) (f : Bool) (s : St) (l : List Mk) → Fair r f → IsSome (scan s (marks r ++ l)) → Good r f
  fair_run nil f s l h q = tt
  fair_run (r ▸ i) f s l h q =
      let q1 = subst (λ x. IsSome (scan s x)) (append_assoc (marks r) (item_marks i) l) q in
      let g = fair_run r f s (item_marks i ++ l) h.0 q1 in
      let p = past_run r f s (item_marks i ++ l) g q1 in
      (g, fair_item i (start_after f r) p.0 l h.1 p.1)

  fair_item : (i : Item) (f : Bool) (s : St) (l : List Mk) → FairItem i f → IsSome (scan s (item_marks i ++ l)) → GoodItem i f
  fair_item (leaf x) f s l h q = tt
  fair_item (repeat o r) f s l h q =
      let p = open_some o s (marks r ++ (closer ∷ l)) (subst (λ x. IsSome (scan s x)) (rep_mk o r l) q) in
      (h.0, h.1, fair_run r (inside o) p.0 (closer ∷ l) h.2 p.1)
  fair_item (group o m es e) f s l h q =
      let after : List Mk = sg left ∷ marks e ++ (sg right ∷ l) in
      let p = open_some o s (marks m ++ (end_marks es ++ after)) (subst (λ x. IsSome (scan s x)) (grp_mk o m es e l) q) in
      let g = fair_run m (inside o) p.0 (end_marks es ++ after) h.2 p.1 in
      let q1 = subst IsSome (scan_run m (inside o) h.1 g p.0 (end_marks es ++ after)) p.1 in
      let d = fair_ends es (tail_st m) (marks e ++ (sg right ∷ l)) h.4 q1 in
      let q2 = subst IsSome (scan_ends es d.0 (tail_st m) (marks e ++ (sg right ∷ l)) d.1) q1 in
      (h.0, h.1, g, not_both' m d.1, h.3, d.0, h.5, fair_run e false other (sg right ∷ l) h.6 q2)

  fair_ends : (es : Ends) (s : St) (l : List Mk) → FairEnds es → IsSome (scan s (end_marks es ++ (sg left ∷ l))) → GoodEnds es × NotBoth s
  fair_ends no_more s l h q = (tt, left_some s l q)
  fair_ends (es then r) s l h q =
      let next : List Mk = sg right ∷ sg closes ∷ sg left ∷ l in
      let q1 = subst (λ x. IsSome (scan s x)) (end_mk es r l) q in
      let d = fair_ends es s (marks r ++ next) h.0 q1 in
      let q2 = subst IsSome (scan_ends es d.0 s (marks r ++ next) d.1) q1 in
      ((d.0, h.1, fair_run r false other next h.2 q2), d.1)

-- no closing `:|` stands directly between `]` and `[`
abbrev pub Clean : List Mk → Type 0
Clean l = (u v : List Mk) → l ≡ u ++ (sg right ∷ closer ∷ sg left ∷ v) → ⊥

bind_none : (o : Option St) (f : St → Option St) → ((t : St) → f t ≡ none) → bind o f ≡ none
bind_none none f h = refl
bind_none (some s) f h = h s

scan_triple : (u v : List Mk) (s : St) → scan s (u ++ (sg right ∷ closer ∷ sg left ∷ v)) ≡ none
scan_triple [] v s = refl
scan_triple (x ∷ u) v s = bind_none (scan1 s x) (λ t. scan t (u ++ (sg right ∷ closer ∷ sg left ∷ v))) (λ t. scan_triple u v t)

scan_clean : (l : List Mk) → IsSome (scan other l) → Clean l
scan_clean l q u v e = subst IsSome (ap (scan other) e ∙ scan_triple u v other) q

clean_drop : (u l : List Mk) → Clean (u ++ l) → Clean l
clean_drop u l h a v e = h (u ++ a) v (ap (λ x. u ++ x) e ∙ sym (append_assoc u a (sg right ∷ closer ∷ sg left ∷ v)))

abbrev pre : St → List Mk
pre other = []
pre after_right = sg right ∷ []
pre after_both = sg right ∷ closer ∷ []

clean_next : (s : St) (x : Mk) (l : List Mk) → Clean (pre s ++ (x ∷ l)) → Clean l
clean_next s x l h = clean_drop (x ∷ []) l (clean_drop (pre s) (x ∷ l) h)

clean_scan : (l : List Mk) (s : St) → Clean (pre s ++ l) → IsSome (scan s l)
clean_scan [] s h = tt
clean_scan (sg (plays x) ∷ l) s h = clean_scan l other (clean_next s (sg (plays x)) l h)
clean_scan (sg (time k x) ∷ l) s h = clean_scan l other (clean_next s (sg (time k x)) l h)
clean_scan (sg opens ∷ l) s h = clean_scan l other (clean_next s (sg opens) l h)
clean_scan (sg closes ∷ l) s h = clean_scan l other (clean_next s (sg closes) l h)
clean_scan (sg left ∷ l) other h = clean_scan l other (clean_next other (sg left) l h)
clean_scan (sg left ∷ l) after_right h = clean_scan l other (clean_next after_right (sg left) l h)
clean_scan (sg left ∷ l) after_both h = absurd (h [] l refl)
clean_scan (sg right ∷ l) s h = clean_scan l after_right (clean_drop (pre s) (sg right ∷ l) h)
clean_scan (sg (mark j) ∷ l) s h = clean_scan l other (clean_next s (sg (mark j)) l h)
clean_scan (sg strange ∷ l) s h = clean_scan l other (clean_next s (sg strange) l h)
clean_scan (closer ∷ l) other h = clean_scan l other (clean_next other closer l h)
clean_scan (closer ∷ l) after_right h = clean_scan l after_both h
clean_scan (closer ∷ l) after_both h = clean_scan l other (clean_next after_both closer l h)

some_scan : (r : Run) (f : Bool) → Some r → Good r f → IsSome (scan other (marks r))
some_scan r f n g = subst (λ l. IsSome (scan other l)) (append-nil (marks r)) (subst IsSome (sym (scan_run r f n g other [])) tt)

-- Of trees that are good but for that condition, the good ones are those with no such `:|`.
pub exact : (r : Run) (f : Bool) → Some r → Fair r f → Good r f ↔ Clean (marks r)
exact r f n h = (
  (λ g. scan_clean (marks r) (some_scan r f n g)),
  (λ c. fair_run r f other [] h (subst (λ l. IsSome (scan other l)) (sym (append-nil (marks r))) (clean_scan (marks r) other c))),
)
