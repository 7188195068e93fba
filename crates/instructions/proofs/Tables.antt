-- The tables of first places, filled from the end of the listing.
-- Assumes nothing.
use mathlib.Core.Path.{◌≡◌, refl, sym, ap, ap₂, ◌∙◌}
use mathlib.Core.Bool.{cond}
use mathlib.Core.List.{List, [], ◌∷◌}
use Prim.Native.Nat.{ℕ, zero, suc, ◌<◌}
use native.Mathlib.Omega.{arith}
use lib.Dec.{eqb}
use lib.ListN.{length, get_or, set, replicate, length-set, length-replicate, get_or-replicate}
use lib.Seq.{get_or-set_same, get_or-set_other}
use Rattle.std.specs.Prelude.{Option, Some, None, Result, Ok, ok_or}
use Rattle.std.proofs.lemmas.Bool.Decides.{nat_tests}
use Rattle.refusals.specs.Limits.{Limits}
use Rattle.refusals.specs.declared.Refusal.{Refusal}
use Rattle.instructions.specs.declared.Operation.{Operation}
use Rattle.instructions.specs.declared.Operation.TheVariants.{Block, Loop, Repeat, Label, Jump, JumpUnless}
use Rattle.instructions.specs.declared.Instruction.{Instruction}
use Rattle.instructions.specs.declared.listing.Looped.{Looped}
use Rattle.instructions.specs.declared.listing.Checked.{Checked}
use Rattle.instructions.specs.declared.listing.Tables.{Tables}
use Rattle.instructions.specs.Forms.{beside}
use Rattle.instructions.specs.Words.{unpacked}
use Rattle.instructions.specs.Places.{is, names, first_place, loop_mark, loop_repeat, label_mark, loop_place, rep_place, label_place}
use Rattle.instructions.specs.Test.{test_listing, table, places, checking}
use Rattle.instructions.specs.Tables.{looped, mark_in, rep_in, label_in, put_in, FirstFrom, FirstPlaces, Filled}
use Rattle.instructions.proofs.Least.{first_none, first_more, first_is_least}

-- ---- what a word reads as
pub read_ok : {E : Type 0} (o : Option Instruction) (e : E) (x : Instruction) → ok_or o e ≡ Ok x → o ≡ Some x
read_ok (Some y) e x h = cc
read_ok None e x h = cc

-- an entry after one is put
after : {A : Type 0} (p : A → ℕ) (xs : List A) (j x : ℕ) (v d : A) → x < length xs → p (get_or (set xs j v) x d) ≡ cond (eqb j x) (p v) (p (get_or xs x d))
after {A = A} p xs j x v d lt = grind (arith, nat_tests, get_or-set_same {A = A}, get_or-set_other {A = A})

-- one that is put where it stood
as_before : (f : ℕ → ℕ) (j x : ℕ) → cond (eqb j x) (f j) (f x) ≡ f x
as_before f j x = grind (arith, nat_tests)

-- at the end no place is known: every entry is the length
pub filled_none : (l : Limits) (listing : List ℕ) → Filled l listing (length listing) (record { loops = replicate l.loops (looped (length listing) (length listing)); labels = replicate l.labels (length listing) })
filled_none l listing =
    record {
      loops_long = simp length-replicate;
      labels_long = simp length-replicate;
      marks = λ x lt. none_yet loop_mark x _ (ap (λ (a : Looped). a.mark) (get_or-replicate l.loops x (looped n n) (looped 0 0) lt));
      reps = λ x lt. none_yet loop_repeat x _ (ap (λ (a : Looped). a.rep) (get_or-replicate l.loops x (looped n n) (looped 0 0) lt));
      labels = λ x lt. none_yet label_mark x _ (get_or-replicate l.labels x n 0 lt);
    }
  where
    n : ℕ
    n = length listing

    none_yet : (named : Option Instruction → Option ℕ) (x m : ℕ) → m ≡ n → FirstFrom (names named listing x) n n m
    none_yet named x m e = rw e (first_none (names named listing x) n)

module _ (l : Limits) (listing : List ℕ) (i k : ℕ) (t : Tables) (lt : i < length listing) (up : k ≡ suc i) (h : Filled l listing k t) where
  -- ---- the instruction before is put into the tables
  further : (named : Option Instruction → Option ℕ) (count : ℕ) (old new : ℕ → ℕ) (u : Option Instruction)
      → unpacked (get_or listing i 0) ≡ u
      → FirstPlaces named listing k count old
      → ((x : ℕ) → x < count → new x ≡ cond (is (named u) x) i (old x))
      → FirstPlaces named listing i count new
  further named count old new u e places told x q =
      first_more (names named listing x) i (length listing) (old x) (new x) lt (rw up at places x q)
      (told x q ∙ ap (λ (v : Option Instruction). cond (is (named v) x) i (old x)) (sym e))

  next : (u : Option Instruction) (new : Tables)
      → unpacked (get_or listing i 0) ≡ u
      → length new.loops ≡ length t.loops
      → length new.labels ≡ length t.labels
      → ((x : ℕ) → x < l.loops → mark_in new x ≡ cond (is (loop_mark u) x) i (mark_in t x))
      → ((x : ℕ) → x < l.loops → rep_in new x ≡ cond (is (loop_repeat u) x) i (rep_in t x))
      → ((x : ℕ) → x < l.labels → label_in new x ≡ cond (is (label_mark u) x) i (label_in t x))
      → Filled l listing i new
  next u new e a b marks reps labels =
      record {
        loops_long = a ∙ h.loops_long;
        labels_long = b ∙ h.labels_long;
        marks = further loop_mark l.loops (mark_in t) (mark_in new) u e h.marks marks;
        reps = further loop_repeat l.loops (rep_in t) (rep_in new) u e h.reps reps;
        labels = further label_mark l.labels (label_in t) (label_in new) u e h.labels labels;
      }

  put : (o : Operation) (L B : ℕ) → unpacked (get_or listing i 0) ≡ Some (beside o L B) → Filled l listing i (put_in t i L B o)
  put (Block k n) L B e = next _ _ e refl refl (λ x q. refl) (λ x q. refl) (λ x q. refl)
  put Loop L B e =
      next _ _ e (simp length-set) refl
      (λ x q. after (λ (a : Looped). a.mark) t.loops L x (looped i (rep_in t L)) (looped 0 0) (omega (arith, h.loops_long)))
      (λ x q. after (λ (a : Looped). a.rep) t.loops L x (looped i (rep_in t L)) (looped 0 0) (omega (arith, h.loops_long)) ∙ as_before (rep_in t) L x)
      (λ x q. refl)
  put (Repeat T) L B e =
      next _ _ e (simp length-set) refl
      (λ x q. after (λ (a : Looped). a.mark) t.loops L x (looped (mark_in t L) i) (looped 0 0) (omega (arith, h.loops_long)) ∙ as_before (mark_in t) L x)
      (λ x q. after (λ (a : Looped). a.rep) t.loops L x (looped (mark_in t L) i) (looped 0 0) (omega (arith, h.loops_long)))
      (λ x q. refl)
  put Label L B e =
      next _ _ e refl (simp length-set) (λ x q. refl) (λ x q. refl)
      (λ x q. after (λ (a : ℕ). a) t.labels B x i 0 (omega (arith, h.labels_long)))
  put (Jump T) L B e = next _ _ e refl refl (λ x q. refl) (λ x q. refl) (λ x q. refl)
  put (JumpUnless T) L B e = next _ _ e refl refl (λ x q. refl) (λ x q. refl) (λ x q. refl)

  pub put_some : (x : Instruction) (new : Tables) → unpacked (get_or listing i 0) ≡ Some x → new ≡ put_in t i x.loop_number x.label_number x.operation → Filled l listing i new
  put_some x new e same = rw same (put x.operation x.loop_number x.label_number e)

-- ---- when all are put, each entry is the first place
all_put : (named : Option Instruction → Option ℕ) (listing : List ℕ) (count x : ℕ) (entries : ℕ → ℕ)
    → FirstPlaces named listing 0 count entries
    → x < count
    → entries x ≡ first_place named listing x
all_put named listing count x entries h lt = first_is_least (names named listing x) (length listing) (entries x) (h x lt)

-- a list of n entries is the table of a function that it agrees with
table_is : {A : Type 0} (n : ℕ) (f : ℕ → A) (xs : List A) (d : A) → length xs ≡ n → ((x : ℕ) → x < n → get_or xs x d ≡ f x) → xs ≡ table n f
unfolding table
table_is zero f [] d e h = refl
table_is zero f (x ∷ xs) d e h = absurd (omega arith)
table_is (suc n) f [] d e h = absurd (omega arith)
table_is (suc n) f (x ∷ xs) d e h = ap₂ ◌∷◌ (h 0 (omega arith)) (table_is n (λ k. f (suc k)) xs d (omega arith) (λ k lt. h (suc k) (omega arith)))

pub table_at : {A : Type 0} (n : ℕ) (f : ℕ → A) (x : ℕ) (d : A) → x < n → get_or (table n f) x d ≡ f x
unfolding table
table_at zero f x d h = absurd (omega arith)
table_at (suc n) f zero d h = refl
table_at (suc n) f (suc x) d h = table_at n (λ k. f (suc k)) x d (omega arith)

module _ (l : Limits) (listing : List ℕ) (t : Tables) (h : Filled l listing 0 t) where
  pub marks_are : (L : ℕ) → L < l.loops → mark_in t L ≡ loop_place listing L
  marks_are L lt = all_put loop_mark listing l.loops L (mark_in t) h.marks lt

  pub reps_are : (L : ℕ) → L < l.loops → rep_in t L ≡ rep_place listing L
  reps_are L lt = all_put loop_repeat listing l.loops L (rep_in t) h.reps lt

  pub labels_are : (B : ℕ) → B < l.labels → label_in t B ≡ label_place listing B
  labels_are B lt = all_put label_mark listing l.labels B (label_in t) h.labels lt

  loops_are : t.loops ≡ table l.loops (places listing)
  loops_are = table_is l.loops (places listing) t.loops (looped 0 0) h.loops_long (λ L lt. ap₂ looped (marks_are L lt) (reps_are L lt))

  -- the answer, with the loops of the filled tables
  pub checked : (r : Result (Unit {0}) Refusal) → r ≡ test_listing l listing → record { tested = r; loops = t.loops } ≡ checking l listing
  unfolding checking
  checked r e = ap₂ {C = Checked} (λ x y. record { tested = x; loops = y }) e loops_are
