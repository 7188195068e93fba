-- Test 12 is what makes a position bad: of a good listing, the test holds exactly when nothing does.
-- Assumes nothing.
use mathlib.Core.Path.{◌≡◌, refl, sym, ap, ◌∙◌}
use mathlib.Core.Logic.{◌↔◌}
use mathlib.Core.Bool.{Bool, true, false, cond, ◌&&◌}
use mathlib.Core.List.{List, [], ◌∷◌}
use Prim.Native.Nat.{ℕ, suc, ◌≤◌, ◌<◌}
use native.Mathlib.Omega.{arith}
use lib.ListN.{length, get_or, get_or-eq_default}
use lib.Dec.{leb, ltb}
use borrow.Author.Tests.{ltb-true, ltb-false, leb-true, le-leb, lt-leb}
use Rattle.refusals.specs.Limits.{Limits}
use Rattle.std.proofs.lemmas.Bool.Decides.{nat_tests}
use Rattle.std.specs.List.{list_all, zip}
use Rattle.std.specs.Prelude.{Ok}
use Rattle.instructions.specs.declared.listing.Looped.{Looped}
use Rattle.instructions.specs.Forms.{loop, rep}
use Rattle.instructions.specs.Words.{unpacked}
use Rattle.instructions.specs.Rules.{At}
use Rattle.instructions.specs.Places.{least, loop_mark, loop_repeat, loop_place, rep_place}
use Rattle.instructions.specs.Test.{test_listing, table, places}
use Rattle.instructions.specs.Tables.{FirstFrom}
use Rattle.instructions.proofs.Least.{least_first}
use Rattle.instructions.proofs.Marks.{inside, rep_there, loop_there, at_first}
use Rattle.instructions.proofs.Listings.{and_true, all_kept, kept_rep, kept_loop}
use Rattle.machine.specs.declared.Position.{Position}
use Rattle.stand.specs.Positions.{Bad, beyond, above, not_there, late, times_of, times, counts_fit, position_fits}

-- past the end there is no instruction, and no T
pub times_out : (listing : List ℕ) (i : ℕ) → length listing ≤ i → times_of (unpacked (get_or listing i 0)) ≡ 0
unfolding unpacked
times_out listing i h = rw (get_or-eq_default listing 0 h)

-- ---- the pass over the loops beside their counts
leb_suc : (a b : ℕ) → leb a b ≡ leb (suc a) (suc b)
leb_suc a b = grind (arith, nat_tests)

module _ (rep_times : Looped → ℕ) where
  passes : (f : ℕ → Looped) (counts : List ℕ)
      → list_all (λ x. leb x.1 (rep_times x.0)) (zip (table (length counts) f) counts)
      ≡ leb (length counts) (least (λ L. ltb (rep_times (f L)) (get_or counts L 0)) (length counts))
  unfolding table least
  passes f [] = refl
  passes f (c ∷ cs) = go (ltb (rep_times (f 0)) c) refl (passes (λ k. f (suc k)) cs)
    where
      rest : Bool
      rest = list_all (λ x. leb x.1 (rep_times x.0)) (zip (table (length cs) (λ k. f (suc k))) cs)

      first : ℕ
      first = least (λ L. ltb (rep_times (f (suc L))) (get_or cs L 0)) (length cs)

      go : (t : Bool) → ltb (rep_times (f 0)) c ≡ t → rest ≡ leb (length cs) first → (leb c (rep_times (f 0)) && rest) ≡ leb (suc (length cs)) (cond (ltb (rep_times (f 0)) c) 0 (suc first))
      go true e h = rw (e, lt-leb _ _ (ltb-true _ _ e)) (sym (lt-leb _ _ (omega arith)))
      go false e h = rw (e, le-leb _ _ (ltb-false _ _ e)) (h ∙ leb_suc (length cs) first)

counts_are : (k : ℕ) (listing : List ℕ) (loops : List Looped) (counts : List ℕ)
    → loops ≡ table k (places listing)
    → length counts ≡ k
    → list_all (λ x. leb x.1 (times_of (unpacked (get_or listing x.0.rep 0)))) (zip loops counts) ≡ counts_fit listing counts
counts_are k listing loops counts is long =
    ap (λ (xs : List Looped). list_all (λ x. leb x.1 (times_of (unpacked (get_or listing x.0.rep 0)))) (zip xs counts)) (is ∙ ap (λ (n : ℕ). table n (places listing)) (sym long))
    ∙ passes (λ x. times_of (unpacked (get_or listing x.rep 0))) (places listing) counts

-- where place and beat are inside, the counts decide
pub counts_decide : (l : Limits) (listing : List ℕ) (loops : List Looped) (p : Position) (r : Bool)
    → p.next ≤ length listing
    → p.beat ≤ l.beat
    → loops ≡ table l.loops (places listing)
    → length p.counts ≡ l.loops
    → r ≡ list_all (λ x. leb x.1 (times_of (unpacked (get_or listing x.0.rep 0)))) (zip loops p.counts)
    → r ≡ position_fits l listing p
unfolding position_fits
counts_decide l listing loops p r near early is long e = rw (le-leb _ _ near, le-leb _ _ early) (e ∙ counts_are l.loops listing loops p.counts is long)

-- ---- what it says of each count
module _ (listing counts : List ℕ) where
  abbrev over : ℕ → Bool
  over L = ltb (times listing L) (get_or counts L 0)

  first : FirstFrom over 0 (length counts) (least over (length counts))
  first = least_first over (length counts)

  all_low : ((L : ℕ) → get_or counts L 0 ≤ times listing L) → counts_fit listing counts ≡ true
  all_low low =
      let none : least over (length counts) < length counts → ⊥ = λ lt. omega (arith, low (least over (length counts)), ltb-true _ _ (first.found lt)) in
      le-leb _ _ (omega arith)

  low_all : counts_fit listing counts ≡ true → (L : ℕ) → get_or counts L 0 ≤ times listing L
  low_all e L = go (ltb L (length counts)) refl
    where
      go : (t : Bool) → ltb L (length counts) ≡ t → get_or counts L 0 ≤ times listing L
      go true q = ltb-false _ _ (first.before L (omega arith) (omega (arith, ltb-true _ _ q, leb-true _ _ e)))
      go false q = rw (get_or-eq_default counts 0 (ltb-false _ _ q)) (omega arith)

-- ---- of a good listing
module _ (l : Limits) (listing : List ℕ) (tested : test_listing l listing ≡ Ok tt) where
  -- the T of a `rep` is its loop's
  pub rep_times : (i L T : ℕ) → At listing i (rep L T) → times listing L ≡ T
  rep_times i L T a =
      let k = kept_rep l listing i L T (all_kept l listing tested i (inside listing i (rep L T) a)) a in
      ap times_of (ap (λ (j : ℕ). unpacked (get_or listing j 0)) k.2 ∙ a)

  -- a loop that is not there has no T
  pub no_times : (L : ℕ) → ((i : ℕ) → At listing i (loop L) → ⊥) → times listing L ≡ 0
  no_times L none = times_out listing (rep_place listing L) (let h = marked in omega arith)
    where
      marked : rep_place listing L < length listing → ⊥
      marked lt =
          let (T, a) = rep_there listing L (rep_place listing L) (at_first loop_repeat listing L lt) in
          let k = kept_rep l listing (rep_place listing L) L T (all_kept l listing tested (rep_place listing L) lt) a in
          none (loop_place listing L) (loop_there listing L (loop_place listing L) (at_first loop_mark listing L (omega (arith, k.1))))

  -- a loop that is there has a `rep`
  there_rep : (i L : ℕ) → At listing i (loop L) → (T : ℕ) × At listing (rep_place listing L) (rep L T)
  there_rep i L a =
      let k = kept_loop l listing i L (all_kept l listing tested i (inside listing i (loop L) a)) a in
      rep_there listing L (rep_place listing L) (at_first loop_repeat listing L k.2)

  module _ (p : Position) where
    -- what the test says of each
    pub record Fit : Type 0 where
      pub near : p.next ≤ length listing
      pub early : p.beat ≤ l.beat
      pub low : (L : ℕ) → get_or p.counts L 0 ≤ times listing L

    pub told : position_fits l listing p ≡ true → Fit
    unfolding position_fits
    told e =
        let x = and_true (leb p.next (length listing) && leb p.beat l.beat) (counts_fit listing p.counts) e in
        record { near = grind (arith, nat_tests, x.0); early = grind (arith, nat_tests, x.0); low = low_all listing p.counts x.1 }

    fits_not_bad : position_fits l listing p ≡ true → Bad l listing p → ⊥
    fits_not_bad e (beyond h) = let x = (told e).near in omega arith
    fits_not_bad e (above i L T a h) = let x = (told e).low L in let y = rep_times i L T a in omega arith
    fits_not_bad e (not_there L none h) = h (let x = (told e).low L in let y = no_times L none in omega arith)
    fits_not_bad e (late h) = let x = (told e).early in omega arith

    not_bad_fits : (Bad l listing p → ⊥) → position_fits l listing p ≡ true
    unfolding position_fits
    not_bad_fits good = rw (le-leb p.next (length listing) near, le-leb p.beat l.beat early) (all_low listing p.counts low)
      where
        near : p.next ≤ length listing
        near = let h : (length listing < p.next → ⊥) = λ lt. good (beyond lt) in omega arith

        early : p.beat ≤ l.beat
        early = let h : (l.beat < p.beat → ⊥) = λ lt. good (late lt) in omega arith

        low : (L : ℕ) → get_or p.counts L 0 ≤ times listing L
        low L = grind (arith, repeated, absent)
          where
            repeated : rep_place listing L < length listing → get_or p.counts L 0 ≤ times listing L
            repeated lt =
                let (T, a) = rep_there listing L (rep_place listing L) (at_first loop_repeat listing L lt) in
                let h : (T < get_or p.counts L 0 → ⊥) = λ more. good (above (rep_place listing L) L T a more) in
                let y = rep_times (rep_place listing L) L T a in
                omega arith

            absent : length listing ≤ rep_place listing L → 0 < get_or p.counts L 0 → ⊥
            absent out more =
                good (not_there L (λ i a. let (T, b) = there_rep i L a in let m = inside listing (rep_place listing L) (rep L T) b in omega arith) (λ z. omega arith))

    -- the position is refused exactly when it is bad
    pub exactly : (position_fits l listing p ≡ true) ↔ (Bad l listing p → ⊥)
    exactly = (fits_not_bad, not_bad_fits)
