-- Laws of runs, refusals counted: a position that a run leaves is bad only by its beat; runs one after the other are one run with the sum; what halted stays halted.
-- Assumes nothing.
use mathlib.Core.Path.{◌≡◌, refl, sym, ap, ap₂, subst, ◌∙◌}
use mathlib.Core.Bool.{Bool, true, false}
use mathlib.Core.List.{List, [], ◌∷◌, ◌++◌, map}
use mathlib.Core.Option.{none, some}
use Rattle.std.specs.Prelude.{Option, Some, None, Ok, Err}
use Prim.Native.Nat.{ℕ, ◌+◌, ◌≤◌, ◌<◌}
use native.Mathlib.Omega.{arith}
use lib.ListN.{length, get_or, get_elem?, take, drop, length-map, length-replicate, get_or-replicate, get_or-eq_default}
use lib.Seq.{take-append_seam}
use lib.Dec.{leb, ltb}
use borrow.Author.Tests.{ltb-true, ltb-false, leb-true}
use Rattle.refusals.specs.Limits.{Limits}
use Rattle.refusals.specs.declared.Refusal.{Refusal}
use Rattle.refusals.specs.declared.Refusal.TheVariants.{BadPosition}
use Rattle.played.specs.declared.Played.{Played}
use Rattle.instructions.specs.declared.Operation.TheVariants.{Repeat}
use Rattle.instructions.specs.declared.Instruction.{Instruction}
use Rattle.instructions.specs.Forms.{loop_of, loop, rep}
use Rattle.instructions.specs.Words.{decoded}
use Rattle.instructions.specs.Rules.{At}
use Rattle.instructions.specs.Places.{loop_mark, loop_place}
use Rattle.instructions.specs.Test.{within}
use Rattle.instructions.proofs.Marks.{Form, as_block, as_loop, as_rep, as_lb, as_jmp, as_njmp, form, is_decoded, inside, loop_there, there_loop, at_first, not_before}
use Rattle.instructions.proofs.Listings.{and_true, all_kept, kept_rep}
use Rattle.machine.specs.declared.Position.{Position}
use Rattle.machine.specs.Machine.{halted, Ran, run, fresh_of}
use Rattle.machine.specs.Parts.{Part, freely, runs, Roomy}
use Rattle.machine.specs.Parts as parts
use Rattle.machine.proofs.Runs.{no_steps}
use Rattle.machine.proofs.Room.{enough}
use Rattle.machine.proofs.Split.{in_parts, stays_halted}
use Rattle.machine.proofs.Stays.{Repeats, Sound, Fits, stays}
use Rattle.stand.specs.declared.Stop.{Stop}
use Rattle.stand.specs.declared.Stop.TheVariants.{BufferFull, Halted}
use Rattle.stand.specs.declared.Ended.{Ended}
use Rattle.stand.specs.Positions.{Bad, beyond, above, not_there, late, position_fits}
use Rattle.stand.specs.Steps.{program, Tested}
use Rattle.stand.specs.Runs.{told, ended, refusal, written, outcome, Outcome, ran, decided, running}
use Rattle.stand.specs.Chains.{Lent, sum, Chain, next}
use Rattle.stand.specs.Chains as chains
use Rattle.stand.proofs.Jumps.{words, loop_at_lem}
use Rattle.stand.proofs.Opening.{passed}
use Rattle.stand.proofs.Turning.{get_some, get_none}
use Rattle.stand.proofs.Positions as fits

-- ---- positions
rep_form : (x : Instruction) (T : ℕ) → Form x → x.operation ≡ Repeat T → x ≡ rep (loop_of x) T
rep_form x T (as_block k l) e = cc
rep_form x T (as_loop L) e = cc
rep_form x T (as_rep L S) e = let z : S ≡ T = cc in ap (rep L) z
rep_form x T (as_lb B) e = cc
rep_form x T (as_jmp L S B) e = cc
rep_form x T (as_njmp L S B) e = cc

module _ (l : Limits) (listing : List ℕ) (tested : Tested l listing) where
  -- an instruction of the program is one of the listing
  at_program : (i : ℕ) (x : Instruction) → get_elem? (program listing) i ≡ some x → At listing i x
  at_program i x e = go (ltb i (length listing)) refl
    where
      go : (t : Bool) → ltb i (length listing) ≡ t → At listing i x
      go true q =
          let lt : i < length listing = ltb-true _ _ q in
          let same : decoded (get_or listing i 0) ≡ x = (let f = sym (get_some listing i lt) ∙ e in cc) in
          subst (At listing i) same (words l listing tested i lt)
      go false q =
          let f : none ≡ some x = sym (get_none listing i (ltb-false _ _ q)) ∙ e in
          cc

  to_rep : (i L T : ℕ) → Repeats (program listing) i L T → At listing i (rep L T)
  to_rep i L T r =
      let a = at_program i r.instruction r.there in
      a ∙ ap Some (rep_form r.instruction T (form _ r.instruction a) r.repeats ∙ ap (λ (K : ℕ). rep K T) r.loop)

  of_rep : (i L T : ℕ) → At listing i (rep L T) → Repeats (program listing) i L T
  of_rep i L T a =
      record {
        instruction = rep L T;
        there = get_some listing i (inside listing i (rep L T) a) ∙ ap some (is_decoded _ (rep L T) a);
        repeats = refl;
        loop = refl;
      }

  long : length (program listing) ≡ length listing
  long = length-map listing decoded

  kept : (i L T : ℕ) → At listing i (rep L T) → (within 1 l.times T ≡ true) × (loop_place listing L < i) × (i < length listing)
  kept i L T a =
      let lt = inside listing i (rep L T) a in
      let k = kept_rep l listing i L T (all_kept l listing tested i lt) a in
      (k.0, k.1, lt)

  sound : Sound (program listing)
  sound =
      record {
        marked = λ i L T r. let k = kept i L T (to_rep i L T r) in omega (arith, loop_at_lem l listing L tested, long);
        times = λ i L T r. let k = kept i L T (to_rep i L T r) in leb-true 1 T (and_true (leb 1 T) (leb T l.times) k.0).0;
        alike = λ i j L S T r s. sym (fits.rep_times l listing tested i L S (to_rep i L S r)) ∙ fits.rep_times l listing tested j L T (to_rep j L T s);
      }

  -- where no mark of a loop stands
  unmarked : (L : ℕ) → length listing ≤ loop_place listing L → (i : ℕ) → At listing i (loop L) → ⊥
  unmarked L out i a = not_before loop_mark listing L i (omega (arith, inside listing i (loop L) a)) (there_loop listing L i a)

  no_place : (L : ℕ) → ((i : ℕ) → At listing i (loop L) → ⊥) → length listing ≤ loop_place listing L
  no_place L no_mark =
      let h : loop_place listing L < length listing → ⊥ = λ lt. no_mark (loop_place listing L) (loop_there listing L (loop_place listing L) (at_first loop_mark listing L lt)) in
      omega arith

  fitting : (p : Position) → position_fits l listing p ≡ true → Fits (program listing) p
  fitting p e =
      let t = fits.told l listing tested p e in
      record {
        inside = omega (arith, t.near, long);
        low = λ i L T r. let x = t.low L in let y = fits.rep_times l listing tested i L T (to_rep i L T r) in omega arith;
        absent =
            λ L out.
            let x = t.low L in
            let y = fits.no_times l listing tested L (unmarked L (omega (arith, loop_at_lem l listing L tested, long))) in
            omega arith;
      }

  only_late : (p : Position) → Fits (program listing) p → Bad l listing p → l.beat < p.beat
  only_late p f (beyond h) = absurd (omega (arith, f.inside, long))
  only_late p f (above i L T a h) = absurd (omega (arith, f.low i L T (of_rep i L T a)))
  only_late p f (not_there L no_mark h) = absurd (h (f.absent L (let x = no_place L no_mark in omega (arith, loop_at_lem l listing L tested, long))))
  only_late p f (late h) = h

-- ---- refusals
module _ (l : Limits) (listing : List ℕ) where
  -- a good listing can be run from the start
  pub fresh_good : Tested l listing → refusal l listing (fresh_of l) ≡ None
  fresh_good t = rw (t, (fits.exactly l listing t (fresh_of l)).1 not_bad)
    where
      zeros : (L : ℕ) → get_or (fresh_of l).counts L 0 ≡ 0
      zeros L =
          let inside : L < l.loops → get_or (fresh_of l).counts L 0 ≡ 0 = get_or-replicate l.loops L 0 0 in
          let n : length (fresh_of l).counts ≡ l.loops = length-replicate l.loops 0 in
          let past : l.loops ≤ L → get_or (fresh_of l).counts L 0 ≡ 0 = λ out. get_or-eq_default (fresh_of l).counts 0 (omega arith) in
          grind (arith, inside, past)

      not_bad : Bad l listing (fresh_of l) → ⊥
      not_bad (beyond h) = omega arith
      not_bad (above i L T a h) = omega (arith, zeros L)
      not_bad (not_there L no_mark h) = h (zeros L)
      not_bad (late h) = omega arith

  module _ (p : Position) (good : refusal l listing p ≡ None) (n room : ℕ) where
    abbrev now : Position
    now = (run (program listing) n room p).now

    -- the position that a run leaves is bad by its beat alone
    pub stays_good : Bad l listing now → l.beat < now.beat
    stays_good bad =
        let (t, f) = passed l listing p good in
        only_late l listing t now (stays (program listing) (sound l listing t) n room p (fitting l listing t p f)) bad

    -- so the next run is not refused while the beat is not above the limit
    pub next_good : now.beat ≤ l.beat → refusal l listing now ≡ None
    next_good h =
        let (t, f) = passed l listing p good in
        let fit : position_fits l listing now ≡ true = (fits.exactly l listing t now).1 (λ bad. let x = stays_good bad in omega arith) in
        rw (t, fit)

    -- and is refused by 12 where it is
    pub next_late : l.beat < now.beat → refusal l listing now ≡ Some BadPosition
    next_late h =
        let (t, f) = passed l listing p good in
        rw (t, not_fit (position_fits l listing now) refl)
      where
        not_fit : (b : Bool) → position_fits l listing now ≡ b → b ≡ false
        not_fit true q = let (t, f) = passed l listing p good in absurd (omega (arith, (fits.told l listing t now q).early))
        not_fit false q = refl

  -- ---- runs one after the other
  -- what is told of a run that is not refused is the machine's
  record Told (p : Position) (a : Lent) (why : Stop) (steps entries : ℕ) (q : Position) (after : List Played) : Type 0 where
    good : refusal l listing p ≡ None
    same : ran (run (program listing) a.allowance (length a.play) p) a.play ≡ outcome (Ok (ended why steps entries q)) after

  told_so : (p : Position) (a : Lent) (why : Stop) (steps entries : ℕ) (q : Position) (after : List Played)
      → running l listing p a.allowance a.play ≡ outcome (Ok (ended why steps entries q)) after
      → Told p a why steps entries q after
  unfolding running
  told_so p a why steps entries q after = go (refusal l listing p) refl
    where
      go : (o : Option Refusal) → refusal l listing p ≡ o → decided l listing p a.allowance a.play o ≡ outcome (Ok (ended why steps entries q)) after → Told p a why steps entries q after
      go None e is = record { good = e; same = is }
      go (Some r) e is = let x : Err r ≡ Ok (ended why steps entries q) = ap (λ (o : Outcome). o.answer) is in absurd cc

  abbrev part : Lent → Part
  part a = record { allowance = a.allowance; room = length a.play }

  sums : (lent : List Lent) → parts.sum (map part lent) ≡ sum lent
  sums [] = refl
  sums (a ∷ rest) = ap (λ (n : ℕ). a.allowance + n) (sums rest)

  -- a chain is the machine's runs, part by part
  record Runs (p : Position) (lent : List Lent) (steps : ℕ) (plays : List Played) (q : Position) : Type 0 where
    roomy : Roomy (program listing) (map part lent) p
    steps_are : (runs (program listing) (map part lent) p).steps ≡ steps
    plays_are : (runs (program listing) (map part lent) p).plays ≡ plays
    now_is : (runs (program listing) (map part lent) p).now ≡ q

  module _ (p q r : Position) (why : Stop) (n k more : ℕ) (after ps : List Played) (a : Lent) (rest : List Lent) (not_full : why ≡ BufferFull → ⊥) where
    abbrev first : Ran
    first = run (program listing) a.allowance (length a.play) p

    linked : Told p a why n k q after → Runs q rest more ps r → Runs p (a ∷ rest) (n + more) (take k after ++ ps) r
    linked t h =
        let answer : Ok (ended (told first.stop) first.steps (length first.plays) first.now) ≡ Ok (ended why n k q) = ap (λ (o : Outcome). o.answer) t.same in
        let same : ended (told first.stop) first.steps (length first.plays) first.now ≡ ended why n k q = cc in
        let now_is : first.now ≡ q = ap (λ (e : Ended). e.position) same in
        let stops : told first.stop ≡ why = ap (λ (e : Ended). e.stop) same in
        let steps_are : first.steps ≡ n = ap (λ (e : Ended). e.steps) same in
        let entries_are : length first.plays ≡ k = ap (λ (e : Ended). e.entries) same in
        let after_is : written first.plays a.play ≡ after = ap (λ (o : Outcome). o.play) t.same in
        let wrote : first.plays ≡ take k after = sym (take-append_seam first.plays (drop (length first.plays) a.play)) ∙ ap₂ take entries_are after_is in
        let rest_is : runs (program listing) (map part rest) first.now ≡ runs (program listing) (map part rest) q = ap (runs (program listing) (map part rest)) now_is in
        record {
          roomy = (λ full-it. not_full (sym stops ∙ ap told full-it), subst (Roomy (program listing) (map part rest)) (sym now_is) h.roomy);
          steps_are = ap₂ ◌+◌ steps_are (ap (λ (x : Ran). x.steps) rest_is ∙ h.steps_are);
          plays_are = ap₂ {C = List Played} (λ x y. x ++ y) wrote (ap (λ (x : Ran). x.plays) rest_is ∙ h.plays_are);
          now_is = ap (λ (x : Ran). x.now) rest_is ∙ h.now_is;
        }

  chained : (p : Position) (lent : List Lent) (steps : ℕ) (plays : List Played) (q : Position) → Chain l listing p lent steps plays q → Runs p lent steps plays q
  chained p lent steps plays q (chains.none p₁) = let z = no_steps (program listing) 0 p₁ in record { roomy = tt; steps_are = z.0; plays_are = z.1; now_is = z.2 }
  chained p lent steps plays q (next p₁ q₁ r why n k more after ps a rest e not_full c) =
      linked p₁ q₁ r why n k more after ps a rest not_full (told_so p₁ a why n k q₁ after e) (chained q₁ rest more ps r c)

  -- the runs one after the other, whatever their buffers held, are one run with the sum of the allowances, in any buffer with room
  pub one_run : (p q : Position) (lent : List Lent) (steps : ℕ) (plays : List Played) (play : List Played)
      → refusal l listing p ≡ None
      → Chain l listing p lent steps plays q
      → length plays ≤ length play
      → (why : Stop) × (running l listing p (sum lent) play ≡ outcome (Ok (ended why steps (length plays) q)) (written plays play))
  unfolding running
  one_run p q lent steps plays play good c fits_in =
      let h = chained p lent steps plays q c in
      let whole = runs (program listing) (map part lent) p in
      let free : freely (program listing) (sum lent) p ≡ whole = ap (λ (n : ℕ). freely (program listing) n p) (sym (sums lent)) ∙ sym (in_parts (program listing) (map part lent) p h.roomy) in
      let played : length (freely (program listing) (sum lent) p).plays ≡ length plays = ap (λ (r : Ran). length r.plays) free ∙ ap length h.plays_are in
      let all : run (program listing) (sum lent) (length play) p ≡ whole = enough (program listing) (sum lent) (length play) p (omega arith) ∙ free in (
        told whole.stop,
        ap (decided l listing p (sum lent) play) good
            ∙ ap (λ (r : Ran). ran r play) all
            ∙ ap₂ {C = Outcome} (λ n ps. outcome (Ok (ended (told whole.stop) n (length ps) whole.now)) (written ps play)) h.steps_are h.plays_are
            ∙ ap (λ (x : Position). outcome (Ok (ended (told whole.stop) steps (length plays) x)) (written plays play)) h.now_is,
      )

  -- a run that has halted stays so: the next one, not refused, does nothing, whatever its allowance and its buffer
  pub halted_stays : (p : Position) (allowance more : ℕ) (play other : List Played)
      → (run (program listing) allowance (length play) p).stop ≡ halted
      → refusal l listing (run (program listing) allowance (length play) p).now ≡ None
      → running l listing (run (program listing) allowance (length play) p).now more other
      ≡ outcome (Ok (ended Halted 0 0 (run (program listing) allowance (length play) p).now)) other
  unfolding running
  halted_stays p allowance more play other e good =
      ap (decided l listing (run (program listing) allowance (length play) p).now more other) good
      ∙ ap (λ (r : Ran). ran r other) (stays_halted (program listing) allowance (length play) p e more (length other))
