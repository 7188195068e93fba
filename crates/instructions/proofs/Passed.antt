-- The pass over the listing: what the tables say of one instruction, and where the pass stops.
-- Assumes nothing.
use mathlib.Core.Path.{◌≡◌, refl, sym, ap, ◌∙◌}
use mathlib.Core.Bool.{Bool, true, false, not, ◌&&◌}
use mathlib.Core.List.{List}
use Prim.Native.Nat.{ℕ, suc, ◌≤◌, ◌<◌}
use native.Mathlib.Omega.{arith}
use lib.ListN.{length, get_or}
use lib.Dec.{ltb}
use borrow.Author.Tests.{lt-ltb, le-ltb}
use Rattle.std.specs.Prelude.{Option, Some, None, Ok, Err}
use Rattle.std.proofs.lemmas.Bool.{cases_order}
use Rattle.std.proofs.lemmas.Bool.Decides.{nat_tests}
use Rattle.refusals.specs.Limits.{Limits}
use Rattle.refusals.specs.declared.Refusal.TheVariants.{BadListing}
use Rattle.instructions.specs.declared.Instruction.{Instruction}
use Rattle.instructions.specs.declared.listing.Tables.{Tables}
use Rattle.instructions.specs.Forms.{loop_of, label_of}
use Rattle.instructions.specs.Words.{unpacked}
use Rattle.instructions.specs.Places.{loop_place, rep_place, label_place}
use Rattle.instructions.specs.Test.{kept_by, keeps, first_break, test_listing}
use Rattle.instructions.specs.Tables.{mark_in, rep_in, label_in, Filled}
use Rattle.instructions.proofs.Least.{first_is_least}
use Rattle.instructions.proofs.Tables.{marks_are, reps_are, labels_are}

-- no instruction below i breaks a rule
abbrev pub Passed : Limits → List ℕ → ℕ → Type 0
Passed l listing i = (j : ℕ) → j < i → keeps l listing j ≡ true

module _ (l : Limits) (listing : List ℕ) (t : Tables) (filled : Filled l listing 0 t) where
  by_tables : (i : ℕ) (u : Option Instruction)
      → kept_by l (length listing) i (mark_in t) (rep_in t) (label_in t) u
      ≡ kept_by l (length listing) i (loop_place listing) (rep_place listing) (label_place listing) u
  by_tables i None = refl
  by_tables i (Some x) =
      grind (arith, nat_tests, marks_are l listing t filled (loop_of x), reps_are l listing t filled (loop_of x), labels_are l listing t filled (label_of x))

  -- what the test of one word says
  pub told : (i : ℕ) (r : Bool)
      → r ≡ (ltb i l.instructions && kept_by l (length listing) i (mark_in t) (rep_in t) (label_in t) (unpacked (get_or listing i 0)))
      → keeps l listing i ≡ r
  unfolding keeps
  told i r e = sym (e ∙ ap (λ (b : Bool). ltb i l.instructions && b) (by_tables i (unpacked (get_or listing i 0))))

module _ (l : Limits) (listing : List ℕ) where
  pub too_far : (i : ℕ) → l.instructions ≤ i → keeps l listing i ≡ false
  unfolding keeps
  too_far i h = rw (le-ltb i l.instructions h)

  pub passed_more : (i : ℕ) → Passed l listing i → keeps l listing i ≡ true → Passed l listing (suc i)
  passed_more i h e j lt = grind (arith, cases_order, h j)

  stops : (i : ℕ) → i ≤ length listing → Passed l listing i → (i < length listing → keeps l listing i ≡ false) → i ≡ first_break l listing
  stops i le h e =
      first_is_least (λ i. not (keeps l listing i)) (length listing) i
      (record { low = omega arith; high = le; before = λ j a b. ap not (h j b); found = λ lt. ap not (e lt) })

  -- refused where the pass stops
  pub is_bad : (i : ℕ) → i < length listing → Passed l listing i → keeps l listing i ≡ false → Err (BadListing i) ≡ test_listing l listing
  unfolding test_listing
  is_bad i lt h e = rw (← stops i (omega arith) h (λ _. e), lt-ltb i (length listing) lt)

  -- good where it goes through
  pub is_good : Passed l listing (length listing) → Ok (tt {0}) ≡ test_listing l listing
  unfolding test_listing
  is_good h = rw (← stops (length listing) (omega arith) h (λ lt. absurd (omega arith)), le-ltb (length listing) (length listing) (omega arith))
