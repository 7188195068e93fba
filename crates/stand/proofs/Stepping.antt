-- One step: what test 11 says of the instruction that is executed, and what each operation makes of the position.
-- Assumes nothing.
use mathlib.Core.Path.{◌≡◌, sym, ap, ◌∙◌}
use mathlib.Core.Bool.{true}
use mathlib.Core.List.{List}
use Prim.Native.Nat.{ℕ, ◌≤◌, ◌<◌}
use native.Mathlib.Omega.{arith}
use lib.ListN.{length, get_or}
use Rattle.std.specs.Prelude.{Some}
use Rattle.std.proofs.lemmas.Bool.Decides.{nat_tests}
use Rattle.refusals.specs.Limits.{Limits}
use Rattle.instructions.specs.declared.Operation.{Operation}
use Rattle.instructions.specs.declared.Operation.TheVariants.{Block, Repeat, Jump, JumpUnless}
use Rattle.instructions.specs.declared.Instruction.{Instruction}
use Rattle.instructions.specs.declared.listing.Looped.{Looped}
use Rattle.instructions.specs.Forms.{loop_of, label_of}
use Rattle.instructions.specs.Places.{loop_place, rep_place, label_place}
use Rattle.instructions.specs.Test.{obeys, table, places}
use Rattle.instructions.specs.Tables.{looped}
use Rattle.instructions.proofs.Tables.{table_at}
use Rattle.instructions.proofs.Listings.{Keeps, kept, all_kept}
use Rattle.machine.specs.declared.Position.{Position}
use Rattle.machine.specs.Machine.{loop_at}
use Rattle.stand.specs.Steps.{program, Tested, Stepping}
use Rattle.stand.proofs.Jumps.{words, loop_at_lem}

module _ {l : Limits} {listing : List ℕ} {i : Instruction} {p : Position} (tested : Tested l listing) (s : Stepping l listing i p) where
  pub keeps_i : Keeps l listing p.next i
  keeps_i = kept l listing p.next (all_kept l listing tested p.next s.inside) i (words l listing tested p.next s.inside ∙ ap Some (sym s.there))

  pub low_loop : loop_of i < l.loops
  low_loop = keeps_i.loop_low

  pub near_place : p.next < l.instructions
  near_place = keeps_i.near

  -- it obeys the rules for its operation
  obeyed_as : (o : Operation) → i.operation ≡ o → obeys l (length listing) p.next (loop_place listing (loop_of i)) (rep_place listing (loop_of i)) (label_place listing (label_of i)) o ≡ true
  obeyed_as o e = rw e at keeps_i.obeyed

  -- a block is not too long
  pub short_block : (k n : ℕ) → i.operation ≡ Block k n → n ≤ l.number
  short_block k n e = let h = obeyed_as (Block k n) e in grind (arith, nat_tests)

  -- a jump's label has a mark
  pub marked_jump : (T : ℕ) → i.operation ≡ Jump T → label_place listing (label_of i) < length listing
  marked_jump T e = let h = obeyed_as (Jump T) e in grind (arith, nat_tests)

  pub marked_unless : (T : ℕ) → i.operation ≡ JumpUnless T → label_place listing (label_of i) < length listing
  marked_unless T e = let h = obeyed_as (JumpUnless T) e in grind (arith, nat_tests)

  -- the table has the place of the loop's mark, which is above a `rep`
  module _ {loops : List Looped} (table_is : loops ≡ table l.loops (places listing)) where
    placed : (get_or loops (loop_of i) (looped 0 0)).mark ≡ loop_place listing (loop_of i)
    placed = ap (λ (xs : List Looped). (get_or xs (loop_of i) (looped 0 0)).mark) table_is ∙ ap (λ (x : Looped). x.mark) (table_at l.loops (places listing) (loop_of i) (looped 0 0) keeps_i.loop_low)

    pub marked_loop : (get_or loops (loop_of i) (looped 0 0)).mark ≡ loop_at (program listing) (loop_of i)
    marked_loop = placed ∙ sym (loop_at_lem l listing (loop_of i) tested)

    pub loop_above : (T : ℕ) → i.operation ≡ Repeat T → (get_or loops (loop_of i) (looped 0 0)).mark < p.next
    loop_above T e = let h = obeyed_as (Repeat T) e in let m = placed in grind (arith, nat_tests)

pub ruleset step_rules = (low_loop, near_place, short_block, marked_jump, marked_unless, marked_loop, loop_above)
