-- Tests 11 and 12 before a run: what they say decides whether the run is refused.
-- Assumes nothing.
use mathlib.Core.Path.{◌≡◌, refl, sym, ap, ◌∙◌}
use mathlib.Core.Bool.{Bool, true, false, cond}
use mathlib.Core.List.{List}
use Prim.Native.Nat.{ℕ, ◌≤◌}
use lib.ListN.{length}
use Rattle.std.specs.Prelude.{Some, None, Result, Ok, Err}
use Rattle.refusals.specs.Limits.{Limits}
use Rattle.refusals.specs.declared.Refusal.{Refusal}
use Rattle.refusals.specs.declared.Refusal.TheVariants.{BadPosition}
use Rattle.played.specs.declared.Played.{Played}
use Rattle.instructions.specs.declared.listing.Checked.{Checked}
use Rattle.instructions.specs.Test.{test_listing, checking}
use Rattle.machine.specs.declared.Position.{Position}
use Rattle.machine.specs.Machine.{run}
use Rattle.stand.specs.Positions.{position_fits}
use Rattle.stand.specs.Steps.{program, Tested}
use Rattle.stand.specs.Runs.{refused_by, refusal, outcome, ran, decided, running}
use Rattle.stand.proofs.Positions.{told}

module _ (l : Limits) (listing : List ℕ) (p : Position) where
  -- a bad listing is refused
  pub bad_listing : (c : Checked) (why : Refusal) → c ≡ checking l listing → c.tested ≡ Err why → refusal l listing p ≡ Some why
  unfolding checking
  bad_listing c why checks e = ap (refused_by l listing p) (sym (ap (λ (x : Checked). x.tested) checks) ∙ e)

  -- a run that is not refused has a good listing and a good position
  pub passed : refusal l listing p ≡ None → Tested l listing × (position_fits l listing p ≡ true)
  passed = by_test (test_listing l listing) refl
    where
      by_position : (t : Bool) → position_fits l listing p ≡ t → cond t None (Some BadPosition) ≡ None → position_fits l listing p ≡ true
      by_position true q e = q
      by_position false q e = cc

      by_test : (t : Result (Unit {0}) Refusal) → test_listing l listing ≡ t → refused_by l listing p t ≡ None → Tested l listing × (position_fits l listing p ≡ true)
      by_test (Err why) q e = cc
      by_test (Ok tt) q e = (q, by_position (position_fits l listing p) refl e)

  pub early : refusal l listing p ≡ None → p.beat ≤ l.beat
  early e = let (t, f) = passed e in (told l listing t p f).early

  -- what a run answers that is refused, and one that is not
  module _ (allowance : ℕ) (play : List Played) where
    pub refuses : (why : Refusal) → refusal l listing p ≡ Some why → outcome (Err why) play ≡ running l listing p allowance play
    unfolding running
    refuses why e = ap (decided l listing p allowance play) (sym e)

    pub runs : refusal l listing p ≡ None → ran (run (program listing) allowance (length play) p) play ≡ running l listing p allowance play
    unfolding running
    runs e = ap (decided l listing p allowance play) (sym e)
