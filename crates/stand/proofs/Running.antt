-- A run on its way: what it has done, and the run that is left, are the whole; at first nothing is done.
-- Assumes nothing.
use mathlib.Core.Path.{◌≡◌, sym, ap, ap₂, ◌∙◌}
use mathlib.Core.List.{List, [], ◌∷◌, ◌++◌}
use Prim.Native.Nat.{ℕ, suc, ◌+◌, ◌-◌, ◌*◌, ◌≤◌, ◌<◌, ◌^◌}
use native.Mathlib.Nat.{add-zero, zero-add, sub-zero}
use native.Mathlib.Numerals.{add-one}
use native.Mathlib.Omega.{arith}
use lib.ListN.{length, drop, set, length-set}
use lib.Seq.{sets, sets-eq}
use Rattle.std.specs.Prelude.{Ok}
use Rattle.refusals.specs.Limits.{Limits}
use Rattle.played.specs.declared.Played.{Played}
use Rattle.instructions.specs.declared.Instruction.{Instruction}
use Rattle.machine.specs.declared.Position.{Position}
use Rattle.machine.specs.Machine.{Ran, run}
use Rattle.machine.proofs.Room.{within_room}
use Rattle.stand.specs.declared.Stop.{Stop}
use Rattle.stand.specs.Runs.{told, ended, Outcome, outcome, ran}
use Rattle.stand.specs.Turns.{Stops, Goes}

-- so many steps and entries that are done, and then r
abbrev pub added : (steps entries : ℕ) → List Played → Ran → Outcome
added steps entries play r =
    outcome (Ok (ended (told r.stop) (steps + r.steps) (entries + length r.plays) r.now)) (sets play entries r.plays)

-- the run has come to p with so many steps and entries done
pub record Going (l : Limits) (listing : List Instruction) (allowance : ℕ) (whole : Outcome) (steps entries : ℕ) (p : Position) (play : List Played) : Type 0 where
  pub few : steps ≤ allowance
  pub inside : entries ≤ length play
  pub early : p.beat + (allowance - steps) * l.number < 2 ^ 64
  pub same : added steps entries play (run listing (allowance - steps) (length play - entries) p) ≡ whole

module _ (l : Limits) (listing : List Instruction) (allowance : ℕ) where
  pub starts : (p : Position) (play : List Played) → p.beat + allowance * l.number < 2 ^ 64 → Going l listing allowance (ran (run listing allowance (length play) p) play) 0 0 p play
  starts p play early =
      let r = run listing allowance (length play) p in
      record {
        few = omega arith;
        inside = omega arith;
        early = rw sub-zero early;
        same =
            ap₂ {C = Outcome} (λ n m. added 0 0 play (run listing n m p)) (sub-zero allowance) (sub-zero (length play))
            ∙ ap₂ {C = Outcome} (λ a b. outcome (Ok (ended (told r.stop) a b r.now)) (sets play 0 r.plays)) (zero-add r.steps) (zero-add (length r.plays))
            ∙ ap (outcome (Ok (ended (told r.stop) r.steps (length r.plays) r.now)))
            (sets-eq r.plays play 0 (omega (arith, within_room listing allowance (length play) p)) ∙ ap (λ (n : ℕ). r.plays ++ drop n play) (zero-add (length r.plays)));
      }

module _ {l : Limits} {listing : List Instruction} {allowance : ℕ} {whole : Outcome} {steps entries : ℕ} {p : Position} {play : List Played} (going : Going l listing allowance whole steps entries p play) where
  -- it stops: the whole is done
  pub ends : (why : Stop) → Stops listing (allowance - steps) (length play - entries) p why → outcome (Ok (ended why steps entries p)) play ≡ whole
  ends why stops =
      ap₂ {C = Outcome} (λ a b. outcome (Ok (ended why a b p)) play) (sym (add-zero steps)) (sym (add-zero entries))
      ∙ ap (λ (w : Stop). outcome (Ok (ended w (steps + 0) (entries + 0) p)) play) (sym stops.is)
      ∙ ap (added steps entries play) (sym stops.run_is)
      ∙ going.same

  -- beats that a step adds are taken from those that are left
  beats_left : (q : Position) → 0 < allowance - steps → q.beat ≤ p.beat + l.number → q.beat + (allowance - (steps + 1)) * l.number < 2 ^ 64
  beats_left q some-left near =
      let one : allowance - steps ≡ suc (allowance - (steps + 1)) = omega arith in
      let more : (allowance - steps) * l.number ≡ (allowance - (steps + 1)) * l.number + l.number = ap (λ (m : ℕ). m * l.number) one ∙ omega arith in
      omega (arith, going.early)

  -- it goes on
  pub passes : (q : Position) → Goes l listing (allowance - steps) (length play - entries) p [] (length play - entries) q → Going l listing allowance whole (steps + 1) entries q play
  passes q goes =
      let r = run listing (allowance - steps - 1) (length play - entries) q in
      record {
        few = omega (arith, goes.allowed);
        inside = going.inside;
        early = beats_left q goes.allowed goes.near;
        same =
            ap (λ (n : ℕ). added (steps + 1) entries play (run listing n (length play - entries) q)) (omega arith)
            ∙ ap (λ (n : ℕ). outcome (Ok (ended (told r.stop) n (entries + length r.plays) r.now)) (sets play entries r.plays)) (omega arith)
            ∙ ap (added steps entries play) (sym goes.run_is)
            ∙ going.same;
      }

  pub writes : (q : Position) (e : Played)
      → (0 < length play - entries) × Goes l listing (allowance - steps) (length play - entries) p (e ∷ []) (length play - entries - 1) q
      → Going l listing allowance whole (steps + 1) (entries + 1) q (set play entries e)
  writes q e (room, goes) =
      let r = run listing (allowance - steps - 1) (length play - entries - 1) q in
      let long = length-set play entries e in
      record {
        few = omega (arith, goes.allowed);
        inside = omega arith;
        early = beats_left q goes.allowed goes.near;
        same =
            ap₂ {C = Outcome} (λ n m. added (steps + 1) (entries + 1) (set play entries e) (run listing n m q)) (omega arith) (omega arith)
            ∙ ap₂ {C = Outcome} (λ n m. outcome (Ok (ended (told r.stop) n m r.now)) (sets (set play entries e) (entries + 1) r.plays)) (omega arith) (omega arith)
            ∙ ap (λ (at : ℕ). outcome (Ok (ended (told r.stop) (steps + suc r.steps) (entries + suc (length r.plays)) r.now)) (sets (set play entries e) at r.plays)) (add-one entries)
            ∙ ap (added steps entries play) (sym goes.run_is)
            ∙ going.same;
      }
