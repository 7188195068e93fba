-- One turn of a run: it stops, or takes a step and goes on.
-- Assumes nothing.
use mathlib.Core.Path.{◌≡◌, refl, sym, ap, ap₂, ◌∙◌}
use mathlib.Core.List.{List, [], ◌∷◌}
use mathlib.Core.Option.{none, some}
use Prim.Native.Nat.{ℕ, zero, suc, ◌+◌, ◌-◌, ◌*◌, ◌≤◌, ◌<◌, ◌^◌}
use native.Mathlib.Omega.{arith}
use lib.ListN.{length, get_or, get_elem?}
use Rattle.refusals.specs.Limits.{Limits, document01}
use Rattle.played.specs.declared.Played.{Played}
use Rattle.instructions.specs.declared.Operation.{Operation}
use Rattle.instructions.specs.declared.Operation.TheVariants.{Block}
use Rattle.instructions.specs.declared.Instruction.{Instruction}
use Rattle.instructions.specs.Forms.{loop_of, label_of}
use Rattle.instructions.specs.Words.{decoded}
use Rattle.machine.specs.declared.Position.{Position}
use Rattle.machine.specs.Machine.{halted, used, full, plays_at, plays, room_behind, does, step, stepped, run}
use Rattle.machine.proofs.Runs.{run_halted, run_used, run_full, run_step}
use Rattle.stand.specs.declared.Stop.TheVariants.{Halted, AllowanceUsed, BufferFull}
use Rattle.stand.specs.Steps.{program, Tested, Stepping}
use Rattle.stand.specs.Turns.{Stops, Goes}
use Rattle.stand.proofs.Arms.{Silent}
use Rattle.stand.proofs.Stepping.{short_block}

-- ---- the instruction at a place
pub get_none : (listing : List ℕ) (i : ℕ) → length listing ≤ i → get_elem? (program listing) i ≡ none
get_none [] i h = refl
get_none (w ∷ ws) zero h = absurd (omega arith)
get_none (w ∷ ws) (suc i) h = get_none ws i (omega arith)

pub get_some : (listing : List ℕ) (i : ℕ) → i < length listing → get_elem? (program listing) i ≡ some (decoded (get_or listing i 0))
get_some [] i h = absurd (omega arith)
get_some (w ∷ ws) zero h = refl
get_some (w ∷ ws) (suc i) h = get_some ws i (omega arith)

-- ---- it stops
module _ (listing : List ℕ) (n room : ℕ) (p : Position) where
  pub halts : length listing ≤ p.next → Stops (program listing) n room p Halted
  halts h = record { stop = halted; is = refl; run_is = run_halted (program listing) p n room (get_none listing p.next h) }

  pub uses : p.next < length listing → n ≡ 0 → Stops (program listing) n room p AllowanceUsed
  uses h z =
      record {
        stop = used;
        is = refl;
        run_is = ap (λ (m : ℕ). run (program listing) m room p) z ∙ run_used (program listing) p (decoded (get_or listing p.next 0)) (get_some listing p.next h) room;
      }

  pub fills : p.next < length listing → (n ≡ 0 → ⊥) → (k m : ℕ) → (decoded (get_or listing p.next 0)).operation ≡ Block k m → room ≡ 0 → Stops (program listing) n room p BufferFull
  fills h allowed k m e z =
      let one : n ≡ suc (n - 1) = omega arith in
      record {
        stop = full;
        is = refl;
        run_is = ap (λ (x : ℕ). run (program listing) x room p) one ∙ run_full (program listing) p (decoded (get_or listing p.next 0)) (get_some listing p.next h) (n - 1) room (ap₂ room_behind z e);
      }

-- ---- it goes on
module _ {l : Limits} {listing : List ℕ} {i : Instruction} {p : Position} (s : Stepping l listing i p) (n room : ℕ) (allowed : n ≡ 0 → ⊥) where
  there : get_elem? (program listing) p.next ≡ some i
  there = get_some listing p.next s.inside ∙ ap some (sym s.there)

  one_less : n ≡ suc (n - 1)
  one_less = omega arith

  -- by what it plays, and the room that it leaves
  goes : (ps : List Played) (left : ℕ) (q : Position)
      → plays_at p.beat i.operation ≡ ps
      → room_behind room i.operation ≡ some left
      → q ≡ step (program listing) p i
      → run (program listing) n room p ≡ stepped ps (run (program listing) (n - 1) left q)
  unfolding plays
  goes ps left q plays_is room_is is =
      ap (λ (x : ℕ). run (program listing) x room p) one_less
      ∙ run_step (program listing) p i there (n - 1) room left room_is
      ∙ ap₂ (λ (es : List Played) (x : Position). stepped es (run (program listing) (n - 1) left x)) plays_is (sym is)

  pub passes : (q : Position) → Silent i.operation → q ≡ step (program listing) p i → Goes l (program listing) n room p [] room q
  unfolding step
  passes q quiet is =
      let beat : q.beat ≡ p.beat = ap (λ (x : Position). x.beat) is ∙ quiet.beat (program listing) p (loop_of i) (label_of i) in
      record { allowed = omega arith; run_is = goes [] room q (quiet.plays p.beat) (quiet.room room) is; near = omega arith }

  pub writes : (q : Position) (k m : ℕ)
      → Tested l listing
      → i.operation ≡ Block k m
      → (room ≡ 0 → ⊥)
      → q ≡ step (program listing) p i
      → (0 < room) × Goes l (program listing) n room p (record { k = k; l = m; z = p.beat } ∷ []) (room - 1) q
  unfolding step
  writes q k m tested e roomy is =
      let beat : q.beat ≡ p.beat + m = ap (λ (x : Position). x.beat) is ∙ ap (λ (o : Operation). (does (program listing) p (loop_of i) (label_of i) o).beat) e in
      let one : room ≡ suc (room - 1) = omega arith in (
        omega arith,
        record {
          allowed = omega arith;
          run_is = goes (record { k = k; l = m; z = p.beat } ∷ []) (room - 1) q (ap (plays_at p.beat) e) (ap₂ room_behind one e) is;
          near = omega (arith, short_block tested s k m e);
        },
      )

-- the word that is read is the instruction that stands at the position
pub stands : {listing : List ℕ} {p : Position} {i : Instruction} (word n : ℕ)
    → p.next < length listing
    → word ≡ get_or listing p.next 0
    → i ≡ decoded word
    → (n ≡ 0 → ⊥)
    → p.beat + n * document01.number < 2 ^ 64
    → Stepping document01 listing i p
stands word n inside is decodes allowed early =
    let one : n ≡ suc (n - 1) = omega arith in
    let more : n * document01.number ≡ (n - 1) * document01.number + document01.number = ap (λ (m : ℕ). m * document01.number) one ∙ omega arith in
    record { inside = inside; there = decodes ∙ ap decoded is; early = omega arith }
