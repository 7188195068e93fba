-- `Goes`: so many steps lead from one place of a listing to another and play these blocks, whatever more is allowed, however much more room there is, at any performed beat.
-- Assumes nothing.
use mathlib.Core.Path.{◌≡◌, refl, sym, ap, ap₂, subst₃, ◌∙◌}
use mathlib.Core.List.{List, [], ◌∷◌, ◌++◌, append_assoc}
use mathlib.Core.Logic.{◌≢◌}
use mathlib.Core.Option.{some}
use Prim.Native.Nat.{ℕ, suc, ◌+◌, ◌≤◌, ◌<◌}
use native.Mathlib.Nat.{add-zero, zero-add, add_assoc}
use native.Mathlib.Omega.{arith}
use lib.ListN.{length, get_or, set, get_elem?, length-append}
use borrow.Author.Tests.{lt-ltb, le-ltb, eq-eqb, ne_eqb}
use Rattle.played.specs.declared.Played.{Played}
use Rattle.played.specs.Played.{Block, entries, total}
use Rattle.instructions.specs.declared.Instruction.{Instruction}
use Rattle.instructions.specs.Forms.{block, loop, rep, lb, jmp, njmp}
use Rattle.machine.specs.declared.Position.{Position}
use Rattle.machine.specs.Machine.{position, loop_at, label_at, step, plays, room_behind, Ran, stepped, run}

-- n steps that played ps, before a run
abbrev pub after : ℕ → List Played → Ran → Ran
after n ps r = record { stop = r.stop; steps = n + r.steps; plays = ps ++ r.plays; now = r.now }

stepped_after : (ps : List Played) (r : Ran) → stepped ps r ≡ after 1 ps r
stepped_after ps r = ap (λ (n : ℕ). record { stop = r.stop; steps = n; plays = ps ++ r.plays; now = r.now }) (omega arith)

pub after_after : (m n : ℕ) (ps qs : List Played) (r : Ran) → after m ps (after n qs r) ≡ after (m + n) (ps ++ qs) r
after_after m n ps qs r =
    ap₂ (λ (s : ℕ) (xs : List Played). record { stop = r.stop; steps = s; plays = xs; now = r.now }) (sym (add_assoc m n r.steps)) (sym (append_assoc ps qs r.plays))

pub entries-append : (z : ℕ) (ps qs : List Block) → entries z (ps ++ qs) ≡ entries z ps ++ entries (z + total ps) qs
entries-append z [] qs = rw add-zero
entries-append z (p ∷ ps) qs = rw (entries-append (z + p.l) ps qs, add_assoc z p.l (total ps))

pub total-append : (ps qs : List Block) → total (ps ++ qs) ≡ total ps + total qs
total-append [] qs = rw zero-add
total-append (p ∷ ps) qs = let e = total-append ps qs in omega arith

pub record Goes (prog : List Instruction) (a : ℕ) (cs : List ℕ) (n : ℕ) (ps : List Block) (z : ℕ) (ds : List ℕ) : Type 0 where
  pub runs : (k r beat : ℕ) → run prog (n + k) (length ps + r) (position a cs beat) ≡ after n (entries beat ps) (run prog k r (position z ds (beat + total ps)))

pub run_some : (prog : List Instruction) (n r r' : ℕ) (p : Position) (i : Instruction)
    → get_elem? prog p.next ≡ some i
    → room_behind r i.operation ≡ some r'
    → run prog (suc n) r p ≡ stepped (plays p i) (run prog n r' (step prog p i))
unfolding run
run_some prog n r r' p i e f = rw (e, f, run)

module _ {prog : List Instruction} where
  pub seq : {a b c m n : ℕ} {cs ds es : List ℕ} {ps qs : List Block}
      → Goes prog a cs m ps b ds
      → Goes prog b ds n qs c es
      → Goes prog a cs (m + n) (ps ++ qs) c es
  seq {a} {b} {c} {m} {n} {cs} {ds} {es} {ps} {qs} f g = record {
    runs =
        λ k r beat.
        rw
        (length-append ps qs, add_assoc m n k, add_assoc (length ps) (length qs) r, f.runs (n + k) (length qs + r) beat, g.runs k r (beat + total ps))
        (rw (entries-append beat ps qs, total-append ps qs, add_assoc beat (total ps) (total qs))
        (after_after m n (entries beat ps) (entries (beat + total ps) qs) (run prog k r (position c es (beat + (total ps + total qs))))));
  }

  pub cast : {a z z' n n' : ℕ} {cs ds : List ℕ} {ps qs : List Block}
      → n ≡ n'
      → ps ≡ qs
      → z ≡ z'
      → Goes prog a cs n ps z ds
      → Goes prog a cs n' qs z' ds
  cast {a} {cs = cs} {ds = ds} x y w g = subst₃ (λ n ps z. Goes prog a cs n ps z ds) x y w g

  -- nothing
  pub stays : (a : ℕ) (cs : List ℕ) → Goes prog a cs 0 [] a cs
  stays a cs = record { runs = λ k r beat. rw (zero-add k, zero-add r, zero-add (run prog k r (position a cs (beat + 0))).steps, add-zero beat) }

  -- one instruction: what it leaves of the room, what it plays and where it goes
  one : (i : Instruction) {a z : ℕ} {cs ds : List ℕ} (ps : List Block)
      → get_elem? prog a ≡ some i
      → ((r : ℕ) → room_behind (length ps + r) i.operation ≡ some r)
      → ((beat : ℕ) → plays (position a cs beat) i ≡ entries beat ps)
      → ((beat : ℕ) → step prog (position a cs beat) i ≡ position z ds (beat + total ps))
      → Goes prog a cs 1 ps z ds
  one i {a} {z} {cs} {ds} ps e room out goes = record {
    runs = λ k r beat.
        ap (λ (n : ℕ). run prog n (length ps + r) (position a cs beat)) (omega arith)
        ∙ run_some prog k (length ps + r) r (position a cs beat) i e (room r)
        ∙ rw (out beat, goes beat) (stepped_after (entries beat ps) (run prog k r (position z ds (beat + total ps))));
  }

  -- one that plays nothing
  silent : (i : Instruction) {a z : ℕ} {cs ds : List ℕ}
      → get_elem? prog a ≡ some i
      → ((r : ℕ) → room_behind r i.operation ≡ some r)
      → ((beat : ℕ) → plays (position a cs beat) i ≡ [])
      → ((beat : ℕ) → step prog (position a cs beat) i ≡ position z ds beat)
      → Goes prog a cs 1 [] z ds
  silent i e room out goes = one i [] e (λ r. rw (zero-add r) (room r)) out (λ beat. rw (add-zero beat) (goes beat))

  module _ {a : ℕ} {cs : List ℕ} where
    pub plays_block : (b : Block) → get_elem? prog a ≡ some (block b.k b.l) → Goes prog a cs 1 (b ∷ []) (suc a) cs
    unfolding step plays
    plays_block b e =
        one (block b.k b.l) (b ∷ []) e (λ r. rw (room r)) (λ beat. refl) (λ beat. rw (add-zero b.l))
      where
        room : (r : ℕ) → 1 + r ≡ suc r
        room r = omega arith

    pub marks_loop_lem : (L : ℕ) → get_elem? prog a ≡ some (loop L) → Goes prog a cs 1 [] (suc a) (set cs L 1)
    unfolding step plays
    marks_loop_lem L e = silent (loop L) e (λ r. refl) (λ beat. refl) (λ beat. refl)

    pub marks_label_lem : (B : ℕ) → get_elem? prog a ≡ some (lb B) → Goes prog a cs 1 [] (suc a) cs
    unfolding step plays
    marks_label_lem B e = silent (lb B) e (λ r. refl) (λ beat. refl) (λ beat. refl)

    -- a `rep` that goes back to behind its loop's mark, and one that goes on
    pub goes_back : {L T : ℕ} (c m : ℕ)
        → get_elem? prog a ≡ some (rep L T)
        → get_or cs L 0 ≡ c
        → c < T
        → loop_at prog L ≡ m
        → Goes prog a cs 1 [] (suc m) (set cs L (suc c))
    unfolding step plays
    goes_back {L} {T} c m e h lt f = silent (rep L T) e (λ r. refl) (λ beat. refl) (λ beat. rw (h, lt-ltb c T lt, f))

    pub goes_on : {L T : ℕ} (c : ℕ) → get_elem? prog a ≡ some (rep L T) → get_or cs L 0 ≡ c → T ≤ c → Goes prog a cs 1 [] (suc a) cs
    unfolding step plays
    goes_on {L} {T} c e h le = silent (rep L T) e (λ r. refl) (λ beat. refl) (λ beat. rw (h, le-ltb c T le))

    -- a `jmp` that is taken, and one that is not
    pub jumps : {L T B : ℕ} (m : ℕ) → get_elem? prog a ≡ some (jmp L T B) → get_or cs L 0 ≡ T → label_at prog B ≡ m → Goes prog a cs 1 [] m cs
    unfolding step plays
    jumps {L} {T} {B} m e h f = silent (jmp L T B) e (λ r. refl) (λ beat. refl) (λ beat. rw (h, eq-eqb T T refl, f))

    pub passes : {L T B : ℕ} → get_elem? prog a ≡ some (jmp L T B) → get_or cs L 0 ≢ T → Goes prog a cs 1 [] (suc a) cs
    unfolding step plays
    passes {L} {T} {B} e h = silent (jmp L T B) e (λ r. refl) (λ beat. refl) (λ beat. rw (ne_eqb (get_or cs L 0) T h))

    -- an `njmp` that is taken, and one that is not
    pub skips : {L T B : ℕ} (m : ℕ) → get_elem? prog a ≡ some (njmp L T B) → get_or cs L 0 ≢ T → label_at prog B ≡ m → Goes prog a cs 1 [] m cs
    unfolding step plays
    skips {L} {T} {B} m e h f = silent (njmp L T B) e (λ r. refl) (λ beat. refl) (λ beat. rw (ne_eqb (get_or cs L 0) T h, f))

    pub enters : {L T B : ℕ} → get_elem? prog a ≡ some (njmp L T B) → get_or cs L 0 ≡ T → Goes prog a cs 1 [] (suc a) cs
    unfolding step plays
    enters {L} {T} {B} e h = silent (njmp L T B) e (λ r. refl) (λ beat. refl) (λ beat. rw (h, eq-eqb T T refl))
