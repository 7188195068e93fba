-- What may follow each part of a score: the signs between runs lead where the table of arrows says, and what is kept stays that of what was read.
-- Assumes nothing.
use mathlib.Core.Path.{◌≡◌, refl, sym, ap, ap₂, ◌∙◌}
use mathlib.Core.Bool.{true, false}
use mathlib.Core.List.{List, [], ◌∷◌, ◌++◌, append_assoc, append-nil}
use mathlib.Core.Option.{none, some}
use Rattle.std.specs.Prelude.{Option, Some, None}
use Rattle.std.specs.Option.{option_or}
use Prim.Native.Nat.{ℕ, ◌+◌}
use native.Mathlib.Nat.{zero-add}
use native.Mathlib.Omega.{arith}
use lib.ListN.{length, length-append}
use Rattle.signs.specs.declared.sign.Jumped.TheVariants.{Dc, DcCoda, DcFine, Ds, DsCoda, DsFine}
use Rattle.signs.specs.declared.sign.Sign.{Sign}
use Rattle.signs.specs.declared.sign.Sign.TheVariants.{Jump, Segno, Coda, ToCoda, Fine}
use Rattle.score.specs.declared.Shape.{Shape}
use Rattle.score.specs.declared.Shape.TheVariants.{Straight, DaCapo, DalSegno, DaCapoFine, DalSegnoFine, DaCapoCoda, DalSegnoCoda}
use Rattle.score.specs.Times.{Time}
use Rattle.score.specs.Trees.{Run, nil}
use Rattle.score.specs.Shapes.{score}
use Rattle.score.specs.Spelling.{run_signs, time_signs, signs_of}
use Rattle.score.specs.Played.{run_plays, beats}
use Rattle.score.specs.Steps.{run_steps}
use Rattle.score.specs.Sums.{total, each}
use Rattle.score.specs.Depth.{run_around, time_around, around, is_left}
use Rattle.score.specs.Sizes.{run_loops, run_implied, run_labels}
use Rattle.score.proofs.Machine.{in_b_ds, in_b_fine, in_b_coda, in_c_fine, in_c_coda, in_c_dc, in_d, in_a, later, Wait, coda_dc, coda_ds, over, find, edges, wait_edges, finish_part, finish, wait}
use Rattle.score.proofs.Machine.{Part as PartRead}
use Rattle.score.proofs.Alphabet.{Mark, to_dc, to_dc_coda, to_dc_fine, to_ds, to_ds_coda, to_ds_fine, at_segno, at_coda, at_to_coda, at_fine, mark_sign}
use Rattle.grammar.specs.declared.tally.Tally.{Tally}
use Rattle.grammar.specs.Tallies.{capped, joined}
use Rattle.grammar.specs.declared.part.Part.{Part}
use Rattle.grammar.specs.declared.part.Part.TheVariants.{A, BehindSegno, BehindFine, BehindToCoda, SegnoFine, SegnoToCoda, DcAwaitsCoda, DsAwaitsCoda, DcBehindCoda, DsBehindCoda, Over}
use Rattle.grammar.specs.Stretches.{run_tally, deep_of, summed}
use Rattle.grammar.specs.Parts.{leads, sofar, again_of, moved_as, ended_as, kept, four, once_of, signs_to, around_to, replayed, whole, whole_of, over_sofar, part_sofar, wait_sofar}
use Rattle.grammar.specs.Wholes.{Led, Leaves}
use Rattle.grammar.proofs.Deep.{or_last, deep_append, deep_one, deep_run, run_around_lem}
use Rattle.grammar.proofs.Adding.{same_tally}

same_sofar : {a a' : ℕ} {p p' : Part} {d d' : Option ℕ} {t u t' u' : Tally} → a ≡ a' → p ≡ p' → d ≡ d' → t ≡ t' → u ≡ u' → sofar a p d t u ≡ sofar a' p' d' t' u'
same_sofar p q r s t = cc

same_whole : {a a' : ℕ} {h : Shape} {d d' : Option ℕ} {t u t' u' : Tally} → a ≡ a' → d ≡ d' → t ≡ t' → u ≡ u' → whole a h d t u ≡ whole a' h d' t' u'
same_whole p q r s = cc

-- one more run
more : (a b c d r a' b' c' d' : Run) → ((f : Run → ℕ) → f nil ≡ 0 → four f a b c d + f r ≡ four f a' b' c' d') → joined (once_of a b c d) (run_tally r) ≡ once_of a' b' c' d'
unfolding once_of run_tally capped
more a b c d r a' b' c' d' h =
    same_tally
    (omega (arith, h run_loops refl))
    (omega (arith, h run_implied refl))
    (omega (arith, h run_labels refl))
    (omega (arith, h (λ r. total each (run_plays r)) refl))
    (omega (arith, h (λ r. total beats (run_plays r)) refl))
    (omega (arith, h run_steps refl))

more_a : (r : Run) → joined (once_of nil nil nil nil) (run_tally r) ≡ once_of r nil nil nil
more_a r = more nil nil nil nil r r nil nil nil (λ f z. omega arith)

more_b : (a r : Run) → joined (once_of a nil nil nil) (run_tally r) ≡ once_of a r nil nil
more_b a r = more a nil nil nil r a r nil nil (λ f z. omega arith)

more_c : (a b r : Run) → joined (once_of a b nil nil) (run_tally r) ≡ once_of a b r nil
more_c a b r = more a b nil nil r a b r nil (λ f z. omega arith)

more_d : (a b c r : Run) → joined (once_of a b c nil) (run_tally r) ≡ once_of a b c r
more_d a b c r = more a b c nil r a b c r (λ f z. omega arith)

no_more : (a b c d : Run) → joined (once_of a b c d) (run_tally nil) ≡ once_of a b c d
no_more a b c d = more a b c d nil a b c d (λ f z. omega arith)

none_there : (p : ℕ) → deep_of p [] [] ≡ None
unfolding deep_of
none_there p = refl

-- a run behind what was read
module _ (n : Part) (s : List Sign) (ds : List ℕ) (once : Tally) (q r : Run) (e : length ds ≡ length s) where
  run_deep : (t : List Sign) (ts : List ℕ) → ((p : ℕ) → deep_of p t ts ≡ None)
      → option_or (deep_of 0 s ds) (deep_of (length s) (run_signs r) (run_around 0 r)) ≡ deep_of 0 (s ++ (run_signs r ++ t)) (ds ++ (run_around 0 r ++ ts))
  run_deep t ts h =
      sym
      (deep_append s (run_signs r ++ t) ds (run_around 0 r ++ ts) 0 e
      ∙ ap (option_or (deep_of 0 s ds)) (ap (λ p. deep_of p (run_signs r ++ t) (run_around 0 r ++ ts)) (zero-add (length s)) ∙ deep_run 0 (length s) r t ts h))

  moved_is : (part : Part) (x : Sign) (once' : Tally) (g : Run) → is_left x ≡ false → joined once (run_tally r) ≡ once' → again_of n (run_tally r) (run_tally q) ≡ run_tally g
      → moved_as part (kept n s ds once q) (summed 0 (length s) r) ≡ kept part (signs_to s r x) (around_to ds r) once' g
  moved_is part x once' g l o k =
      same_sofar
      (rw (length-append s (run_signs r ++ (x ∷ [])), length-append (run_signs r) (x ∷ [])) (omega arith))
      refl
      (run_deep (x ∷ []) (0 ∷ []) (λ p. deep_one p 0 x l))
      o
      k

  ended_is : (t : Time) (h : Shape) (a b c d : Run) → s ++ run_signs r ≡ signs_of (score t h a b c d) → ds ++ run_around 0 r ≡ around (score t h a b c d) → joined once (run_tally r) ≡ once_of a b c d
      → run_tally q ≡ run_tally (replayed h a b) → ended_as h (kept n s ds once q) (summed 0 (length s) r) ≡ whole_of (score t h a b c d)
  ended_is t h a b c d u v o k =
      same_whole
      (sym (length-append s (run_signs r)) ∙ ap length u)
      (run_deep [] [] none_there ∙ ap₂ (deep_of 0) (ap (λ v. s ++ v) (append-nil (run_signs r)) ∙ u) (ap (λ v. ds ++ v) (append-nil (run_around 0 r)) ∙ v))
      o
      k

time_around_lem : (t : Time) → length (time_around t) ≡ length (time_signs t)
time_around_lem None = refl
time_around_lem (Some (m, n)) = refl

around_to_lem : (s : List Sign) (ds : List ℕ) (r : Run) (x : Sign) → length ds ≡ length s → length (around_to ds r) ≡ length (signs_to s r x)
around_to_lem s ds r x e = simp (length-append, run_around_lem 0 r, e)

-- a whole score, spelled step by step
over_is : (t : Time) (h : Shape) (a b c d : Run) (s : List Sign) (ds : List ℕ) → s ≡ signs_of (score t h a b c d) → ds ≡ around (score t h a b c d)
    → kept (Over h) s ds (once_of a b c d) (replayed h a b) ≡ over_sofar (score t h a b c d)
over_is t h a b c d s ds e k = ap₂ (λ u v. kept (Over h) u v (once_of a b c d) (replayed h a b)) e k

module _ (t : Time) (r : Run) where
  abbrev s₀ : List Sign
  s₀ = time_signs t

  abbrev d₀ : List ℕ
  d₀ = time_around t

  e₀ : length d₀ ≡ length s₀
  e₀ = time_around_lem t

  leaves_a : Leaves (part_sofar (in_a t)) (summed 0 (length s₀) r) (edges (in_a t) r) (finish_part (in_a t) r)
  leaves_a =
      record {
        edges = go;
        ends =
            ended_is A s₀ d₀ (once_of nil nil nil nil) nil r e₀ t Straight r nil nil nil (ap (λ v. s₀ ++ v) (sym (append-nil (run_signs r)))) (ap (λ v. d₀ ++ v) (sym (append-nil (run_around 0 r)))) (more_a r) refl;
      }
    where
      to : (part : Part) (x : Sign) → is_left x ≡ false
          → moved_as part (part_sofar (in_a t)) (summed 0 (length s₀) r) ≡ kept part (signs_to s₀ r x) (around_to d₀ r) (once_of r nil nil nil) r
      to part x l = moved_is A s₀ d₀ (once_of nil nil nil nil) nil r e₀ part x (once_of r nil nil nil) r l (more_a r) refl

      go : (j : Mark) → Led (part_sofar (in_a t)) (summed 0 (length s₀) r) (leads (mark_sign j) A) (find j (edges (in_a t) r))
      go to_dc = (tt, to (Over DaCapo) (Jump Dc) refl ∙ over_is t DaCapo r nil nil nil (signs_to s₀ r (Jump Dc)) (around_to d₀ r) refl refl)
      go at_segno = (tt, to BehindSegno Segno refl)
      go at_fine = (tt, to BehindFine Fine refl)
      go at_to_coda = (tt, to BehindToCoda ToCoda refl)
      go _ = tt

  module _ (a : Run) where
    e₁ : (x : Sign) → length (around_to d₀ a) ≡ length (signs_to s₀ a x)
    e₁ x = around_to_lem s₀ d₀ a x e₀

    -- behind A and a sign, B and a sign: the two lists are those of a shape
    abbrev s₂ : Sign → Sign → List Sign
    s₂ x y = signs_to (signs_to s₀ a x) r y

    abbrev d₂ : List ℕ
    d₂ = around_to (around_to d₀ a) r

    leaves_ds : Leaves (part_sofar (later (in_b_ds t a))) (summed 0 (length (signs_to s₀ a Segno)) r) (edges (later (in_b_ds t a)) r) (finish_part (later (in_b_ds t a)) r)
    leaves_ds = record { edges = go; ends = tt }
      where
        to : (part : Part) (x : Sign) → is_left x ≡ false
            → moved_as part (part_sofar (later (in_b_ds t a))) (summed 0 (length (signs_to s₀ a Segno)) r) ≡ kept part (s₂ Segno x) d₂ (once_of a r nil nil) r
        to part x l = moved_is BehindSegno (signs_to s₀ a Segno) (around_to d₀ a) (once_of a nil nil nil) a r (e₁ Segno) part x (once_of a r nil nil) r l (more_b a r) refl

        go : (j : Mark) → Led (part_sofar (later (in_b_ds t a))) (summed 0 (length (signs_to s₀ a Segno)) r) (leads (mark_sign j) BehindSegno) (find j (edges (later (in_b_ds t a)) r))
        go to_ds = (tt, to (Over DalSegno) (Jump Ds) refl ∙ over_is t DalSegno a r nil nil (s₂ Segno (Jump Ds)) d₂ (simp append_assoc) (simp append_assoc))
        go at_fine = (tt, to SegnoFine Fine refl)
        go at_to_coda = (tt, to SegnoToCoda ToCoda refl)
        go _ = tt

    leaves_fine : Leaves (part_sofar (later (in_b_fine t a))) (summed 0 (length (signs_to s₀ a Fine)) r) (edges (later (in_b_fine t a)) r) (finish_part (later (in_b_fine t a)) r)
    leaves_fine = record { edges = go; ends = tt }
      where
        go : (j : Mark) → Led (part_sofar (later (in_b_fine t a))) (summed 0 (length (signs_to s₀ a Fine)) r) (leads (mark_sign j) BehindFine) (find j (edges (later (in_b_fine t a)) r))
        go to_dc_fine = (
          tt,
          moved_is BehindFine (signs_to s₀ a Fine) (around_to d₀ a) (once_of a nil nil nil) a r (e₁ Fine) (Over DaCapoFine) (Jump DcFine) (once_of a r nil nil) a refl (more_b a r) refl
              ∙ over_is t DaCapoFine a r nil nil (s₂ Fine (Jump DcFine)) d₂ (simp append_assoc) (simp append_assoc),
        )
        go _ = tt

    leaves_coda : Leaves (part_sofar (later (in_b_coda t a))) (summed 0 (length (signs_to s₀ a ToCoda)) r) (edges (later (in_b_coda t a)) r) (finish_part (later (in_b_coda t a)) r)
    leaves_coda = record { edges = go; ends = tt }
      where
        go : (j : Mark) → Led (part_sofar (later (in_b_coda t a))) (summed 0 (length (signs_to s₀ a ToCoda)) r) (leads (mark_sign j) BehindToCoda) (find j (edges (later (in_b_coda t a)) r))
        go to_dc_coda = (tt, moved_is BehindToCoda (signs_to s₀ a ToCoda) (around_to d₀ a) (once_of a nil nil nil) a r (e₁ ToCoda) DcAwaitsCoda (Jump DcCoda) (once_of a r nil nil) a refl (more_b a r) refl)
        go _ = tt

    module _ (b : Run) where
      -- behind A, B and C
      e₂ : (x y : Sign) → length (around_to (around_to d₀ a) b) ≡ length (signs_to (signs_to s₀ a x) b y)
      e₂ x y = around_to_lem (signs_to s₀ a x) (around_to d₀ a) b y (e₁ x)

      leaves_ds_fine : Leaves (part_sofar (later (in_c_fine t a b))) (summed 0 (length (signs_to (signs_to s₀ a Segno) b Fine)) r) (edges (later (in_c_fine t a b)) r) (finish_part (later (in_c_fine t a b)) r)
      leaves_ds_fine = record { edges = go; ends = tt }
        where
          go : (j : Mark) → Led (part_sofar (later (in_c_fine t a b))) (summed 0 (length (signs_to (signs_to s₀ a Segno) b Fine)) r) (leads (mark_sign j) SegnoFine) (find j (edges (later (in_c_fine t a b)) r))
          go to_ds_fine = (
            tt,
            moved_is SegnoFine (signs_to (signs_to s₀ a Segno) b Fine) (around_to (around_to d₀ a) b) (once_of a b nil nil) b r (e₂ Segno Fine) (Over DalSegnoFine) (Jump DsFine) (once_of a b r nil) b refl (more_c a b r) refl
                ∙ over_is t DalSegnoFine a b r nil (signs_to (signs_to (signs_to s₀ a Segno) b Fine) r (Jump DsFine)) (around_to (around_to (around_to d₀ a) b) r) (simp append_assoc) (simp append_assoc),
          )
          go _ = tt

      leaves_ds_coda : Leaves (part_sofar (later (in_c_coda t a b))) (summed 0 (length (signs_to (signs_to s₀ a Segno) b ToCoda)) r) (edges (later (in_c_coda t a b)) r) (finish_part (later (in_c_coda t a b)) r)
      leaves_ds_coda = record { edges = go; ends = tt }
        where
          go : (j : Mark) → Led (part_sofar (later (in_c_coda t a b))) (summed 0 (length (signs_to (signs_to s₀ a Segno) b ToCoda)) r) (leads (mark_sign j) SegnoToCoda) (find j (edges (later (in_c_coda t a b)) r))
          go to_ds_coda = (tt, moved_is SegnoToCoda (signs_to (signs_to s₀ a Segno) b ToCoda) (around_to (around_to d₀ a) b) (once_of a b nil nil) b r (e₂ Segno ToCoda) DsAwaitsCoda (Jump DsCoda) (once_of a b r nil) b refl (more_c a b r) refl)
          go _ = tt

      e₃ : (x y z : Sign) (c : Run) → length (around_to (around_to (around_to d₀ a) b) c) ≡ length (signs_to (signs_to (signs_to s₀ a x) b y) c z)
      e₃ x y z c = around_to_lem (signs_to (signs_to s₀ a x) b y) (around_to (around_to d₀ a) b) c z (e₂ x y)

      leaves_dc : Leaves (part_sofar (later (in_c_dc t a b))) (summed 0 (part_sofar (later (in_c_dc t a b))).at r) (edges (later (in_c_dc t a b)) r) (finish_part (later (in_c_dc t a b)) r)
      leaves_dc =
          record {
            edges = go;
            ends =
                ended_is DcBehindCoda s d (once_of a b nil nil) a r (e₃ ToCoda (Jump DcCoda) Coda nil) t DaCapoCoda a b r nil (simp (append_assoc, append-nil)) (simp (append_assoc, append-nil)) (more_c a b r) refl;
          }
        where
          s : List Sign
          s = signs_to (signs_to (signs_to s₀ a ToCoda) b (Jump DcCoda)) nil Coda

          d : List ℕ
          d = around_to (around_to (around_to d₀ a) b) nil

          go : (j : Mark) → Led (part_sofar (later (in_c_dc t a b))) (summed 0 (part_sofar (later (in_c_dc t a b))).at r) (leads (mark_sign j) DcBehindCoda) none
          go to_dc = tt
          go _ = tt

      leaves_d : (c : Run) → Leaves (part_sofar (later (in_d t a b c))) (summed 0 (part_sofar (later (in_d t a b c))).at r) (edges (later (in_d t a b c)) r) (finish_part (later (in_d t a b c)) r)
      leaves_d c =
          record {
            edges = go;
            ends =
                ended_is DsBehindCoda s d (once_of a b c nil) b r (around_to_lem (signs_to (signs_to (signs_to s₀ a Segno) b ToCoda) c (Jump DsCoda)) (around_to (around_to (around_to d₀ a) b) c) nil Coda (e₃ Segno ToCoda (Jump DsCoda) c)) t DalSegnoCoda a b c r (simp (append_assoc, append-nil)) (simp (append_assoc, append-nil)) (more_d a b c r) refl;
          }
        where
          s : List Sign
          s = signs_to (signs_to (signs_to (signs_to s₀ a Segno) b ToCoda) c (Jump DsCoda)) nil Coda

          d : List ℕ
          d = around_to (around_to (around_to (around_to d₀ a) b) c) nil

          go : (j : Mark) → Led (part_sofar (later (in_d t a b c))) (summed 0 (part_sofar (later (in_d t a b c))).at r) (leads (mark_sign j) DsBehindCoda) none
          go to_dc = tt
          go _ = tt

-- what may follow a run of each part
pub leaves_part : (p : PartRead) (r : Run) → Leaves (part_sofar p) (summed 0 (part_sofar p).at r) (edges p r) (finish_part p r)
leaves_part (in_a t) r = leaves_a t r
leaves_part (later (in_b_ds t a)) r = leaves_ds t r a
leaves_part (later (in_b_fine t a)) r = leaves_fine t r a
leaves_part (later (in_b_coda t a)) r = leaves_coda t r a
leaves_part (later (in_c_fine t a b)) r = leaves_ds_fine t r a b
leaves_part (later (in_c_coda t a b)) r = leaves_ds_coda t r a b
leaves_part (later (in_c_dc t a b)) r = leaves_dc t r a b
leaves_part (later (in_d t a b c)) r = leaves_d t r a b c

-- the same where no run stands
over_ends : (t : Time) (h : Shape) (a b c d : Run) → Leaves (wait_sofar (over (score t h a b c d))) (summed 0 (wait_sofar (over (score t h a b c d))).at nil) [] (some (score t h a b c d))
over_ends t h a b c d =
    record {
      edges = go;
      ends =
          same_whole
          (omega arith)
          (rw (none_there (length (signs_of (score t h a b c d)))) (or_last (deep_of 0 (signs_of (score t h a b c d)) (around (score t h a b c d)))))
          (no_more a b c d)
          refl;
    }
  where
    go : (j : Mark) → Led (wait_sofar (over (score t h a b c d))) (summed 0 (wait_sofar (over (score t h a b c d))).at nil) (leads (mark_sign j) (Over h)) none
    go to_dc = tt
    go _ = tt

pub leaves_wait : (v : Wait) → Leaves (wait_sofar v) (summed 0 (wait_sofar v).at nil) (wait_edges v) (finish true (wait v))
leaves_wait (coda_dc t a b) = record { edges = go; ends = tt }
  where
    go : (j : Mark) → Led (wait_sofar (coda_dc t a b)) (summed 0 (wait_sofar (coda_dc t a b)).at nil) (leads (mark_sign j) DcAwaitsCoda) (find j (wait_edges (coda_dc t a b)))
    go at_coda = (
      tt,
      moved_is DcAwaitsCoda (signs_to (signs_to (time_signs t) a ToCoda) b (Jump DcCoda)) (around_to (around_to (time_around t) a) b) (once_of a b nil nil) a nil (e₂ t nil a b ToCoda (Jump DcCoda)) DcBehindCoda Coda (once_of a b nil nil) a refl (no_more a b nil nil) refl,
    )
    go _ = tt
leaves_wait (coda_ds t a b c) = record { edges = go; ends = tt }
  where
    go : (j : Mark) → Led (wait_sofar (coda_ds t a b c)) (summed 0 (wait_sofar (coda_ds t a b c)).at nil) (leads (mark_sign j) DsAwaitsCoda) (find j (wait_edges (coda_ds t a b c)))
    go at_coda = (
      tt,
      moved_is DsAwaitsCoda (signs_to (signs_to (signs_to (time_signs t) a Segno) b ToCoda) c (Jump DsCoda)) (around_to (around_to (around_to (time_around t) a) b) c) (once_of a b c nil) b nil (e₃ t nil a b Segno ToCoda (Jump DsCoda) c) DsBehindCoda Coda (once_of a b c nil) b refl
          (no_more a b c nil)
          refl,
    )
    go _ = tt
leaves_wait (over (score t h a b c d)) = over_ends t h a b c d
