-- From each state some score can still be read.
-- Assumes nothing.
use mathlib.Core.Path.{◌≡◌, refl, sym, ◌∙◌, ap}
use mathlib.Core.Bool.{Bool, false}
use mathlib.Core.List.{List, [], ◌∷◌, ◌++◌, append_assoc, append-nil, map, map-append}
use Rattle.signs.specs.declared.sign.Jumped.TheVariants.{DcCoda, DcFine, Ds, DsCoda, DsFine}
use Rattle.signs.specs.declared.sign.Sign.{Sign}
use Rattle.signs.specs.declared.sign.Sign.TheVariants.{RightRepeat, OpenEnding, CloseEnding, Jump, Coda}
use Rattle.signs.specs.Words.{Unpacked}
use Rattle.std.specs.Prelude.{Some as Packed}
use Rattle.score.specs.Trees.{block, Left, written, Run, nil, ◌▸◌, leaf, repeat, group, Ends, no_more, ◌then◌}
use Rattle.score.specs.declared.Shape.TheVariants.{Straight, DalSegno, DaCapoFine, DalSegnoFine, DaCapoCoda, DalSegnoCoda}
use Rattle.score.specs.Shapes.{Score, score}
use Rattle.score.specs.Spelling.{run_signs, signs_of}
use Rattle.score.specs.Readings.{Some, Good, Valid, Begins}
use Rattle.score.proofs.Machine.{Later, in_b_ds, in_b_fine, in_b_coda, in_c_fine, in_c_coda, in_c_dc, in_d, Part, in_a, later, coda_dc, coda_ds, over, Stack, bot, in_rep, in_end, State, at, half, sep, wait}
use Rattle.score.proofs.Sound.{part_signs, wait_signs, stack_signs, sig, Full, flag, flag_part, OkLater, OkPart, OkStack, Ok}

-- any run will do to go on
abbrev fill : Run
fill = nil ▸ leaf (block 0 1)

one_more : (K : Stack) (o : Left) (b m : Run) (es : Ends) (r : Run)
    → stack_signs K ++ run_signs (b ▸ group o m (es then r) fill)
    ≡ (stack_signs (in_end o b m es K) ++ run_signs r) ++ (CloseEnding ∷ RightRepeat ∷ OpenEnding ∷ (run_signs fill ++ (CloseEnding ∷ [])))
one_more K o b m es r = simp append_assoc

pull : (u v : List Sign) (x : Sign) (w : List Sign) → (u ++ v) ++ (x ∷ w) ≡ (u ++ (v ++ (x ∷ []))) ++ w
pull u v x w = simp append_assoc

module _ (implied : Bool) where
  -- what begins with more begins with less
  pub cut : (l rest m : List Unpacked) → m ≡ l ++ rest → Begins implied m → Begins implied l
  cut l rest m e h = record {
    tree = h.tree;
    rest = rest ++ h.rest;
    reads = record { valid = h.reads.valid; same = h.reads.same ∙ rw e (append_assoc l rest h.rest) };
  }

  abbrev Opens : List Sign → Type 0
  Opens l = Begins implied (map Packed l)

  less : (l rest m : List Sign) → m ≡ l ++ rest → Opens m → Opens l
  less l rest m e h = cut (map Packed l) (map Packed rest) (map Packed m) (ap (map Packed) e ∙ map-append Packed l rest) h

  whole : (l rest : List Sign) (t : Score) → Valid implied t → signs_of t ≡ l ++ rest → Opens l
  whole l rest t v e =
      less l rest (signs_of t) e
      (record { tree = t; rest = []; reads = record { valid = v; same = sym (append-nil (map Packed (signs_of t))) } })

  begins_later : (p : Later) (r : Run) → OkLater implied p → Full false r → Opens (part_signs (later p) ++ run_signs r)
  begins_later (in_b_ds t a) r c f = whole (part_signs (later (in_b_ds t a)) ++ run_signs r) (Jump Ds ∷ []) (score t DalSegno a r nil nil) (c, f, refl, refl) (simp append_assoc)
  begins_later (in_b_fine t a) r c f =
      whole (part_signs (later (in_b_fine t a)) ++ run_signs r) (Jump DcFine ∷ []) (score t DaCapoFine a r nil nil) (c, f, refl, refl) (simp append_assoc)
  begins_later (in_b_coda t a) r c f =
      whole (part_signs (later (in_b_coda t a)) ++ run_signs r) (Jump DcCoda ∷ Coda ∷ run_signs fill) (score t DaCapoCoda a r fill nil) (c, f, (tt, (tt, tt)), refl) (simp append_assoc)
  begins_later (in_c_fine t a b) r c f =
      whole (part_signs (later (in_c_fine t a b)) ++ run_signs r) (Jump DsFine ∷ []) (score t DalSegnoFine a b r nil) (c.0, c.1, f, refl) (simp append_assoc)
  begins_later (in_c_coda t a b) r c f =
      whole (part_signs (later (in_c_coda t a b)) ++ run_signs r) (Jump DsCoda ∷ Coda ∷ run_signs fill) (score t DalSegnoCoda a b r fill) (c.0, c.1, f, (tt, (tt, tt))) (simp append_assoc)
  begins_later (in_c_dc t a b) r c f =
      whole (part_signs (later (in_c_dc t a b)) ++ run_signs r) [] (score t DaCapoCoda a b r nil) (c.0, c.1, f, refl) (simp (append_assoc, append-nil))
  begins_later (in_d t a b d) r c f =
      whole (part_signs (later (in_d t a b d)) ++ run_signs r) [] (score t DalSegnoCoda a b d r) (c.0, c.1, c.2, f) (simp (append_assoc, append-nil))

  begins_part : (p : Part) (r : Run) → OkPart implied p → Full (flag_part implied p) r → Opens (part_signs p ++ run_signs r)
  begins_part (in_a t) r c f = whole (part_signs (in_a t) ++ run_signs r) [] (score t Straight r nil nil nil) (f, refl, refl, refl) (simp append-nil)
  begins_part (later p) r c f = begins_later p r c f

  begins_stack : (K : Stack) (r : Run) → OkStack implied K → Some r → Good r (flag implied K) → Opens (stack_signs K ++ run_signs r)
  begins_stack (bot p) r c s g = begins_part p r c (s, g)
  begins_stack (in_rep b K) r c s g =
      less (stack_signs (in_rep b K) ++ run_signs r) (RightRepeat ∷ []) (stack_signs K ++ run_signs (b ▸ repeat written r)) (simp append_assoc)
      (begins_stack K (b ▸ repeat written r) c.0 tt (c.1, (tt, s, g)))
  begins_stack (in_end o b m no_more K) r c s g =
      less (stack_signs (in_end o b m no_more K) ++ run_signs r) (CloseEnding ∷ RightRepeat ∷ OpenEnding ∷ (run_signs fill ++ (CloseEnding ∷ [])))
      (stack_signs K ++ run_signs (b ▸ group o m (no_more then r) fill)) (simp append_assoc)
      (begins_stack K (b ▸ group o m (no_more then r) fill) c.0 tt (c.1, (c.2, c.3, c.4, c.5, tt, (tt, s, g), tt, (tt, tt))))
  begins_stack (in_end o b m (es then e) K) r c s g =
      less (stack_signs (in_end o b m (es then e) K) ++ run_signs r) (CloseEnding ∷ [])
      (stack_signs K ++ run_signs (b ▸ group o m (es then e) r)) (simp append_assoc)
      (begins_stack K (b ▸ group o m (es then e) r) c.0 tt (c.1, (c.2, c.3, c.4, c.5, tt, c.6, s, g)))

  begins_ends : (K : Stack) (o : Left) (b m : Run) (es : Ends) (e : Run) → OkStack implied (in_end o b m es K) → Full false e
      → Opens (stack_signs K ++ run_signs (b ▸ group o m (es then e) fill))
  begins_ends K o b m es e c f =
      begins_stack K (b ▸ group o m (es then e) fill) c.0 tt (c.1, (c.2, c.3, c.4, c.5, tt, (c.6, f.0, f.1), tt, (tt, tt)))

  pub begins : (s : State) → Ok implied s → Begins implied (map Packed (sig s))
  begins (at K nil) c =
      less (sig (at K nil)) (run_signs fill) (stack_signs K ++ run_signs fill) (rw append-nil) (begins_stack K fill c.0 tt (tt, tt))
  begins (at K (r ▸ i)) c = begins_stack K (r ▸ i) c.0 tt c.1
  begins (half K o b m e) c =
      less (sig (half K o b m e)) (RightRepeat ∷ OpenEnding ∷ (run_signs fill ++ (CloseEnding ∷ []))) (stack_signs K ++ run_signs (b ▸ group o m (no_more then e) fill))
      (one_more K o b m no_more e ∙ pull (stack_signs (in_end o b m no_more K)) (run_signs e) CloseEnding (RightRepeat ∷ OpenEnding ∷ (run_signs fill ++ (CloseEnding ∷ []))))
      (begins_ends K o b m no_more e c.0 c.1)
  begins (sep K o b m es e) c =
      less (sig (sep K o b m es e)) (OpenEnding ∷ (run_signs fill ++ (CloseEnding ∷ []))) (stack_signs K ++ run_signs (b ▸ group o m (es then e) fill)) (simp append_assoc)
      (begins_ends K o b m es e c.0 c.1)
  begins (wait (coda_dc t a b)) c =
      whole (wait_signs (coda_dc t a b)) (Coda ∷ run_signs fill) (score t DaCapoCoda a b fill nil) (c.0, c.1, (tt, (tt, tt)), refl) (simp append_assoc)
  begins (wait (coda_ds t a b d)) c =
      whole (wait_signs (coda_ds t a b d)) (Coda ∷ run_signs fill) (score t DalSegnoCoda a b d fill) (c.0, c.1, c.2, (tt, (tt, tt))) (simp append_assoc)
  begins (wait (over t)) c = whole (signs_of t) [] t c (sym (append-nil (signs_of t)))
