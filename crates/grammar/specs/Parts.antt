-- The parts of a score: where the signs between runs lead, and what is kept of what was read.
-- Assumes nothing.
use Rattle.std.specs.Prelude.{Bool, true, false, List, [], ◌∷◌, ◌++◌, ℕ, ◌+◌, length, Option, Some, None}
use Rattle.std.specs.Option.{option_or}
use Rattle.signs.specs.declared.sign.Jumped.TheVariants.{Dc, DcCoda, DcFine, Ds, DsCoda, DsFine}
use Rattle.signs.specs.declared.sign.Sign.{Sign}
use Rattle.signs.specs.declared.sign.Sign.TheVariants.{Jump, Segno, Coda, ToCoda, Fine}
use Rattle.score.specs.declared.Shape.{Shape}
use Rattle.score.specs.declared.Shape.TheVariants.{Straight, DaCapo, DalSegno, DaCapoFine, DalSegnoFine, DaCapoCoda, DalSegnoCoda}
use Rattle.score.specs.Trees.{Run, nil}
use Rattle.score.specs.Shapes.{Score, score}
use Rattle.score.specs.Spelling.{run_signs, time_signs, signs_of}
use Rattle.score.specs.Played.{run_plays, beats}
use Rattle.score.specs.Steps.{run_steps}
use Rattle.score.specs.Sums.{total, each}
use Rattle.score.specs.Depth.{run_around, time_around, around}
use Rattle.score.specs.Sizes.{run_loops, run_implied, run_labels}
use Rattle.score.proofs.Machine.{Later, in_b_ds, in_b_fine, in_b_coda, in_c_fine, in_c_coda, in_c_dc, in_d, in_a, later, Wait, coda_dc, coda_ds, over, bot, State, at, wait}
use Rattle.score.proofs.Machine.{Part as PartRead}
use Rattle.grammar.specs.declared.tally.Tally.{Tally}
use Rattle.grammar.specs.declared.stretch.Stretch.{Stretch}
use Rattle.grammar.specs.declared.part.Part.{Part}
use Rattle.grammar.specs.declared.part.Part.TheVariants.{A, BehindSegno, BehindFine, BehindToCoda, SegnoFine, SegnoToCoda, DcAwaitsCoda, DsAwaitsCoda, DcBehindCoda, DsBehindCoda, Over}
use Rattle.grammar.specs.declared.whole.Sofar.{Sofar}
use Rattle.grammar.specs.declared.whole.Whole.{Whole}
use Rattle.grammar.specs.Tallies.{capped, tally, nothing, joined}
use Rattle.grammar.specs.Stretches.{run_tally, deep_of}

-- the part that a sign leads to from a part
abbrev pub leads : Sign → Part → Option Part
leads (Jump Dc) A = Some (Over DaCapo)
leads Segno A = Some BehindSegno
leads Fine A = Some BehindFine
leads ToCoda A = Some BehindToCoda
leads (Jump Ds) BehindSegno = Some (Over DalSegno)
leads Fine BehindSegno = Some SegnoFine
leads ToCoda BehindSegno = Some SegnoToCoda
leads (Jump DcFine) BehindFine = Some (Over DaCapoFine)
leads (Jump DcCoda) BehindToCoda = Some DcAwaitsCoda
leads (Jump DsFine) SegnoFine = Some (Over DalSegnoFine)
leads (Jump DsCoda) SegnoToCoda = Some DsAwaitsCoda
leads Coda DcAwaitsCoda = Some DcBehindCoda
leads Coda DsAwaitsCoda = Some DsBehindCoda
leads _ _ = None

-- the shape of a score that ends in a part
abbrev pub finished : Part → Option Shape
finished A = Some Straight
finished DcBehindCoda = Some DaCapoCoda
finished DsBehindCoda = Some DalSegnoCoda
finished (Over h) = Some h
finished _ = None

-- a run stands there
abbrev pub has_run : Part → Bool
has_run DcAwaitsCoda = false
has_run DsAwaitsCoda = false
has_run (Over h) = false
has_run _ = true

abbrev pub sofar : ℕ → Part → Option ℕ → Tally → Tally → Sofar
sofar place part deep once again = record { at = place; part = part; deep = deep; once = once; again = again }

-- the run that is replayed: the first, unless a Segno leads to the second
abbrev pub again_of : Part → Tally → Tally → Tally
again_of A t kept = t
again_of BehindSegno t kept = t
again_of _ t kept = kept

abbrev pub moved_as : Part → Sofar → Stretch → Sofar
moved_as part s r = sofar (r.at + 1) part (option_or s.deep r.deep) (joined s.once r.tally) (again_of s.part r.tally s.again)

abbrev pub whole : ℕ → Shape → Option ℕ → Tally → Tally → Whole
whole place shape deep once again = record { at = place; shape = shape; deep = deep; once = once; again = again }

abbrev pub ended_as : Shape → Sofar → Stretch → Whole
ended_as shape s r = whole r.at shape (option_or s.deep r.deep) (joined s.once r.tally) s.again

-- what is kept of signs, with what is open around them, of all runs, and of the run that is replayed
abbrev pub kept : Part → List Sign → List ℕ → Tally → Run → Sofar
kept part s ds once r = sofar (length s) part (deep_of 0 s ds) once (run_tally r)

-- the sums over four runs
abbrev pub four : (Run → ℕ) → Run → Run → Run → Run → ℕ
four f a b c d = f a + (f b + (f c + f d))

unfoldable pub once_of : Run → Run → Run → Run → Tally
once_of a b c d =
    tally (capped (four run_loops a b c d)) (capped (four run_implied a b c d)) (capped (four run_labels a b c d)) (capped (four (λ r. total each (run_plays r)) a b c d))
    (capped (four (λ r. total beats (run_plays r)) a b c d))
    (capped (four run_steps a b c d))

-- signs, a run and the sign after it
abbrev pub signs_to : List Sign → Run → Sign → List Sign
signs_to s r x = s ++ (run_signs r ++ (x ∷ []))

abbrev pub around_to : List ℕ → Run → List ℕ
around_to ds r = ds ++ (run_around 0 r ++ (0 ∷ []))

-- the run that a shape replays
abbrev pub replayed : Shape → Run → Run → Run
replayed Straight a b = nil
replayed DaCapo a b = a
replayed DalSegno a b = b
replayed DaCapoFine a b = a
replayed DalSegnoFine a b = b
replayed DaCapoCoda a b = a
replayed DalSegnoCoda a b = b

-- a whole score, and the reader behind the jump that ends one
abbrev pub whole_of : Score → Whole
whole_of (score t h a b c d) =
    whole (length (signs_of (score t h a b c d))) h (deep_of 0 (signs_of (score t h a b c d)) (around (score t h a b c d))) (once_of a b c d) (run_tally (replayed h a b))

abbrev pub over_sofar : Score → Sofar
over_sofar (score t h a b c d) = kept (Over h) (signs_of (score t h a b c d)) (around (score t h a b c d)) (once_of a b c d) (replayed h a b)

abbrev pub later_sofar : Later → Sofar
later_sofar (in_b_ds t a) = kept BehindSegno (signs_to (time_signs t) a Segno) (around_to (time_around t) a) (once_of a nil nil nil) a
later_sofar (in_b_fine t a) = kept BehindFine (signs_to (time_signs t) a Fine) (around_to (time_around t) a) (once_of a nil nil nil) a
later_sofar (in_b_coda t a) = kept BehindToCoda (signs_to (time_signs t) a ToCoda) (around_to (time_around t) a) (once_of a nil nil nil) a
later_sofar (in_c_fine t a b) =
    kept SegnoFine (signs_to (signs_to (time_signs t) a Segno) b Fine) (around_to (around_to (time_around t) a) b) (once_of a b nil nil) b
later_sofar (in_c_coda t a b) =
    kept SegnoToCoda (signs_to (signs_to (time_signs t) a Segno) b ToCoda) (around_to (around_to (time_around t) a) b) (once_of a b nil nil) b
later_sofar (in_c_dc t a b) =
    kept DcBehindCoda (signs_to (signs_to (signs_to (time_signs t) a ToCoda) b (Jump DcCoda)) nil Coda) (around_to (around_to (around_to (time_around t) a) b) nil) (once_of a b nil nil) a
later_sofar (in_d t a b c) =
    kept DsBehindCoda (signs_to (signs_to (signs_to (signs_to (time_signs t) a Segno) b ToCoda) c (Jump DsCoda)) nil Coda) (around_to (around_to (around_to (around_to (time_around t) a) b) c) nil)
    (once_of a b c nil)
    b

abbrev pub wait_sofar : Wait → Sofar
wait_sofar (coda_dc t a b) = kept DcAwaitsCoda (signs_to (signs_to (time_signs t) a ToCoda) b (Jump DcCoda)) (around_to (around_to (time_around t) a) b) (once_of a b nil nil) a
wait_sofar (coda_ds t a b c) =
    kept DsAwaitsCoda (signs_to (signs_to (signs_to (time_signs t) a Segno) b ToCoda) c (Jump DsCoda)) (around_to (around_to (around_to (time_around t) a) b) c) (once_of a b c nil) b
wait_sofar (over t) = over_sofar t

abbrev pub part_sofar : PartRead → Sofar
part_sofar (in_a t) = kept A (time_signs t) (time_around t) (once_of nil nil nil nil) nil
part_sofar (later p) = later_sofar p

-- what is kept where the definition's reader stands between runs
abbrev pub state_sofar : State → Sofar
state_sofar (at (bot p) r) = part_sofar p
state_sofar (wait v) = wait_sofar v
state_sofar _ = kept A [] [] nothing nil

-- the definition's reader stands between runs
abbrev pub Between : State → Type 0
Between (at (bot p) r) = Unit {0}
Between (wait v) = Unit {0}
Between _ = ⊥
