-- A listing has an instruction for each block that is written, and two for each loop and for each label; at most two for each sign of its score.
-- Assumes nothing.
use mathlib.Core.Path.{◌≡◌, refl, sym, ap, ◌∙◌}
use Prim.Native.Nat.{ℕ, suc, ◌+◌, ◌*◌, ◌≤◌}
use native.Mathlib.Omega.{arith}
use lib.ListN.{length, length-append, length-map}
use Rattle.score.specs.Trees.{block, Run, nil, ◌▸◌, Item, leaf, repeat, group, Ends, no_more, ◌then◌}
use Rattle.score.specs.declared.Shape.{Shape}
use Rattle.score.specs.declared.Shape.TheVariants.{Straight, DaCapo, DalSegno, DaCapoFine, DalSegnoFine, DaCapoCoda, DalSegnoCoda}
use Rattle.score.specs.Times.{Time}
use Rattle.score.specs.Shapes.{Score, score}
use Rattle.score.specs.Spelling.{run_signs, item_signs, ends_signs, signs_of}
use Rattle.score.specs.Steps.{count}
use Rattle.score.specs.Calls.{run_calls, item_calls, ends_calls, calls}
use Rattle.score.specs.Sums.{leaves}
use Rattle.score.proofs.Written.{block_signs}
use Rattle.translation.specs.Stretches.{Stretch, empty, ◌⨾◌, looped, ending}
use Rattle.translation.specs.Runs.{run_code, item_code, ends_code}
use Rattle.translation.specs.Listing.{whole_of, code}
use Rattle.translation.proofs.Leaving.{leaving}
use Rattle.translation.proofs.Shapes.{shaped, jump_of, same_code, same_marks}

-- a stretch with n blocks, that k signs give
pub record Sized (s : Stretch) (n k : ℕ) : Type 0 where
  pub exact : (L l b : ℕ) → length (s.from L l b) ≡ n + 2 * (s.loops + s.labels)
  pub few : n + 2 * (s.loops + s.labels) ≤ 2 * k

resized : {s : Stretch} {m n j k : ℕ} → m ≡ n → j ≤ k → Sized s m j → Sized s n k
resized e h g = record { exact = λ L l b. let i = g.exact L l b in omega arith; few = let i = g.few in omega arith }

sized_empty : Sized empty 0 0
sized_empty = record { exact = λ L l b. omega arith; few = omega arith }

sized_seq : {s t : Stretch} {m n j k : ℕ} → Sized s m j → Sized t n k → Sized (s ⨾ t) (m + n) (j + k)
sized_seq {s} {t} g h = record {
  exact = λ L l b.
      let i = g.exact L l b in
      let j = h.exact L (l + s.loops) (b + s.labels) in
      simp length-append (omega arith);
  few = let i = g.few in let j = h.few in omega arith;
}

sized_looped : (T : ℕ) {s : Stretch} {n k : ℕ} → Sized s n k → Sized (looped T s) n (k + 1)
sized_looped T g = record {
  exact = λ L l b. let i = g.exact l (suc l) b in simp length-append (omega arith);
  few = let i = g.few in omega arith;
}

sized_ending : (i : ℕ) {s : Stretch} {n k : ℕ} → Sized s n k → Sized (ending i s) n (k + 1)
sized_ending i g = record {
  exact = λ L l b. let i = g.exact L l b in simp length-append (omega arith);
  few = let i = g.few in omega arith;
}

sized_leaving : {s t : Stretch} {m n j k : ℕ} → Sized s m j → Sized t n k → Sized (leaving s t) (m + n) (j + k + 2)
sized_leaving {s} {t} g h = record {
  exact = λ L l b.
      let i = g.exact l (suc l) b in
      let j = h.exact l (suc l + s.loops) (b + s.labels) in
      simp length-append (omega arith);
  few = let i = g.few in let j = h.few in omega arith;
}

mutual
  run_sized : (r : Run) (f : ℕ) → Sized (run_code r) (length (run_calls r f)) (length (run_signs r))
  run_sized nil f = sized_empty
  run_sized (r ▸ i) f = resized (sym (length-append (run_calls r f) (item_calls i f))) (simp length-append (omega arith)) (sized_seq (run_sized r f) (item_sized i f))

  item_sized : (i : Item) (f : ℕ) → Sized (item_code i) (length (item_calls i f)) (length (item_signs i))
  item_sized (leaf (block k l)) f = record { exact = λ L l b. omega arith; few = omega arith }
  item_sized (repeat o r) f = resized refl (simp length-append (omega arith)) (sized_looped 2 (run_sized r (2 * f)))
  item_sized (group o m es e) f =
      resized (simp length-append) (simp length-append (omega arith))
      (sized_looped (suc (count es)) (sized_seq (run_sized m (suc (count es) * f)) (sized_seq (ends_sized es f) (sized_ending (suc (count es)) (run_sized e f)))))

  ends_sized : (es : Ends) (f : ℕ) → Sized (ends_code es) (length (ends_calls es f)) (length (ends_signs es))
  ends_sized no_more f = sized_empty
  ends_sized (es then e) f =
      resized (sym (length-append (ends_calls es f) (run_calls e f))) (simp length-append (omega arith)) (sized_seq (ends_sized es f) (sized_ending (suc (count es)) (run_sized e f)))

abbrev pub ShapeSized : Shape → Type 0
ShapeSized h = (t : Time) (a b c d : Run) → Sized (shaped h a b c d) (length (calls (score t h a b c d))) (length (signs_of (score t h a b c d)))

pub shape_sized : (h : Shape) → ShapeSized h
shape_sized Straight t a b c d = resized (simp length-append (omega arith)) (simp length-append (omega arith)) (run_sized a 1)
shape_sized DaCapo t a b c d = resized (simp length-append (omega arith)) (simp length-append (omega arith)) (sized_looped 2 (run_sized a 2))
shape_sized DalSegno t a b c d = resized (simp length-append (omega arith)) (simp length-append (omega arith)) (sized_seq (run_sized a 1) (sized_looped 2 (run_sized b 2)))
shape_sized DaCapoFine t a b c d = resized (simp length-append (omega arith)) (simp length-append (omega arith)) (sized_leaving (run_sized a 2) (run_sized b 1))
shape_sized DalSegnoFine t a b c d = resized (simp length-append (omega arith)) (simp length-append (omega arith)) (sized_seq (run_sized a 1) (sized_leaving (run_sized b 2) (run_sized c 1)))
shape_sized DaCapoCoda t a b c d = resized (simp length-append (omega arith)) (simp length-append (omega arith)) (sized_seq (sized_leaving (run_sized a 2) (run_sized b 1)) (run_sized c 1))
shape_sized DalSegnoCoda t a b c d =
    resized (simp length-append (omega arith)) (simp length-append (omega arith)) (sized_seq (run_sized a 1) (sized_seq (sized_leaving (run_sized b 2) (run_sized c 1)) (run_sized d 1)))

-- A listing's size: an instruction for each block sign, two for each loop and for each label.
pub size : (t : Score) → length (code t) ≡ length (leaves (signs_of t)) + 2 * ((whole_of t).loops + (whole_of t).labels)
size (score t h a b c d) =
    let s : Score = score t h a b c d in
    let blocks : length (leaves (signs_of s)) ≡ length (calls s) = ap length (block_signs s) ∙ length-map (calls s) (λ c. c.what) in
    let marks = same_marks t h a b c d in
    let whole : length (code s) ≡ length ((shaped h a b c d).from (jump_of s) 0 0) = ap length (same_code t h a b c d) in
    let exact = (shape_sized h t a b c d).exact (jump_of s) 0 0 in
    omega arith

-- It is at most two for each sign.
pub short : (t : Score) → length (code t) ≤ 2 * length (signs_of t)
short (score t h a b c d) =
    let s : Score = score t h a b c d in
    let whole : length (code s) ≡ length ((shaped h a b c d).from (jump_of s) 0 0) = ap length (same_code t h a b c d) in
    let exact = (shape_sized h t a b c d).exact (jump_of s) 0 0 in
    let few = (shape_sized h t a b c d).few in
    omega arith
