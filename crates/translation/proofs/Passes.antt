-- The passes of a group taken together: each of its endings once, M before each.
-- Assumes nothing.
use mathlib.Core.Path.{◌≡◌, refl, sym, ap₂, ◌∙◌}
use mathlib.Core.Bool.{true, false, cond}
use mathlib.Core.List.{List, [], ◌++◌, append-nil, map, map-append}
use Prim.Native.Nat.{ℕ, zero, suc, ◌+◌, ◌*◌, ◌≤◌, ◌<◌}
use native.Mathlib.Omega.{arith}
use lib.Dec.{eqb}
use borrow.Author.Tests.{eq-eqb, ne_eqb}
use Rattle.played.specs.Played.{Block}
use Rattle.score.specs.Trees.{Leaf, Ends, no_more, ◌then◌}
use Rattle.score.specs.Played.{block_of, run_plays, ends_play}
use Rattle.score.specs.Steps.{count, run_steps, ends_steps}
use Rattle.translation.proofs.Looped.{sum_to, join_to}

abbrev pub blocks : List Leaf → List Block
blocks = map block_of

pub blocks-append : (u v : List Leaf) → blocks (u ++ v) ≡ blocks u ++ blocks v
blocks-append = map-append block_of

-- the steps and the blocks of the one ending that pass i plays
abbrev pub steps_at : Ends → ℕ → ℕ
steps_at no_more i = 0
steps_at (es then e) i = steps_at es i + cond (eqb (suc i) (suc (count es))) (run_steps e) 0

abbrev pub plays_at : Ends → ℕ → List Block
plays_at no_more i = []
plays_at (es then e) i = plays_at es i ++ cond (eqb (suc i) (suc (count es))) (blocks (run_plays e)) []

pub sum_ext : (f g : ℕ → ℕ) (n : ℕ) → ((i : ℕ) → i < n → f i ≡ g i) → sum_to f n ≡ sum_to g n
sum_ext f g zero h = refl
sum_ext f g (suc n) h = let a = sum_ext f g n (λ i l. h i (omega arith)) in let b = h n (omega arith) in omega arith

pub join_ext : (f g : ℕ → List Block) (n : ℕ) → ((i : ℕ) → i < n → f i ≡ g i) → join_to f n ≡ join_to g n
join_ext f g zero h = refl
join_ext f g (suc n) h = ap₂ (λ (u v : List Block). u ++ v) (join_ext f g n (λ i l. h i (omega arith))) (h n (omega arith))

other : (i c : ℕ) → (i ≡ c → ⊥) → eqb (suc i) (suc c) ≡ false
other i c h = ne_eqb (suc i) (suc c) (λ e. h (omega arith))

same : (c : ℕ) → eqb (suc c) (suc c) ≡ true
same c = eq-eqb (suc c) (suc c) refl

no_steps : (es : Ends) (i : ℕ) → count es ≤ i → steps_at es i ≡ 0
no_steps no_more i h = refl
no_steps (es then e) i h = let a = no_steps es i (omega arith) in rw (other i (count es) (λ x. omega arith)) (omega arith)

no_plays : (es : Ends) (i : ℕ) → count es ≤ i → plays_at es i ≡ []
no_plays no_more i h = refl
no_plays (es then e) i h = rw (no_plays es i (omega arith), other i (count es) (λ x. omega arith))

pub ends_sum : (es : Ends) (w : ℕ) → sum_to (λ i. w + steps_at es i) (count es) ≡ count es * w + ends_steps es
ends_sum no_more w = omega arith
ends_sum (es then e) w =
    let c : ℕ = count es in
    let f : (ℕ → ℕ) = λ i. w + steps_at (es then e) i in
    let a : sum_to f c ≡ c * w + ends_steps es = sum_ext f (λ i. w + steps_at es i) c (λ i h. rw (other i c (λ x. omega arith)) (omega arith)) ∙ ends_sum es w in
    let b : f c ≡ w + run_steps e = rw (no_steps es c (omega arith), same c) (omega arith) in
    omega arith

pub ends_join : (es : Ends) (m : List Leaf) → join_to (λ i. blocks m ++ plays_at es i) (count es) ≡ blocks (ends_play m es)
ends_join no_more m = refl
ends_join (es then e) m =
    let c : ℕ = count es in
    let f : (ℕ → List Block) = λ i. blocks m ++ plays_at (es then e) i in
    let a : join_to f c ≡ blocks (ends_play m es) = join_ext f (λ i. blocks m ++ plays_at es i) c (λ i h. rw (other i c (λ x. omega arith), append-nil (plays_at es i))) ∙ ends_join es m in
    let b : f c ≡ blocks (m ++ run_plays e) = rw (no_plays es c (omega arith), same c, blocks-append m (run_plays e)) in
    ap₂ (λ (u v : List Block). u ++ v) a b ∙ sym (blocks-append (ends_play m es) (m ++ run_plays e))
