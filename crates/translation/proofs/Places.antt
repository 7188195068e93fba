-- The places of a listing: what stands at one, as instructions and as words.
-- Assumes nothing.
use mathlib.Core.Path.{◌≡◌, refl, sym, ap, ◌∙◌}
use mathlib.Core.Bool.{Bool, true, false, cond}
use mathlib.Core.List.{List, [], ◌∷◌, ◌++◌, append_assoc, map, head-eq_of_cons-eq, tail-eq_of_cons-eq}
use Prim.Native.Nat.{ℕ, zero, suc, ◌+◌, ◌≤◌, ◌<◌}
use native.Mathlib.Omega.{arith}
use lib.ListN.{length, get_or, length-append}
use Rattle.instructions.specs.declared.Instruction.{Instruction}
use Rattle.std.specs.Prelude.{Some}
use Rattle.instructions.specs.Words.{packed, unpacked}
use Rattle.instructions.specs.Rules.{At}
use Rattle.instructions.proofs.Inverse.{inverse}
use Rattle.translation.proofs.Marks.{often, often-append}

-- instruction i of prog is x
pub record Stood (prog : List Instruction) (i : ℕ) (x : Instruction) : Type 0 where
  pub before : List Instruction
  pub behind : List Instruction
  pub same : prog ≡ before ++ (x ∷ behind)
  pub place : length before ≡ i

next : {prog : List Instruction} {i : ℕ} {x : Instruction} (j : Instruction) → Stood prog i x → Stood (j ∷ prog) (suc i) x
next j s = record { before = j ∷ s.before; behind = s.behind; same = ap (λ (p : List Instruction). j ∷ p) s.same; place = ap suc s.place }

-- what a word of a listing is stands there
pub stood : (prog : List Instruction) (i : ℕ) (x : Instruction) → At (map packed prog) i x → Stood prog i x
stood [] i x a = absurd (((inverse 0 x).0 a).1 refl)
stood (j ∷ prog) zero x a =
    let p = (inverse (packed j) x).0 a in
    let q : unpacked (packed j) ≡ Some j = (inverse (packed j) j).1 (refl, p.1) in
    let e : j ≡ x = cc in
    record { before = []; behind = prog; same = ap (λ (y : Instruction). y ∷ prog) e; place = refl }
stood (j ∷ prog) (suc i) x a = next j (stood prog i x a)

-- something stands at each place
pub stands_there : (prog : List Instruction) (i : ℕ) → i < length prog → (x : Instruction) × Stood prog i x
stands_there [] i h = absurd (omega arith)
stands_there (j ∷ prog) zero h = (j, record { before = []; behind = prog; same = refl; place = refl })
stands_there (j ∷ prog) (suc i) h = let r = stands_there prog i (omega arith) in (r.0, next j r.1)

-- and what stands there is what the word there is
word_at : (u : List Instruction) (x : Instruction) (v : List Instruction) → get_or (map packed (u ++ (x ∷ v))) (length u) 0 ≡ packed x
word_at [] x v = refl
word_at (j ∷ u) x v = word_at u x v

pub is_at : {prog : List Instruction} {i : ℕ} {x : Instruction} → Stood prog i x → (packed x ≡ 0 → ⊥) → At (map packed prog) i x
is_at {prog} {i} {x} s n = rw (s.same, ← s.place, word_at s.before x s.behind) ((inverse (packed x) x).1 (refl, n))

-- ---- what passes a test
module _ (f : Instruction → Bool) where
  pub record Passing (prog : List Instruction) : Type 0 where
    pub place : ℕ
    pub what : Instruction
    pub there : Stood prog place what
    pub passes : f what ≡ true

  pub passing : (prog : List Instruction) → 1 ≤ often f prog → Passing prog
  passing [] h = absurd (omega arith)
  passing (j ∷ prog) h = go (f j) refl h (λ k. passing prog k)
    where
      go : (t : Bool) → f j ≡ t → 1 ≤ cond t 1 0 + often f prog → (1 ≤ often f prog → Passing prog) → Passing (j ∷ prog)
      go true e k more = record { place = 0; what = j; there = record { before = []; behind = prog; same = refl; place = refl }; passes = e }
      go false e k more = let r : Passing prog = more (omega arith) in record { place = suc r.place; what = r.what; there = next j r.there; passes = r.passes }

  -- an earlier place is in front of a later one
  in_front : (u : List Instruction) (x : Instruction) (v u' : List Instruction) (y : Instruction) (v' : List Instruction)
      → u ++ (x ∷ v) ≡ u' ++ (y ∷ v')
      → length u' < length u
      → f y ≡ true
      → 1 ≤ often f u
  in_front [] x v u' y v' e h p = absurd (omega arith)
  in_front (j ∷ u) x v [] y v' e h p = rw (ap f (head-eq_of_cons-eq e) ∙ p) (omega arith)
  in_front (j ∷ u) x v (k ∷ u') y v' e h p = let r = in_front u x v u' y v' (tail-eq_of_cons-eq e) (omega arith) p in omega arith

  pub once_there : {prog : List Instruction} {i : ℕ} {x : Instruction} → Stood prog i x → f x ≡ true → 1 ≤ often f prog
  once_there {prog} {i} {x} s p =
      let e = often-append f s.before (x ∷ s.behind) in
      let g : often f (x ∷ s.behind) ≡ 1 + often f s.behind = rw p in
      rw s.same (omega arith)

  pub twice : {prog : List Instruction} {i j : ℕ} {x y : Instruction} → Stood prog i x → Stood prog j y → j < i → f x ≡ true → f y ≡ true → 2 ≤ often f prog
  twice {prog} {i} {j} {x} {y} s r h p q =
      let before : 1 ≤ often f s.before = in_front s.before x s.behind r.before y r.behind (sym s.same ∙ r.same) (omega (arith, s.place, r.place)) q in
      let e = often-append f s.before (x ∷ s.behind) in
      let g : often f (x ∷ s.behind) ≡ 1 + often f s.behind = rw p in
      rw s.same (omega arith)

-- what stands in what stands before a place stands earlier
pub earlier : {prog : List Instruction} {i j : ℕ} {x y : Instruction} (s : Stood prog i x) → Stood s.before j y → Stood prog j y × (j < i)
earlier {prog} {i} {j} {x} {y} s r = (
  record {
    before = r.before;
    behind = r.behind ++ (x ∷ s.behind);
    same = s.same ∙ ap (λ (u : List Instruction). u ++ (x ∷ s.behind)) r.same ∙ append_assoc r.before (y ∷ r.behind) (x ∷ s.behind);
    place = r.place;
  },
  omega (arith, s.place, r.place, ap length r.same, length-append r.before (y ∷ r.behind)),
)
